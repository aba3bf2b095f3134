use Rattle.std.proofs.Common.{ℕ, ◌∙◌, ◌++◌, List, ap, sym, subst}
use Rattle.std.proofs.lemmas.Result.{err_from_is_err_and}
use Rattle.aadl_lex.specs.declared.rules.Reading.TheVariants.{Outside}
use Rattle.aadl_lex.specs.declared.token.Token.{Token}
use Rattle.aadl_lex.specs.declared.fault.LexFault.TheVariants.{NotUtf8}
use Rattle.aadl_lex.specs.TokensAndFirstFaults.{Lexes, Adds, IsFaultOf, not_utf8, not_lexed}
use Rattle.aadl_lex.proofs.lex.Goals as goal

pub returns-in-Err-clause-fault : goal.returns-in-Err-clause-fault
returns-in-Err-clause-fault c _ =
    subst (λ (at : ℕ). IsFaultOf c.args.text.now (NotUtf8 at))
    (sym (c.valid_up_to.ensures ∙ c.in-Err.ensures.valid_len)) (not_utf8 c.args.text.now c.in-Err.ensures.cases.0)

pub returns-in_err-read-clause-fault : goal.returns-in_err-read-clause-fault
returns-in_err-read-clause-fault c =
    let p = err_from_is_err_and c.from_residual.result c.from_residual.ensures.1 in
    rw (p.1, p.2) (λ no_want.
    not_lexed c.args.text.now _ c.in_default.ensures.cases.1 (c.in_err-read.ensures.fault no_want))

pub returns-clause-tokens : goal.returns-clause-tokens
returns-clause-tokens c =
    let all : Adds Outside c.args.text.now 0 c.new-tokens.result.items c.read.new.found.items =
    c.in_ok-read.ensures.tokens in
    record {
      utf8 = c.in_default.ensures.cases.1;
      lexed =
          subst (λ (ts : List Token). Lexes Outside c.args.text.now 0 ts)
          (sym (all.added ∙ ap (λ (ts : List Token). ts ++ all.tokens) c.new-tokens.ensures.items)) all.lexed;
    }
