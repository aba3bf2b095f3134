use Rattle.std.proofs.Common.{◌≡◌, ℕ, ◌+◌, ◌∙◌, ◌++◌, ◌∷◌, [], List, drop, take, subst, sym, ap, arith, append_assoc}
use Rattle.std.proofs.lemmas.List.{append-nil}
use Rattle.std.proofs.lemmas.Result.{err_from_is_err_and}
use Rattle.aadl_lex.specs.declared.token.TokenKind.TheVariants.{AnnexOpen, AnnexClose}
use Rattle.aadl_lex.specs.declared.token.Token.{Token}
use Rattle.aadl_lex.specs.declared.rules.First.TheVariants.{Skipped, Taken, Body, Refused}
use Rattle.aadl_lex.specs.declared.rules.Reading.{Reading}
use Rattle.aadl_lex.specs.declared.rules.Reading.TheVariants.{Inside}
use Rattle.aadl_lex.specs.Rules.{first, after}
use Rattle.aadl_lex.specs.TokensAndFirstFaults.{token, Lexes, Adds, ended, skips, takes, reads, Faults, refused}
use Rattle.aadl_lex.specs.TokensAndFirstFaults.{past_skipped}
use Rattle.aadl_lex.specs.TokensAndFirstFaults.{past_token, in_body, past_body}
use Rattle.aadl_lex.proofs.+read.Goals as goal

pub loop-at-preserved-in-Skipped : goal.loop-at-preserved-in-Skipped
loop-at-preserved-in-Skipped t c =
    let l = c.loop-at in
    let text = c.args.text.now in
    let n = c.in-Skipped.len in
    let stands : first l.reading l.at (drop l.at text) ≡ Skipped n =
    ap (first l.reading l.at) (sym c.split_at.ensures.back) ∙ sym c.in-Skipped.ensures.value in
    record {
      within = omega (arith, c.in-Skipped.ensures.within.1, c.split_at.ensures.back_len);
      tokens = λ ts more. l.invariant.tokens ts (skips l.reading text l.at n ts c.loop-at-test.true stands more);
      faults =
          λ fault more. l.invariant.faults fault
          (past_skipped l.reading text l.at n fault c.loop-at-test.true stands more);
    }

pub loop-at-preserved-in-Taken : goal.loop-at-preserved-in-Taken
loop-at-preserved-in-Taken t c =
    let l = c.loop-at in
    let text = c.args.text.now in
    let kind = c.in-Taken.kind in
    let n = c.in-Taken.len in
    let stands : first l.reading l.at (drop l.at text) ≡ Taken kind n =
    ap (first l.reading l.at) (sym c.split_at.ensures.back) ∙ sym c.in-Taken.ensures.value in
    let next : c.after-reading.result ≡ after l.reading kind (take n (drop l.at text)) = c.after-reading.ensures
    ∙ ap (λ (s : List ℕ). after l.reading kind (take n s)) c.split_at.ensures.back in
    let pushed : c.push.new.self.items ≡ l.found.items ++ token kind l.at n ∷ [] = c.in_ok-push-in-Taken.ensures.items
    ∙ ap (λ (x : Token). l.found.items ++ x ∷ []) c.new.ensures in
    record {
      within = omega (arith, c.in-Taken.ensures.within.1, c.split_at.ensures.back_len);
      tokens = λ ts more. rw (pushed, append_assoc) (l.invariant.tokens (token kind l.at n ∷ ts)
          (takes l.reading text l.at kind n ts c.loop-at-test.true stands
          (subst (λ (r : Reading). Lexes r text (l.at + n) ts) next more)));
      faults = λ fault more. l.invariant.faults fault
          (past_token l.reading text l.at kind n fault c.loop-at-test.true stands
          (subst (λ (r : Reading). Faults r text (l.at + n) fault) next more));
    }

pub returns-in_err-read-in-Body-clause-fault : goal.returns-in_err-read-in-Body-clause-fault
returns-in_err-read-in-Body-clause-fault t c =
    let l = c.loop-at in
    let text = c.args.text.now in
    let n = c.in-Body.len in
    let stands : first l.reading l.at (drop l.at text) ≡ Body n =
    ap (first l.reading l.at) (sym c.split_at.ensures.back) ∙ sym c.in-Body.ensures.value in
    let p =
    err_from_is_err_and c.from_residual-in_err-read-in-Body.result c.from_residual-in_err-read-in-Body.ensures.1 in
    rw (p.1, p.2) (λ no_want.
    l.invariant.faults _ (in_body l.reading text l.at n _ c.loop-at-test.true stands
    (c.in_err-read-in-Body.ensures.fault no_want)))

pub loop-at-preserved : goal.loop-at-preserved
loop-at-preserved t c =
    let l = c.loop-at in
    let text = c.args.text.now in
    let n = c.in-Body.len in
    let stands : first l.reading l.at (drop l.at text) ≡ Body n =
    ap (first l.reading l.at) (sym c.split_at.ensures.back) ∙ sym c.in-Body.ensures.value in
    let inner : Adds Inside (take (l.at + 3 + n) text) (l.at + 3) c.push-in-Body.new.self.items c.read.new.found.items =
    c.in_ok-read-in-Body.ensures.tokens in
    let body = inner.tokens in
    let opened : c.push-in-Body.new.self.items ≡ l.found.items ++ token AnnexOpen l.at 3 ∷ [] =
    c.in_ok-push-in-Body.ensures.items ∙ ap (λ (x : Token). l.found.items ++ x ∷ []) c.new-in-Body.ensures in
    let filled : c.read.new.found.items ≡ c.push-in-Body.new.self.items ++ body = inner.added in
    let closed : c.push-in-Body-2.new.self.items ≡ c.read.new.found.items ++ token AnnexClose (l.at + 3 + n) 3 ∷ [] =
    c.in_ok-push-in-Body-2.ensures.items
    ∙ ap (λ (x : Token). c.read.new.found.items ++ x ∷ []) c.new-in-Body-2.ensures in
    record {
      within = omega (arith, c.in-Body.ensures.within, c.split_at.ensures.back_len);
      tokens =
          λ ts more. rw (closed, filled, opened)
          (simp append_assoc (l.invariant.tokens
          (token AnnexOpen l.at 3 ∷ body ++ token AnnexClose (l.at + 3 + n) 3 ∷ ts)
          (reads l.reading text l.at n body ts c.loop-at-test.true stands inner.lexed more)));
      faults =
          λ fault more. l.invariant.faults fault
          (past_body l.reading text l.at n body fault c.loop-at-test.true stands inner.lexed more);
    }

pub returns-in-Refused-clause-fault : goal.returns-in-Refused-clause-fault
returns-in-Refused-clause-fault t c no_want =
    let l = c.loop-at in
    let text = c.args.text.now in
    let fault = c.in-Refused.fault in
    let stands : first l.reading l.at (drop l.at text) ≡ Refused fault =
    ap (first l.reading l.at) (sym c.split_at.ensures.back) ∙ sym c.in-Refused.ensures.value in
    l.invariant.faults fault (refused l.reading text l.at fault c.loop-at-test.true stands)

pub returns-clause-tokens : goal.returns-clause-tokens
returns-clause-tokens t c =
    let l = c.loop-at in
    subst (λ (ts : List Token). Adds c.args.reading c.args.text.now c.args.at c.args.found.now.items ts)
    (append-nil l.found.items)
    (l.invariant.tokens [] (ended l.reading c.args.text.now l.at c.loop-at-test.false))
