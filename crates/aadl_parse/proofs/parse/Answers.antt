use Rattle.std.proofs.Common.{◌∙◌, List, subst, sym, ap, refl, arith, [], length}
use Rattle.std.specs.List.{All}
use Rattle.aadl_lex.specs.declared.token.Token.{Token}
use Rattle.aadl_lex.specs.proof.TokenSpellings.{IsWordAt}
use Rattle.aadl_lex.proofs.TokensAsWritten.{words_of}
use Rattle.aadl_tree.specs.Terminals.{placed_terminals}
use Rattle.aadl_grammar.specs.proof.StackMachine.{depth}
use Rattle.aadl_grammar.specs.proof.ParserAnswers.{here}
use Rattle.aadl_grammar.specs.proof.TerminalViews.{spots_of}
use Rattle.aadl_grammar.proofs.TerminalViews.{spots_past, some_left}
use Rattle.aadl_parse.specs.ParseResults.{IsFaultOfText, of_parse}
use Rattle.aadl_parse.specs.proof.DeclarationRestsAndPackageParts.{package_of}
use Rattle.aadl_parse.proofs.ParseResults.{at_fault, left_fault, at_tree, only_one, residual}
use Rattle.aadl_parse.proofs.parse.Goals as goal

pub resolve-requires : goal.resolve-requires
resolve-requires c =
    subst (λ (l : List Token). All (IsWordAt c.args.text.now) l) (sym c.as_slice.ensures.value)
    (words_of c.args.text.now c.in-Ok.tokens.items c.in-Ok.ensures.tokens)

pub returns-in_err-parts-clause-fault : goal.returns-in_err-parts-clause-fault
unfolding here depth
returns-in_err-parts-clause-fault c =
    residual (IsFaultOfText c.args.text.now) (of_parse c.in_err-parts.field-0.0) _
    c.from_residual-in_err-parts.ensures.1
    (at_fault c.args.text.now c.in-Ok.tokens.items c.in-Ok.ensures.tokens (length c.args.text.now)
    (spots_of c.args.text.now c.as_slice-2.result.now) c.in_err-parts.field-0.0 refl
    (ap (spots_of c.args.text.now) c.as_slice-2.ensures.value ∙ c.in_ok-terminals.ensures.spots
    ∙ ap (placed_terminals c.args.text.now) c.as_slice.ensures.value) (c.in_err-parts.ensures.runs 0 [] refl))

pub returns-then-next-len-clause-fault : goal.returns-then-next-len-clause-fault
unfolding here depth
returns-then-next-len-clause-fault c =
    left_fault c.args.text.now c.in-Ok.tokens.items c.in-Ok.ensures.tokens (length c.args.text.now)
    (spots_of c.args.text.now c.as_slice-2.result.now) _ c.place.result refl
    (ap (spots_of c.args.text.now) c.as_slice-2.ensures.value ∙ c.in_ok-terminals.ensures.spots
    ∙ ap (placed_terminals c.args.text.now) c.as_slice.ensures.value) (c.in_ok-parts.ensures.runs 0 [] refl)
    (some_left c.args.text.now c.as_slice-2.result.now c.in_ok-parts.next
    (omega (arith, c.if-next-len.true, c.len.ensures, ap length c.as_slice-2.ensures.value)))
    c.place.ensures

pub invariant_of-result : goal.invariant_of-result
unfolding here depth
invariant_of-result c =
    record {
      given = ∣ (
        c.args.text.now,
        at_tree c.args.text.now c.in-Ok.tokens.items c.in-Ok.ensures.tokens (length c.args.text.now)
            (spots_of c.args.text.now c.as_slice-2.result.now) (package_of c.in_ok-parts.parts) _
            (ap (spots_of c.args.text.now) c.as_slice-2.ensures.value ∙ c.in_ok-terminals.ensures.spots
            ∙ ap (placed_terminals c.args.text.now) c.as_slice.ensures.value) (c.in_ok-parts.ensures.runs 0 [] refl)
            c.in_ok-parts.ensures.reads
            (spots_past c.args.text.now c.as_slice-2.result.now c.in_ok-parts.next
            (omega (arith, c.if-next-len.false, c.len.ensures, ap length c.as_slice-2.ensures.value))),
      ) ∣₁;
    }

pub returns-clause-tree : goal.returns-clause-tree
unfolding here depth
returns-clause-tree c =
    only_one c.args.text.now _
    (at_tree c.args.text.now c.in-Ok.tokens.items c.in-Ok.ensures.tokens (length c.args.text.now)
    (spots_of c.args.text.now c.as_slice-2.result.now) (package_of c.in_ok-parts.parts) _
    (ap (spots_of c.args.text.now) c.as_slice-2.ensures.value ∙ c.in_ok-terminals.ensures.spots
    ∙ ap (placed_terminals c.args.text.now) c.as_slice.ensures.value) (c.in_ok-parts.ensures.runs 0 [] refl)
    c.in_ok-parts.ensures.reads
    (spots_past c.args.text.now c.as_slice-2.result.now c.in_ok-parts.next
    (omega (arith, c.if-next-len.false, c.len.ensures, ap length c.as_slice-2.ensures.value))))
