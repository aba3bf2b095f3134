use Rattle.std.proofs.Common.{◌∙◌, ap, refl, arith, [], length}
use Rattle.aadl_lex.proofs.TokensAsWritten.{words_among}
use Rattle.aadl_grammar.specs.proof.StackMachine.{depth}
use Rattle.aadl_grammar.specs.proof.TerminalViews.{spots_of}
use Rattle.aadl_grammar.proofs.TerminalViews.{spots_past, some_left}
use Rattle.behaviour_parse.specs.proof.ParseResults.{IsFaultOfBehaviour}
use Rattle.aadl_grammar.specs.proof.ParserAnswers.{here}
use Rattle.behaviour_parse.proofs.ParseResults.{at_fault, left_fault, at_tree, residual}
use Rattle.behaviour_parse.proofs.parse_annex.Goals as goal

pub resolve-requires : goal.resolve-requires
resolve-requires c = words_among c.args.text.now c.args.tokens.now c.requires

pub returns-in_err-tree-clause-fault : goal.returns-in_err-tree-clause-fault
unfolding here depth
returns-in_err-tree-clause-fault c =
    residual (IsFaultOfBehaviour c.args.text.now c.args.tokens.now) c.in_err-tree.field-0.0 _
    c.from_residual-in_err-tree.ensures.1
    (at_fault c.args.text.now c.args.tokens.now c.end_of.result (spots_of c.args.text.now c.as_slice.result.now)
    c.in_err-tree.field-0.0 c.end_of.ensures
    (ap (spots_of c.args.text.now) c.as_slice.ensures.value ∙ c.in_ok-terminals.ensures.spots)
    (c.in_err-tree.ensures.runs 1 [] refl))

pub returns-then-next-len-clause-fault : goal.returns-then-next-len-clause-fault
unfolding here depth
returns-then-next-len-clause-fault c =
    left_fault c.args.text.now c.args.tokens.now c.end_of.result (spots_of c.args.text.now c.as_slice.result.now) _ _
    c.end_of.ensures (ap (spots_of c.args.text.now) c.as_slice.ensures.value ∙ c.in_ok-terminals.ensures.spots)
    (c.in_ok-tree.ensures.runs 1 [] refl)
    (some_left c.args.text.now c.as_slice.result.now c.in_ok-tree.next
    (omega (arith, c.if-next-len.true, c.len.ensures, ap length c.as_slice.ensures.value))) c.place.ensures

pub returns-clause-tree : goal.returns-clause-tree
unfolding here depth
returns-clause-tree c =
    at_tree c.args.text.now c.args.tokens.now c.end_of.result (spots_of c.args.text.now c.as_slice.result.now) _ _
    (ap (spots_of c.args.text.now) c.as_slice.ensures.value ∙ c.in_ok-terminals.ensures.spots)
    (c.in_ok-tree.ensures.runs 1 [] refl) c.in_ok-tree.ensures.reads
    (spots_past c.args.text.now c.as_slice.result.now c.in_ok-tree.next
    (omega (arith, c.if-next-len.false, c.len.ensures, ap length c.as_slice.ensures.value)))
