use Rattle.std.proofs.Common.{◌∙◌, ◌∷◌, ap, sym, refl, arith}
use Rattle.aadl_grammar.specs.proof.ParserAnswers.{here}
use Rattle.aadl_grammar.proofs.TopSymbolMoves.{takes_row, omits_unless}
use Rattle.aadl_grammar.proofs.ParserFaults.{along, exits, no_reads}
use Rattle.aadl_grammar.proofs.PartSequences.{nothing, marked, respelled}
use Rattle.aadl_tree.specs.SpellingParts.{plain}
use Rattle.aadl_tree.specs.Values.{quantity_parts}
use Rattle.aadl_tree.specs.proof.ValueViews.{quantity_view}
use Rattle.aadl_tree.specs.proof.PlaceMaps.{kept_place}
use Rattle.aadl_tree.specs.declared.mark.Mark.TheVariants as k
use Rattle.aadl_grammar.specs.proof.GrammarSymbols as s
use Rattle.aadl_grammar.specs.proof.StackMachine.{move, depth}
use Rattle.aadl_grammar.proofs.values.upper.Goals as goal

pub returns-in_default : goal.returns-in_default
unfolding move depth
returns-in_default c = record {
  runs =
      λ outer below h. omits_unless outer c.args.reader.now.end s.upper (below) (here c.args.reader.now c.args.at) refl
      (c.in_default.ensures, tt);
  reads = nothing;
}

pub returns-in_err-found : goal.returns-in_err-found
unfolding move depth
returns-in_err-found c = record {
  runs =
      λ outer below h. exits _ _ _ _ _ _ _ c.from_residual.ensures.1
      (along _ _ _ (takes_row outer c.args.reader.now.end s.upper (below) c.in-Some.ensures refl (omega arith))
      (c.in_err-found.ensures.runs outer (below) (omega arith)));
  reads = no_reads _ _ _ c.from_residual.ensures.1;
}

pub returns : goal.returns
unfolding move depth
returns c = record {
  runs = λ outer below h. takes_row outer c.args.reader.now.end s.upper (below) c.in-Some.ensures refl (omega arith)
      ∙ c.in_ok-found.ensures.runs outer (below) (omega arith);
  reads =
      respelled
      (ap (λ x. plain k.Range ∷ quantity_parts (quantity_view kept_place x)) (sym c.in_ok-boxed.ensures.ok))
      (marked c.in-Some.ensures c.in_ok-found.ensures.reads);
}
