use Rattle.std.proofs.Common.{ap, sym, refl, arith}
use Rattle.aadl_grammar.specs.proof.ParserAnswers.{here}
use Rattle.aadl_grammar.proofs.TopSymbolMoves.{takes_row, omits_unless, a_word_at}
use Rattle.aadl_grammar.proofs.PartSequences.{nothing, named, respelled}
use Rattle.aadl_tree.specs.Names.{identifier_parts}
use Rattle.aadl_tree.specs.proof.NameViews.{identifier_view}
use Rattle.aadl_tree.specs.proof.PlaceMaps.{kept_place}
use Rattle.aadl_grammar.specs.proof.GrammarSymbols as s
use Rattle.aadl_grammar.specs.proof.StackMachine.{move, depth}
use Rattle.aadl_grammar.proofs.values.unit.Goals as goal

pub returns-in_ok-boxed-in-Some : goal.returns-in_ok-boxed-in-Some
unfolding move depth
returns-in_ok-boxed-in-Some c = record {
  runs =
      λ outer below h. takes_row outer c.args.reader.now.end s.unit (below)
      (a_word_at (rw c.in-Some.is at c.in_ok-found.ensures.ok)) refl (omega arith);
  reads =
      respelled (ap (λ x. identifier_parts (identifier_view kept_place x)) (sym c.in_ok-boxed-in-Some.ensures.ok))
      (named (rw c.in-Some.is at c.in_ok-found.ensures.ok));
}

pub returns-in-None : goal.returns-in-None
unfolding move depth
returns-in-None c = record {
  runs =
      λ outer below h. omits_unless outer c.args.reader.now.end s.unit (below) (here c.args.reader.now c.args.at) refl
      (rw c.in-None.is at c.in_ok-found.ensures.ok, tt);
  reads = nothing;
}
