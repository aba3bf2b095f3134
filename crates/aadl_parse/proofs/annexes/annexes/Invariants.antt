use Rattle.std.proofs.Common.{◌≡◌, ℕ, ◌+◌, ◌∷◌, length, map}
use Rattle.std.specs.Prelude.{flat_map}
use Rattle.aadl_tree.specs.Annexes.{annex_parts}
use Rattle.aadl_tree.specs.proof.AnnexViews.{annex_view}
use Rattle.aadl_tree.specs.proof.PlaceMaps.{kept_place}
use Rattle.aadl_tree.specs.declared.nesting_limit.TheConstants.{GREATEST_NESTING}
use Rattle.aadl_grammar.specs.proof.GrammarSymbols as s
use Rattle.aadl_grammar.specs.proof.StackMachine.{Stack, depth, fate}
use Rattle.aadl_grammar.specs.proof.ParserAnswers.{here, Reads}
use Rattle.aadl_parse.proofs.annexes.annexes.Given as goal

abbrev pub invariant-loop-behind : goal.invariant-loop-behind
invariant-loop-behind l = record {
  runs : (outer : ℕ) (below : Stack) → outer + depth below + l.room ≡ GREATEST_NESTING
      → fate outer l.reader.end (s.annexes ∷ below) (here l.reader l.at)
      ≡ fate outer l.reader.end (s.annexes ∷ below) (here l.reader l.rest);
  reads : Reads (flat_map annex_parts (map (annex_view kept_place) l.found.items)) (here l.reader l.at)
      (here l.reader l.rest);
}

abbrev pub decreases-loop-behind : goal.decreases-loop-behind
decreases-loop-behind l = length (here l.reader l.rest)
