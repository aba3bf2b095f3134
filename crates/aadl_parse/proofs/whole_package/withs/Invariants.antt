use Rattle.std.proofs.Common.{◌≡◌, ℕ, ◌+◌, ◌≤◌, ◌∷◌, length, map}
use Rattle.std.specs.Prelude.{flat_map}
use Rattle.aadl_tree.specs.Declarations.{with_parts}
use Rattle.aadl_tree.specs.proof.DeclarationViews.{with_view}
use Rattle.aadl_tree.specs.proof.PlaceMaps.{kept_place}
use Rattle.aadl_tree.specs.declared.nesting_limit.TheConstants.{GREATEST_NESTING}
use Rattle.aadl_grammar.specs.proof.GrammarSymbols as s
use Rattle.aadl_grammar.specs.proof.StackMachine.{Stack, depth, fate}
use Rattle.aadl_grammar.specs.proof.ParserAnswers.{here, Reads}
use Rattle.aadl_parse.proofs.whole_package.withs.Given as goal

abbrev pub invariant-loop-keyword : goal.invariant-loop-keyword
invariant-loop-keyword l = record {
  runs : (outer : ℕ) (below : Stack) → outer + depth below ≤ GREATEST_NESTING
      → fate outer l.reader.end (s.withs ∷ below) (here l.reader l.at)
      ≡ fate outer l.reader.end (s.withs ∷ below) (here l.reader l.rest);
  reads : Reads (flat_map with_parts (map (with_view kept_place) l.found.items)) (here l.reader l.at)
      (here l.reader l.rest);
}

abbrev pub decreases-loop-keyword : goal.decreases-loop-keyword
decreases-loop-keyword l = length (here l.reader l.rest)
