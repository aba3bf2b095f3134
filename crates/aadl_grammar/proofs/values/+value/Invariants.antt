use Rattle.std.proofs.Common.{◌≡◌, ℕ, ◌+◌, ◌*◌, List, ◌∷◌, length}
use Rattle.aadl_tree.specs.declared.mark.Mark.TheVariants as k
use Rattle.aadl_tree.specs.declared.values.Value.{Value}
use Rattle.aadl_tree.specs.Values.{values_parts, associations_parts}
use Rattle.aadl_tree.specs.proof.ValueViews.{values_view, associations_view}
use Rattle.aadl_tree.specs.proof.PlaceMaps.{kept_place}
use Rattle.aadl_tree.specs.declared.nesting_limit.TheConstants.{GREATEST_NESTING}
use Rattle.aadl_grammar.specs.proof.GrammarSymbols as s
use Rattle.aadl_grammar.specs.proof.StackMachine.{Stack, depth, fate}
use Rattle.aadl_grammar.specs.proof.ParserAnswers.{here, Reads}
use Rattle.aadl_grammar.proofs.values.+value.Given as goal

abbrev pub decreases-value : goal.decreases-value
decreases-value l = 8 * l.room + 0

abbrev pub decreases-values : goal.decreases-values
decreases-values l = 8 * l.room + 2

abbrev pub decreases-association : goal.decreases-association
decreases-association l = 8 * l.room + 1

abbrev pub decreases-associations : goal.decreases-associations
decreases-associations l = 8 * l.room + 2

abbrev pub invariant-values-loop-behind : goal.invariant-values-loop-behind
invariant-values-loop-behind l = record {
  runs : (outer : ℕ) (below : Stack) → outer + depth (s.only k.ParenClose ∷ below) + l.room ≡ GREATEST_NESTING
      → fate outer l.reader.end (s.values ∷ s.only k.ParenClose ∷ below) (here l.reader l.at)
      ≡ fate outer l.reader.end (s.more_values ∷ s.only k.ParenClose ∷ below) (here l.reader l.rest);
  reads : Reads (values_parts (values_view kept_place l.found.items)) (here l.reader l.at) (here l.reader l.rest);
  some : (x : Value) × (xs : List Value) × (l.found.items ≡ x ∷ xs);
}

abbrev pub decreases-values-loop-behind : goal.decreases-values-loop-behind
decreases-values-loop-behind l = length (here l.reader l.rest)

abbrev pub invariant-associations-loop-found : goal.invariant-associations-loop-found
invariant-associations-loop-found l = record {
  runs : (outer : ℕ) (below : Stack) → outer + depth below + l.room ≡ GREATEST_NESTING
      → fate outer l.reader.end (s.associations ∷ below) (here l.reader l.at)
      ≡ fate outer l.reader.end (s.associations ∷ below) (here l.reader l.rest);
  reads : Reads (associations_parts (associations_view kept_place l.found.items)) (here l.reader l.at)
      (here l.reader l.rest);
}

abbrev pub decreases-associations-loop-found : goal.decreases-associations-loop-found
decreases-associations-loop-found l = length (here l.reader l.rest)
