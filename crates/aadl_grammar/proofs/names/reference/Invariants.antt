use Rattle.std.proofs.Common.{◌≡◌, ℕ, ◌+◌, ◌≤◌, ◌∷◌, ◌++◌, length, map}
use Rattle.std.specs.Prelude.{flat_map}
use Rattle.aadl_tree.specs.Names.{identifier_parts, qualifier_parts}
use Rattle.aadl_tree.specs.proof.NameViews.{identifier_view}
use Rattle.aadl_tree.specs.proof.PlaceMaps.{kept_place}
use Rattle.aadl_tree.specs.declared.nesting_limit.TheConstants.{GREATEST_NESTING}
use Rattle.aadl_grammar.specs.proof.GrammarSymbols as s
use Rattle.aadl_grammar.specs.proof.StackMachine.{Stack, depth, fate}
use Rattle.aadl_grammar.specs.proof.ParserAnswers.{here, Reads}
use Rattle.aadl_grammar.proofs.names.reference.Given as goal

abbrev pub invariant-loop-behind : goal.invariant-loop-behind
invariant-loop-behind l = record {
  runs : (outer : ℕ) (below : Stack) → outer + depth below ≤ GREATEST_NESTING
      → fate outer l.reader.end (s.reference ∷ below) (here l.reader l.at)
      ≡ fate outer l.reader.end (s.names ∷ s.dot_identifier ∷ below) (here l.reader l.rest);
  reads : Reads (flat_map qualifier_parts (map (identifier_view kept_place) l.qualifiers.items)
      ++ identifier_parts (identifier_view kept_place l.type_name)) (here l.reader l.at) (here l.reader l.rest);
}

abbrev pub decreases-loop-behind : goal.decreases-loop-behind
decreases-loop-behind l = length (here l.reader l.rest)
