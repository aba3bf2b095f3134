use Rattle.std.proofs.Common.{◌≡◌, ℕ, ◌+◌, ◌∷◌, length, map}
use Rattle.std.specs.Prelude.{flat_map}
use Rattle.aadl_tree.specs.Declarations.{declaration_parts}
use Rattle.aadl_tree.specs.proof.DeclarationViews.{declaration_view}
use Rattle.aadl_tree.specs.proof.PlaceMaps.{kept_place}
use Rattle.aadl_tree.specs.declared.nesting_limit.TheConstants.{GREATEST_NESTING}
use Rattle.aadl_grammar.specs.proof.GrammarSymbols as s
use Rattle.aadl_grammar.specs.proof.StackMachine.{Stack, depth, fate}
use Rattle.aadl_grammar.specs.proof.ParserAnswers.{here, Reads}
use Rattle.aadl_parse.proofs.declarations.declarations.Given as goal

abbrev pub invariant-loop-category : goal.invariant-loop-category
invariant-loop-category l = record {
  runs : (outer : ℕ) (below : Stack) → outer + depth below + l.room ≡ GREATEST_NESTING
      → fate outer l.reader.end (s.declarations ∷ below) (here l.reader l.at)
      ≡ fate outer l.reader.end (s.declarations ∷ below) (here l.reader l.next);
  reads : Reads (flat_map declaration_parts (map (declaration_view kept_place) l.found.items)) (here l.reader l.at)
      (here l.reader l.next);
}

abbrev pub decreases-loop-category : goal.decreases-loop-category
decreases-loop-category l = length (here l.reader l.next)
