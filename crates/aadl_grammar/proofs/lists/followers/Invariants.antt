use Rattle.std.proofs.Common.{◌≡◌, ℕ, ◌+◌, ◌∷◌, length}
use Rattle.aadl_grammar.specs.proof.StackMachine.{Stack, depth, fate}
use Rattle.aadl_grammar.specs.proof.ParserAnswers.{here}
use Rattle.aadl_grammar.specs.proof.ListAnswers.{Allows, with_mark, ItemsOf, Grows}
use Rattle.aadl_grammar.proofs.lists.followers.Given as goal

abbrev pub invariant-loop-start : goal.invariant-loop-start
invariant-loop-start g l = record {
  runs : (of : ItemsOf l.reader l.before (λ a r. goal.F-post g l.item a r)) (outer : ℕ) (below : Stack)
      → Allows of.allowed (outer + depth (of.list ∷ below))
      → fate outer l.reader.end (of.list ∷ below) (here l.reader l.at)
      ≡ fate outer l.reader.end (of.list ∷ below) (here l.reader l.rest);
  reads : (of : ItemsOf l.reader l.before (λ a r. goal.F-post g l.item a r))
      → Grows (with_mark l.before of.parts) l.fn.found.items l.found.items (here l.reader l.at) (here l.reader l.rest);
}

abbrev pub decreases-loop-start : goal.decreases-loop-start
decreases-loop-start g l = length (here l.reader l.rest)
