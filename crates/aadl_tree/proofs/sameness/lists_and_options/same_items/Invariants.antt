use Rattle.std.proofs.Common.{◌≡◌, length, map, drop}
use Rattle.std.specs.Prelude.{◌↔◌}
use Rattle.aadl_tree.proofs.sameness.lists_and_options.same_items.Given as goal

-- all have the same meaning if and only if the remaining ones do
abbrev pub invariant-loop-at : goal.invariant-loop-at
invariant-loop-at g l =
    (length l.left ≡ length l.right)
    × ((map g.T.Same.meaning l.left ≡ map g.T.Same.meaning l.right)
    ↔ (map g.T.Same.meaning (drop l.at l.left) ≡ map g.T.Same.meaning (drop l.at l.right)))
