use Rattle.std.proofs.Common.{◌≡◌, ◌++◌, map, take}
use Rattle.pals_base.proofs.names.add_names.Given as goal

abbrev pub invariant-loop-item : goal.invariant-loop-item
invariant-loop-item g l = l.names ≡ l.initial.names ++ map g.T.HasName.name_of (take l.item-index l.items)
