use Rattle.std.proofs.Common.{◌≡◌, map, take}
use Rattle.aadl_tree.specs.proof.PackageViews.{placed}
use Rattle.component_checks.specs.proof.ComponentProperties.{own_timed}
use Rattle.component_checks.proofs.component_property_tables.all_own.Given as goal

abbrev pub invariant-loop-number : goal.invariant-loop-number
invariant-loop-number l =
    l.own ≡ map (own_timed (placed l.uses.names.tree.now)) (take l.number (placed l.uses.names.tree.now).declarations)
