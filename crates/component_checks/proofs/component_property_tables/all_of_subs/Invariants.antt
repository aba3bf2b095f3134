use Rattle.std.proofs.Common.{◌≡◌, map, take}
use Rattle.aadl_tree.specs.proof.PackageViews.{placed}
use Rattle.component_checks.specs.proof.ComponentProperties.{subs_timed}
use Rattle.component_checks.proofs.component_property_tables.all_of_subs.Given as goal

abbrev pub invariant-loop-declaration : goal.invariant-loop-declaration
invariant-loop-declaration l =
    l.subs ≡ map (subs_timed (placed l.uses.names.tree.now))
    (take l.declaration (placed l.uses.names.tree.now).declarations)
