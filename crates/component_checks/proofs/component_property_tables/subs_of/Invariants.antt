use Rattle.std.proofs.Common.{◌≡◌, map, take}
use Rattle.aadl_tree.specs.proof.PackageViews.{placed}
use Rattle.aadl_names.specs.NameResolution.{implementation_at, subcomponents_of}
use Rattle.component_checks.specs.proof.ComponentProperties.{sub_timed}
use Rattle.component_checks.proofs.component_property_tables.subs_of.Given as goal

abbrev pub invariant-loop-sub : goal.invariant-loop-sub
invariant-loop-sub l =
    l.timed ≡ map (sub_timed (placed l.uses.names.tree.now))
    (take l.sub (subcomponents_of (implementation_at (placed l.uses.names.tree.now) l.declaration)))
