use Rattle.std.proofs.Common.{◌≡◌, take}
use Rattle.aadl_tree.specs.proof.PackageViews.{placed}
use Rattle.component_checks.specs.PropertyLookup.{lists_along}
use Rattle.component_checks.specs.proof.ComponentProperties.{timed_by}
use Rattle.component_checks.proofs.package_properties.Properties.along.Given as goal

-- the nearest properties so far
abbrev pub invariant-loop-sub : goal.invariant-loop-sub
invariant-loop-sub l =
    l.nearest ≡ timed_by (lists_along (placed l.self.uses.now.names.tree.now) l.root (take l.sub-index l.subs))
