use Rattle.std.proofs.Common.{◌≡◌, map, take, Some}
use Rattle.aadl_tree.specs.proof.PackageViews.{placed}
use Rattle.design_laws.specs.InstanceDesigns.{all_of, component_in}
use Rattle.model_checks.specs.proof.CachedBehaviours.{AreKept}
use Rattle.model_checks.proofs.instance_design.components.Given as goal

-- the components so far, and the cached behaviours
abbrev pub invariant-loop-thread : goal.invariant-loop-thread
invariant-loop-thread l =
    (Some l.components ≡ all_of
    (map (component_in (placed l.properties.uses.now.names.tree.now) l.root) (take l.thread-index l.threads)))
    × AreKept (placed l.properties.uses.now.names.tree.now) l.kept.entries
