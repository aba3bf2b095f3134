use Rattle.std.proofs.Common.{◌≡◌, map, take, Some}
use Rattle.aadl_tree.specs.proof.PackageViews.{placed}
use Rattle.design_laws.specs.InstanceDesigns.{all_of, link_in}
use Rattle.model_checks.proofs.instance_design.links.Given as goal

abbrev pub invariant-loop-chain : goal.invariant-loop-chain
invariant-loop-chain l =
    Some l.links ≡ all_of (map (link_in (placed l.properties.uses.now.names.tree.now)) (take l.chain-index l.chains))
