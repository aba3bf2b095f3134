use Rattle.aadl_tree.specs.proof.PackageViews.{placed}
use Rattle.model_violations.specs.UsedDeclarations.{has}
use Rattle.model_violations.specs.proof.UnsortedFindings.{shown}
use Rattle.model_violations.proofs.ThreadsWithinLimits.{root_within, are_small}
use Rattle.model_violations.proofs.UnsortedFindings.{used_found}
use Rattle.model_violations.proofs.all_violations.add_used_findings.Goals as goal

pub used_below-requires : goal.used_below-requires
used_below-requires c = root_within c.args.instance.now.flat

pub add_package_findings-requires : goal.add_package_findings-requires
add_package_findings-requires c =
    are_small (has c.in_ok-used.used.keys) c.args.instance.now.flat c.in_ok-used.ensures

pub returns : goal.returns
returns c = record {
  used = has c.in_ok-used.used.keys;
  is_use = c.in_ok-used.ensures;
  added =
      used_found (placed c.args.instance.now.wires.uses.names.tree.now) (shown c.args.instance.now)
      c.in_ok-used.used.keys c.in_ok-types.types.keys c.in_ok-carriers.carriers _ _ c.in_ok-types.ensures
      c.in_ok-carriers.ensures c.in_ok-add_package_findings.ensures;
}
