use Rattle.std.proofs.Common.{sym, ◌∙◌}
use Rattle.aadl_tree.specs.proof.PackageViews.{placed}
use Rattle.aadl_names.specs.declared.recognised_properties.PropertyName.TheVariants.{Skew, Execution, Network}
use Rattle.component_checks.specs.Times.{time_at, range_at}
use Rattle.component_checks.specs.RootFindings.{at_root}
use Rattle.component_checks.proofs.TimesWithinAnHour.{gamma_within}
use Rattle.component_checks.proofs.root_findings.add_root_findings.Goals as goal

pub add_bound_findings-requires-clause-gamma : goal.add_bound_findings-requires-clause-gamma
add_bound_findings-requires-clause-gamma c = λ x is.
    let tree = placed c.args.properties.now.uses.now.names.tree.now in
    gamma_within (time_at (at_root tree c.args.root Skew)) (range_at (at_root tree c.args.root Execution))
    (range_at (at_root tree c.args.root Network)) x (sym c.root_gamma-gamma.ensures ∙ is)
