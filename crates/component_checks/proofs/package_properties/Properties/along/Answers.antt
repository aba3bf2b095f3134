use Rattle.std.proofs.Common.{ap, ◌∙◌}
use Rattle.std.specs.Prelude.{slice_index_or}
use Rattle.aadl_tree.specs.proof.PackageViews.{placed}
use Rattle.aadl_uses.specs.declared.thread_locations.SubAt.{SubAt}
use Rattle.component_checks.specs.PropertyLookup.{lists_at}
use Rattle.component_checks.specs.proof.ComponentProperties.{timed_by, nearer}
use Rattle.component_checks.proofs.PropertiesByNumber.{along_turn}
use Rattle.component_checks.proofs.package_properties.Properties.along.Goals as goal

pub loop-sub-preserved : goal.loop-sub-preserved
loop-sub-preserved c =
    let tree = placed c.args.self.now.uses.now.names.tree.now in
    let none : SubAt = record { declaration = 0; sub = 0 } in
    c.or-nearest.ensures ∙ ap (λ t. nearer t c.loop-sub.nearest) c.of_sub.ensures
    ∙ ap (nearer (timed_by (lists_at tree (slice_index_or c.args.subs.now c.loop-sub.sub-index none))))
    c.loop-sub.invariant
    ∙ along_turn tree c.args.root c.args.subs.now c.loop-sub.sub-index none c.loop-sub-test.true
