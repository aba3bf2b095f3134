use Rattle.std.proofs.Common.{◌∙◌, subst, sym}
use Rattle.std.proofs.lemmas.List.Elements.{All-get_or}
use Rattle.aadl_tree.specs.proof.PackageViews.{placed}
use Rattle.design_laws.specs.InstanceDesigns.{HasRules, component_in}
use Rattle.model_checks.specs.proof.ThreadSizeLimits.{IsWithinLimits}
use Rattle.model_checks.proofs.ListsOfOptions.{one_more, one_missing}
use Rattle.model_checks.proofs.instance_design.components.Goals as goal

pub component-requires-clause-limits : goal.component-requires-clause-limits
component-requires-clause-limits c =
    let limits = IsWithinLimits (placed c.args.properties.now.uses.now.names.tree.now) in
    subst limits (sym c.thread-item.is)
    (All-get_or limits c.args.threads.now c.loop-thread.thread-index c.thread-item.result c.loop-thread-test.true
    c.requires.limits)

pub component-requires-clause-rules : goal.component-requires-clause-rules
component-requires-clause-rules c =
    let rules = HasRules (placed c.args.properties.now.uses.now.names.tree.now) in
    subst rules (sym c.thread-item.is)
    (All-get_or rules c.args.threads.now c.loop-thread.thread-index c.thread-item.result c.loop-thread-test.true
    c.requires.rules)

pub component-requires-clause-kept : goal.component-requires-clause-kept
component-requires-clause-kept c = c.loop-thread.invariant.1

pub loop-thread-preserved : goal.loop-thread-preserved
loop-thread-preserved c = (
  one_more (component_in (placed c.args.properties.now.uses.now.names.tree.now) c.args.root) c.args.threads.now
      c.loop-thread.thread-index c.thread-item.result c.loop-thread.components _ c.in-Some.component
      c.loop-thread-test.true c.thread-item.is c.loop-thread.invariant.0
      (sym c.in-Some.is ∙ c.in_ok-component.ensures.value) c.in_ok-push.ensures.ok,
  c.in_ok-component.ensures.kept,
)

pub returns-in_default : goal.returns-in_default
returns-in_default c =
    one_missing (component_in (placed c.args.properties.now.uses.now.names.tree.now) c.args.root) c.args.threads.now
    c.loop-thread.thread-index c.thread-item.result c.loop-thread-test.true c.thread-item.is
    (sym c.in_default.is ∙ c.in_ok-component.ensures.value)
