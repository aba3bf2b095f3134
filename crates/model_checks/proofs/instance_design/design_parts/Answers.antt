use Rattle.std.proofs.Common.{subst, sym}
use Rattle.std.specs.Prelude.{All}
use Rattle.std.proofs.lemmas.List.Elements.{All-same}
use Rattle.aadl_tree.specs.proof.PackageViews.{placed}
use Rattle.design_laws.specs.InstanceDesigns.{HasRules}
use Rattle.model_checks.specs.proof.ThreadSizeLimits.{IsWithinLimits}
use Rattle.model_checks.proofs.ThreadSizeLimits.{within_limits}
use Rattle.model_checks.proofs.instance_design.design_parts.Goals as goal

pub components-requires-clause-limits : goal.components-requires-clause-limits
components-requires-clause-limits c =
    let threads = c.as_slice.result.now in
    subst (λ tree. All (IsWithinLimits (placed tree)) threads) (sym c.requires.names)
    (All-same (IsWithinLimits (placed c.args.instance.now.wires.uses.names.tree.now)) threads
    c.args.instance.now.threads c.as_slice.ensures.value (within_limits c.args.instance.now.flat))

pub components-requires-clause-rules : goal.components-requires-clause-rules
components-requires-clause-rules c =
    let threads = c.as_slice.result.now in
    subst (λ tree. All (HasRules (placed tree)) threads) (sym c.requires.names)
    (All-same (HasRules (placed c.args.instance.now.wires.uses.names.tree.now)) threads c.args.instance.now.threads
    c.as_slice.ensures.value c.requires.rules)
