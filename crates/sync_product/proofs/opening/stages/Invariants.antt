use Rattle.std.proofs.Common.{◌≡◌, map, take}
use Rattle.pals_base.specs.PeriodBoundAndReleases.{sent_steps}
use Rattle.pals_model.specs.declared.design.Component.{Component}
use Rattle.sync_product.specs.proof.ProductSizes.{stage_size, stage_size_of}
use Rattle.sync_product.proofs.opening.stages.Given as goal

abbrev pub invariant-loop-component : goal.invariant-loop-component
invariant-loop-component l =
    map stage_size l.stages.items
    ≡ map (λ (c : Component). stage_size_of (sent_steps l.gamma l.period c.rate) c)
    (take l.component-index l.component-items)
