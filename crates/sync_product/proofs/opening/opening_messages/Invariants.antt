use Rattle.std.proofs.Common.{◌≡◌, map, replicate, take}
use Rattle.pals_base.specs.declared.basic_types.PortValue.TheVariants.{Absent}
use Rattle.pals_model.specs.declared.design.Link.{Link}
use Rattle.pals_model.specs.PortKindsAndRates.{rate_of}
use Rattle.sync_product.proofs.opening.opening_messages.Given as goal

abbrev pub invariant-loop-link : goal.invariant-loop-link
invariant-loop-link l =
    l.messages ≡ map (λ (link : Link). replicate (rate_of l.design link.source.0) Absent)
    (take l.link-index l.link-items)
