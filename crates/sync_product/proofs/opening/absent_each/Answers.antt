use Rattle.std.proofs.Common.{◌∙◌, ◌++◌, ◌∷◌, [], ℕ, ap, sym, map, replicate, take}
use Rattle.std.proofs.lemmas.List.{map_more}
use Rattle.pals_base.specs.declared.basic_types.PortValue.TheVariants.{Absent}
use Rattle.sync_product.proofs.opening.absent_each.Goals as goal

pub loop-port-preserved : goal.loop-port-preserved
loop-port-preserved c =
    let ports = c.args.ports.now in
    let at = c.loop-port._port-index in
    let each = λ (port : ℕ). replicate c.args.rate Absent in
    c.in_ok-push.ensures.ok
    ∙ ap (λ l. l ++ c.in_ok-absent.field-0 ∷ []) c.loop-port.invariant
    ∙ ap (λ t. map each (take at ports) ++ t ∷ []) c.in_ok-absent.ensures
    ∙ sym (map_more each ports at 0 c.loop-port-test.true)
