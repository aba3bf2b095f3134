use Rattle.std.proofs.Common.{◌≡◌, ◌+◌, ◌∷◌, drop, replicate, length, arith}
use Rattle.std.proofs.lemmas.Grind.{common_steps}
use Rattle.pals_model.specs.declared.port_sources.PortSource.TheVariants.{Nothing}
use Rattle.pals_model.proofs.SourceTables.{empty_step}
use Rattle.pals_model.proofs.port_sources.empty_table.Goals as goal

pub loop-component-preserved : goal.loop-component-preserved
loop-component-preserved c =
    let components = c.args.components.now in
    let at = c.loop-component.component-index in
    let item = c.component-item.result in
    let split : drop at components ≡ item ∷ drop (at + 1) components = grind (arith, common_steps) in
    let before = rw split at c.loop-component.invariant in
    let found : c.from_vec.result ≡ replicate (length c.ins-ports.result.now) Nothing = grind (arith, common_steps) in
    rw (c.in_ok-push.ensures.ok)
    (empty_step c.loop-component.table at item (drop (at + 1) components) c.from_vec.result
    (length c.ins-ports.result.now) _ found c.ins-ports.ensures.len before)
