use Rattle.std.proofs.Common.{◌≡◌, ◌∙◌, ℕ, length, fold, max, ap, arith}
use Rattle.std.proofs.lemmas.Grind.{common_steps}
use Rattle.pals_model.specs.declared.design.DesignParts.{DesignParts}
use Rattle.loose_world.proofs.RowLoops.{finished_first, most_more}
use Rattle.loose_world.proofs.row_text.finished_rounds.Goals as goal

pub loop-node-preserved : goal.loop-node-preserved
loop-node-preserved c =
    let next = most_more c.args.bus.now c.loop-node.node in
    let so_far = c.loop-node.invariant in
    let here = c.finished.ensures in
    let most = c.max-rounds.ensures in
    grind (arith, common_steps, next, so_far, here, most)

pub returns : goal.returns
returns c =
    let count =
    ap length (c.components-node-end.ensures.value ∙ ap (λ (d : DesignParts). d.components) c.design.ensures) in
    let past = c.loop-node-test.false in
    let within = c.loop-node.auto.node-end in
    let all : c.loop-node.node ≡ length c.args.bus.now.run.design.components = omega (arith, count, past, within) in
    c.loop-node.invariant ∙ ap (λ (k : ℕ). fold max 0 (finished_first c.args.bus.now k)) all
