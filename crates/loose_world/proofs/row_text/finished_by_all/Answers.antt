use Rattle.std.proofs.Common.{◌∙◌, ◌<◌, ◌≤◌, length, ap, arith}
use Rattle.pals_model.specs.declared.design.DesignParts.{DesignParts}
use Rattle.loose_world.proofs.RowLoops.{least_more, least_all}
use Rattle.loose_world.proofs.row_text.finished_by_all.Goals as goal

pub loop-node-preserved : goal.loop-node-preserved
loop-node-preserved c =
    let b = c.args.bus.now in
    let count =
    ap length (c.components-node-end.ensures.value ∙ ap (λ (d : DesignParts). d.components) c.design.ensures) in
    let nodes = c.agreement.ensures.nodes in
    let before = c.loop-node-test.true in
    let within : c.loop-node.node < length b.state.nodes = omega (arith, count, nodes, before) in
    let next = least_more b c.loop-node.node within in
    let so_far = c.loop-node.invariant in
    let here = c.finished.ensures in
    let least = c.min-rounds.ensures in
    omega (arith, next, so_far, here, least)

pub returns : goal.returns
returns c =
    let b = c.args.bus.now in
    let count =
    ap length (c.components-node-end.ensures.value ∙ ap (λ (d : DesignParts). d.components) c.design.ensures) in
    let nodes = c.agreement.ensures.nodes in
    let past = c.loop-node-test.false in
    let all : length b.state.nodes ≤ c.loop-node.node = omega (arith, count, nodes, past) in
    c.loop-node.invariant ∙ least_all b c.loop-node.node all
