use Rattle.std.proofs.Common.{◌∙◌, ◌<◌, ◌≤◌, length, ap, arith}
use Rattle.pals_model.specs.declared.design.DesignParts.{DesignParts}
use Rattle.trace_audit.proofs.DoneNodesAndRounds.{least_more, least_end}
use Rattle.trace_audit.proofs.end_rules.finished_by_all.Goals as goal

pub loop-node-preserved : goal.loop-node-preserved
loop-node-preserved c =
    let s = c.args.bus.now.state in
    let count =
    ap length (c.components-node-end.ensures.value ∙ ap (λ (d : DesignParts). d.components) c.design.ensures) in
    let nodes = c.agreement.ensures.nodes in
    let before = c.loop-node-test.true in
    let within : c.loop-node.node < length s.nodes = omega (arith, count, nodes, before) in
    let here = c.finished.ensures in
    let least = c.min-rounds.ensures in
    least_more s c.loop-node.node c.loop-node.rounds c.min-rounds.result _ within (omega (arith, here, least))
    c.loop-node.invariant

pub returns : goal.returns
returns c =
    let s = c.args.bus.now.state in
    let count =
    ap length (c.components-node-end.ensures.value ∙ ap (λ (d : DesignParts). d.components) c.design.ensures) in
    let nodes = c.agreement.ensures.nodes in
    let past = c.loop-node-test.false in
    let all : length s.nodes ≤ c.loop-node.node = omega (arith, count, nodes, past) in
    least_end s c.loop-node.node c.loop-node.rounds _ all c.loop-node.invariant
