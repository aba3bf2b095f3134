use Rattle.std.proofs.Common.{◌∙◌, sym, ap, length, arith}
use Rattle.std.specs.Arc.{arc_value}
use Rattle.pals_node.proofs.ProgramResults.{fits}
use Rattle.pals_node.proofs.node_fields_and_events.NodeFields.job.Goals as goal

pub new-requires-clause-frame : goal.new-requires-clause-frame
new-requires-clause-frame c =
    fits (arc_value c.args.self.now.plan) c.args.self.now.frame c.requires.keeps.program c.requires.keeps.frame

pub new-requires-clause-inputs : goal.new-requires-clause-inputs
new-requires-clause-inputs c =
    let round = c.requires.round in
    let count = round.vectors.count_is in
    let below = c.requires.step in
    ap length c.index.ensures ∙ round.vectors.places_are c.args.step c.index.result.now (omega arith)
    ∙ sym c.requires.keeps.program.means.ins
