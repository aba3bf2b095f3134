use Rattle.std.proofs.Common.{◌≡◌, ◌+◌, ◌∷◌, drop, ap, arith}
use Rattle.std.proofs.lemmas.Grind.{common_steps}
use Rattle.pals_model.specs.RoundTexts.{part_lines}
use Rattle.pals_report.specs.proof.RowLines.{component_lines_from}
use Rattle.pals_report.proofs.RowLines.{lines_turn}
use Rattle.pals_report.proofs.TextPrefixes.{begins_more}
use Rattle.pals_report.proofs.row.add_component_lines.Goals as goal

pub loop-node-preserved : goal.loop-node-preserved
loop-node-preserved g c =
    let at = c.loop-node.node in
    let component = c.index-components-node.result in
    let part_of = g.P.RoundParts.part_of c.args.parts.now in
    let split : drop at c.args.components.now ≡ component ∷ drop (at + 1) c.args.components.now =
    grind (arith, common_steps) in
    let added = c.in_ok-add_part_line.ensures.ok in
    let before = rw split at c.loop-node.invariant.rest in
    record {
      begun = begins_more _ _ _ _ c.loop-node.invariant.begun added;
      rest =
          lines_turn c.loop-node.out.items _ _ _ (part_lines component (part_of at))
          (component_lines_from part_of (at + 1) (drop (at + 1) c.args.components.now)) added
          (ap (part_lines component) c.part.ensures) before;
    }
