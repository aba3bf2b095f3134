use Rattle.std.proofs.Common.{◌∙◌, ◌+◌, [], ◌∷◌, ◌++◌, ap, sym, length, map, take, arith}
use Rattle.std.proofs.lemmas.List.{take_more_set}
use Rattle.pals_base.specs.declared.frames.Frame.{Frame}
use Rattle.pals_base.specs.SingleStep.{fire}
use Rattle.pals_base.specs.StepSequences.{frame_after, outputs}
use Rattle.pals_base.specs.Tuples.{column, columns}
use Rattle.pals_base.proofs.UpwardNumbers.{map_upwards_more}
use Rattle.pals_base.proofs.SequencesAndHaltedFrames.{frame_after-append, outputs-append}
use Rattle.sync_product.specs.proof.Rounds.{brought}
use Rattle.sync_product.specs.proof.ProductSizes.{StageSize, stage_size}
use Rattle.sync_product.proofs.TupleLengths.{count_of_rows, length_of_row}
use Rattle.sync_product.proofs.component_stage.Stage.make_steps.Goals as goal

pub make_step-requires-clause-groups : goal.make_step-requires-clause-groups
make_step-requires-clause-groups c =
    ap (λ (s : StageSize). s.sources) (c.loop-step.invariant.stage_size ∙ c.requires.stage)

pub make_step-requires-clause-row : goal.make_step-requires-clause-row
make_step-requires-clause-row c =
    let component = c.args.wired.component.now in
    let sizes = ap (λ (s : StageSize). s.rows) (c.loop-step.invariant.stage_size ∙ c.requires.stage) in
    length_of_row c.loop-step.self.rows component.rate (length component.behaviour.outs) c.loop-step.step [] sizes
    (omega arith)

pub loop-step-preserved : goal.loop-step-preserved
loop-step-preserved c =
    let component = c.args.wired.component.now in
    let b = component.behaviour in
    let from = c.args.from.now in
    let step = c.loop-step.step in
    let read = map (brought c.args.round component.rate) c.args.wired.sources.now in
    let inputs = column step read in
    let more = map_upwards_more (λ at. column at read) step in
    let sizes = ap (λ (s : StageSize). s.rows) (c.loop-step.invariant.stage_size ∙ c.requires.stage) in
    let count = count_of_rows c.loop-step.self.rows component.rate (length b.outs) sizes in
    let here = c.loop-step.to in
    record {
      frame =
          c.in_ok-make_step.ensures.frame
          ∙ ap (λ i. (fire b here i).frame) c.write_inputs.ensures.inputs
          ∙ ap (λ (f : Frame). (fire b f inputs).frame) c.loop-step.invariant.frame
          ∙ sym (ap (frame_after b from) more ∙ frame_after-append b from (columns step read) (inputs ∷ []));
      rows =
          ap (take (step + 1)) c.in_ok-make_step.ensures.row
          ∙ take_more_set c.loop-step.self.rows step _ (omega arith)
          ∙ ap (λ l. l ++ (fire b here c.write_inputs.new.inputs).outs ∷ []) c.loop-step.invariant.rows
          ∙ ap (λ i. outputs b from (columns step read) ++ (fire b here i).outs ∷ []) c.write_inputs.ensures.inputs
          ∙ ap (λ (f : Frame). outputs b from (columns step read) ++ (fire b f inputs).outs ∷ [])
          c.loop-step.invariant.frame
          ∙ sym (ap (outputs b from) more ∙ outputs-append b from (columns step read) (inputs ∷ []));
      to_size = c.in_ok-make_step.ensures.frame_size ∙ c.loop-step.invariant.to_size;
      stage_size =
          c.in_ok-make_step.ensures.stage_size
          ∙ ap (λ n. let s : StageSize = record (stage_size c.loop-step.self) { inputs = n } in s)
          c.write_inputs.ensures.len
          ∙ c.loop-step.invariant.stage_size;
    }
