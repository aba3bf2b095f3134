use Rattle.std.proofs.Common.{◌≡◌, ◌∙◌, ◌+◌, ◌<◌, List, [], length, take, Some, slice_index_or, sym, ap, arith}
use Rattle.std.proofs.lemmas.List.{take_more_set, get_or-set_same, length-take-le}
use Rattle.pals_base.specs.declared.basic_types.PortValue.{PortValue}
use Rattle.pals_base.specs.SingleStep.{fire}
use Rattle.sync_product.specs.proof.ProductSizes.{StageSize, stage_size}
use Rattle.sync_product.proofs.TupleLengths.{count_of_rows, length_of_row}
use Rattle.plant_fuse.specs.proof.PairSteps.{member_of_pair, side_vector, row_before, work}
use Rattle.plant_fuse.proofs.NextPairSteps.{row_before_take, both_more}
use Rattle.plant_fuse.proofs.pair_steps.make_steps.Goals as goal

pub row_before-last-requires : goal.row_before-last-requires
row_before-last-requires c =
    let component = c.args.fused.controller.wired.component.now in
    let sizes = ap (λ (s : StageSize). s.rows) (c.loop-step.invariant.controller_room ∙ c.requires.controller_room) in
    let count =
    count_of_rows c.loop-step.controller_stage.rows component.rate (length component.behaviour.outs) sizes in
    omega (arith, count, c.requires.rates, c.as_slice.ensures.len)

pub make_step-requires-clause-groups : goal.make_step-requires-clause-groups
make_step-requires-clause-groups c =
    ap (λ (s : StageSize). s.sources) (c.loop-step.invariant.plant_room ∙ c.requires.plant_room)

pub make_step-requires-clause-step : goal.make_step-requires-clause-step
make_step-requires-clause-step c =
    let component = c.args.fused.plant.wired.component.now in
    let sizes = ap (λ (s : StageSize). s.rows) (c.loop-step.invariant.plant_room ∙ c.requires.plant_room) in
    omega (arith, count_of_rows c.loop-step.plant_stage.rows component.rate (length component.behaviour.outs) sizes)

pub make_step-requires-clause-row : goal.make_step-requires-clause-row
make_step-requires-clause-row c =
    let component = c.args.fused.plant.wired.component.now in
    let sizes = ap (λ (s : StageSize). s.rows) (c.loop-step.invariant.plant_room ∙ c.requires.plant_room) in
    length_of_row c.loop-step.plant_stage.rows component.rate (length component.behaviour.outs) c.loop-step.step []
    sizes (omega arith)

pub index-requires : goal.index-requires
index-requires c =
    let component = c.args.fused.plant.wired.component.now in
    let sizes = ap (λ (s : StageSize). s.rows) (c.loop-step.invariant.plant_room ∙ c.requires.plant_room) in
    let same = ap (λ (s : StageSize). s.rows) c.in_ok-make_step.ensures.stage_size in
    omega (
      arith,
      count_of_rows c.make_step.new.self.rows component.rate (length component.behaviour.outs)
          (same ∙ sizes),
    )

pub make_step-requires-in-loop-step-clause-groups : goal.make_step-requires-in-loop-step-clause-groups
make_step-requires-in-loop-step-clause-groups c =
    ap (λ (s : StageSize). s.sources) (c.loop-step.invariant.controller_room ∙ c.requires.controller_room)

pub make_step-requires-in-loop-step-clause-step : goal.make_step-requires-in-loop-step-clause-step
make_step-requires-in-loop-step-clause-step c =
    let component = c.args.fused.controller.wired.component.now in
    let sizes = ap (λ (s : StageSize). s.rows) (c.loop-step.invariant.controller_room ∙ c.requires.controller_room) in
    omega (
      arith,
      c.requires.rates,
      count_of_rows c.loop-step.controller_stage.rows component.rate (length component.behaviour.outs) sizes,
    )

pub make_step-requires-in-loop-step-clause-row : goal.make_step-requires-in-loop-step-clause-row
make_step-requires-in-loop-step-clause-row c =
    let component = c.args.fused.controller.wired.component.now in
    let sizes = ap (λ (s : StageSize). s.rows) (c.loop-step.invariant.controller_room ∙ c.requires.controller_room) in
    length_of_row c.loop-step.controller_stage.rows component.rate (length component.behaviour.outs) c.loop-step.step []
    sizes (omega (arith, c.requires.rates))

pub loop-step-preserved : goal.loop-step-preserved
loop-step-preserved c =
    let round = c.args.round in
    let step = c.loop-step.step in
    let plant = member_of_pair c.args.fused.plant in
    let controller = member_of_pair c.args.fused.controller in
    let rows_p = c.loop-step.plant_stage.rows in
    let rows_c = c.loop-step.controller_stage.rows in
    let v = c.write_read.new.inputs in
    let w = c.write_read-in-loop-step.new.inputs in
    let outs_p = (fire plant.component.behaviour c.loop-step.plant_frame v).outs in
    let outs_c = (fire controller.component.behaviour c.loop-step.controller_frame w).outs in
    let sizes_p = ap (λ (s : StageSize). s.rows) (c.loop-step.invariant.plant_room ∙ c.requires.plant_room) in
    let sizes_c = ap (λ (s : StageSize). s.rows) (c.loop-step.invariant.controller_room ∙ c.requires.controller_room) in
    let count_p = count_of_rows rows_p plant.component.rate (length plant.component.behaviour.outs) sizes_p in
    let count_c = count_of_rows rows_c controller.component.rate (length controller.component.behaviour.outs) sizes_c in
    let within_p : step < length rows_p = omega (arith, count_p) in
    let within_c : step < length rows_c = omega (arith, count_c, c.requires.rates) in
    let last =
    c.row_before-last.ensures ∙ ap (λ (rows : List (List PortValue)). row_before rows step) c.as_slice.ensures.value
    ∙ sym (row_before_take rows_c step) in
    let left : c.as_slice-left.result.now ≡ outs_p =
    (c.as_slice-left.ensures.value
    ∙ c.index.ensures
    ∙ ap (λ (rows : List (List PortValue)). slice_index_or rows step c.index.result.now) c.in_ok-make_step.ensures.row
    ∙ get_or-set_same rows_p step outs_p c.index.result.now within_p) in
    record {
      made =
          both_more round plant controller step
          (work c.args.plant_frame.now (take step rows_p) c.loop-step.plant_frame)
          (work c.args.controller_frame.now (take step rows_c) c.loop-step.controller_frame)
          c.loop-step.invariant.made (length-take-le step rows_p (omega (arith, within_p)))
          (length-take-le step rows_c (omega (arith, within_c)))
          v w
          (take (step + 1) c.make_step.new.self.rows) (take (step + 1) c.make_step-in-loop-step.new.self.rows)
          c.make_step.new.frame c.make_step-in-loop-step.new.frame
          (c.write_read.ensures.inputs ∙ ap (side_vector round plant step) last)
          (c.write_read-in-loop-step.ensures.inputs
          ∙ ap (λ (row : List PortValue). side_vector round controller step (Some row)) left)
          (ap (take (step + 1)) c.in_ok-make_step.ensures.row ∙ take_more_set rows_p step outs_p within_p)
          c.in_ok-make_step.ensures.frame
          (ap (take (step + 1)) c.in_ok-make_step-2.ensures.row ∙ take_more_set rows_c step outs_c within_c)
          c.in_ok-make_step-2.ensures.frame;
      plant_room =
          c.in_ok-make_step.ensures.stage_size
          ∙ ap (λ n. let s : StageSize = record (stage_size c.loop-step.plant_stage) { inputs = n } in s)
          c.write_read.ensures.len
          ∙ c.loop-step.invariant.plant_room;
      controller_room =
          c.in_ok-make_step-2.ensures.stage_size
          ∙ ap (λ n. let s : StageSize = record (stage_size c.loop-step.controller_stage) { inputs = n } in s)
          c.write_read-in-loop-step.ensures.len
          ∙ c.loop-step.invariant.controller_room;
      plant_size = c.in_ok-make_step.ensures.frame_size ∙ c.loop-step.invariant.plant_size;
      controller_size = c.in_ok-make_step-2.ensures.frame_size ∙ c.loop-step.invariant.controller_size;
    }
