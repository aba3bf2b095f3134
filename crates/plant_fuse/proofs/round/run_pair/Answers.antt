use Rattle.std.proofs.Common.{◌≡◌, ◌≢◌, ◌∙◌, ◌<◌, List, Some, slice_get, slice_index_or, length, sym, ap, arith}
use Rattle.std.specs.Option.{option_map}
use Rattle.std.proofs.lemmas.List.{length-set}
use Rattle.std.proofs.lemmas.Option.{slice_get-map}
use Rattle.list_lemmas.proofs.Results.{OnOk-always, OnOk-weaker}
use Rattle.pals_runs.specs.declared.plant_pairs.Pair.{Pair}
use Rattle.sync_product.specs.declared.component_stage.Stage.{Stage}
use Rattle.sync_product.specs.proof.Rounds.{frames_of}
use Rattle.sync_product.specs.proof.ProductSizes.{part_size, stage_size}
use Rattle.plant_fuse.specs.proof.RoundWork.{IsRun, StayBeside}
use Rattle.plant_fuse.specs.proof.PairSteps.{AreSidesRun}
use Rattle.plant_fuse.specs.proof.TakenElements.{TakenFrom}
use Rattle.sync_product.proofs.ComponentSizes.{count_of_parts, count_of_stages}
use Rattle.plant_fuse.proofs.RoundWork.{pair_is_run}
use Rattle.plant_fuse.proofs.PairRoom.{paired_fits}
use Rattle.plant_fuse.proofs.TakenElements.{kept_get, kept_length, back_first, back_second, back_other, seen_back}
use Rattle.plant_fuse.proofs.round.run_pair.Goals as goal

pub take_part-part-requires : goal.take_part-part-requires
take_part-part-requires c = let within = c.requires.pair.plant in
    omega (arith, within, count_of_parts c.args.round.design.now c.args.next.now c.requires.next)

pub index_mut-requires-2 : goal.index_mut-requires-2
index_mut-requires-2 c =
    let within = c.requires.pair.controller in
    omega (
      arith,
      within,
      count_of_parts c.args.round.design.now c.args.next.now c.requires.next,
      kept_length c.args.next.now c.take_part-part.new.parts c.args.pair.now.plant.0 c.take_part-part.result
          c.take_part-part.ensures,
    )

pub make_pair_steps-run-requires-clause-plant : goal.make_pair_steps-run-requires-clause-plant
make_pair_steps-run-requires-clause-plant c =
    paired_fits c.args.round.design.now c.args.parts.now c.args.next.now c.args.stages.now.items
    c.args.pair.now.plant.0 c.args.pair.now.controller.0 c.paired.result c.take_stage-stage.result
    c.take_part-part.result c.paired.ensures c.requires.parts c.requires.next c.requires.stages
    c.take_stage-stage.ensures.was
    c.take_part-part.ensures.was

-- the controller's stage and part are the ones in the lists
module _ {X : Type 0} (old new : List X) (pair : Pair) (x y : X) (taken : TakenFrom old new pair.plant.0 x)
    (two : pair.plant.0 ≢ pair.controller.0) (within : pair.controller.0 < length old)
    (is : y ≡ slice_index_or new pair.controller.0 y) where
  stands : slice_get old pair.controller.0 ≡ Some y
  stands = kept_get old new pair.plant.0 pair.controller.0 x y taken (λ same. two (sym same)) within is

pub make_pair_steps-run-requires-clause-controller : goal.make_pair_steps-run-requires-clause-controller
make_pair_steps-run-requires-clause-controller c =
    let design = c.args.round.design.now in
    let pair = c.args.pair.now in
    let next = c.args.next.now in
    let stages = c.args.stages.now.items in
    let is_pair = c.requires.pair in
    let inside = is_pair.controller in
    let in_next : pair.controller.0 < length next = omega (arith, inside, count_of_parts design next c.requires.next) in
    let in_stages : pair.controller.0 < length stages =
    omega (arith, inside, count_of_stages design stages c.requires.stages) in
    paired_fits design c.args.parts.now next stages pair.controller.0 pair.plant.0 c.paired-2.result
    c.index_mut.result.now c.index_mut-2.result.now c.paired-2.ensures c.requires.parts c.requires.next
    c.requires.stages
    (stands stages c.take_stage-stage.new.stages.items pair c.take_stage-stage.result c.index_mut.result.now
    c.take_stage-stage.ensures is_pair.two in_stages c.index_mut.ensures.value)
    (stands next c.take_part-part.new.parts pair c.take_part-part.result c.index_mut-2.result.now
    c.take_part-part.ensures is_pair.two in_next c.index_mut-2.ensures.value)

pub set-requires : goal.set-requires
set-requires c =
    let within = c.requires.pair.plant in
    omega (
      arith,
      within,
      count_of_parts c.args.round.design.now c.args.next.now c.requires.next,
      kept_length c.args.next.now c.take_part-part.new.parts c.args.pair.now.plant.0 c.take_part-part.result
          c.take_part-part.ensures,
      length-set c.take_part-part.new.parts c.args.pair.now.controller.0 c.make_pair_steps-run.new.controller_part,
    )

pub returns : goal.returns
returns c =
    let round = c.args.round in
    let design = round.design.now in
    let pair = c.args.pair.now in
    let plant = pair.plant.0 in
    let controller = pair.controller.0 in
    let parts = c.args.parts.now in
    let is_pair = c.requires.pair in
    -- the parts
    let next = c.args.next.now in
    let mid = c.take_part-part.new.parts in
    let next' = c.set.new.self in
    let plant_part = c.make_pair_steps-run.new.plant_part in
    let controller_part = c.make_pair_steps-run.new.controller_part in
    let count = count_of_parts design next c.requires.next in
    let plant_in : plant < length next = (let inside = is_pair.plant in omega (arith, inside, count)) in
    let controller_in : controller < length next = (let inside = is_pair.controller in omega (arith, inside, count)) in
    let taken = c.take_part-part.ensures in
    let put = c.set.ensures in
    let second =
    stands next mid pair c.take_part-part.result c.index_mut-2.result.now taken is_pair.two controller_in
    c.index_mut-2.ensures.value in
    -- the stages
    let stages = c.args.stages.now.items in
    let mid_s = c.take_stage-stage.new.stages.items in
    let stages' = c.put_stage.new.stages.items in
    let plant_stage = c.make_pair_steps-run.new.plant_stage in
    let controller_stage = c.make_pair_steps-run.new.controller_stage in
    let count_s = count_of_stages design stages c.requires.stages in
    let plant_in_s : plant < length stages = (let inside = is_pair.plant in omega (arith, inside, count_s)) in
    let controller_in_s : controller < length stages =
    (let inside = is_pair.controller in omega (arith, inside, count_s)) in
    let taken_s = c.take_stage-stage.ensures in
    let put_s = c.put_stage.ensures in
    let second_s =
    stands stages mid_s pair c.take_stage-stage.result c.index_mut.result.now taken_s is_pair.two controller_in_s
    c.index_mut.ensures.value in
    let first_side = c.paired.result in
    let second_side = c.paired-2.result in
    record {
      run =
          OnOk-weaker c.make_pair_steps-run.result
          (AreSidesRun round first_side second_side plant_stage controller_stage plant_part controller_part)
          (IsRun round (frames_of parts) next' stages' pair)
          (pair_is_run round parts next' stages' pair first_side second_side plant_stage controller_stage plant_part
          controller_part c.paired.ensures c.paired-2.ensures
          (back_first next mid next' plant controller c.take_part-part.result plant_part controller_part taken put
          is_pair.two plant_in controller_in)
          (back_second next mid next' plant controller c.take_part-part.result plant_part controller_part taken put
          is_pair.two plant_in controller_in)
          (back_first stages mid_s stages' plant controller c.take_stage-stage.result plant_stage controller_stage
          taken_s put_s is_pair.two plant_in_s controller_in_s)
          (back_second stages mid_s stages' plant controller c.take_stage-stage.result plant_stage controller_stage
          taken_s put_s is_pair.two plant_in_s controller_in_s))
          c.make_pair_steps-run.ensures.run;
      others =
          OnOk-always c.make_pair_steps-run.result (StayBeside plant controller next next' stages stages')
          (record {
            parts_stay =
                back_other next mid next' plant controller c.take_part-part.result plant_part controller_part taken put
                is_pair.two plant_in controller_in;
            rows_stay = λ k not_plant not_controller.
                slice_get-map (λ (s : Stage). s.rows) stages' k
                ∙ ap (option_map (λ (s : Stage). s.rows))
                (back_other stages mid_s stages' plant controller c.take_stage-stage.result plant_stage
                controller_stage taken_s put_s is_pair.two plant_in_s controller_in_s k not_plant
                not_controller)
                ∙ sym (slice_get-map (λ (s : Stage). s.rows) stages k);
          });
      parts =
          seen_back next mid next' plant controller c.take_part-part.result plant_part controller_part taken put
          is_pair.two plant_in controller_in part_size c.index_mut-2.result.now second
          c.make_pair_steps-run.ensures.plant_part c.make_pair_steps-run.ensures.controller_part;
      stages =
          seen_back stages mid_s stages' plant controller c.take_stage-stage.result plant_stage controller_stage taken_s
          put_s is_pair.two plant_in_s controller_in_s stage_size c.index_mut.result.now second_s
          c.make_pair_steps-run.ensures.plant_stage c.make_pair_steps-run.ensures.controller_stage;
    }
