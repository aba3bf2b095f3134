use Rattle.std.proofs.Common.{◌≡◌, take}
use Rattle.sync_product.specs.proof.ProductSizes.{frame_size, frame_size_of, stage_size}
use Rattle.plant_fuse.specs.proof.PairSteps.{member_of_pair, work, AreMade}
use Rattle.plant_fuse.proofs.pair_steps.make_steps.Given as goal

-- the first steps of both are made
abbrev pub invariant-loop-step : goal.invariant-loop-step
invariant-loop-step l = record {
  made :
      AreMade l.round (member_of_pair l.fused.plant) (member_of_pair l.fused.controller) l.step
      (work l.fn.plant_frame (take l.step l.plant_stage.rows) l.plant_frame)
      (work l.fn.controller_frame (take l.step l.controller_stage.rows) l.controller_frame);
  plant_room : stage_size l.plant_stage ≡ stage_size l.fn.plant_stage;
  controller_room : stage_size l.controller_stage ≡ stage_size l.fn.controller_stage;
  plant_size : frame_size l.plant_frame ≡ frame_size_of l.fused.plant.wired.component.now;
  controller_size : frame_size l.controller_frame ≡ frame_size_of l.fused.controller.wired.component.now;
}
