use Rattle.std.proofs.Common.{◌≡◌, take, map}
use Rattle.pals_base.specs.StepSequences.{frame_after, outputs}
use Rattle.pals_base.specs.Tuples.{columns}
use Rattle.sync_product.specs.proof.Rounds.{brought}
use Rattle.sync_product.specs.proof.ProductSizes.{frame_size, frame_size_of, stage_size}
use Rattle.sync_product.proofs.component_stage.Stage.make_steps.Given as goal

-- the first steps are made
abbrev pub invariant-loop-step : goal.invariant-loop-step
invariant-loop-step l =
    let component = l.wired.component.now in
    let made = columns l.step (map (brought l.round component.rate) l.wired.sources.now) in
    record {
      frame : l.to ≡ frame_after component.behaviour l.from made;
      rows : take l.step l.self.rows ≡ outputs component.behaviour l.from made;
      to_size : frame_size l.to ≡ frame_size_of component;
      stage_size : stage_size l.self ≡ stage_size l.fn.self;
    }
