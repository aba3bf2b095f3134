use Rattle.std.proofs.Common.{◌∙◌, ◌+◌, ap, ◌++◌, take, drop, rules, arith, w64}
use Rattle.std.proofs.lemmas.Grind.{common_steps}
use Rattle.std.proofs.lemmas.Int.{to_z-of_z}
use mir.Val.{SFits}
use Rattle.pals_base.specs.SingleStep.{holding}
use Rattle.behaviour_sem.proofs.HeldInputs.{holding-set}
use Rattle.behaviour_sem.proofs.step.hold.Goals as goal

pub loop-at-preserved : goal.loop-at-preserved
loop-at-preserved c =
    let at = c.loop-at.at in
    let held = c.loop-at.held in
    let inputs = c.args.inputs.now in
    let before : SFits w64 c.index.result.now = search rules in
    let after : SFits w64 c.newest.result = search rules in
    let newest = simp to_z-of_z at c.newest.ensures in
    let set = simp to_z-of_z at c.set.ensures in
    record {
      len = grind (arith, common_steps);
      rest =
          ap (λ l. take (at + 1) l ++ holding (drop (at + 1) l) (drop (at + 1) inputs)) set
          ∙ holding-set at held inputs c.index.result.now c.newest.result (omega arith) c.index.ensures newest
          ∙ c.loop-at.invariant.rest;
    }
