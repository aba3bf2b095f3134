use Rattle.std.proofs.Common.{◌≡◌, ◌-◌, ◌+◌, subst, arith}
use Rattle.step_code.specs.CappedWeights.{AreBest}
use Rattle.step_code.proofs.CappedWeights.{set_best}
use Rattle.step_code.proofs.weights.best_weights.Goals as goal

pub loop-place-preserved : goal.loop-place-preserved
loop-place-preserved c =
    let known = c.loop-place.invariant.known in
    let below = c.loop-place.invariant.below in
    let some = c.loop-place-test.true in
    let place : c.loop-place.place ≡ c.loop-place.place - 1 + 1 = omega arith in
    record {
      known =
          set_best c.args.parts.now (c.loop-place.place - 1) c.loop-place.best.items c.best_at.result
          (subst (λ p. AreBest c.args.parts.now.instrs p c.loop-place.best.items) place known) (omega arith)
          c.best_at.ensures;
      below = omega arith;
    }
