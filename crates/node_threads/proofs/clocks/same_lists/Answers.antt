use Rattle.std.proofs.Common.{◌≡◌, ◌≤◌, length, arith}
use Rattle.std.proofs.lemmas.Grind.{common_steps}
use Rattle.node_threads.proofs.CourseOpenings.{all_same}
use Rattle.node_threads.proofs.clocks.same_lists.Goals as goal

pub returns : goal.returns
returns c = λ is.
    let size : length c.args.left.now ≡ length c.args.right.now = grind (arith, common_steps) in
    let past : length c.args.left.now ≤ c.loop-place.place = grind (arith, common_steps) in
    all_same c.args.left.now c.args.right.now size (λ k below. c.loop-place.invariant k (omega arith))
