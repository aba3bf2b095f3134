use Rattle.std.proofs.Common.{◌≡◌, ℕ, true, arith}
use Rattle.node_threads.specs.proof.SharedCourses.{IsOpen, IsDone}
use Rattle.node_threads.specs.proof.Sleepers.{slot_at}
use Rattle.node_threads.proofs.ThreadSlotLists.{one_more}
use Rattle.node_threads.proofs.sleepers.Sleepers.caller_is_over.Goals as goal

pub loop-number-preserved : goal.loop-number-preserved
loop-number-preserved c =
    one_more (λ (k : ℕ). IsOpen c.args.course.now k → (slot_at c.args.self.now.threads k).of_caller ≡ true
    → IsDone c.args.course.now k) c.loop-number.number c.loop-number.invariant
    (c.is_over.ensures c.if-not-is_over.false)

pub returns : goal.returns
returns c =
    λ all node is_open own. c.loop-number.invariant node (let within = is_open.within in omega arith) is_open own
