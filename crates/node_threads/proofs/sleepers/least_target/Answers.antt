use Rattle.std.proofs.Common.{ℕ, ◌≤◌, ◌≡◌, Option, Some, ◌∙◌, subst, arith}
use Rattle.std.specs.Prelude.{IfSome}
use Rattle.run_laws.specs.Runs.{target_of}
use Rattle.node_threads.proofs.ThreadSlotLists.{one_more}
use Rattle.node_threads.proofs.sleepers.least_target.Goals as goal

pub loop-number-preserved : goal.loop-number-preserved
loop-number-preserved c = λ other least below is.
    one_more (λ (k : ℕ). (goal : ℕ) → target_of c.args.course.now.bus.run c.args.course.now.bus.state k ≡ Some goal
    → c.lesser-least.result ≤ goal) c.loop-number.number
    (λ k before goal at. let here = c.loop-number.invariant k goal before at in let less = c.lesser-least.ensures.one in
    omega arith)
    (λ goal at. subst (λ (o : Option ℕ). IfSome o (λ t. c.lesser-least.result ≤ t))
    (c.target.ensures (omega arith) ∙ at) c.lesser-least.ensures.other)
    other below least is
