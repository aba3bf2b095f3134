use Rattle.std.proofs.Common.{◌≡◌, map}
use Rattle.pals_base.specs.proof.CycleSearchMarks.{settles_next}
use Rattle.pals_base.specs.UpwardNumbers.{upwards}
use Rattle.pals_base.proofs.behaviour_rules.states.settled_next.Given as goal

-- the marks so far
abbrev pub invariant-loop-state : goal.invariant-loop-state
invariant-loop-state l = l.next.items ≡ map (settles_next l.parts l.marks) (upwards 0 l.state)
