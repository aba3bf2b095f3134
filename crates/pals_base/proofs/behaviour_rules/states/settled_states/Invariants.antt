use Rattle.std.proofs.Common.{◌≡◌, length, map}
use Rattle.pals_base.specs.proof.CycleSearchMarks.{settles}
use Rattle.pals_base.specs.UpwardNumbers.{upwards}
use Rattle.pals_base.proofs.behaviour_rules.states.settled_states.Given as goal

-- the marks after `_round` iterations
abbrev pub invariant-loop-round : goal.invariant-loop-round
invariant-loop-round l = l.marks.items ≡ map (settles l._round l.parts) (upwards 0 (length l.parts.states))
