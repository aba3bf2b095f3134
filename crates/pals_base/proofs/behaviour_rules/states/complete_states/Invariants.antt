use Rattle.std.proofs.Common.{◌≡◌, map}
use Rattle.pals_base.specs.SingleStep.{is_complete}
use Rattle.pals_base.specs.UpwardNumbers.{upwards}
use Rattle.pals_base.proofs.behaviour_rules.states.complete_states.Given as goal

-- the marks so far
abbrev pub invariant-loop-state : goal.invariant-loop-state
invariant-loop-state l = l.marks.items ≡ map (is_complete l.parts) (upwards 0 l.state)
