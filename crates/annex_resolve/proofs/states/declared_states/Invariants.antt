use Rattle.std.proofs.Common.{◌≡◌, map, take}
use Rattle.annex_resolve.specs.BehavioursAndFindings.{declared}
use Rattle.annex_resolve.proofs.states.declared_states.Given as goal

abbrev pub invariant-loop-state : goal.invariant-loop-state
invariant-loop-state l = l.all ≡ map declared (take l.state-index l.states)
