use Rattle.std.proofs.Common.{◌≡◌, ◌++◌, take}
use Rattle.std.specs.Prelude.{flat_map}
use Rattle.std.specs.List.{enumerate_from}
use Rattle.annex_resolve.specs.BehavioursAndFindings.{state_rules}
use Rattle.annex_resolve.proofs.state_rules.add_states.Given as goal

abbrev pub invariant-loop-number : goal.invariant-loop-number
invariant-loop-number l =
    l.found ≡ l.fn.found
    ++ flat_map (state_rules l.graph.parts.now l.graph.legs.now l.graph.cyclic.now)
    (enumerate_from 0 (take l.number l.states))
