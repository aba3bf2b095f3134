use Rattle.std.proofs.Common.{◌≡◌, ◌-◌, length}
use Rattle.std.specs.List.{list_all}
use Rattle.pals_base.specs.BehaviourRules.{has_ways}
use Rattle.pals_base.specs.UpwardNumbers.{upwards}
use Rattle.pals_base.proofs.behaviour.BehaviourParts.has_ways.Given as goal

-- all satisfy the rule if and only if the remaining ones do
abbrev pub invariant-loop-state : goal.invariant-loop-state
invariant-loop-state l =
    list_all (has_ways l.self) (upwards l.state (length l.self.states - l.state))
    ≡ list_all (has_ways l.self) (upwards 0 (length l.self.states))
