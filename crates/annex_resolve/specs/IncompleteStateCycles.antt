-- Cycles of states that are not complete.
use Rattle.std.specs.Prelude.{ℕ, zero, suc, nat_eq, Bool, not, ◌&&◌, ◌||◌, length}
use Rattle.std.specs.List.{list_any}
use Rattle.pals_base.specs.declared.behaviour.BehaviourParts.{BehaviourParts}
use Rattle.pals_base.specs.SingleStep.{is_complete, leaving}

-- a transition leads from a state that is not complete to another state
abbrev pub leads : BehaviourParts → ℕ → ℕ → Bool
leads b s t = not (is_complete b s) && list_any (λ e. nat_eq e.target t) (leaving b s)

-- a path of one or more such transitions, whose inner states are below k
abbrev pub reaches : ℕ → BehaviourParts → ℕ → ℕ → Bool
reaches zero b s t = leads b s t
reaches (suc k) b s t = reaches k b s t || (reaches k b s k && reaches k b k t)

abbrev pub is_on_cycle : BehaviourParts → ℕ → Bool
is_on_cycle b s = reaches (length b.states) b s s
