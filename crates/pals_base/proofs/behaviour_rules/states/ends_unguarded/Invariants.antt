use Rattle.std.proofs.Common.{◌≡◌, drop, nat_eq}
use Rattle.std.specs.Prelude.{filter, fold}
use Rattle.pals_base.specs.BehaviourRules.{ends_unguarded, is_always}
use Rattle.pals_base.proofs.behaviour_rules.states.ends_unguarded.Given as goal

-- the last transition so far determines the result, unless a remaining one does
abbrev pub invariant-loop-transition : goal.invariant-loop-transition
invariant-loop-transition l =
    fold (λ before e. is_always e.trigger) l.unguarded
    (filter (λ e. nat_eq e.source l.state) (drop l.transition-index l.transitions))
    ≡ ends_unguarded (filter (λ e. nat_eq e.source l.state) l.transitions)
