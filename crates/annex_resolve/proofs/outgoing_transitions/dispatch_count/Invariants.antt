use Rattle.std.proofs.Common.{◌≡◌, ◌+◌, ◌≤◌, drop, nat_eq}
use Rattle.std.specs.Prelude.{filter}
use Rattle.pals_base.specs.BehaviourRules.{dispatch_count}
use Rattle.annex_resolve.proofs.outgoing_transitions.dispatch_count.Given as goal

-- the count so far, and the matching transitions among the remaining ones
abbrev pub invariant-loop-transition : goal.invariant-loop-transition
invariant-loop-transition l =
    (l.count ≤ l.transition-index)
    × (l.count + dispatch_count (filter (λ e. nat_eq e.source l.state) (drop l.transition-index l.transitions))
    ≡ dispatch_count (filter (λ e. nat_eq e.source l.state) l.transitions))
