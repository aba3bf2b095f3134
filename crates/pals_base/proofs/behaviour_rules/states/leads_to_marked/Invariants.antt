use Rattle.std.proofs.Common.{◌≡◌, drop, nat_eq}
use Rattle.std.specs.Prelude.{filter}
use Rattle.std.specs.List.{list_all}
use Rattle.pals_base.specs.proof.CycleSearchMarks.{marked}
use Rattle.pals_base.proofs.behaviour_rules.states.leads_to_marked.Given as goal

-- all lead to marked states if and only if the remaining ones do
abbrev pub invariant-loop-transition : goal.invariant-loop-transition
invariant-loop-transition l =
    list_all (λ e. marked l.marks e.target)
    (filter (λ e. nat_eq e.source l.state) (drop l.transition-index l.transitions))
    ≡ list_all (λ e. marked l.marks e.target) (filter (λ e. nat_eq e.source l.state) l.transitions)
