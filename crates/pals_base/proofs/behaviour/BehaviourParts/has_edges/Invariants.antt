use Rattle.std.proofs.Common.{◌≡◌, drop}
use Rattle.std.specs.List.{list_all}
use Rattle.pals_base.specs.BehaviourRules.{is_edge}
use Rattle.pals_base.proofs.behaviour.BehaviourParts.has_edges.Given as goal

-- all are well formed if and only if the remaining ones are
abbrev pub invariant-loop-transition : goal.invariant-loop-transition
invariant-loop-transition l =
    list_all (is_edge l.self) (drop l.transition-index l.self.transitions)
    ≡ list_all (is_edge l.self) l.self.transitions
