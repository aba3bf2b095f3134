-- What it is for a transition of a behaviour to be an edge from one state to another.
use Rattle.std.proofs.Common.{◌≡◌, ◌<◌, true, ◌&&◌, length, nat_lt}
use Rattle.std.proofs.lemmas.Bool.{and_parts, ltb-true}
use Rattle.pals_base.specs.declared.behaviour.BehaviourParts.{BehaviourParts}
use Rattle.pals_base.specs.ExpressionAndActionTrees.{Edge}
use Rattle.pals_base.specs.TypingRules.{are_sound}
use Rattle.pals_base.specs.BehaviourRules.{has_condition, is_edge}

pub record HasEdge (b : BehaviourParts) (e : Edge) : Type 0 where
  pub source : e.source < length b.states
  pub target : e.target < length b.states
  pub condition : has_condition b e.trigger ≡ true
  pub sound : are_sound e.actions b 0 1 ≡ true

pub edge_has : (b : BehaviourParts) (e : Edge) → is_edge b e ≡ true → HasEdge b e
edge_has b e is =
    let source = nat_lt e.source (length b.states) in
    let target = nat_lt e.target (length b.states) in
    let condition = has_condition b e.trigger in
    let x = and_parts (source && target && condition) (are_sound e.actions b 0 1) is in
    let y = and_parts (source && target) condition x.0 in
    let z = and_parts source target y.0 in
    record {
      source = ltb-true e.source (length b.states) z.0;
      target = ltb-true e.target (length b.states) z.1;
      condition = y.1;
      sound = x.1;
    }
