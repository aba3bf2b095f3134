-- The rules of a behaviour.
use Rattle.std.specs.Prelude.{◌≡◌, ◌≢◌, ◌++◌, map, AllPairs, ℕ, zero, suc, nat_eq, nat_lt, Bool, true, false, ◌&&◌}
use Rattle.std.specs.Prelude.{if◌then◌else◌, List, length, fold, filter, IsTrue, slice_get}
use Rattle.std.specs.List.{list_all, Contains}
use Rattle.pals_base.specs.declared.behaviour.BehaviourParts.{BehaviourParts}
use Rattle.pals_base.specs.declared.behaviour.StateDecl.{StateDecl}
use Rattle.pals_base.specs.declared.behaviour.VarDecl.{VarDecl}
use Rattle.pals_base.specs.declared.behaviour.PortDecl.{PortDecl}
use Rattle.pals_base.specs.Names.{is_word, AreDistinct}
use Rattle.pals_base.specs.ExpressionAndActionTrees.{Edge, Trigger, Dispatch, Always, When}
use Rattle.pals_base.specs.TypingRules.{allows, literal_kinds, kinds_of, are_sound}
use Rattle.pals_base.specs.SingleStep.{may_begin, is_complete, is_dispatch, leaving}
use Rattle.pals_base.specs.UpwardNumbers.{upwards}

-- ---- names
-- the names of a thread's ports and variables
abbrev pub value_names : BehaviourParts → List (List ℕ)
value_names b =
    map (λ (port : PortDecl). port.name) b.ins ++ map (λ (port : PortDecl). port.name) b.outs
    ++ map (λ (v : VarDecl). v.name) b.vars

abbrev pub has_word : StateDecl → Bool
has_word s = is_word s.name

-- the names of ports, variables and states are words; the names of a thread's ports and variables are distinct, and
-- so are the names of its states
pub record HasNames (b : BehaviourParts) : Type 0 where
  pub values : IsTrue (list_all is_word (value_names b))
  pub values_differ : AreDistinct (value_names b)
  pub states : IsTrue (list_all has_word b.states)
  pub states_differ : AllPairs (λ s t. s.name ≢ t.name) b.states

-- ---- values
-- a variable's initial value fits its type
abbrev pub has_first : VarDecl → Bool
has_first v = allows (literal_kinds v.first) v.kind

-- ---- transitions
abbrev pub has_condition : BehaviourParts → Trigger → Bool
has_condition b Dispatch = true
has_condition b Always = true
has_condition b (When e) = (kinds_of e b 0).boolean

-- the source and the target of a transition are declared, its guard and actions are well typed, and its loops are
-- short
abbrev pub is_edge : BehaviourParts → Edge → Bool
is_edge b e =
    nat_lt e.source (length b.states) && nat_lt e.target (length b.states) && has_condition b e.trigger
    && are_sound e.actions b 0 1

-- ---- states
abbrev pub dispatch_count : List Edge → ℕ
dispatch_count edges = length (filter (λ e. is_dispatch e.trigger) edges)

abbrev pub is_always : Trigger → Bool
is_always Dispatch = false
is_always Always = true
is_always (When e) = false

-- whether there are transitions and the last of them has no guard
abbrev pub ends_unguarded : List Edge → Bool
ends_unguarded edges = fold (λ before e. is_always e.trigger) false edges

-- exactly one transition leaves a complete state, at the dispatch; no transition at the dispatch leaves another
-- state, and a step can always proceed from there
abbrev pub has_ways : BehaviourParts → ℕ → Bool
has_ways b s =
    if is_complete b s then nat_eq (dispatch_count (leaving b s)) 1
    else nat_eq (dispatch_count (leaving b s)) 0 && ends_unguarded (leaving b s)

-- a path of n transitions from one state to another, each of which leaves a state that is not complete
abbrev pub IsWay : BehaviourParts → ℕ → ℕ → ℕ → Type 0
IsWay b zero s t = s ≡ t
IsWay b (suc n) s t = (is_complete b s ≡ false) × ((e : Edge) × Contains (leaving b s) e × IsWay b n e.target t)

-- no path through states that are not complete returns to its first state
unfoldable pub IsAcyclic : BehaviourParts → Type 0
IsAcyclic b = (s n : ℕ) → IsWay b (suc n) s s → ⊥

-- ---- the whole
pub record IsBehaviour (b : BehaviourParts) : Type 0 where
  pub names : HasNames b
  pub firsts : IsTrue (list_all has_first b.vars)
  pub initial : IsTrue (may_begin (slice_get b.states b.initial))
  pub edges : IsTrue (list_all (is_edge b) b.transitions)
  pub ways : IsTrue (list_all (has_ways b) (upwards 0 (length b.states)))
  -- so each step ends
  pub acyclic : IsAcyclic b
