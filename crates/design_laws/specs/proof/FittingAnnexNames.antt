-- Facts about the names of an annex before its rules are checked: each denotes an item of its type.
use Rattle.std.specs.Prelude.{◌≡◌, ℕ, ◌+◌, ◌<◌, ◌≤◌, nat_lt, Bool, ◌&&◌, List, length, Option, Some, slice_get, IsTrue}
use Rattle.std.specs.List.{list_all}
use Rattle.pals_base.specs.declared.behaviour.Kind.{Kind}
use Rattle.pals_base.specs.declared.behaviour.Kind.TheVariants.{Integer}
use Rattle.pals_base.specs.declared.behaviour.PortDecl.{PortDecl}
use Rattle.pals_base.specs.declared.behaviour.VarDecl.{VarDecl}
use Rattle.pals_base.specs.declared.behaviour.BehaviourParts.{BehaviourParts}
use Rattle.pals_base.specs.BehaviourRules.{HasNames, has_first}
use Rattle.aadl_tree.specs.Annexes.{Transition, AnnexTree}
use Rattle.annex_resolve.specs.declared.ports_and_variables.DeclaredValues.{DeclaredValues}
use Rattle.annex_resolve.specs.declared.scope.Scope.{Scope}
use Rattle.annex_resolve.specs.declared.scope.DeclaredName.{DeclaredName}
use Rattle.annex_resolve.specs.declared.scope.Meaning.{Meaning}
use Rattle.annex_resolve.specs.declared.scope.Meaning.TheVariants.{InPort, OutPort, Variable, LoopVariable}
use Rattle.annex_resolve.specs.declared.states.StateAt.{StateAt}
use Rattle.annex_resolve.specs.NameMeanings.{entry_named}
use Rattle.annex_resolve.specs.BehavioursAndFindings.{state_number, states_of, transitions_of, behaviour_of}

-- ---- the item that a name denotes exists, and has the name's type
abbrev pub FitsPort : Option PortDecl → Option Kind → Type 0
FitsPort port kind = (p : PortDecl) × (port ≡ Some p) × (kind ≡ Some p.kind)

abbrev pub FitsVariable : Option VarDecl → Option Kind → Type 0
FitsVariable variable kind = (v : VarDecl) × (variable ≡ Some v) × (kind ≡ Some v.kind)

abbrev pub FitsMeaning : BehaviourParts → ℕ → Meaning → Option Kind → Type 0
FitsMeaning b loops (InPort n) kind = FitsPort (slice_get b.ins n) kind
FitsMeaning b loops (OutPort n) kind = FitsPort (slice_get b.outs n) kind
FitsMeaning b loops (Variable n) kind = FitsVariable (slice_get b.vars n) kind
FitsMeaning b loops (LoopVariable n) kind = (length b.vars ≤ n) × (n < length b.vars + loops) × (kind ≡ Some Integer)

-- so does each name of a scope, within `loops` loops; the variable of the next loop has the number after all others
pub record FitsScope (b : BehaviourParts) (loops : ℕ) (scope : Scope) : Type 0 where
  pub entries : (name : List ℕ) (e : DeclaredName) → entry_named scope name ≡ Some e
      → FitsMeaning b loops e.meaning e.kind
  pub next : scope.next ≡ length b.vars + loops

-- ---- the states of a transition are declared
abbrev pub is_declared : List StateAt → Transition ℕ → Bool
is_declared states t =
    nat_lt (state_number states t.source.spelling) (length states)
    && nat_lt (state_number states t.target.spelling) (length states)

-- ---- the whole
pub record IsReady (values : DeclaredValues) (scope : Scope) (annex : AnnexTree ℕ) : Type 0 where
  -- names are distinct words
  pub names : HasNames (behaviour_of values scope annex)
  -- initial values fit the types of their variables
  pub firsts : IsTrue (list_all has_first values.vars)
  pub fits : FitsScope (behaviour_of values scope annex) 0 scope
  pub states : IsTrue (list_all (is_declared (states_of annex)) (transitions_of annex))
