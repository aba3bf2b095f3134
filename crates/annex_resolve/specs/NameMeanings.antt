-- The meanings of names in a behaviour, when they are read, assigned or sent.
use Rattle.std.specs.Prelude.{ℕ, ◌+◌, pos, Bool, true, false, List, [], ◌∷◌, ◌++◌, Option, Some, None, find}
use Rattle.pals_base.specs.declared.behaviour.Kind.{Kind}
use Rattle.pals_base.specs.declared.behaviour.Kind.TheVariants.{Integer}
use Rattle.aadl_tree.specs.Names.{Identifier, same_name}
use Rattle.annex_resolve.specs.declared.scope.Meaning.{Meaning}
use Rattle.annex_resolve.specs.declared.scope.Meaning.TheVariants.{InPort, OutPort, Variable, LoopVariable}
use Rattle.annex_resolve.specs.declared.scope.DeclaredName.{DeclaredName}
use Rattle.annex_resolve.specs.declared.scope.Scope.{Scope}
use Rattle.pals_base.specs.ExpressionAndActionTrees as plain

-- ---- names, which are compared without regard to case
-- the declaration of a name; of two declarations the first takes precedence
abbrev pub entry_named : Scope → List ℕ → Option DeclaredName
entry_named scope name = find (λ e. same_name e.name name) scope.entries

abbrev pub kind_of : Option DeclaredName → Option Kind
kind_of None = None
kind_of (Some e) = e.kind

-- Inside a loop, its variable is visible too: an integer, with the number after the numbers of all other variables.
abbrev pub with_loop : Scope → Identifier ℕ → Scope
with_loop scope x =
    record {
      entries =
          scope.entries ++ record { name = x.spelling; kind = Some Integer; meaning = LoopVariable scope.next } ∷ [];
      next = scope.next + 1;
    }

-- ---- reading
abbrev pub value_of : Meaning → Option plain.Expression
value_of (InPort n) = Some (plain.PortRead n)
value_of (OutPort n) = None
value_of (Variable n) = Some (plain.Variable n)
value_of (LoopVariable n) = Some (plain.Variable n)

-- whether an in port is fresh
abbrev pub freshness_of : Meaning → Option plain.Expression
freshness_of (InPort n) = Some (plain.Fresh n)
freshness_of (OutPort n) = None
freshness_of (Variable n) = None
freshness_of (LoopVariable n) = None

abbrev pub read_by : Bool → Meaning → Option plain.Expression
read_by true m = freshness_of m
read_by false m = value_of m

-- the expression that reads a name, if its meaning can be read
abbrev pub read_of : Bool → Option DeclaredName → Option plain.Expression
read_of fresh None = None
read_of fresh (Some e) = read_by fresh e.meaning

-- a name that cannot be read counts as 0
abbrev pub or_zero : Option plain.Expression → plain.Expression
or_zero None = plain.Literal (pos 0)
or_zero (Some e) = e

-- ---- assigning and sending
-- an assignment assigns a variable, or sends at an out port
abbrev pub sets : Meaning → Bool
sets (InPort n) = false
sets (OutPort n) = true
sets (Variable n) = true
sets (LoopVariable n) = false

abbrev pub sends : Meaning → Bool
sends (InPort n) = false
sends (OutPort n) = true
sends (Variable n) = false
sends (LoopVariable n) = false

abbrev pub may_set : Option DeclaredName → Bool
may_set None = false
may_set (Some e) = sets e.meaning

abbrev pub may_send : Option DeclaredName → Bool
may_send None = false
may_send (Some e) = sends e.meaning

abbrev pub nothing : plain.Action
nothing = plain.If plain.NoBranch plain.Nothing

-- the action for a value; it has no effect if the name cannot take a value
abbrev pub given : plain.Expression → Meaning → plain.Action
given e (InPort n) = nothing
given e (OutPort n) = plain.Emit n e
given e (Variable n) = plain.Assign n e
given e (LoopVariable n) = nothing

abbrev pub given_to : plain.Expression → Option DeclaredName → plain.Action
given_to e None = nothing
given_to e (Some entry) = given e entry.meaning
