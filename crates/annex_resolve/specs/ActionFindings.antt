-- The violations of actions: wrong types, and loops that are too long.
use Rattle.std.specs.Prelude.{ℕ, ◌+◌, ◌*◌, min, Bool, false, not, ◌&&◌, nat_le, List, [], ◌++◌, Option, Some, None}
use Rattle.pals_base.specs.declared.behaviour.Kind.{Kind}
use Rattle.pals_base.specs.declared.behaviour.Kind.TheVariants.{Boolean}
use Rattle.pals_base.specs.declared.limits.TheConstants.{TURNS, NESTED_TURNS}
use Rattle.aadl_tree.specs.declared.actions.Bound.{Bound}
use Rattle.aadl_tree.specs.Names.{Identifier}
use Rattle.aadl_tree.specs.Expressions.{Expression}
use Rattle.aadl_tree.specs.Actions.{Action, assign, send, choose, loop, Actions, actions, Mores, no_mores, more, Elsifs}
use Rattle.aadl_tree.specs.Actions.{no_elsifs, elsif, Otherwise, no_otherwise, otherwise, Block, no_block, block}
use Rattle.annex_resolve.specs.declared.scope.Scope.{Scope}
use Rattle.annex_resolve.specs.declared.scope.DeclaredName.{DeclaredName}
use Rattle.annex_resolve.specs.declared.violation.Violation.{Violation}
use Rattle.annex_resolve.specs.declared.violation.TheConstants.{BAD_TYPE, LOOP_TOO_LONG}
use Rattle.annex_resolve.specs.NameMeanings.{entry_named, kind_of, may_set, may_send, with_loop}
use Rattle.annex_resolve.specs.FindingRecords.{found_if}
use Rattle.annex_resolve.specs.ExpressionTypesAndFindings.{whole_types, is_boolean, kind_named}
use Rattle.annex_resolve.specs.ResolvedTrees.{bound_value}
use Rattle.pals_base.specs.TypingRules as base

-- ---- loops
abbrev pub turns : Bound → Bound → ℕ
turns low high = base.turns (bound_value low) (bound_value high)

-- the iterations of a loop multiplied with the enclosing loops, up to one more than the limit
abbrev pub turns_with_outer : ℕ → ℕ → ℕ
turns_with_outer around count = min (around * count) (NESTED_TURNS + 1)

abbrev pub is_too_long : ℕ → ℕ → Bool
is_too_long around count = not (nat_le count TURNS && nat_le (turns_with_outer around count) NESTED_TURNS)

-- a loop variable is an Integer
abbrev pub is_integer : Option Kind → Bool
is_integer None = false
is_integer (Some k) = not (is_boolean k)

-- ---- a name that is assigned or sent, and its value
abbrev pub given_types : Scope → (Option DeclaredName → Bool) → Identifier ℕ → Expression ℕ → List Violation
given_types scope may x e =
    found_if (not (may (entry_named scope x.spelling))) x.at BAD_TYPE []
    ++ whole_types scope (kind_of (entry_named scope x.spelling)) e

-- the violations of actions, within loops with `around` iterations
unfoldable mutual
  pub action_findings : Scope → ℕ → Action ℕ → List Violation
  action_findings scope around (assign x e) = given_types scope may_set x e
  action_findings scope around (send x e) = given_types scope may_send x e
  action_findings scope around (choose test a es o) =
      (whole_types scope (Some Boolean) test ++ actions_findings scope around a) ++ elsifs_findings scope around es
      ++ otherwise_findings scope around o
  action_findings scope around (loop at x type low high body) =
      found_if (not (is_integer (kind_named type))) at BAD_TYPE []
      ++ found_if (is_too_long around (turns low high)) at LOOP_TOO_LONG []
      ++ block_findings (with_loop scope x) (turns_with_outer around (turns low high)) body

  pub actions_findings : Scope → ℕ → Actions ℕ → List Violation
  actions_findings scope around (actions first rest) =
      action_findings scope around first ++ mores_findings scope around rest

  pub mores_findings : Scope → ℕ → Mores ℕ → List Violation
  mores_findings scope around no_mores = []
  mores_findings scope around (more a rest) = action_findings scope around a ++ mores_findings scope around rest

  pub elsifs_findings : Scope → ℕ → Elsifs ℕ → List Violation
  elsifs_findings scope around no_elsifs = []
  elsifs_findings scope around (elsif test a rest) =
      (whole_types scope (Some Boolean) test ++ actions_findings scope around a) ++ elsifs_findings scope around rest

  pub otherwise_findings : Scope → ℕ → Otherwise ℕ → List Violation
  otherwise_findings scope around no_otherwise = []
  otherwise_findings scope around (otherwise a) = actions_findings scope around a

  pub block_findings : Scope → ℕ → Block ℕ → List Violation
  block_findings scope around no_block = []
  block_findings scope around (block a) = actions_findings scope around a

-- a test, and the actions if it is true
abbrev pub branch_findings : Scope → ℕ → Expression ℕ → Actions ℕ → List Violation
branch_findings scope around test a = whole_types scope (Some Boolean) test ++ actions_findings scope around a
