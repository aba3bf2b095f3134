-- The types of expressions, and their violations. `None` is a type other than Integer and Boolean; it fits
-- everywhere.
use Rattle.std.specs.Prelude.{ℕ, Bool, true, false, not, ◌&&◌, List, [], ◌∷◌, ◌++◌, codes, Option, Some, None}
use Rattle.std.specs.Prelude.{if◌then◌else◌}
use Rattle.std.specs.Option.{option_and_then, is_some}
use Rattle.pals_base.specs.declared.behaviour.Kind.{Kind}
use Rattle.pals_base.specs.declared.behaviour.Kind.TheVariants.{Integer, Boolean}
use Rattle.aadl_tree.specs.declared.expressions.RelationOperator.{RelationOperator}
use Rattle.aadl_tree.specs.Names.{Identifier, Reference, same_name}
use Rattle.aadl_tree.specs.Expressions.{LeadingSign, Primary, number, truth, named, group, Factor, absolute, negated}
use Rattle.aadl_tree.specs.Expressions.{bare, Term, term, Factors, no_factors, factor, Sum, total, Terms, no_terms, add}
use Rattle.aadl_tree.specs.Expressions.{Relation, single, compared, Expression, expression, Relations, no_relations}
use Rattle.aadl_tree.specs.Expressions.{join}
use Rattle.aadl_tree.specs.ExpressionOffsets.{primary_at, factor_at, term_at, sum_at, relation_at, expression_at}
use Rattle.annex_resolve.specs.declared.scope.Scope.{Scope}
use Rattle.annex_resolve.specs.declared.scope.DeclaredName.{DeclaredName}
use Rattle.annex_resolve.specs.declared.violation.Violation.{Violation}
use Rattle.annex_resolve.specs.declared.violation.TheConstants.{BAD_TYPE}
use Rattle.annex_resolve.specs.NameMeanings.{entry_named, kind_of, read_of}
use Rattle.annex_resolve.specs.FindingRecords.{found_if}
use Rattle.aadl_tree.specs.declared.expressions.RelationOperator.TheVariants as compare

-- ---- names of types
abbrev pub is_base_types : List (Identifier ℕ) → Bool
is_base_types (x ∷ []) = same_name x.spelling (codes "Base_Types")
is_base_types _ = false

abbrev pub is_base_type : List ℕ → Reference ℕ → Bool
is_base_type name x =
    is_base_types x.qualifiers && same_name x.type_name.spelling name && not (is_some x.implementation)

-- `Base_Types::Integer` and `Base_Types::Boolean`
abbrev pub kind_named : Reference ℕ → Option Kind
kind_named x =
    if is_base_type (codes "Integer") x then Some Integer
    else if is_base_type (codes "Boolean") x then Some Boolean
    else None

abbrev pub kind_in : Option (Reference ℕ) → Option Kind
kind_in x = option_and_then kind_named x

-- ---- types that fit
abbrev pub is_boolean : Kind → Bool
is_boolean Integer = false
is_boolean Boolean = true

abbrev pub same_kind : Kind → Kind → Bool
same_kind Integer k = not (is_boolean k)
same_kind Boolean k = is_boolean k

abbrev pub fits : Option Kind → Option Kind → Bool
fits None wanted = true
fits (Some k) None = true
fits (Some k) (Some w) = same_kind k w

-- the violation of an expected type
abbrev pub misfit : ℕ → Option Kind → Option Kind → List Violation
misfit at wanted given = found_if (not (fits given wanted)) at BAD_TYPE []

-- the meaning of a name in an expression has a value
abbrev pub unread : Scope → Identifier ℕ → Bool → List Violation
unread scope x fresh = found_if (not (is_some (read_of fresh (entry_named scope x.spelling)))) x.at BAD_TYPE []

-- whether a port is fresh is a Boolean
abbrev pub read_kind : Bool → Option DeclaredName → Option Kind
read_kind true e = Some Boolean
read_kind false e = kind_of e

abbrev pub is_equality : RelationOperator → Bool
is_equality compare.Equal = true
is_equality compare.NotEqual = true
is_equality compare.Less = false
is_equality compare.LessOrEqual = false
is_equality compare.Greater = false
is_equality compare.GreaterOrEqual = false

abbrev pub sum_kind : Option (LeadingSign ℕ) → Terms ℕ → Option Kind → Option Kind
sum_kind None no_terms first = first
sum_kind None (add sign x rest) first = Some Integer
sum_kind (Some sign) rest first = Some Integer

abbrev pub sum_misfit : Option (LeadingSign ℕ) → Terms ℕ → ℕ → Option Kind → List Violation
sum_misfit None no_terms at first = []
sum_misfit None (add sign x rest) at first = misfit at (Some Integer) first
sum_misfit (Some sign) rest at first = misfit at (Some Integer) first

-- both sides of a comparison: for equality, the right side has the type of the left one; else both are numbers
abbrev pub sides_misfit : RelationOperator → ℕ → ℕ → Option Kind → Option Kind → List Violation
sides_misfit operator at to left right =
    if is_equality operator then misfit to left right else misfit at (Some Integer) left
    ++ misfit to (Some Integer) right

-- ---- an expression's own type
unfoldable mutual
  pub primary_kind : Scope → Primary ℕ → Option Kind
  primary_kind scope (number at n) = Some Integer
  primary_kind scope (truth at b) = Some Boolean
  primary_kind scope (named x fresh) = read_kind fresh (entry_named scope x.spelling)
  primary_kind scope (group at e) = expression_kind scope e

  pub factor_kind : Scope → Factor ℕ → Option Kind
  factor_kind scope (absolute at x) = Some Integer
  factor_kind scope (negated at x) = Some Boolean
  factor_kind scope (bare x) = primary_kind scope x

  pub term_kind : Scope → Term ℕ → Option Kind
  term_kind scope (term first no_factors) = factor_kind scope first
  term_kind scope (term first (factor operator x rest)) = Some Integer

  pub total_kind : Scope → Sum ℕ → Option Kind
  total_kind scope (total sign first rest) = sum_kind sign rest (term_kind scope first)

  pub relation_kind : Scope → Relation ℕ → Option Kind
  relation_kind scope (single x) = total_kind scope x
  relation_kind scope (compared x operator y) = Some Boolean

  pub expression_kind : Scope → Expression ℕ → Option Kind
  expression_kind scope (expression first no_relations) = relation_kind scope first
  expression_kind scope (expression first (join operator x rest)) = Some Boolean

-- ---- operands of a wrong type, each at its first token
unfoldable mutual
  pub primary_types : Scope → Primary ℕ → List Violation
  primary_types scope (number at n) = []
  primary_types scope (truth at b) = []
  primary_types scope (named x fresh) = unread scope x fresh
  primary_types scope (group at e) = expression_types scope e

  pub factor_types : Scope → Factor ℕ → List Violation
  factor_types scope (absolute at x) =
      primary_types scope x ++ misfit (primary_at x) (Some Integer) (primary_kind scope x)
  factor_types scope (negated at x) =
      primary_types scope x ++ misfit (primary_at x) (Some Boolean) (primary_kind scope x)
  factor_types scope (bare x) = primary_types scope x

  pub term_types : Scope → Term ℕ → List Violation
  term_types scope (term first no_factors) = factor_types scope first
  term_types scope (term first (factor operator x rest)) =
      factor_types scope first ++ misfit (factor_at first) (Some Integer) (factor_kind scope first)
      ++ factors_types scope (factor operator x rest)

  pub factors_types : Scope → Factors ℕ → List Violation
  factors_types scope no_factors = []
  factors_types scope (factor operator x rest) =
      (factor_types scope x ++ misfit (factor_at x) (Some Integer) (factor_kind scope x)) ++ factors_types scope rest

  pub sum_types : Scope → Sum ℕ → List Violation
  sum_types scope (total sign first rest) =
      term_types scope first ++ sum_misfit sign rest (term_at first) (term_kind scope first) ++ terms_types scope rest

  pub terms_types : Scope → Terms ℕ → List Violation
  terms_types scope no_terms = []
  terms_types scope (add sign x rest) =
      (term_types scope x ++ misfit (term_at x) (Some Integer) (term_kind scope x)) ++ terms_types scope rest

  pub relation_types : Scope → Relation ℕ → List Violation
  relation_types scope (single x) = sum_types scope x
  relation_types scope (compared x operator y) =
      sum_types scope x ++ sum_types scope y
      ++ sides_misfit operator (sum_at x) (sum_at y) (total_kind scope x) (total_kind scope y)

  pub expression_types : Scope → Expression ℕ → List Violation
  expression_types scope (expression first no_relations) = relation_types scope first
  expression_types scope (expression first (join operator x rest)) =
      relation_types scope first ++ misfit (relation_at first) (Some Boolean) (relation_kind scope first)
      ++ relations_types scope (join operator x rest)

  pub relations_types : Scope → Relations ℕ → List Violation
  relations_types scope no_relations = []
  relations_types scope (join operator x rest) =
      (relation_types scope x ++ misfit (relation_at x) (Some Boolean) (relation_kind scope x))
      ++ relations_types scope rest

-- a whole expression with an expected type
abbrev pub whole_types : Scope → Option Kind → Expression ℕ → List Violation
whole_types scope wanted e = expression_types scope e ++ misfit (expression_at e) wanted (expression_kind scope e)
