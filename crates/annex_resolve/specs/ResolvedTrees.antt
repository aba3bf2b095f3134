-- Expressions and actions with their names resolved to numbers.
use Rattle.std.specs.Prelude.{ℕ, ℤ, pos, ◌-ℤ◌, Bool, true, false, Option, Some, None, if◌then◌else◌}
use Rattle.pals_base.specs.declared.behaviour.Op.{Op}
use Rattle.aadl_tree.specs.declared.expressions.Sign.{Sign}
use Rattle.aadl_tree.specs.declared.expressions.LogicOperator.{LogicOperator}
use Rattle.aadl_tree.specs.declared.expressions.RelationOperator.{RelationOperator}
use Rattle.aadl_tree.specs.declared.expressions.MultiplyOperator.{MultiplyOperator}
use Rattle.aadl_tree.specs.declared.actions.Bound.{Bound}
use Rattle.aadl_tree.specs.Expressions.{LeadingSign, Primary, number, truth, named, group, Factor, absolute, negated}
use Rattle.aadl_tree.specs.Expressions.{bare, Term, term, Factors, no_factors, factor, Sum, total, Terms, no_terms, add}
use Rattle.aadl_tree.specs.Expressions.{Relation, single, compared, Expression, expression, Relations, no_relations}
use Rattle.aadl_tree.specs.Expressions.{join}
use Rattle.aadl_tree.specs.Actions.{Action, assign, send, choose, loop, Actions, actions, Mores, no_mores, more, Elsifs}
use Rattle.aadl_tree.specs.Actions.{no_elsifs, elsif, Otherwise, no_otherwise, otherwise, Block, no_block, block}
use Rattle.annex_resolve.specs.declared.scope.Scope.{Scope}
use Rattle.annex_resolve.specs.NameMeanings.{entry_named, read_of, or_zero, given_to, with_loop}
use Rattle.pals_base.specs.declared.behaviour.Op.TheVariants as ops
use Rattle.pals_base.specs.ExpressionAndActionTrees as plain
use Rattle.aadl_tree.specs.declared.expressions.Sign.TheVariants as signs
use Rattle.aadl_tree.specs.declared.expressions.LogicOperator.TheVariants as logic
use Rattle.aadl_tree.specs.declared.expressions.RelationOperator.TheVariants as compare
use Rattle.aadl_tree.specs.declared.expressions.MultiplyOperator.TheVariants as multiply

abbrev pub multiply_op : MultiplyOperator → Op
multiply_op multiply.Times = ops.Mul
multiply_op multiply.Divide = ops.Quot
multiply_op multiply.Mod = ops.Mod
multiply_op multiply.Rem = ops.Rem

abbrev pub sign_op : Sign → Op
sign_op signs.Plus = ops.Add
sign_op signs.Minus = ops.Sub

abbrev pub relation_op : RelationOperator → Op
relation_op compare.Equal = ops.Eq
relation_op compare.NotEqual = ops.Ne
relation_op compare.Less = ops.Lt
relation_op compare.LessOrEqual = ops.Le
relation_op compare.Greater = ops.Gt
relation_op compare.GreaterOrEqual = ops.Ge

abbrev pub logic_op : LogicOperator → Op
logic_op logic.And = ops.And
logic_op logic.Or = ops.Or
logic_op logic.Xor = ops.Xor
logic_op logic.AndThen = ops.AndThen
logic_op logic.OrElse = ops.OrElse

-- a single operand is itself the result
abbrev pub chained : plain.Expression → plain.Operands → plain.Expression
chained e plain.NoMore = e
chained e (plain.Then op x rest) = plain.Chain e (plain.Then op x rest)

abbrev pub truth_of : Bool → ℤ
truth_of true = pos 1
truth_of false = pos 0

abbrev pub negated_by : Sign → plain.Expression → plain.Expression
negated_by signs.Plus e = e
negated_by signs.Minus e = plain.Neg e

abbrev pub signed_by : Option (LeadingSign ℕ) → plain.Expression → plain.Expression
signed_by None e = e
signed_by (Some s) e = negated_by s.sign e

unfoldable mutual
  pub primary_of : Scope → Primary ℕ → plain.Expression
  primary_of scope (number at n) = plain.Literal n
  primary_of scope (truth at b) = plain.Literal (truth_of b)
  primary_of scope (named x fresh) = or_zero (read_of fresh (entry_named scope x.spelling))
  primary_of scope (group at e) = expression_of scope e

  pub factor_of : Scope → Factor ℕ → plain.Expression
  factor_of scope (absolute at x) = plain.Abs (primary_of scope x)
  factor_of scope (negated at x) = plain.Not (primary_of scope x)
  factor_of scope (bare x) = primary_of scope x

  pub term_of : Scope → Term ℕ → plain.Expression
  term_of scope (term first rest) = chained (factor_of scope first) (factors_of scope rest)

  pub factors_of : Scope → Factors ℕ → plain.Operands
  factors_of scope no_factors = plain.NoMore
  factors_of scope (factor operator x rest) =
      plain.Then (multiply_op operator) (factor_of scope x) (factors_of scope rest)

  pub sum_of : Scope → Sum ℕ → plain.Expression
  sum_of scope (total sign first rest) = chained (signed_by sign (term_of scope first)) (terms_of scope rest)

  pub terms_of : Scope → Terms ℕ → plain.Operands
  terms_of scope no_terms = plain.NoMore
  terms_of scope (add sign x rest) = plain.Then (sign_op sign) (term_of scope x) (terms_of scope rest)

  pub relation_of : Scope → Relation ℕ → plain.Expression
  relation_of scope (single x) = sum_of scope x
  relation_of scope (compared x operator y) =
      plain.Chain (sum_of scope x) (plain.Then (relation_op operator) (sum_of scope y) plain.NoMore)

  pub expression_of : Scope → Expression ℕ → plain.Expression
  expression_of scope (expression first rest) = chained (relation_of scope first) (relations_of scope rest)

  pub relations_of : Scope → Relations ℕ → plain.Operands
  relations_of scope no_relations = plain.NoMore
  relations_of scope (join operator x rest) =
      plain.Then (logic_op operator) (relation_of scope x) (relations_of scope rest)

-- ---- actions
abbrev pub bound_value : Bound → ℤ
bound_value x = if x.negative then pos 0 -ℤ x.value else x.value

unfoldable mutual
  pub action_of : Scope → Action ℕ → plain.Action
  action_of scope (assign x e) = given_to (expression_of scope e) (entry_named scope x.spelling)
  action_of scope (send x e) = given_to (expression_of scope e) (entry_named scope x.spelling)
  action_of scope (choose test a es o) =
      plain.If (plain.Where (expression_of scope test) (actions_of scope a) (elsifs_of scope es)) (otherwise_of scope o)
  action_of scope (loop at x type low high body) =
      plain.For (bound_value low) (bound_value high) (block_of (with_loop scope x) body)

  pub actions_of : Scope → Actions ℕ → plain.Actions
  actions_of scope (actions first rest) = plain.Do (action_of scope first) (mores_of scope rest)

  pub mores_of : Scope → Mores ℕ → plain.Actions
  mores_of scope no_mores = plain.Nothing
  mores_of scope (more a rest) = plain.Do (action_of scope a) (mores_of scope rest)

  pub elsifs_of : Scope → Elsifs ℕ → plain.Branches
  elsifs_of scope no_elsifs = plain.NoBranch
  elsifs_of scope (elsif test a rest) =
      plain.Where (expression_of scope test) (actions_of scope a) (elsifs_of scope rest)

  pub otherwise_of : Scope → Otherwise ℕ → plain.Actions
  otherwise_of scope no_otherwise = plain.Nothing
  otherwise_of scope (otherwise a) = actions_of scope a

  pub block_of : Scope → Block ℕ → plain.Actions
  block_of scope no_block = plain.Nothing
  block_of scope (block a) = actions_of scope a
