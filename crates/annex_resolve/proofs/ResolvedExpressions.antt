-- The resolved comparisons, relations, whole expressions, factors and lists of operands are the ones of the
-- definition, one level of the tree after another.
use Rattle.std.proofs.Common.{◌≡◌, ℕ, ℤ, pos, not, Bool, Result, Ok, Err, ◌+◌, ◌<◌, List, [], ◌∷◌, ◌++◌, length, take}
use Rattle.std.proofs.Common.{get_or, Option, Some, None, refl, sym, ap, ◌∙◌, append_assoc, arith, Box, Global}
use Rattle.std.specs.Option.{is_some}
use Rattle.std.specs.Prelude.{option_map, IfOk}
use Rattle.std.specs.declared.alloc.AllocError.{AllocError}
use Rattle.pals_base.specs.declared.behaviour.Expr.TheVariants as expr
use Rattle.std.proofs.lemmas.List.{append-nil}
use Rattle.pals_base.specs.declared.behaviour.Expr.{Expr}
use Rattle.pals_base.specs.declared.behaviour.Operand.{Operand}
use Rattle.pals_base.specs.declared.behaviour.Kind.{Kind}
use Rattle.pals_base.specs.declared.behaviour.Kind.TheVariants.{Integer, Boolean}
use Rattle.pals_base.specs.declared.behaviour.Op.{Op}
use Rattle.pals_base.specs.ExpressionAndActionTrees as plain
use Rattle.pals_base.specs.proof.TreeViews.{tree_of, operands_along}
use Rattle.aadl_tree.specs.declared.expressions.MultiplyOperator.{MultiplyOperator}
use Rattle.aadl_tree.specs.declared.expressions.LogicOperator.{LogicOperator}
use Rattle.aadl_tree.specs.declared.expressions.RelationOperator.{RelationOperator}
use Rattle.aadl_tree.specs.declared.expressions.Sign.{Sign}
use Rattle.aadl_tree.specs.declared.expressions.Factor as source_factor
use Rattle.aadl_tree.specs.declared.expressions.Term as source_term
use Rattle.aadl_tree.specs.declared.expressions.Relation as source_relation
use Rattle.aadl_tree.specs.Names.{Identifier}
use Rattle.aadl_tree.specs.Expressions.{Primary, number, truth, named, group, absolute, negated, bare, Expression}
use Rattle.aadl_tree.specs.Expressions.{Factor, Sum, Relation, compared, expression, single}
use Rattle.aadl_tree.specs.ExpressionOffsets.{primary_at, factor_at, term_at, sum_at, relation_at}
use Rattle.aadl_tree.specs.proof.PlaceMaps.{kept_place}
use Rattle.aadl_tree.specs.proof.ExpressionViews.{factor_view, factors_view, term_view, terms_view, relation_view}
use Rattle.aadl_tree.specs.proof.ExpressionViews.{relations_view}
use Rattle.annex_resolve.specs.declared.scope.Scope.{Scope}
use Rattle.annex_resolve.specs.declared.scope.DeclaredName.{DeclaredName}
use Rattle.annex_resolve.specs.declared.expressions.Typed.{Typed}
use Rattle.annex_resolve.specs.declared.violation.Violation.{Violation}
use Rattle.annex_resolve.specs.ExpressionTypesAndFindings.{misfit, read_kind, primary_kind, primary_types, sides_misfit}
use Rattle.annex_resolve.specs.ExpressionTypesAndFindings.{factor_kind, factor_types, factors_types, term_kind}
use Rattle.annex_resolve.specs.ExpressionTypesAndFindings.{term_types, terms_types, total_kind, sum_types}
use Rattle.annex_resolve.specs.ExpressionTypesAndFindings.{relation_kind, relation_types, relations_types}
use Rattle.annex_resolve.specs.ExpressionTypesAndFindings.{expression_kind, expression_types}
use Rattle.annex_resolve.specs.ResolvedTrees.{truth_of, primary_of, chained, multiply_op, sign_op, relation_op}
use Rattle.annex_resolve.specs.ResolvedTrees.{logic_op, factor_of, factors_of, term_of, terms_of, sum_of, relation_of}
use Rattle.annex_resolve.specs.ResolvedTrees.{relations_of, expression_of}
use Rattle.annex_resolve.specs.NameMeanings.{entry_named, read_of, or_zero}
use Rattle.annex_resolve.specs.FindingRecords.{finding, found_if}
use Rattle.annex_resolve.specs.declared.violation.TheConstants.{BAD_TYPE}
use Rattle.annex_resolve.specs.proof.ResolutionResults.{Resolves, ResolvesOperands}
use Rattle.annex_resolve.proofs.ResolvedTermsAndSums.{put_last, take_next, one_more, several, factors-push}
use Rattle.annex_resolve.proofs.ResolvedTermsAndSums.{factors_types-push, terms-push, terms_types-push, three}

-- ---- relation
pub relations-push : (scope : Scope) (xs : List (LogicOperator × source_relation.Relation))
    (x : LogicOperator × source_relation.Relation)
    → relations_of scope (relations_view kept_place (xs ++ x ∷ []))
    ≡ put_last (relations_of scope (relations_view kept_place xs)) (logic_op x.0)
    (relation_of scope (relation_view kept_place x.1))
unfolding relations_of
relations-push scope [] x = refl
relations-push scope (y ∷ ys) x =
    ap (λ r. plain.Then (logic_op y.0) (relation_of scope (relation_view kept_place y.1)) r) (relations-push scope ys x)

pub relations_types-push : (scope : Scope) (xs : List (LogicOperator × source_relation.Relation))
    (x : LogicOperator × source_relation.Relation)
    → relations_types scope (relations_view kept_place (xs ++ x ∷ []))
    ≡ relations_types scope (relations_view kept_place xs)
    ++ (relation_types scope (relation_view kept_place x.1)
    ++ misfit (relation_at (relation_view kept_place x.1)) (Some Boolean)
    (relation_kind scope (relation_view kept_place x.1)))
unfolding relations_types
relations_types-push scope [] x =
    append-nil (relation_types scope (relation_view kept_place x.1)
    ++ misfit (relation_at (relation_view kept_place x.1)) (Some Boolean)
    (relation_kind scope (relation_view kept_place x.1)))
relations_types-push scope (y ∷ ys) x =
    let front =
    relation_types scope (relation_view kept_place y.1)
    ++ misfit (relation_at (relation_view kept_place y.1)) (Some Boolean)
    (relation_kind scope (relation_view kept_place y.1)) in
    ap (λ l. front ++ l) (relations_types-push scope ys x)
    ∙ sym (append_assoc front (relations_types scope (relations_view kept_place ys))
    (relation_types scope (relation_view kept_place x.1)
    ++ misfit (relation_at (relation_view kept_place x.1)) (Some Boolean)
    (relation_kind scope (relation_view kept_place x.1))))

pub expression_alone : (scope : Scope) (first : Relation ℕ) (rest : List (LogicOperator × source_relation.Relation))
    (t : Typed) (b a : List Violation) → length rest ≡ 0
    → Resolves (relation_of scope first) (relation_kind scope first) (relation_types scope first) t b a
    → let x = expression first (relations_view kept_place rest) in
    Resolves (expression_of scope x) (expression_kind scope x) (expression_types scope x) t b a
unfolding expression_of expression_kind expression_types
expression_alone scope first [] t b a none reads =
    record { tree_is = reads.tree_is; kind_is = reads.kind_is; found = reads.found }
expression_alone scope first (x ∷ xs) t b a none reads = absurd (omega (arith, none))

pub expression_several : (scope : Scope) (first : Relation ℕ) (rest : List (LogicOperator × source_relation.Relation))
    (at : ℕ) (t : Typed) (ops : List Operand) (e : Expr) (b m1 m2 a : List Violation) → (length rest ≡ 0 → ⊥)
    → Resolves (relation_of scope first) (relation_kind scope first) (relation_types scope first) t b m1
    → at ≡ relation_at first → m2 ≡ m1 ++ misfit at (Some Boolean) t.kind
    → ResolvesOperands (relations_of scope (relations_view kept_place rest))
    (relations_types scope (relations_view kept_place rest)) ops m2 a
    → tree_of e ≡ chained (tree_of t.expr) (operands_along ops)
    → let x = expression first (relations_view kept_place rest) in
    Resolves (expression_of scope x) (expression_kind scope x) (expression_types scope x)
    (record { expr = e; kind = Some Boolean }) b a
unfolding expression_of expression_kind expression_types
expression_several scope first [] at t ops e b m1 m2 a some reads here found behind is = absurd (some refl)
expression_several scope first (x ∷ xs) at t ops e b m1 m2 a some reads here found behind is =
    several (relation_of scope first) (relation_kind scope first) (relation_types scope first)
    (relations_types scope (relations_view kept_place (x ∷ xs)))
    (relations_of scope (relations_view kept_place (x ∷ xs))) Boolean at (relation_at first) t ops e b m1 m2 a reads
    here found behind is

pub relation_alone : (scope : Scope) (left : Sum ℕ) (t : Typed) (b a : List Violation)
    → Resolves (sum_of scope left) (total_kind scope left) (sum_types scope left) t b a
    → Resolves (relation_of scope (single left)) (relation_kind scope (single left))
    (relation_types scope (single left)) t b a
unfolding relation_of relation_kind relation_types
relation_alone scope left t b a reads = reads

pub relation_both : (scope : Scope) (x y : Sum ℕ) (o : RelationOperator) (at to : ℕ) (l r e : Typed)
    (b m1 m2 a : List Violation)
    → Resolves (sum_of scope x) (total_kind scope x) (sum_types scope x) l b m1
    → Resolves (sum_of scope y) (total_kind scope y) (sum_types scope y) r m1 m2
    → at ≡ sum_at x → to ≡ sum_at y → a ≡ m2 ++ sides_misfit o at to l.kind r.kind
    → tree_of e.expr ≡ plain.Chain (tree_of l.expr) (plain.Then (relation_op o) (tree_of r.expr) plain.NoMore)
    → e.kind ≡ Some Boolean
    → let z = compared x o y in Resolves (relation_of scope z) (relation_kind scope z) (relation_types scope z) e b a
unfolding relation_of relation_kind relation_types
relation_both scope x y o at to l r e b m1 m2 a left right here there found is kind = record {
  tree_is =
      is ∙ ap (λ z. plain.Chain z (plain.Then (relation_op o) (tree_of r.expr) plain.NoMore)) left.tree_is
      ∙ ap (λ z. plain.Chain (sum_of scope x) (plain.Then (relation_op o) z plain.NoMore)) right.tree_is;
  kind_is = kind;
  found =
      found ∙ ap (λ z. z ++ sides_misfit o at to l.kind r.kind)
      (right.found ∙ ap (λ z. z ++ sum_types scope y) left.found)
      ∙ ap (λ p. ((b ++ sum_types scope x) ++ sum_types scope y) ++ sides_misfit o p to l.kind r.kind) here
      ∙ ap (λ p. ((b ++ sum_types scope x) ++ sum_types scope y) ++ sides_misfit o (sum_at x) p l.kind r.kind) there
      ∙ ap (λ k. ((b ++ sum_types scope x) ++ sum_types scope y) ++ sides_misfit o (sum_at x) (sum_at y) k r.kind)
      left.kind_is
      ∙ ap (λ k. ((b ++ sum_types scope x) ++ sum_types scope y)
      ++ sides_misfit o (sum_at x) (sum_at y) (total_kind scope x) k) right.kind_is
      ∙ three b (sum_types scope x) (sum_types scope y)
      (sides_misfit o (sum_at x) (sum_at y) (total_kind scope x) (total_kind scope y));
}

pub relation_compared : (scope : Scope) (x y : Sum ℕ) (o : RelationOperator) (at to : ℕ) (l r : Typed)
    (e : Result Typed AllocError) (b m1 m2 a : List Violation)
    → Resolves (sum_of scope x) (total_kind scope x) (sum_types scope x) l b m1
    → Resolves (sum_of scope y) (total_kind scope y) (sum_types scope y) r m1 m2
    → at ≡ sum_at x → to ≡ sum_at y → a ≡ m2 ++ sides_misfit o at to l.kind r.kind
    → IfOk e (λ t. tree_of t.expr
    ≡ plain.Chain (tree_of l.expr) (plain.Then (relation_op o) (tree_of r.expr) plain.NoMore))
    → IfOk e (λ t. t.kind ≡ Some Boolean)
    → let z = compared x o y in
    IfOk e (λ t. Resolves (relation_of scope z) (relation_kind scope z) (relation_types scope z) t b a)
relation_compared scope x y o at to l r (Ok e) b m1 m2 a left right here there found is kind =
    relation_both scope x y o at to l r e b m1 m2 a left right here there found is kind
relation_compared scope x y o at to l r (Err e) b m1 m2 a left right here there found is kind = tt

-- ---- lists of operands, one after another
pub factors_none : (scope : Scope) (ops : List Operand) (b : List Violation) → ops ≡ []
    → ResolvesOperands (factors_of scope (factors_view kept_place []))
    (factors_types scope (factors_view kept_place [])) ops b b
unfolding factors_of factors_types
factors_none scope ops b none = record { tree_is = ap operands_along none; found = sym (append-nil b) }

pub factors_next : (scope : Scope) (xs : List (MultiplyOperator × source_factor.Factor)) (i : ℕ)
    (x : MultiplyOperator × source_factor.Factor) (op : Op) (at : ℕ) (t : Typed) (ops news : List Operand)
    (b m0 m1 m2 : List Violation)
    → i < length xs → x ≡ get_or xs i x
    → ResolvesOperands (factors_of scope (factors_view kept_place (take i xs)))
    (factors_types scope (factors_view kept_place (take i xs))) ops b m0
    → Resolves (factor_of scope (factor_view kept_place x.1)) (factor_kind scope (factor_view kept_place x.1))
    (factor_types scope (factor_view kept_place x.1)) t m0 m1
    → at ≡ factor_at (factor_view kept_place x.1) → m2 ≡ m1 ++ misfit at (Some Integer) t.kind → op ≡ multiply_op x.0
    → news ≡ ops ++ record { op = op; right = t.expr } ∷ []
    → ResolvesOperands (factors_of scope (factors_view kept_place (take (i + 1) xs)))
    (factors_types scope (factors_view kept_place (take (i + 1) xs))) news b m2
factors_next scope xs i x op at t ops news b m0 m1 m2 within is before reads here found same pushed =
    one_more (factors_of scope (factors_view kept_place (take i xs)))
    (factors_of scope (factors_view kept_place (take (i + 1) xs)))
    (factors_types scope (factors_view kept_place (take i xs)))
    (factors_types scope (factors_view kept_place (take (i + 1) xs)))
    (factor_types scope (factor_view kept_place x.1)) op (factor_of scope (factor_view kept_place x.1))
    (factor_kind scope (factor_view kept_place x.1)) Integer at (factor_at (factor_view kept_place x.1)) t ops
    news b m0 m1 m2
    before reads here found pushed
    (ap (λ ys. factors_of scope (factors_view kept_place ys)) (take_next xs i x within is)
    ∙ factors-push scope (take i xs) x
    ∙ ap (λ o. put_last (factors_of scope (factors_view kept_place (take i xs))) o
    (factor_of scope (factor_view kept_place x.1))) (sym same))
    (ap (λ ys. factors_types scope (factors_view kept_place ys)) (take_next xs i x within is)
    ∙ factors_types-push scope (take i xs) x)

pub of_factors : (scope : Scope) (xs ys : List (MultiplyOperator × source_factor.Factor)) (ops : List Operand)
    (b a : List Violation) → xs ≡ ys
    → ResolvesOperands (factors_of scope (factors_view kept_place xs))
    (factors_types scope (factors_view kept_place xs))
    ops b a → ResolvesOperands (factors_of scope (factors_view kept_place ys))
    (factors_types scope (factors_view kept_place ys)) ops b a
of_factors scope xs ys ops b a same reads =
    record {
      tree_is = reads.tree_is ∙ ap (λ l. factors_of scope (factors_view kept_place l)) same;
      found = reads.found ∙ ap (λ l. b ++ factors_types scope (factors_view kept_place l)) same;
    }

pub terms_none : (scope : Scope) (ops : List Operand) (b : List Violation) → ops ≡ []
    → ResolvesOperands (terms_of scope (terms_view kept_place [])) (terms_types scope (terms_view kept_place [])) ops b
    b
unfolding terms_of terms_types
terms_none scope ops b none = record { tree_is = ap operands_along none; found = sym (append-nil b) }

pub terms_next : (scope : Scope) (xs : List (Sign × source_term.Term)) (i : ℕ) (x : Sign × source_term.Term) (op : Op)
    (at : ℕ) (t : Typed) (ops news : List Operand) (b m0 m1 m2 : List Violation)
    → i < length xs → x ≡ get_or xs i x
    → ResolvesOperands (terms_of scope (terms_view kept_place (take i xs)))
    (terms_types scope (terms_view kept_place (take i xs))) ops b m0
    → Resolves (term_of scope (term_view kept_place x.1)) (term_kind scope (term_view kept_place x.1))
    (term_types scope (term_view kept_place x.1)) t m0 m1
    → at ≡ term_at (term_view kept_place x.1) → m2 ≡ m1 ++ misfit at (Some Integer) t.kind → op ≡ sign_op x.0
    → news ≡ ops ++ record { op = op; right = t.expr } ∷ []
    → ResolvesOperands (terms_of scope (terms_view kept_place (take (i + 1) xs)))
    (terms_types scope (terms_view kept_place (take (i + 1) xs))) news b m2
terms_next scope xs i x op at t ops news b m0 m1 m2 within is before reads here found same pushed =
    one_more (terms_of scope (terms_view kept_place (take i xs)))
    (terms_of scope (terms_view kept_place (take (i + 1) xs)))
    (terms_types scope (terms_view kept_place (take i xs)))
    (terms_types scope (terms_view kept_place (take (i + 1) xs)))
    (term_types scope (term_view kept_place x.1)) op (term_of scope (term_view kept_place x.1))
    (term_kind scope (term_view kept_place x.1)) Integer at (term_at (term_view kept_place x.1)) t ops
    news b m0 m1 m2
    before reads here found pushed
    (ap (λ ys. terms_of scope (terms_view kept_place ys)) (take_next xs i x within is) ∙ terms-push scope (take i xs) x
    ∙ ap (λ o. put_last (terms_of scope (terms_view kept_place (take i xs))) o
    (term_of scope (term_view kept_place x.1))) (sym same))
    (ap (λ ys. terms_types scope (terms_view kept_place ys)) (take_next xs i x within is)
    ∙ terms_types-push scope (take i xs) x)

pub of_terms : (scope : Scope) (xs ys : List (Sign × source_term.Term)) (ops : List Operand)
    (b a : List Violation) → xs ≡ ys
    → ResolvesOperands (terms_of scope (terms_view kept_place xs)) (terms_types scope (terms_view kept_place xs)) ops b
    a
    → ResolvesOperands (terms_of scope (terms_view kept_place ys))
    (terms_types scope (terms_view kept_place ys)) ops b a
of_terms scope xs ys ops b a same reads =
    record {
      tree_is = reads.tree_is ∙ ap (λ l. terms_of scope (terms_view kept_place l)) same;
      found = reads.found ∙ ap (λ l. b ++ terms_types scope (terms_view kept_place l)) same;
    }

pub relations_none : (scope : Scope) (ops : List Operand) (b : List Violation) → ops ≡ []
    → ResolvesOperands (relations_of scope (relations_view kept_place []))
    (relations_types scope (relations_view kept_place [])) ops b b
unfolding relations_of relations_types
relations_none scope ops b none = record { tree_is = ap operands_along none; found = sym (append-nil b) }

pub relations_next : (scope : Scope) (xs : List (LogicOperator × source_relation.Relation)) (i : ℕ)
    (x : LogicOperator × source_relation.Relation) (op : Op) (at : ℕ) (t : Typed) (ops news : List Operand)
    (b m0 m1 m2 : List Violation)
    → i < length xs → x ≡ get_or xs i x
    → ResolvesOperands (relations_of scope (relations_view kept_place (take i xs)))
    (relations_types scope (relations_view kept_place (take i xs))) ops b m0
    → Resolves (relation_of scope (relation_view kept_place x.1)) (relation_kind scope (relation_view kept_place x.1))
    (relation_types scope (relation_view kept_place x.1)) t m0 m1
    → at ≡ relation_at (relation_view kept_place x.1) → m2 ≡ m1 ++ misfit at (Some Boolean) t.kind → op ≡ logic_op x.0
    → news ≡ ops ++ record { op = op; right = t.expr } ∷ []
    → ResolvesOperands (relations_of scope (relations_view kept_place (take (i + 1) xs)))
    (relations_types scope (relations_view kept_place (take (i + 1) xs))) news b m2
relations_next scope xs i x op at t ops news b m0 m1 m2 within is before reads here found same pushed =
    one_more (relations_of scope (relations_view kept_place (take i xs)))
    (relations_of scope (relations_view kept_place (take (i + 1) xs)))
    (relations_types scope (relations_view kept_place (take i xs)))
    (relations_types scope (relations_view kept_place (take (i + 1) xs)))
    (relation_types scope (relation_view kept_place x.1)) op (relation_of scope (relation_view kept_place x.1))
    (relation_kind scope (relation_view kept_place x.1)) Boolean at (relation_at (relation_view kept_place x.1)) t
    ops news b m0 m1 m2
    before reads here found pushed
    (ap (λ ys. relations_of scope (relations_view kept_place ys)) (take_next xs i x within is)
    ∙ relations-push scope (take i xs) x
    ∙ ap (λ o. put_last (relations_of scope (relations_view kept_place (take i xs))) o
    (relation_of scope (relation_view kept_place x.1))) (sym same))
    (ap (λ ys. relations_types scope (relations_view kept_place ys)) (take_next xs i x within is)
    ∙ relations_types-push scope (take i xs) x)

pub of_relations : (scope : Scope) (xs ys : List (LogicOperator × source_relation.Relation)) (ops : List Operand)
    (b a : List Violation) → xs ≡ ys
    → ResolvesOperands (relations_of scope (relations_view kept_place xs))
    (relations_types scope (relations_view kept_place xs)) ops b a
    → ResolvesOperands (relations_of scope (relations_view kept_place ys))
    (relations_types scope (relations_view kept_place ys)) ops b a
of_relations scope xs ys ops b a same reads =
    record {
      tree_is = reads.tree_is ∙ ap (λ l. relations_of scope (relations_view kept_place l)) same;
      found = reads.found ∙ ap (λ l. b ++ relations_types scope (relations_view kept_place l)) same;
    }

-- ---- a factor
pub factor_absolute : (scope : Scope) (at : ℕ) (x : Primary ℕ) (place : ℕ) (t : Typed) (boxed : Box Expr Global)
    (b m a : List Violation)
    → Resolves (primary_of scope x) (primary_kind scope x) (primary_types scope x) t b m → place ≡ primary_at x
    → a ≡ m ++ misfit place (Some Integer) t.kind → boxed.value ≡ t.expr
    → let f = absolute at x in
    Resolves (factor_of scope f) (factor_kind scope f) (factor_types scope f)
    (record { expr = expr.Abs boxed; kind = Some Integer }) b a
unfolding factor_of factor_kind factor_types
factor_absolute scope at x place t boxed b m a reads here found same = record {
  tree_is = ap plain.Abs (ap tree_of same ∙ reads.tree_is);
  kind_is = refl;
  found =
      found ∙ ap (λ l. l ++ misfit place (Some Integer) t.kind) reads.found
      ∙ ap (λ p. (b ++ primary_types scope x) ++ misfit p (Some Integer) t.kind) here
      ∙ ap (λ k. (b ++ primary_types scope x) ++ misfit (primary_at x) (Some Integer) k) reads.kind_is
      ∙ append_assoc b (primary_types scope x) (misfit (primary_at x) (Some Integer) (primary_kind scope x));
}

pub factor_negated : (scope : Scope) (at : ℕ) (x : Primary ℕ) (place : ℕ) (t : Typed) (boxed : Box Expr Global)
    (b m a : List Violation)
    → Resolves (primary_of scope x) (primary_kind scope x) (primary_types scope x) t b m → place ≡ primary_at x
    → a ≡ m ++ misfit place (Some Boolean) t.kind → boxed.value ≡ t.expr
    → let f = negated at x in
    Resolves (factor_of scope f) (factor_kind scope f) (factor_types scope f)
    (record { expr = expr.Not boxed; kind = Some Boolean }) b a
unfolding factor_of factor_kind factor_types
factor_negated scope at x place t boxed b m a reads here found same = record {
  tree_is = ap plain.Not (ap tree_of same ∙ reads.tree_is);
  kind_is = refl;
  found =
      found ∙ ap (λ l. l ++ misfit place (Some Boolean) t.kind) reads.found
      ∙ ap (λ p. (b ++ primary_types scope x) ++ misfit p (Some Boolean) t.kind) here
      ∙ ap (λ k. (b ++ primary_types scope x) ++ misfit (primary_at x) (Some Boolean) k) reads.kind_is
      ∙ append_assoc b (primary_types scope x) (misfit (primary_at x) (Some Boolean) (primary_kind scope x));
}

pub factor_plain : (scope : Scope) (f : Factor ℕ) (x : Primary ℕ) (r : Result Typed AllocError) (b a : List Violation)
    → f ≡ bare x
    → IfOk r (λ t. Resolves (primary_of scope x) (primary_kind scope x) (primary_types scope x) t b a)
    → IfOk r (λ t. Resolves (factor_of scope f) (factor_kind scope f) (factor_types scope f) t b a)
unfolding factor_of factor_kind factor_types
factor_plain scope f x (Ok t) b a is reads = rw is reads
factor_plain scope f x (Err e) b a is reads = tt

-- ---- an operand
pub primary_number : (scope : Scope) (at : ℕ) (n : ℤ) (t : Typed) (b : List Violation)
    → tree_of t.expr ≡ plain.Literal n → t.kind ≡ Some Integer
    → let x = number at n in Resolves (primary_of scope x) (primary_kind scope x) (primary_types scope x) t b b
unfolding primary_of primary_kind primary_types
primary_number scope at n t b tree kind = record { tree_is = tree; kind_is = kind; found = sym (append-nil b) }

pub primary_truth : (scope : Scope) (at : ℕ) (v : Bool) (t : Typed) (b : List Violation)
    → tree_of t.expr ≡ plain.Literal (truth_of v) → t.kind ≡ Some Boolean
    → let x = truth at v in Resolves (primary_of scope x) (primary_kind scope x) (primary_types scope x) t b b
unfolding primary_of primary_kind primary_types
primary_truth scope at v t b tree kind = record { tree_is = tree; kind_is = kind; found = sym (append-nil b) }

pub primary_group : (scope : Scope) (p : Primary ℕ) (at : ℕ) (e : Expression ℕ) (r : Result Typed AllocError)
    (b a : List Violation) → p ≡ group at e
    → IfOk r (λ t. Resolves (expression_of scope e) (expression_kind scope e) (expression_types scope e) t b a)
    → IfOk r (λ t. Resolves (primary_of scope p) (primary_kind scope p) (primary_types scope p) t b a)
unfolding primary_of primary_kind primary_types
primary_group scope p at e (Ok t) b a is reads = rw is reads
primary_group scope p at e (Err e') b a is reads = tt

pub name_read : (scope : Scope) (x : Identifier ℕ) (fresh : Bool) (entry : Option DeclaredName) (r : Option Expr)
    (e : Expr) (k : Option Kind) (b : List Violation)
    → entry ≡ entry_named scope x.spelling → option_map tree_of r ≡ read_of fresh entry → r ≡ Some e
    → k ≡ read_kind fresh entry
    → let p = named x fresh in
    Resolves (primary_of scope p) (primary_kind scope p) (primary_types scope p) (record { expr = e; kind = k }) b b
unfolding primary_of primary_kind primary_types
name_read scope x fresh entry r e k b known read some kind =
    let is : read_of fresh (entry_named scope x.spelling) ≡ Some (tree_of e) = ap (read_of fresh) (sym known) ∙ sym read
    ∙ ap (option_map tree_of) some in
    record {
      tree_is = sym (ap or_zero is);
      kind_is = kind ∙ ap (read_kind fresh) known;
      found = sym (ap (λ o. b ++ found_if (not (is_some o)) x.at BAD_TYPE []) is ∙ append-nil b);
    }

pub name_unread : (scope : Scope) (x : Identifier ℕ) (fresh : Bool) (entry : Option DeclaredName) (r : Option Expr)
    (e : Expr) (k : Option Kind) (b a : List Violation)
    → entry ≡ entry_named scope x.spelling → option_map tree_of r ≡ read_of fresh entry → r ≡ None
    → k ≡ read_kind fresh entry
    → tree_of e ≡ plain.Literal (pos 0) → a ≡ b ++ finding x.at BAD_TYPE [] ∷ []
    → let p = named x fresh in
    Resolves (primary_of scope p) (primary_kind scope p) (primary_types scope p) (record { expr = e; kind = k }) b a
unfolding primary_of primary_kind primary_types
name_unread scope x fresh entry r e k b a known read none kind zero found =
    let is : read_of fresh (entry_named scope x.spelling) ≡ None = ap (read_of fresh) (sym known) ∙ sym read
    ∙ ap (option_map tree_of) none in
    record {
      tree_is = zero ∙ sym (ap or_zero is);
      kind_is = kind ∙ ap (read_kind fresh) known;
      found = found ∙ sym (ap (λ o. b ++ found_if (not (is_some o)) x.at BAD_TYPE []) is);
    }
