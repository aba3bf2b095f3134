-- If no type is wrong, the resolved expression is well typed.
use Rattle.std.proofs.Common.{◌≡◌, ℕ, ◌+◌, Bool, true, false, nat_lt, ◌||◌, cond, [], ◌++◌, length, Option, Some, None}
use Rattle.std.proofs.Common.{refl, sym, subst}
use Rattle.std.specs.Option.{is_some}
use Rattle.std.proofs.lemmas.Bool.{false≢true, lt-ltb, or_left, or_right, and_from}
use Rattle.std.proofs.lemmas.Option.{slice_get_within, slice_get_past}
use Rattle.list_lemmas.proofs.ListOperations.{append_is_nil}
use Rattle.pals_base.specs.declared.behaviour.Kind.{Kind}
use Rattle.pals_base.specs.declared.behaviour.Kind.TheVariants.{Integer, Boolean}
use Rattle.pals_base.specs.declared.behaviour.BehaviourParts.{BehaviourParts}
use Rattle.pals_base.specs.declared.expression_kinds.Kinds.{Kinds}
use Rattle.pals_base.specs.ExpressionAndActionTrees as plain
use Rattle.pals_base.specs.TypingRules.{only, allows, port_kinds, declared_or, kinds_of, kinds_along, operator_kinds}
use Rattle.pals_base.specs.TypingRules.{numbers_at, truths_at}
use Rattle.aadl_tree.specs.declared.expressions.Sign.{Sign}
use Rattle.aadl_tree.specs.declared.expressions.Sign.TheVariants as signs
use Rattle.aadl_tree.specs.declared.expressions.LogicOperator.{LogicOperator}
use Rattle.aadl_tree.specs.declared.expressions.LogicOperator.TheVariants as logic
use Rattle.aadl_tree.specs.declared.expressions.RelationOperator.{RelationOperator}
use Rattle.aadl_tree.specs.declared.expressions.RelationOperator.TheVariants as compare
use Rattle.aadl_tree.specs.declared.expressions.MultiplyOperator.{MultiplyOperator}
use Rattle.aadl_tree.specs.declared.expressions.MultiplyOperator.TheVariants as multiply
use Rattle.aadl_tree.specs.Expressions.{Primary, number, truth, named, group, Factor, absolute, negated, bare, Term}
use Rattle.aadl_tree.specs.Expressions.{term, Factors, no_factors, factor, Sum, total, Terms, no_terms, add, Relation}
use Rattle.aadl_tree.specs.Expressions.{single, compared, Expression, expression, Relations, no_relations, join}
use Rattle.aadl_tree.specs.ExpressionOffsets.{primary_at, factor_at, term_at, sum_at, relation_at}
use Rattle.annex_resolve.specs.declared.scope.Scope.{Scope}
use Rattle.annex_resolve.specs.declared.scope.DeclaredName.{DeclaredName}
use Rattle.annex_resolve.specs.declared.scope.Meaning.{Meaning}
use Rattle.annex_resolve.specs.declared.scope.Meaning.TheVariants.{InPort, OutPort, Variable, LoopVariable}
use Rattle.annex_resolve.specs.declared.violation.TheConstants.{BAD_TYPE}
use Rattle.annex_resolve.specs.NameMeanings.{entry_named, read_of, value_of, freshness_of, or_zero}
use Rattle.annex_resolve.specs.ExpressionTypesAndFindings.{fits, misfit, is_equality, read_kind, primary_kind}
use Rattle.annex_resolve.specs.ExpressionTypesAndFindings.{factor_kind, term_kind, total_kind, relation_kind}
use Rattle.annex_resolve.specs.ExpressionTypesAndFindings.{expression_kind, primary_types, factor_types, term_types}
use Rattle.annex_resolve.specs.ExpressionTypesAndFindings.{factors_types, sum_types, terms_types, relation_types}
use Rattle.annex_resolve.specs.ExpressionTypesAndFindings.{expression_types, relations_types}
use Rattle.annex_resolve.specs.ResolvedTrees.{multiply_op, sign_op, relation_op, logic_op, negated_by, truth_of}
use Rattle.annex_resolve.specs.ResolvedTrees.{primary_of, factor_of, term_of, factors_of, sum_of, terms_of, relation_of}
use Rattle.annex_resolve.specs.ResolvedTrees.{expression_of, relations_of}
use Rattle.design_laws.specs.proof.FittingAnnexNames.{FitsMeaning, FitsScope}
use Rattle.design_laws.proofs.EmptyFindingLists.{is_right}

-- an expression can have the type that the checks found
abbrev pub HasKind : BehaviourParts → ℕ → Option Kind → plain.Expression → Type 0
HasKind b loops kind e = (k : Kind) × (kind ≡ Some k) × (allows (kinds_of e b loops) k ≡ true)

pub is_integer : (b : BehaviourParts) (loops at : ℕ) (kind : Option Kind) (e : plain.Expression)
    → HasKind b loops kind e
    → misfit at (Some Integer) kind ≡ [] → (kinds_of e b loops).integer ≡ true
is_integer b loops at kind e (Integer, is, h) m = h
is_integer b loops at kind e (Boolean, is, h) m =
    absurd (false≢true (is_right (fits (Some Boolean) (Some Integer)) at BAD_TYPE []
    (subst (λ k. misfit at (Some Integer) k ≡ []) is m)))

pub is_truth : (b : BehaviourParts) (loops at : ℕ) (kind : Option Kind) (e : plain.Expression) → HasKind b loops kind e
    → misfit at (Some Boolean) kind ≡ [] → (kinds_of e b loops).boolean ≡ true
is_truth b loops at kind e (Boolean, is, h) m = h
is_truth b loops at kind e (Integer, is, h) m =
    absurd (false≢true (is_right (fits (Some Integer) (Some Boolean)) at BAD_TYPE []
    (subst (λ k. misfit at (Some Boolean) k ≡ []) is m)))

multiplied : (o : MultiplyOperator) (l r : Kinds) → l.integer ≡ true → r.integer ≡ true
    → (operator_kinds (multiply_op o) l r).integer ≡ true
multiplied multiply.Times l r e f = and_from l.integer r.integer e f
multiplied multiply.Divide l r e f = and_from l.integer r.integer e f
multiplied multiply.Mod l r e f = and_from l.integer r.integer e f
multiplied multiply.Rem l r e f = and_from l.integer r.integer e f

summed : (s : Sign) (l r : Kinds) → l.integer ≡ true → r.integer ≡ true
    → (operator_kinds (sign_op s) l r).integer ≡ true
summed signs.Plus l r e f = and_from l.integer r.integer e f
summed signs.Minus l r e f = and_from l.integer r.integer e f

connected : (o : LogicOperator) (l r : Kinds) → l.boolean ≡ true → r.boolean ≡ true
    → (operator_kinds (logic_op o) l r).boolean ≡ true
connected logic.And l r e f = and_from l.boolean r.boolean e f
connected logic.Or l r e f = and_from l.boolean r.boolean e f
connected logic.Xor l r e f = and_from l.boolean r.boolean e f
connected logic.AndThen l r e f = and_from l.boolean r.boolean e f
connected logic.OrElse l r e f = and_from l.boolean r.boolean e f

signed_integer : (b : BehaviourParts) (loops : ℕ) (s : Sign) (e : plain.Expression)
    → (kinds_of e b loops).integer ≡ true → (kinds_of (negated_by s e) b loops).integer ≡ true
signed_integer b loops signs.Plus e h = h
signed_integer b loops signs.Minus e h = h

-- two sides of one type can be compared
compared_equal : (b : BehaviourParts) (loops at : ℕ) (k m : Option Kind) (x y : plain.Expression) → HasKind b loops k x
    → HasKind b loops m y → misfit at k m ≡ []
    → (numbers_at (kinds_of x b loops) (kinds_of y b loops)
    || truths_at (kinds_of x b loops) (kinds_of y b loops)) ≡ true
compared_equal b loops at k m x y (Integer, is, h) (Integer, os, g) f =
    or_left _ _ (and_from (kinds_of x b loops).integer (kinds_of y b loops).integer h g)
compared_equal b loops at k m x y (Boolean, is, h) (Boolean, os, g) f =
    or_right _ _ (and_from (kinds_of x b loops).boolean (kinds_of y b loops).boolean h g)
compared_equal b loops at k m x y (Integer, is, h) (Boolean, os, g) f =
    absurd (false≢true (is_right (fits (Some Boolean) (Some Integer)) at BAD_TYPE []
    (subst (λ w. misfit at w (Some Boolean) ≡ []) is (subst (λ w. misfit at k w ≡ []) os f))))
compared_equal b loops at k m x y (Boolean, is, h) (Integer, os, g) f =
    absurd (false≢true (is_right (fits (Some Integer) (Some Boolean)) at BAD_TYPE []
    (subst (λ w. misfit at w (Some Integer) ≡ []) is (subst (λ w. misfit at k w ≡ []) os f))))

ordered_sides : (b : BehaviourParts) (loops at to : ℕ) (k m : Option Kind) (x y : plain.Expression)
    → HasKind b loops k x
    → HasKind b loops m y
    → misfit at (Some Integer) k ++ misfit to (Some Integer) m ≡ []
    → numbers_at (kinds_of x b loops) (kinds_of y b loops) ≡ true
ordered_sides b loops at to k m x y h g e =
    let p = append_is_nil (misfit at (Some Integer) k) (misfit to (Some Integer) m) e in
    and_from (kinds_of x b loops).integer (kinds_of y b loops).integer (is_integer b loops at k x h p.0)
    (is_integer b loops to m y g p.1)

sided : (b : BehaviourParts) (loops at to : ℕ) (o : RelationOperator) (k m : Option Kind) (x y : plain.Expression)
    → HasKind b loops k x → HasKind b loops m y
    → cond (is_equality o) (misfit to k m) (misfit at (Some Integer) k ++ misfit to (Some Integer) m) ≡ []
    → (operator_kinds (relation_op o) (kinds_of x b loops) (kinds_of y b loops)).boolean ≡ true
sided b loops at to compare.Equal k m x y h g e = compared_equal b loops to k m x y h g e
sided b loops at to compare.NotEqual k m x y h g e = compared_equal b loops to k m x y h g e
sided b loops at to compare.Less k m x y h g e = ordered_sides b loops at to k m x y h g e
sided b loops at to compare.LessOrEqual k m x y h g e = ordered_sides b loops at to k m x y h g e
sided b loops at to compare.Greater k m x y h g e = ordered_sides b loops at to k m x y h g e
sided b loops at to compare.GreaterOrEqual k m x y h g e = ordered_sides b loops at to k m x y h g e

-- ---- names
only_allows : (k : Kind) → allows (only k) k ≡ true
only_allows Integer = refl
only_allows Boolean = refl

value_sound : (b : BehaviourParts) (loops : ℕ) (m : Meaning) (kind : Option Kind) → FitsMeaning b loops m kind
    → is_some (value_of m) ≡ true → HasKind b loops kind (or_zero (value_of m))
value_sound b loops (InPort n) kind (p, is, k) h =
    (p.kind, k, subst (λ o. allows (port_kinds o) p.kind ≡ true) (sym is) (only_allows p.kind))
value_sound b loops (OutPort n) kind fit h = absurd (false≢true h)
value_sound b loops (Variable n) kind (v, is, k) h = (
  v.kind,
  k,
  subst (λ o. allows (declared_or o (nat_lt n (length b.vars + loops))) v.kind ≡ true) (sym is)
      (only_allows v.kind),
)
value_sound b loops (LoopVariable n) kind (past, within, k) h = (
  Integer,
  k,
  subst (λ o. allows (declared_or o (nat_lt n (length b.vars + loops))) Integer ≡ true)
      (sym (slice_get_past b.vars n past)) (lt-ltb n (length b.vars + loops) within),
)

fresh_sound : (b : BehaviourParts) (loops : ℕ) (m : Meaning) (kind : Option Kind) → FitsMeaning b loops m kind
    → is_some (freshness_of m) ≡ true → (kinds_of (or_zero (freshness_of m)) b loops).boolean ≡ true
fresh_sound b loops (InPort n) kind (p, is, k) h = lt-ltb n (length b.ins) (slice_get_within b.ins n p is)
fresh_sound b loops (OutPort n) kind fit h = absurd (false≢true h)
fresh_sound b loops (Variable n) kind fit h = absurd (false≢true h)
fresh_sound b loops (LoopVariable n) kind fit h = absurd (false≢true h)

read_sound : (b : BehaviourParts) (loops : ℕ) (fresh : Bool) (o : Option DeclaredName)
    → ((e : DeclaredName) → o ≡ Some e → FitsMeaning b loops e.meaning e.kind) → is_some (read_of fresh o) ≡ true
    → HasKind b loops (read_kind fresh o) (or_zero (read_of fresh o))
read_sound b loops fresh None fit h = absurd (false≢true h)
read_sound b loops true (Some e) fit h = (Boolean, refl, fresh_sound b loops e.meaning e.kind (fit e refl) h)
read_sound b loops false (Some e) fit h = value_sound b loops e.meaning e.kind (fit e refl) h

module _ (b : BehaviourParts) (loops : ℕ) (scope : Scope) (fit : FitsScope b loops scope) where
  truth_has : (v : Bool) → HasKind b loops (Some Boolean) (plain.Literal (truth_of v))
  truth_has true = (Boolean, refl, refl)
  truth_has false = (Boolean, refl, refl)

  mutual
    unfolding primary_types primary_kind primary_of

    pub primary_sound : (x : Primary ℕ) → primary_types scope x ≡ []
        → HasKind b loops (primary_kind scope x) (primary_of scope x)
    primary_sound (number at n) e = (Integer, refl, refl)
    primary_sound (truth at v) e = truth_has v
    primary_sound (named x fresh) e =
        read_sound b loops fresh (entry_named scope x.spelling) (λ (k : DeclaredName) is. fit.entries x.spelling k is)
        (is_right (is_some (read_of fresh (entry_named scope x.spelling))) x.at BAD_TYPE [] e)
    primary_sound (group at x) e = expression_sound x e

    pub factor_sound : (x : Factor ℕ) → factor_types scope x ≡ []
        → HasKind b loops (factor_kind scope x) (factor_of scope x)
    factor_sound (absolute at x) e =
        let p =
        append_is_nil (primary_types scope x) (misfit (primary_at x) (Some Integer) (primary_kind scope x)) e in (
          Integer,
          refl,
          is_integer b loops (primary_at x) (primary_kind scope x) (primary_of scope x)
              (primary_sound x p.0) p.1,
        )
    factor_sound (negated at x) e =
        let p =
        append_is_nil (primary_types scope x) (misfit (primary_at x) (Some Boolean) (primary_kind scope x)) e in (
          Boolean,
          refl,
          is_truth b loops (primary_at x) (primary_kind scope x) (primary_of scope x)
              (primary_sound x p.0) p.1,
        )
    factor_sound (bare x) e = primary_sound x e

    pub term_sound : (x : Term ℕ) → term_types scope x ≡ [] → HasKind b loops (term_kind scope x) (term_of scope x)
    term_sound (term first no_factors) e = factor_sound first e
    term_sound (term first (factor o x rest)) e =
        let p =
        append_is_nil (factor_types scope first ++ misfit (factor_at first) (Some Integer) (factor_kind scope first))
        (factors_types scope (factor o x rest)) e in
        let q =
        append_is_nil (factor_types scope first)
        (misfit (factor_at first) (Some Integer) (factor_kind scope first)) p.0 in (
          Integer,
          refl,
          factors_sound (factor o x rest) p.1 (kinds_of (factor_of scope first) b loops)
              (is_integer b loops (factor_at first) (factor_kind scope first) (factor_of scope first)
              (factor_sound first q.0) q.1),
        )

    pub factors_sound : (x : Factors ℕ) → factors_types scope x ≡ [] → (left : Kinds) → left.integer ≡ true
        → (kinds_along (factors_of scope x) b loops left).integer ≡ true
    factors_sound no_factors e left h = h
    factors_sound (factor o x rest) e left h =
        let p =
        append_is_nil (factor_types scope x ++ misfit (factor_at x) (Some Integer) (factor_kind scope x))
        (factors_types scope rest) e in
        let q = append_is_nil (factor_types scope x) (misfit (factor_at x) (Some Integer) (factor_kind scope x)) p.0 in
        let here =
        is_integer b loops (factor_at x) (factor_kind scope x) (factor_of scope x) (factor_sound x q.0) q.1 in
        factors_sound rest p.1 (operator_kinds (multiply_op o) left (kinds_of (factor_of scope x) b loops))
        (multiplied o left (kinds_of (factor_of scope x) b loops) h here)

    pub sum_sound : (x : Sum ℕ) → sum_types scope x ≡ [] → HasKind b loops (total_kind scope x) (sum_of scope x)
    sum_sound (total None first no_terms) e = let p = append_is_nil (term_types scope first ++ []) [] e in
        let q = append_is_nil (term_types scope first) [] p.0 in term_sound first q.0
    sum_sound (total None first (add o x rest)) e =
        let p =
        append_is_nil (term_types scope first ++ misfit (term_at first) (Some Integer) (term_kind scope first))
        (terms_types scope (add o x rest)) e in
        let q =
        append_is_nil (term_types scope first) (misfit (term_at first) (Some Integer) (term_kind scope first)) p.0 in (
          Integer,
          refl,
          terms_sound (add o x rest) p.1 (kinds_of (term_of scope first) b loops)
              (is_integer b loops (term_at first) (term_kind scope first) (term_of scope first)
              (term_sound first q.0) q.1),
        )
    sum_sound (total (Some s) first no_terms) e =
        let p =
        append_is_nil (term_types scope first
        ++ misfit (term_at first) (Some Integer) (term_kind scope first)) [] e in
        let q =
        append_is_nil (term_types scope first) (misfit (term_at first) (Some Integer) (term_kind scope first)) p.0 in (
          Integer,
          refl,
          signed_integer b loops s.sign (term_of scope first)
              (is_integer b loops (term_at first) (term_kind scope first) (term_of scope first)
              (term_sound first q.0) q.1),
        )
    sum_sound (total (Some s) first (add o x rest)) e =
        let p =
        append_is_nil (term_types scope first ++ misfit (term_at first) (Some Integer) (term_kind scope first))
        (terms_types scope (add o x rest)) e in
        let q =
        append_is_nil (term_types scope first) (misfit (term_at first) (Some Integer) (term_kind scope first)) p.0 in (
          Integer,
          refl,
          terms_sound (add o x rest) p.1 (kinds_of (negated_by s.sign (term_of scope first)) b loops)
              (signed_integer b loops s.sign (term_of scope first)
              (is_integer b loops (term_at first) (term_kind scope first) (term_of scope first)
              (term_sound first q.0) q.1)),
        )

    pub terms_sound : (x : Terms ℕ) → terms_types scope x ≡ [] → (left : Kinds) → left.integer ≡ true
        → (kinds_along (terms_of scope x) b loops left).integer ≡ true
    terms_sound no_terms e left h = h
    terms_sound (add o x rest) e left h =
        let p =
        append_is_nil (term_types scope x ++ misfit (term_at x) (Some Integer) (term_kind scope x))
        (terms_types scope rest) e in
        let q = append_is_nil (term_types scope x) (misfit (term_at x) (Some Integer) (term_kind scope x)) p.0 in
        let here = is_integer b loops (term_at x) (term_kind scope x) (term_of scope x) (term_sound x q.0) q.1 in
        terms_sound rest p.1 (operator_kinds (sign_op o) left (kinds_of (term_of scope x) b loops))
        (summed o left (kinds_of (term_of scope x) b loops) h here)

    pub relation_sound : (x : Relation ℕ) → relation_types scope x ≡ []
        → HasKind b loops (relation_kind scope x) (relation_of scope x)
    relation_sound (single x) e = sum_sound x e
    relation_sound (compared x o y) e =
        let p =
        append_is_nil (sum_types scope x ++ sum_types scope y)
        (cond (is_equality o) (misfit (sum_at y) (total_kind scope x) (total_kind scope y))
        (misfit (sum_at x) (Some Integer) (total_kind scope x)
        ++ misfit (sum_at y) (Some Integer) (total_kind scope y))) e in
        let q = append_is_nil (sum_types scope x) (sum_types scope y) p.0 in (
          Boolean,
          refl,
          sided b loops (sum_at x) (sum_at y) o (total_kind scope x) (total_kind scope y) (sum_of scope x)
              (sum_of scope y) (sum_sound x q.0) (sum_sound y q.1) p.1,
        )

    pub expression_sound : (x : Expression ℕ) → expression_types scope x ≡ []
        → HasKind b loops (expression_kind scope x) (expression_of scope x)
    expression_sound (expression first no_relations) e = relation_sound first e
    expression_sound (expression first (join o x rest)) e =
        let p =
        append_is_nil (relation_types scope first
        ++ misfit (relation_at first) (Some Boolean) (relation_kind scope first))
        (relations_types scope (join o x rest)) e in
        let q =
        append_is_nil (relation_types scope first)
        (misfit (relation_at first) (Some Boolean) (relation_kind scope first)) p.0 in (
          Boolean,
          refl,
          relations_sound (join o x rest) p.1 (kinds_of (relation_of scope first) b loops)
              (is_truth b loops (relation_at first) (relation_kind scope first) (relation_of scope first)
              (relation_sound first q.0) q.1),
        )

    pub relations_sound : (x : Relations ℕ) → relations_types scope x ≡ [] → (left : Kinds) → left.boolean ≡ true
        → (kinds_along (relations_of scope x) b loops left).boolean ≡ true
    relations_sound no_relations e left h = h
    relations_sound (join o x rest) e left h =
        let p =
        append_is_nil (relation_types scope x ++ misfit (relation_at x) (Some Boolean) (relation_kind scope x))
        (relations_types scope rest) e in
        let q =
        append_is_nil (relation_types scope x) (misfit (relation_at x) (Some Boolean) (relation_kind scope x)) p.0 in
        let here =
        is_truth b loops (relation_at x) (relation_kind scope x) (relation_of scope x) (relation_sound x q.0) q.1 in
        relations_sound rest p.1 (operator_kinds (logic_op o) left (kinds_of (relation_of scope x) b loops))
        (connected o left (kinds_of (relation_of scope x) b loops) h here)
