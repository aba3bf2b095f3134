-- The resolved terms and sums of a text, with their lists of factors and terms, are the ones of the definition, one
-- level of their trees after another.
use Rattle.std.proofs.Common.{◌≡◌, ℕ, ◌+◌, ◌<◌, List, [], ◌∷◌, ◌++◌, length, take, get_or, Option, Some, None, refl}
use Rattle.std.proofs.Common.{sym, ap, ◌∙◌, append_assoc, arith}
use Rattle.std.specs.Prelude.{option_map}
use Rattle.std.proofs.lemmas.List.{take_more, append-nil}
use Rattle.pals_base.specs.declared.behaviour.Expr.{Expr}
use Rattle.pals_base.specs.declared.behaviour.Operand.{Operand}
use Rattle.pals_base.specs.declared.behaviour.Kind.{Kind}
use Rattle.pals_base.specs.declared.behaviour.Kind.TheVariants.{Integer}
use Rattle.pals_base.specs.declared.behaviour.Op.{Op}
use Rattle.pals_base.specs.ExpressionAndActionTrees as plain
use Rattle.pals_base.specs.proof.TreeViews.{tree_of, operands_along}
use Rattle.aadl_tree.specs.declared.expressions.MultiplyOperator.{MultiplyOperator}
use Rattle.aadl_tree.specs.declared.expressions.Sign.{Sign}
use Rattle.aadl_tree.specs.declared.expressions.LeadingSign as source_leading
use Rattle.aadl_tree.specs.declared.expressions.Factor as source_factor
use Rattle.aadl_tree.specs.declared.expressions.Term as source_term
use Rattle.aadl_tree.specs.Expressions.{Factor, Term, term, total}
use Rattle.aadl_tree.specs.ExpressionOffsets.{factor_at, term_at}
use Rattle.aadl_tree.specs.proof.PlaceMaps.{kept_place}
use Rattle.aadl_tree.specs.proof.ExpressionViews.{leading_view, factor_view, factors_view, term_view, terms_view}
use Rattle.annex_resolve.specs.declared.scope.Scope.{Scope}
use Rattle.annex_resolve.specs.declared.expressions.Typed.{Typed}
use Rattle.annex_resolve.specs.declared.violation.Violation.{Violation}
use Rattle.annex_resolve.specs.ExpressionTypesAndFindings.{misfit, factor_kind, factor_types, factors_types, term_kind}
use Rattle.annex_resolve.specs.ExpressionTypesAndFindings.{term_types, terms_types, total_kind, sum_types}
use Rattle.annex_resolve.specs.ResolvedTrees.{chained, signed_by, multiply_op, sign_op, factor_of, factors_of, term_of}
use Rattle.annex_resolve.specs.ResolvedTrees.{terms_of, sum_of}
use Rattle.annex_resolve.specs.proof.ResolutionResults.{Resolves, ResolvesOperands}

-- ---- lists of findings
pub three : (b f m r : List Violation) → ((b ++ f) ++ m) ++ r ≡ b ++ ((f ++ m) ++ r)
three b f m r = ap (λ l. l ++ r) (append_assoc b f m) ∙ append_assoc b (f ++ m) r

-- ---- operands in sequence
abbrev pub put_last : plain.Operands → Op → plain.Expression → plain.Operands
put_last plain.NoMore op e = plain.Then op e plain.NoMore
put_last (plain.Then o x rest) op e = plain.Then o x (put_last rest op e)

operands-push : (os : List Operand) (o : Operand)
    → operands_along (os ++ o ∷ []) ≡ put_last (operands_along os) o.op (tree_of o.right)
operands-push [] o = refl
operands-push (x ∷ xs) o = ap (λ r. plain.Then x.op (tree_of x.right) r) (operands-push xs o)

pub take_next : {X : Type 0} (xs : List X) (i : ℕ) (x : X) → i < length xs → x ≡ get_or xs i x
    → take (i + 1) xs ≡ take i xs ++ x ∷ []
take_next xs i x within is = take_more xs i x within ∙ ap (λ y. take i xs ++ y ∷ []) (sym is)

-- one more operand has been read
pub one_more : (tree next : plain.Operands) (fs gs its : List Violation) (op : Op) (item : plain.Expression)
    (kind : Option Kind) (k : Kind) (at place : ℕ) (t : Typed) (ops news : List Operand) (b m0 m1 m2 : List Violation)
    → ResolvesOperands tree fs ops b m0 → Resolves item kind its t m0 m1 → at ≡ place
    → m2 ≡ m1 ++ misfit at (Some k) t.kind
    → news ≡ ops ++ record { op = op; right = t.expr } ∷ [] → next ≡ put_last tree op item
    → gs ≡ fs ++ (its ++ misfit place (Some k) kind)
    → ResolvesOperands next gs news b m2
one_more tree next fs gs its op item kind k at place t ops news b m0 m1 m2 before reads here found pushed next_is
    gs_is = record {
      tree_is = ap operands_along pushed ∙ operands-push ops (record { op = op; right = t.expr })
          ∙ ap (λ l. put_last l op (tree_of t.expr)) before.tree_is ∙ ap (put_last tree op) reads.tree_is ∙ sym next_is;
      found =
          found ∙ ap (λ l. l ++ misfit at (Some k) t.kind) reads.found
          ∙ ap (λ l. (l ++ its) ++ misfit at (Some k) t.kind) before.found
          ∙ ap (λ a. ((b ++ fs) ++ its) ++ misfit a (Some k) t.kind) here
          ∙ ap (λ y. ((b ++ fs) ++ its) ++ misfit place (Some k) y) reads.kind_is
          ∙ append_assoc (b ++ fs) its (misfit place (Some k) kind)
          ∙ append_assoc b fs (its ++ misfit place (Some k) kind)
          ∙ ap (λ l. b ++ l) (sym gs_is);
    }

-- several operands have been read
pub several : (tree : plain.Expression) (kind : Option Kind) (fs rs : List Violation) (rest : plain.Operands) (k : Kind)
    (at place : ℕ) (t : Typed) (ops : List Operand) (e : Expr) (b m1 m2 a : List Violation)
    → Resolves tree kind fs t b m1 → at ≡ place → m2 ≡ m1 ++ misfit at (Some k) t.kind
    → ResolvesOperands rest rs ops m2 a
    → tree_of e ≡ chained (tree_of t.expr) (operands_along ops)
    → Resolves (chained tree rest) (Some k) ((fs ++ misfit place (Some k) kind) ++ rs)
    (record { expr = e; kind = Some k }) b a
several tree kind fs rs rest k at place t ops e b m1 m2 a reads here found behind is = record {
  tree_is = is ∙ ap (λ x. chained x (operands_along ops)) reads.tree_is ∙ ap (chained tree) behind.tree_is;
  kind_is = refl;
  found =
      behind.found ∙ ap (λ l. l ++ rs)
      (found ∙ ap (λ l. l ++ misfit at (Some k) t.kind) reads.found
      ∙ ap (λ p. (b ++ fs) ++ misfit p (Some k) t.kind) here
      ∙ ap (λ y. (b ++ fs) ++ misfit place (Some k) y) reads.kind_is)
      ∙ three b fs (misfit place (Some k) kind) rs;
}

-- ---- factor
pub factors-push : (scope : Scope) (xs : List (MultiplyOperator × source_factor.Factor))
    (x : MultiplyOperator × source_factor.Factor)
    → factors_of scope (factors_view kept_place (xs ++ x ∷ []))
    ≡ put_last (factors_of scope (factors_view kept_place xs)) (multiply_op x.0)
    (factor_of scope (factor_view kept_place x.1))
unfolding factors_of
factors-push scope [] x = refl
factors-push scope (y ∷ ys) x =
    ap (λ r. plain.Then (multiply_op y.0) (factor_of scope (factor_view kept_place y.1)) r) (factors-push scope ys x)

pub factors_types-push : (scope : Scope) (xs : List (MultiplyOperator × source_factor.Factor))
    (x : MultiplyOperator × source_factor.Factor)
    → factors_types scope (factors_view kept_place (xs ++ x ∷ []))
    ≡ factors_types scope (factors_view kept_place xs)
    ++ (factor_types scope (factor_view kept_place x.1)
    ++ misfit (factor_at (factor_view kept_place x.1)) (Some Integer)
    (factor_kind scope (factor_view kept_place x.1)))
unfolding factors_types
factors_types-push scope [] x =
    append-nil (factor_types scope (factor_view kept_place x.1)
    ++ misfit (factor_at (factor_view kept_place x.1)) (Some Integer)
    (factor_kind scope (factor_view kept_place x.1)))
factors_types-push scope (y ∷ ys) x =
    let front =
    factor_types scope (factor_view kept_place y.1)
    ++ misfit (factor_at (factor_view kept_place y.1)) (Some Integer)
    (factor_kind scope (factor_view kept_place y.1)) in
    ap (λ l. front ++ l) (factors_types-push scope ys x)
    ∙ sym (append_assoc front (factors_types scope (factors_view kept_place ys))
    (factor_types scope (factor_view kept_place x.1)
    ++ misfit (factor_at (factor_view kept_place x.1)) (Some Integer)
    (factor_kind scope (factor_view kept_place x.1))))

pub term_alone : (scope : Scope) (first : Factor ℕ) (rest : List (MultiplyOperator × source_factor.Factor)) (t : Typed)
    (b a : List Violation) → length rest ≡ 0
    → Resolves (factor_of scope first) (factor_kind scope first) (factor_types scope first) t b a
    → let x = term first (factors_view kept_place rest) in
    Resolves (term_of scope x) (term_kind scope x) (term_types scope x) t b a
unfolding term_of term_kind term_types
term_alone scope first [] t b a none reads =
    record { tree_is = reads.tree_is; kind_is = reads.kind_is; found = reads.found }
term_alone scope first (x ∷ xs) t b a none reads = absurd (omega (arith, none))

pub term_several : (scope : Scope) (first : Factor ℕ) (rest : List (MultiplyOperator × source_factor.Factor)) (at : ℕ)
    (t : Typed) (ops : List Operand) (e : Expr) (b m1 m2 a : List Violation) → (length rest ≡ 0 → ⊥)
    → Resolves (factor_of scope first) (factor_kind scope first) (factor_types scope first) t b m1
    → at ≡ factor_at first
    → m2 ≡ m1 ++ misfit at (Some Integer) t.kind
    → ResolvesOperands (factors_of scope (factors_view kept_place rest))
    (factors_types scope (factors_view kept_place rest)) ops m2 a
    → tree_of e ≡ chained (tree_of t.expr) (operands_along ops)
    → let x = term first (factors_view kept_place rest) in
    Resolves (term_of scope x) (term_kind scope x) (term_types scope x) (record { expr = e; kind = Some Integer }) b a
unfolding term_of term_kind term_types
term_several scope first [] at t ops e b m1 m2 a some reads here found behind is = absurd (some refl)
term_several scope first (x ∷ xs) at t ops e b m1 m2 a some reads here found behind is =
    several (factor_of scope first) (factor_kind scope first) (factor_types scope first)
    (factors_types scope (factors_view kept_place (x ∷ xs))) (factors_of scope (factors_view kept_place (x ∷ xs)))
    Integer at (factor_at first) t ops e b m1 m2 a reads here found behind is

-- ---- term
pub terms-push : (scope : Scope) (xs : List (Sign × source_term.Term)) (x : Sign × source_term.Term)
    → terms_of scope (terms_view kept_place (xs ++ x ∷ []))
    ≡ put_last (terms_of scope (terms_view kept_place xs)) (sign_op x.0) (term_of scope (term_view kept_place x.1))
unfolding terms_of
terms-push scope [] x = refl
terms-push scope (y ∷ ys) x =
    ap (λ r. plain.Then (sign_op y.0) (term_of scope (term_view kept_place y.1)) r) (terms-push scope ys x)

pub terms_types-push : (scope : Scope) (xs : List (Sign × source_term.Term)) (x : Sign × source_term.Term)
    → terms_types scope (terms_view kept_place (xs ++ x ∷ []))
    ≡ terms_types scope (terms_view kept_place xs)
    ++ (term_types scope (term_view kept_place x.1)
    ++ misfit (term_at (term_view kept_place x.1)) (Some Integer) (term_kind scope (term_view kept_place x.1)))
unfolding terms_types
terms_types-push scope [] x =
    append-nil (term_types scope (term_view kept_place x.1)
    ++ misfit (term_at (term_view kept_place x.1)) (Some Integer) (term_kind scope (term_view kept_place x.1)))
terms_types-push scope (y ∷ ys) x =
    let front =
    term_types scope (term_view kept_place y.1)
    ++ misfit (term_at (term_view kept_place y.1)) (Some Integer) (term_kind scope (term_view kept_place y.1)) in
    ap (λ l. front ++ l) (terms_types-push scope ys x)
    ∙ sym (append_assoc front (terms_types scope (terms_view kept_place ys))
    (term_types scope (term_view kept_place x.1)
    ++ misfit (term_at (term_view kept_place x.1)) (Some Integer)
    (term_kind scope (term_view kept_place x.1))))

-- ---- a sum
pub sum_alone : (scope : Scope) (sign : Option source_leading.LeadingSign) (first : Term ℕ)
    (rest : List (Sign × source_term.Term)) (t : Typed) (b a : List Violation) → sign ≡ None → length rest ≡ 0
    → Resolves (term_of scope first) (term_kind scope first) (term_types scope first) t b a
    → let x = total (option_map (leading_view kept_place) sign) first (terms_view kept_place rest) in
    Resolves (sum_of scope x) (total_kind scope x) (sum_types scope x) t b a
unfolding sum_of total_kind sum_types
sum_alone scope None first [] t b a unsigned none reads =
    record {
      tree_is = reads.tree_is;
      kind_is = reads.kind_is;
      found = reads.found ∙ ap (λ l. b ++ l)
          (sym (append-nil (term_types scope first ++ []) ∙ append-nil (term_types scope first)));
    }
sum_alone scope (Some s) first rest t b a unsigned none reads = absurd (cc unsigned)
sum_alone scope None first (x ∷ xs) t b a unsigned none reads = absurd (omega (arith, none))

-- a sign's operand, or the first of several
pub sum_several : (scope : Scope) (sign : Option source_leading.LeadingSign) (first : Term ℕ)
    (rest : List (Sign × source_term.Term)) (at : ℕ) (t : Typed) (s : Expr) (ops : List Operand) (e : Expr)
    (b m1 m2 a : List Violation)
    → (sign ≡ None → length rest ≡ 0 → ⊥)
    → Resolves (term_of scope first) (term_kind scope first) (term_types scope first) t b m1 → at ≡ term_at first
    → m2 ≡ m1 ++ misfit at (Some Integer) t.kind
    → tree_of s ≡ signed_by (option_map (leading_view kept_place) sign) (tree_of t.expr)
    → ResolvesOperands (terms_of scope (terms_view kept_place rest))
    (terms_types scope (terms_view kept_place rest)) ops m2 a
    → tree_of e ≡ chained (tree_of s) (operands_along ops)
    → let x = total (option_map (leading_view kept_place) sign) first (terms_view kept_place rest) in
    Resolves (sum_of scope x) (total_kind scope x) (sum_types scope x) (record { expr = e; kind = Some Integer }) b a
unfolding sum_of total_kind sum_types
sum_several scope None first [] at t s ops e b m1 m2 a some reads here found signed behind is = absurd (some refl refl)
sum_several scope None first (x ∷ xs) at t s ops e b m1 m2 a some reads here found signed behind is =
    several (term_of scope first) (term_kind scope first) (term_types scope first)
    (terms_types scope (terms_view kept_place (x ∷ xs))) (terms_of scope (terms_view kept_place (x ∷ xs))) Integer
    at (term_at first) t ops e b m1 m2 a reads here found behind
    (is ∙ ap (λ y. chained y (operands_along ops)) signed)
sum_several scope (Some sign) first rest at t s ops e b m1 m2 a some reads here found signed behind is =
    record {
      tree_is =
          is ∙ ap (λ y. chained y (operands_along ops))
          (signed ∙ ap (signed_by (Some (leading_view kept_place sign))) reads.tree_is)
          ∙ ap (chained (signed_by (Some (leading_view kept_place sign)) (term_of scope first))) behind.tree_is;
      kind_is = refl;
      found =
          behind.found ∙ ap (λ l. l ++ terms_types scope (terms_view kept_place rest))
          (found ∙ ap (λ l. l ++ misfit at (Some Integer) t.kind) reads.found
          ∙ ap (λ p. (b ++ term_types scope first) ++ misfit p (Some Integer) t.kind) here
          ∙ ap (λ y. (b ++ term_types scope first) ++ misfit (term_at first) (Some Integer) y) reads.kind_is)
          ∙ three b (term_types scope first) (misfit (term_at first) (Some Integer) (term_kind scope first))
          (terms_types scope (terms_view kept_place rest));
    }
