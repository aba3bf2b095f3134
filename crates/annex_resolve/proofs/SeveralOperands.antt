-- An expression of several operands, and the test whether there are several.
use Rattle.std.proofs.Common.{◌≡◌, Bool, true, false, ◌==◌, List, [], ◌∷◌, length, arith, vec_len, refl, sym, ap, ◌∙◌}
use Rattle.std.proofs.Common.{Box, Vec, Global}
use Rattle.std.proofs.lemmas.Bool.{true≢false, eqb-true}
use Rattle.pals_base.specs.declared.behaviour.Expr.{Expr}
use Rattle.pals_base.specs.declared.behaviour.Expr.TheVariants as expr
use Rattle.pals_base.specs.declared.behaviour.Operand.{Operand}
use Rattle.pals_base.specs.ExpressionAndActionTrees as plain
use Rattle.pals_base.specs.proof.TreeViews.{tree_of, operands_along}
use Rattle.pals_base.proofs.TreeViews.{tree_of-Chain}
use Rattle.annex_resolve.specs.ResolvedTrees.{chained}

-- an empty vector and a nonempty one, by the test
pub empty_by : {X : Type 0} (v : Vec X Global) (r : Bool) → r ≡ (vec_len v == 0) → r ≡ true → length v.items ≡ 0
empty_by v r is holds = let none = eqb-true (vec_len v) 0 (sym is ∙ holds) in omega (arith, none, v.ok)

pub some_by : {X : Type 0} (v : Vec X Global) (r : Bool) → r ≡ (vec_len v == 0) → r ≡ false → length v.items ≡ 0 → ⊥
some_by v r is fails none = let zero : vec_len v ≡ 0 = omega (arith, none, v.ok) in
    true≢false (sym (ap (λ m. m == 0) zero) ∙ sym is ∙ fails)

chained_some : (e : plain.Expression) (rest : List Operand) → (length rest ≡ 0 → ⊥)
    → plain.Chain e (operands_along rest) ≡ chained e (operands_along rest)
chained_some e [] some = absurd (some refl)
chained_some e (o ∷ os) some = refl

pub chained_several : (first : Expr) (place : Box Expr Global) (rest : Vec Operand Global) (empty : Bool)
    → empty ≡ false → empty ≡ (vec_len rest == 0) → place.value ≡ first
    → tree_of (expr.Chain place rest) ≡ chained (tree_of first) (operands_along rest.items)
chained_several first place rest empty not is same =
    tree_of-Chain place rest ∙ ap (λ e. plain.Chain (tree_of e) (operands_along rest.items)) same
    ∙ chained_some (tree_of first) rest.items (some_by rest empty is not)
