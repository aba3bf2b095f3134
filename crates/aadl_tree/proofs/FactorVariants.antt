-- The variant of a factor is determined by its plain factor: absolute, negated or bare. For the comparison of
-- expressions.
use Rattle.std.proofs.Common.{◌≡◌, ◌∙◌, ℕ, ap, sym, Box, Global}
use Rattle.aadl_tree.specs.declared.expressions.Factor.{Factor, Abs, Not, Plain}
use Rattle.aadl_tree.specs.declared.expressions.Factor.TheOpen.{Factor-F}
use Rattle.aadl_tree.specs.declared.expressions.Factor.TheViews.{out-Factor, roll-Factor, roll-out-Factor, rolls-Abs}
use Rattle.aadl_tree.specs.declared.expressions.Factor.TheViews.{rolls-Not, rolls-Plain}
use Rattle.aadl_tree.specs.declared.expressions.Primary.{Primary}
use Rattle.aadl_tree.specs.declared.expressions.Expression.{Expression}
use Rattle.aadl_tree.specs.declared.expressions.Relation.{Relation}
use Rattle.aadl_tree.specs.declared.expressions.Sum.{Sum}
use Rattle.aadl_tree.specs.declared.expressions.Term.{Term}
use Rattle.aadl_tree.specs.Expressions as plain
use Rattle.aadl_tree.specs.Expressions.{absolute, negated, bare}
use Rattle.aadl_tree.specs.proof.ExpressionViews.{factor_view}
use Rattle.aadl_tree.specs.proof.PlaceMaps.{no_place}
use Rattle.aadl_tree.proofs.ExpressionViews.{view-Abs, view-Not, view-Plain}

abbrev Level : Type 0
Level = Factor-F Factor Primary Expression Relation Sum Term

abbrev view : Factor → plain.Factor (Unit {0})
view x = factor_view no_place x

abbrev IsAbsolute : Factor → Type 0
IsAbsolute x = (at : ℕ) × (y : Box Primary Global) × (x ≡ Abs at y)

absolute_layer : (x : Factor) (layer : Level) (operand : plain.Primary (Unit {0})) → x ≡ roll-Factor layer
    → view x ≡ absolute tt operand → IsAbsolute x
absolute_layer x (Factor-F.Abs at y) operand is e = (at, y, is ∙ rolls-Abs at y)
absolute_layer x (Factor-F.Not at y) operand is e = let f = ap view (is ∙ rolls-Not at y)
    ∙ view-Not no_place at y in absurd cc
absolute_layer x (Factor-F.Plain y) operand is e = let f = ap view (is ∙ rolls-Plain y)
    ∙ view-Plain no_place y in absurd cc

pub only_absolute : (x : Factor) (operand : plain.Primary (Unit {0})) → view x ≡ absolute tt operand → IsAbsolute x
only_absolute x operand e = absolute_layer x (out-Factor x) operand (sym (roll-out-Factor x)) e

abbrev IsNegated : Factor → Type 0
IsNegated x = (at : ℕ) × (y : Box Primary Global) × (x ≡ Not at y)

negated_layer : (x : Factor) (layer : Level) (operand : plain.Primary (Unit {0})) → x ≡ roll-Factor layer
    → view x ≡ negated tt operand → IsNegated x
negated_layer x (Factor-F.Abs at y) operand is e = let f = ap view (is ∙ rolls-Abs at y)
    ∙ view-Abs no_place at y in absurd cc
negated_layer x (Factor-F.Not at y) operand is e = (at, y, is ∙ rolls-Not at y)
negated_layer x (Factor-F.Plain y) operand is e = let f = ap view (is ∙ rolls-Plain y)
    ∙ view-Plain no_place y in absurd cc

pub only_negated : (x : Factor) (operand : plain.Primary (Unit {0})) → view x ≡ negated tt operand → IsNegated x
only_negated x operand e = negated_layer x (out-Factor x) operand (sym (roll-out-Factor x)) e

abbrev IsBare : Factor → Type 0
IsBare x = (y : Primary) × (x ≡ Plain y)

bare_layer : (x : Factor) (layer : Level) (operand : plain.Primary (Unit {0})) → x ≡ roll-Factor layer
    → view x ≡ bare operand → IsBare x
bare_layer x (Factor-F.Abs at y) operand is e = let f = ap view (is ∙ rolls-Abs at y)
    ∙ view-Abs no_place at y in absurd cc
bare_layer x (Factor-F.Not at y) operand is e = let f = ap view (is ∙ rolls-Not at y)
    ∙ view-Not no_place at y in absurd cc
bare_layer x (Factor-F.Plain y) operand is e = (y, is ∙ rolls-Plain y)

pub only_bare : (x : Factor) (operand : plain.Primary (Unit {0})) → view x ≡ bare operand → IsBare x
only_bare x operand e = bare_layer x (out-Factor x) operand (sym (roll-out-Factor x)) e
