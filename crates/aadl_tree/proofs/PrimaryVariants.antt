-- The variant of an operand is determined by its plain operand: a number, a Boolean, a name or a group. For the
-- comparison of expressions.
use Rattle.std.proofs.Common.{◌≡◌, ◌∙◌, ℕ, ℤ, Bool, Box, Global, ap, sym}
use Rattle.aadl_tree.specs.declared.names.Identifier.{Identifier}
use Rattle.aadl_tree.specs.declared.expressions.Factor.{Factor}
use Rattle.aadl_tree.specs.declared.expressions.Factor.TheOpen.{Primary-F}
use Rattle.aadl_tree.specs.declared.expressions.Factor.TheViews.{out-Primary, roll-Primary, roll-out-Primary}
use Rattle.aadl_tree.specs.declared.expressions.Primary.{Primary, Whole, Truth, Named, Group}
use Rattle.aadl_tree.specs.declared.expressions.Primary.TheVariants.{rolls-Whole, rolls-Truth, rolls-Named, rolls-Group}
use Rattle.aadl_tree.specs.declared.expressions.Expression.{Expression}
use Rattle.aadl_tree.specs.declared.expressions.Relation.{Relation}
use Rattle.aadl_tree.specs.declared.expressions.Sum.{Sum}
use Rattle.aadl_tree.specs.declared.expressions.Term.{Term}
use Rattle.aadl_tree.specs.Names as plain
use Rattle.aadl_tree.specs.Expressions as plain_expressions
use Rattle.aadl_tree.specs.Expressions.{number, truth, named, group}
use Rattle.aadl_tree.specs.proof.ExpressionViews.{primary_view}
use Rattle.aadl_tree.specs.proof.PlaceMaps.{no_place}
use Rattle.aadl_tree.proofs.ExpressionViews.{view-Whole, view-Truth, view-Named, view-Group}

abbrev Level : Type 0
Level = Primary-F Factor Primary Expression Relation Sum Term

abbrev IsWhole : Primary → Type 0
IsWhole x = (at : ℕ) × (m : ℤ) × (x ≡ Whole at m)

abbrev IsTruth : Primary → Type 0
IsTruth x = (at : ℕ) × (b : Bool) × (x ≡ Truth at b)

abbrev IsNamed : Primary → Type 0
IsNamed x = (y : Identifier) × (fresh : Bool) × (x ≡ Named y fresh)

abbrev view : Primary → plain_expressions.Primary (Unit {0})
view x = primary_view no_place x

whole_layer : (x : Primary) (layer : Level) (n : ℤ) → x ≡ roll-Primary layer → view x ≡ number tt n → IsWhole x
whole_layer x (Primary-F.Whole at m) n is e = (at, m, is ∙ rolls-Whole at m)
whole_layer x (Primary-F.Truth at b) n is e = let f = ap view (is ∙ rolls-Truth at b)
    ∙ view-Truth no_place at b in absurd cc
whole_layer x (Primary-F.Named y fresh) n is e = let f = ap view (is ∙ rolls-Named y fresh)
    ∙ view-Named no_place y fresh in absurd cc
whole_layer x (Primary-F.Group at y) n is e = let f = ap view (is ∙ rolls-Group at y)
    ∙ view-Group no_place at y in absurd cc

pub only_whole : (x : Primary) (n : ℤ) → view x ≡ number tt n → IsWhole x
only_whole x n e = whole_layer x (out-Primary x) n (sym (roll-out-Primary x)) e

truth_layer : (x : Primary) (layer : Level) (b : Bool) → x ≡ roll-Primary layer → view x ≡ truth tt b → IsTruth x
truth_layer x (Primary-F.Whole at m) b is e = let f = ap view (is ∙ rolls-Whole at m)
    ∙ view-Whole no_place at m in absurd cc
truth_layer x (Primary-F.Truth at c) b is e = (at, c, is ∙ rolls-Truth at c)
truth_layer x (Primary-F.Named y fresh) b is e = let f = ap view (is ∙ rolls-Named y fresh)
    ∙ view-Named no_place y fresh in absurd cc
truth_layer x (Primary-F.Group at y) b is e = let f = ap view (is ∙ rolls-Group at y)
    ∙ view-Group no_place at y in absurd cc

pub only_truth : (x : Primary) (b : Bool) → view x ≡ truth tt b → IsTruth x
only_truth x b e = truth_layer x (out-Primary x) b (sym (roll-out-Primary x)) e

named_layer : (x : Primary) (layer : Level) (name : plain.Identifier (Unit {0})) (fresh : Bool) → x ≡ roll-Primary layer
    → view x ≡ named name fresh → IsNamed x
named_layer x (Primary-F.Whole at m) name fresh is e = let f = ap view (is ∙ rolls-Whole at m)
    ∙ view-Whole no_place at m in absurd cc
named_layer x (Primary-F.Truth at b) name fresh is e = let f = ap view (is ∙ rolls-Truth at b)
    ∙ view-Truth no_place at b in absurd cc
named_layer x (Primary-F.Named y f) name fresh is e = (y, f, is ∙ rolls-Named y f)
named_layer x (Primary-F.Group at y) name fresh is e = let f = ap view (is ∙ rolls-Group at y)
    ∙ view-Group no_place at y in absurd cc

pub only_named : (x : Primary) (name : plain.Identifier (Unit {0})) (fresh : Bool)
    → view x ≡ named name fresh → IsNamed x
only_named x name fresh e = named_layer x (out-Primary x) name fresh (sym (roll-out-Primary x)) e

abbrev IsGroup : Primary → Type 0
IsGroup x = (at : ℕ) × (e : Box Expression Global) × (x ≡ Group at e)

group_layer : (x : Primary) (layer : Level) (inner : plain_expressions.Expression (Unit {0})) → x ≡ roll-Primary layer
    → view x ≡ group tt inner → IsGroup x
group_layer x (Primary-F.Whole at m) inner is e = let f = ap view (is ∙ rolls-Whole at m)
    ∙ view-Whole no_place at m in absurd cc
group_layer x (Primary-F.Truth at b) inner is e = let f = ap view (is ∙ rolls-Truth at b)
    ∙ view-Truth no_place at b in absurd cc
group_layer x (Primary-F.Named y fresh) inner is e = let f = ap view (is ∙ rolls-Named y fresh)
    ∙ view-Named no_place y fresh in absurd cc
group_layer x (Primary-F.Group at y) inner is e = (at, y, is ∙ rolls-Group at y)

pub only_group : (x : Primary) (inner : plain_expressions.Expression (Unit {0})) → view x ≡ group tt inner → IsGroup x
only_group x inner e = group_layer x (out-Primary x) inner (sym (roll-out-Primary x)) e
