-- Lists with equal plain trees without places have equal lengths. For the comparison of trees.
use Rattle.std.proofs.Common.{◌≡◌, suc, List, [], ◌∷◌, length, refl, ap}
use Rattle.aadl_tree.specs.declared.values.Value.{Value}
use Rattle.aadl_tree.specs.declared.values.Association.{Association}
use Rattle.aadl_tree.specs.declared.expressions.Sign.{Sign}
use Rattle.aadl_tree.specs.declared.expressions.LogicOperator.{LogicOperator}
use Rattle.aadl_tree.specs.declared.expressions.MultiplyOperator.{MultiplyOperator}
use Rattle.aadl_tree.specs.declared.expressions.Factor.{Factor}
use Rattle.aadl_tree.specs.declared.expressions.Term.{Term}
use Rattle.aadl_tree.specs.declared.expressions.Relation.{Relation}
use Rattle.aadl_tree.specs.declared.actions.Action.{Action}
use Rattle.aadl_tree.specs.declared.actions.Elsif.{Elsif}
use Rattle.aadl_tree.specs.proof.ValueViews.{values_view, associations_view}
use Rattle.aadl_tree.specs.proof.ExpressionViews.{factors_view, terms_view, relations_view}
use Rattle.aadl_tree.specs.proof.ActionViews.{mores_view, elsifs_view}
use Rattle.aadl_tree.specs.proof.PlaceMaps.{no_place}

pub values-length : (a b : List Value) → values_view no_place a ≡ values_view no_place b → length a ≡ length b
values-length [] [] same = refl
values-length [] (y ∷ ys) same = cc
values-length (x ∷ xs) [] same = cc
values-length (x ∷ xs) (y ∷ ys) same = let rest : values_view no_place xs ≡ values_view no_place ys = cc in
    ap suc (values-length xs ys rest)

pub associations-length : (a b : List Association) → associations_view no_place a ≡ associations_view no_place b
    → length a ≡ length b
associations-length [] [] same = refl
associations-length [] (y ∷ ys) same = cc
associations-length (x ∷ xs) [] same = cc
associations-length (x ∷ xs) (y ∷ ys) same = let rest : associations_view no_place xs ≡ associations_view no_place ys =
    cc in ap suc (associations-length xs ys rest)

pub factors-length : (a b : List (MultiplyOperator × Factor)) → factors_view no_place a ≡ factors_view no_place b
    → length a ≡ length b
factors-length [] [] same = refl
factors-length [] (y ∷ ys) same = cc
factors-length (x ∷ xs) [] same = cc
factors-length (x ∷ xs) (y ∷ ys) same = let rest : factors_view no_place xs ≡ factors_view no_place ys = cc in
    ap suc (factors-length xs ys rest)

pub terms-length : (a b : List (Sign × Term)) → terms_view no_place a ≡ terms_view no_place b → length a ≡ length b
terms-length [] [] same = refl
terms-length [] (y ∷ ys) same = cc
terms-length (x ∷ xs) [] same = cc
terms-length (x ∷ xs) (y ∷ ys) same = let rest : terms_view no_place xs ≡ terms_view no_place ys = cc in
    ap suc (terms-length xs ys rest)

pub relations-length : (a b : List (LogicOperator × Relation)) → relations_view no_place a ≡ relations_view no_place b
    → length a ≡ length b
relations-length [] [] same = refl
relations-length [] (y ∷ ys) same = cc
relations-length (x ∷ xs) [] same = cc
relations-length (x ∷ xs) (y ∷ ys) same = let rest : relations_view no_place xs ≡ relations_view no_place ys = cc in
    ap suc (relations-length xs ys rest)

pub mores-length : (a b : List Action) → mores_view no_place a ≡ mores_view no_place b → length a ≡ length b
mores-length [] [] same = refl
mores-length [] (y ∷ ys) same = cc
mores-length (x ∷ xs) [] same = cc
mores-length (x ∷ xs) (y ∷ ys) same = let rest : mores_view no_place xs ≡ mores_view no_place ys = cc in
    ap suc (mores-length xs ys rest)

pub elsifs-length : (a b : List Elsif) → elsifs_view no_place a ≡ elsifs_view no_place b → length a ≡ length b
elsifs-length [] [] same = refl
elsifs-length [] (y ∷ ys) same = cc
elsifs-length (x ∷ xs) [] same = cc
elsifs-length (x ∷ xs) (y ∷ ys) same = let rest : elsifs_view no_place xs ≡ elsifs_view no_place ys = cc in
    ap suc (elsifs-length xs ys rest)
