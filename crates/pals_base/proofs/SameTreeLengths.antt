-- For `same_act` and `same_expr`: two lists with the same trees have the same length.
use Rattle.std.proofs.Common.{◌≡◌, suc, List, [], ◌∷◌, length, refl, ap}
use Rattle.pals_base.specs.declared.behaviour.Operand.{Operand}
use Rattle.pals_base.specs.declared.behaviour.Act.{Act}
use Rattle.pals_base.specs.declared.behaviour.Branch.{Branch}
use Rattle.pals_base.specs.proof.TreeViews.{operands_along, actions_along, branches_along}

pub same_operands-length : (a b : List Operand) → operands_along a ≡ operands_along b → length a ≡ length b
same_operands-length [] [] same = refl
same_operands-length [] (y ∷ ys) same = cc
same_operands-length (x ∷ xs) [] same = cc
same_operands-length (x ∷ xs) (y ∷ ys) same = let rest : operands_along xs ≡ operands_along ys = cc in
    ap suc (same_operands-length xs ys rest)

pub same_acts-length : (a b : List Act) → actions_along a ≡ actions_along b → length a ≡ length b
same_acts-length [] [] same = refl
same_acts-length [] (y ∷ ys) same = cc
same_acts-length (x ∷ xs) [] same = cc
same_acts-length (x ∷ xs) (y ∷ ys) same = let rest : actions_along xs ≡ actions_along ys = cc in
    ap suc (same_acts-length xs ys rest)

pub same_branches-length : (a b : List Branch) → branches_along a ≡ branches_along b → length a ≡ length b
same_branches-length [] [] same = refl
same_branches-length [] (y ∷ ys) same = cc
same_branches-length (x ∷ xs) [] same = cc
same_branches-length (x ∷ xs) (y ∷ ys) same = let rest : branches_along xs ≡ branches_along ys = cc in
    ap suc (same_branches-length xs ys rest)
