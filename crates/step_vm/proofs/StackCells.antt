-- Cells and the stack in them.
use Rattle.std.proofs.Common.{◌≡◌, ◌∙◌, ℕ, zero, suc, ◌+◌, ◌<◌, ◌≤◌, ℤ, pos, List, ◌∷◌, length, slice_index_or}
use Rattle.std.proofs.Common.{slice_set, refl, ap, arith, add-one}
use Rattle.std.proofs.lemmas.List.{get_or-set_other, get_or-set_same}
use Rattle.step_vm.specs.proof.OperandStacks.{stacked}

pub length-stacked : (cells : List ℤ) (n : ℕ) → length (stacked cells n) ≡ n
length-stacked cells zero = refl
length-stacked cells (suc n) = ap suc (length-stacked cells n)

stacked-set : (cells : List ℤ) (top : ℕ) (v : ℤ) (n : ℕ) → n ≤ top → stacked (slice_set cells top v) n ≡ stacked cells n
stacked-set cells top v zero le = refl
stacked-set cells top v (suc n) le =
    ap (λ x. x ∷ stacked (slice_set cells top v) n) (get_or-set_other cells top n v (pos 0) (λ e. absurd (omega arith)))
    ∙ ap (λ xs. slice_index_or cells n (pos 0) ∷ xs) (stacked-set cells top v n (omega arith))

pub pushed : (cells : List ℤ) (top : ℕ) (v : ℤ) → top < length cells
    → stacked (slice_set cells top v) (top + 1) ≡ v ∷ stacked cells top
pushed cells top v within =
    ap (stacked (slice_set cells top v)) (add-one top)
    ∙ ap (λ x. x ∷ stacked (slice_set cells top v) top) (get_or-set_same cells top v (pos 0) within)
    ∙ ap (λ xs. v ∷ xs) (stacked-set cells top v top (omega arith))
