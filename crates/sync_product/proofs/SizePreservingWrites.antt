-- The sizes of a list's elements stay the same when one is written over by an element of its size.
use Rattle.std.proofs.Common.{◌≡◌, ◌∙◌, ℕ, zero, suc, ◌<◌, List, [], ◌∷◌, length, map, set, slice_index_or, ap, arith}

-- an element written over by one of its size
pub same_sizes : {X S : Type 0} (size : X → S) (xs : List X) (i : ℕ) (x y : X) → i < length xs
    → x ≡ slice_index_or xs i x → size y ≡ size x → map size (set xs i y) ≡ map size xs
same_sizes size [] i x y within item same = absurd (omega arith)
same_sizes size (z ∷ xs) zero x y within item same = ap (λ s. s ∷ map size xs) (same ∙ ap size item)
same_sizes size (z ∷ xs) (suc i) x y within item same =
    ap (λ ss. size z ∷ ss) (same_sizes size xs i x y (omega arith) item same)
