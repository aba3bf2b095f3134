-- Lists with an element for each number.
use Rattle.std.proofs.Common.{◌≡◌, ℕ, ◌+◌, ◌<◌, List, [], ◌∷◌, ◌++◌, map, All, AllPairs, sym, ap, ◌∙◌, subst₂, arith}
use Rattle.std.proofs.Common.{append_assoc}
use Rattle.pals_base.specs.UpwardNumbers.{upwards}
use Rattle.pals_base.proofs.UpwardNumbers.{map_upwards_more, get_or-map_upwards, length-map_upwards, All-map_upwards}

-- a property of each number, and of each two
pub numbered_all : {X : Type 0} (P : X → Type 0) (f : ℕ → X) (n : ℕ) → ((k : ℕ) → k < n → P (f k))
    → All P (map f (upwards 0 n))
numbered_all P f n each = All-map_upwards P f 0 n (λ k above below. let within : k < n = omega arith in each k within)

pub numbered_pairs : {X : Type 0} (R : X → X → Type 0) (f : ℕ → X) (n : ℕ) → ((j k : ℕ) → j < k → k < n → R (f j) (f k))
    → AllPairs R (map f (upwards 0 n))
numbered_pairs R f n each j k d less within =
    let size = length-map_upwards f 0 n in
    let below : k < n = omega arith in
    subst₂ R (sym (get_or-map_upwards f n j d (omega arith))) (sym (get_or-map_upwards f n k d below))
    (each j k less below)

-- one more after others
pub add_numbered : {X : Type 0} (before : List X) (f : ℕ → X) (n : ℕ)
    → (before ++ map f (upwards 0 n)) ++ f n ∷ [] ≡ before ++ map f (upwards 0 (n + 1))
add_numbered before f n =
    append_assoc before (map f (upwards 0 n)) (f n ∷ []) ∙ ap (λ rest. before ++ rest) (sym (map_upwards_more f n))
