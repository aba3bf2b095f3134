-- Lists that have an element for each number below one, and what a search through a list finds.
use Rattle.std.proofs.Common.{◌≡◌, ◌∙◌, ℕ, suc, ◌<◌, Bool, true, false, cond, List, [], ◌∷◌, length, map, get_or, Some}
use Rattle.std.proofs.Common.{find, Contains, refl, sym, ap, arith}
use Rattle.std.proofs.lemmas.List.{length-map, ext_get_or}
use Rattle.pals_base.specs.UpwardNumbers.{upwards}
use Rattle.pals_base.proofs.UpwardNumbers.{length-upwards, get_or-map_upwards}

-- a list whose elements are those
pub table-is : {A : Type 0} (f : ℕ → A) (xs : List A) (d : A) → ((k : ℕ) → k < length xs → f k ≡ get_or xs k d)
    → map f (upwards 0 (length xs)) ≡ xs
table-is f xs d each =
    let size : length (map f (upwards 0 (length xs))) ≡ length xs = length-map (upwards 0 (length xs)) f
    ∙ length-upwards 0 (length xs) in
    ext_get_or d (map f (upwards 0 (length xs))) xs size
    (λ k within. let below : k < length xs = omega (arith, within, size) in
    get_or-map_upwards f (length xs) k d below ∙ each k below)

-- ---- what a search finds
found_by : {A : Type 0} (test : A → Bool) (x : A) (xs : List A) (y : A) (b : Bool) → test x ≡ b
    → cond b (Some x) (find test xs) ≡ Some y
    → (find test xs ≡ Some y → Contains xs y × (test y ≡ true)) → Contains (x ∷ xs) y × (test y ≡ true)
found_by test x xs y true passes is later =
    let same : x ≡ y = cc in
    ((0, omega arith, same), sym (ap test same) ∙ passes)
found_by test x xs y false fails is later =
    let rest = later is in
    let at = rest.0 in
    ((suc at.0, (let within : at.0 < length xs = at.1 in omega arith), at.2), rest.1)

pub found : {A : Type 0} (test : A → Bool) (xs : List A) (y : A) → find test xs ≡ Some y
    → Contains xs y × (test y ≡ true)
found test [] y is = absurd (cc)
found test (x ∷ xs) y is = found_by test x xs y (test x) refl is (found test xs y)
