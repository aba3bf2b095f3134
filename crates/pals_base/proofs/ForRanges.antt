-- The law that a loop iterates from low to high: the numbers of its range, and how many there are.
use Rattle.std.proofs.Common.{◌≡◌, ◌∙◌, ℕ, zero, suc, ◌<◌, ℤ, pos, negsuc, ◌+ℤ◌, ◌-ℤ◌, ◌≤ℤ◌, ◌<ℤ◌, [], length, get_or}
use Rattle.std.proofs.Common.{refl, sym, ap, subst, arith}
use Rattle.std.specs.List.{All}
use Rattle.std.proofs.lemmas.Int.{ints}
use Rattle.pals_base.specs.ForRanges.{counted_from, count_of, numbers}

pub length-counted_from : (low : ℤ) (n : ℕ) → length (counted_from low n) ≡ n
length-counted_from low zero = refl
length-counted_from low (suc n) = ap suc (length-counted_from (low +ℤ pos 1) n)

get_or-counted_from : (low : ℤ) (n i : ℕ) (d : ℤ) → i < n → get_or (counted_from low n) i d ≡ low +ℤ pos i
get_or-counted_from low zero i d within = absurd (omega arith)
get_or-counted_from low (suc n) zero d within = omega (arith, ints)
get_or-counted_from low (suc n) (suc i) d within =
    get_or-counted_from (low +ℤ pos 1) n i d (omega arith) ∙ omega (arith, ints)

count_of-below : (d : ℤ) (low high : ℤ) → high -ℤ low ≡ d → high <ℤ low → count_of d ≡ 0
count_of-below (pos d) low high is below = absurd (omega (arith, ints))
count_of-below (negsuc d) low high is below = refl

count_of-above : (d : ℤ) (low high : ℤ) → high -ℤ low ≡ d → low ≤ℤ high → pos (count_of d) ≡ d +ℤ pos 1
count_of-above (pos d) low high is above = omega (arith, ints)
count_of-above (negsuc d) low high is above = absurd (omega (arith, ints))

pub no_numbers : (low high : ℤ) → high <ℤ low → numbers low high ≡ []
no_numbers low high below = ap (counted_from low) (count_of-below (high -ℤ low) low high refl below)

pub length-numbers : (low high : ℤ) → low ≤ℤ high → pos (length (numbers low high)) ≡ (high -ℤ low) +ℤ pos 1
length-numbers low high above =
    ap pos (length-counted_from low (count_of (high -ℤ low))) ∙ count_of-above (high -ℤ low) low high refl above

pub get_or-numbers : (low high : ℤ) (i : ℕ) (d : ℤ) → i < length (numbers low high)
    → get_or (numbers low high) i d ≡ low +ℤ pos i
get_or-numbers low high i d within =
    let same = length-counted_from low (count_of (high -ℤ low)) in
    get_or-counted_from low (count_of (high -ℤ low)) i d (omega (arith, same))

place_within : (d low high : ℤ) (i : ℕ) → high -ℤ low ≡ d → i < count_of d
    → (low ≤ℤ (low +ℤ pos i)) × ((low +ℤ pos i) ≤ℤ high)
place_within (pos d) low high i is within = (omega (arith, ints), omega (arith, ints))
place_within (negsuc d) low high i is within = absurd (omega arith)

pub numbers_within : (low high : ℤ) → All (λ n. (low ≤ℤ n) × (n ≤ℤ high)) (numbers low high)
numbers_within low high i d within =
    let same = length-counted_from low (count_of (high -ℤ low)) in
    let P : ℤ → Type 0 = λ n. (low ≤ℤ n) × (n ≤ℤ high) in
    subst P (sym (get_or-numbers low high i d within))
    (place_within (high -ℤ low) low high i refl (omega (arith, same)))
