-- What the digits of a word spell.
use Rattle.std.proofs.Common.{◌≡◌, ◌∙◌, ℕ, ◌+◌, ◌-◌, ◌*◌, ◌<◌, ◌≤◌, List, [], ◌∷◌, length, take, drop, sym, ap, subst}
use Rattle.std.proofs.Common.{arith}
use Rattle.std.specs.Prelude.{fold, slice_index_or}
use Rattle.std.proofs.lemmas.List.{take_more, take-append-drop}
use Rattle.std.proofs.lemmas.List.Sums.{fold-append}
use Rattle.run_laws.specs.LineForms.{spelled}

abbrev with_digit : ℕ → ℕ → ℕ
with_digit n digit = n * 10 + (digit - 48)

-- one more digit
pub spelled_more : (word : List ℕ) (at d : ℕ) → at < length word
    → spelled (take (at + 1) word) ≡ spelled (take at word) * 10 + (slice_index_or word at d - 48)
spelled_more word at d within =
    ap (λ (w : List ℕ). spelled w) (take_more word at d within)
    ∙ fold-append with_digit 0 (take at word) (slice_index_or word at d ∷ [])

grows : (n : ℕ) (word : List ℕ) → n ≤ fold with_digit n word
grows n [] = omega arith
grows n (digit ∷ word) = let rest = grows (with_digit n digit) word in omega arith

-- the first digits spell no more than all
pub spelled_above : (word : List ℕ) (at : ℕ) → spelled (take at word) ≤ spelled word
spelled_above word at =
    let whole =
    sym (fold-append with_digit 0 (take at word) (drop at word))
    ∙ ap (λ (w : List ℕ). spelled w) (take-append-drop at word) in
    subst (λ (n : ℕ). spelled (take at word) ≤ n) whole (grows (spelled (take at word)) (drop at word))
