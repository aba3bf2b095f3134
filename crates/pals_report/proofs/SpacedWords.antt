-- Words separated by spaces, after one more word.
use Rattle.std.proofs.Common.{◌≡◌, ℕ, ◌≤◌, ◌-◌, List, [], ◌∷◌, ◌++◌, length, map, take, drop, get_or, codes, sym, ap}
use Rattle.std.proofs.Common.{◌∙◌, arith, append_assoc}
use Rattle.std.specs.List.{flat_map}
use Rattle.std.proofs.lemmas.List.{append-nil, take_all, take_rest}
use Rattle.pals_runs.specs.JournalLines.{spaced}

-- a space precedes each word except the first
spaced-cons : {X : Type 0} (f : X → List ℕ) (x : X) (xs : List X)
    → spaced (map f (x ∷ xs)) ≡ f x ++ flat_map (λ y. codes " " ++ f y) xs
spaced-cons f x [] = sym (append-nil (f x))
spaced-cons f x (y ∷ ys) = ap (λ t. f x ++ (32 ∷ t)) (spaced-cons f y ys)

-- the first word, and all following ones
pub spaced-all : {X : Type 0} (f : X → List ℕ) (d : X) (xs : List X) (i : ℕ) (old one out : List ℕ) → 1 ≤ length xs
    → length (take (length xs - 1) (drop 1 xs)) ≤ i → one ≡ old ++ f (get_or xs 0 d)
    → out ≡ one ++ flat_map (λ y. codes " " ++ f y) (take i (take (length xs - 1) (drop 1 xs)))
    → out ≡ old ++ spaced (map f xs)
spaced-all f d [] i old one out long end first more = absurd (omega arith)
spaced-all f d (x ∷ xs) i old one out long end first more =
    let rest : take (length (x ∷ xs) - 1) (drop 1 (x ∷ xs)) ≡ xs = take_rest (x ∷ xs) 1 in
    let all : take i (take (length (x ∷ xs) - 1) (drop 1 (x ∷ xs))) ≡ xs = take_all i _ end ∙ rest in
    more ∙ ap (λ t. t ++ flat_map (λ y. codes " " ++ f y) (take i (take (length (x ∷ xs) - 1) (drop 1 (x ∷ xs))))) first
    ∙ append_assoc old (f x) _
    ∙ ap (λ t. old ++ (f x ++ flat_map (λ y. codes " " ++ f y) t)) all
    ∙ ap (λ t. old ++ t) (sym (spaced-cons f x xs))
