-- The lines of a list's items, each with the same end, after one more item.
use Rattle.std.proofs.Common.{◌≡◌, ℕ, ◌+◌, ◌<◌, ◌≤◌, List, [], ◌∷◌, ◌++◌, length, map, take, get_or, sym, ap, ◌∙◌}
use Rattle.std.proofs.Common.{append_assoc}
use Rattle.std.specs.List.{flat_map}
use Rattle.std.proofs.lemmas.List.{append-nil, take_all, take_more, map-append}
use Rattle.std.proofs.lemmas.Grind.{flat_map-append}

abbrev pub ended : List ℕ → List (List ℕ) → List ℕ
ended end lines = flat_map (λ line. line ++ end) lines

one_more : {X : Type 0} (end : List ℕ) (f : X → List ℕ) (xs : List X) (i : ℕ) (x : X) → i < length xs
    → x ≡ get_or xs i x
    → ended end (map f (take (i + 1) xs)) ≡ ended end (map f (take i xs)) ++ (f x ++ end)
one_more end f xs i x within is =
    ap (λ t. ended end (map f t)) (take_more xs i x within ∙ ap (λ y. take i xs ++ y ∷ []) (sym is))
    ∙ ap (ended end) (map-append f (take i xs) (x ∷ []))
    ∙ flat_map-append (λ line. line ++ end) (map f (take i xs)) (f x ∷ [])
    ∙ ap (λ t. ended end (map f (take i xs)) ++ t) (append-nil (f x ++ end))

-- the line of one more item
pub lines_turn : {X : Type 0} (end : List ℕ) (f : X → List ℕ) (xs : List X) (i : ℕ) (x : X) (old out new : List ℕ)
    → i < length xs → x ≡ get_or xs i x
    → out ≡ old ++ ended end (map f (take i xs)) → new ≡ out ++ f x ++ end
    → new ≡ old ++ ended end (map f (take (i + 1) xs))
lines_turn end f xs i x old out new within is before added =
    added ∙ append_assoc out (f x) end ∙ ap (λ t. t ++ (f x ++ end)) before
    ∙ append_assoc old (ended end (map f (take i xs))) (f x ++ end)
    ∙ ap (λ t. old ++ t) (sym (one_more end f xs i x within is))

-- the lines of all items
pub lines_all : {X : Type 0} (end : List ℕ) (f : X → List ℕ) (xs : List X) (i : ℕ) (old out : List ℕ) → length xs ≤ i
    → out ≡ old ++ ended end (map f (take i xs))
    → out ≡ old ++ ended end (map f xs)
lines_all end f xs i old out behind before = before ∙ ap (λ t. old ++ ended end (map f t)) (take_all i xs behind)
