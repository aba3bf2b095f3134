-- The number of names in the lists of some declarations, up to a limit: for `variables_up_to` and `states_up_to`.
use Rattle.std.proofs.Common.{◌≡◌, ℕ, ◌+◌, ◌<◌, ◌≤◌, min, List, [], ◌∷◌, ◌++◌, length, map, take, get_or, sym, ap, ◌∙◌}
use Rattle.std.proofs.Common.{arith}
use Rattle.std.specs.List.{flat_map}
use Rattle.std.proofs.lemmas.List.{take_more, take_all, map-append, append-nil, length-append}
use Rattle.std.proofs.lemmas.Grind.{flat_map-append}

abbrev pub words : {V W X : Type 0} → (W → List X) → (V → W) → List V → ℕ
words of view vs = length (flat_map of (map view vs))

one_more : {V W X : Type 0} (of : W → List X) (view : V → W) (vs : List V) (i : ℕ) (v : V) → i < length vs
    → v ≡ get_or vs i v → words of view (take (i + 1) vs) ≡ words of view (take i vs) + length (of (view v))
one_more of view vs i v within is =
    ap (words of view) (take_more vs i v within ∙ ap (λ x. take i vs ++ x ∷ []) (sym is))
    ∙ (ap (λ l. length (flat_map of l)) (map-append view (take i vs) (v ∷ []))
    ∙ (ap length (flat_map-append of (map view (take i vs)) (view v ∷ []))
    ∙ (length-append (flat_map of (map view (take i vs))) (flat_map of (view v ∷ []))
    ∙ ap (λ l. words of view (take i vs) + length l) (append-nil (of (view v))))))

pub counted_more : {V W X : Type 0} (of : W → List X) (view : V → W) (vs : List V) (i : ℕ) (v : V)
    (limit count more new : ℕ) → i < length vs → v ≡ get_or vs i v → count ≡ min limit (words of view (take i vs))
    → more ≡ length (of (view v)) → new ≡ min limit (count + more) → new ≡ min limit (words of view (take (i + 1) vs))
counted_more of view vs i v limit count more new within is before own added =
    let next = one_more of view vs i v within is in
    omega (arith, before, own, added, next)

pub counted_all : {V W X : Type 0} (of : W → List X) (view : V → W) (vs : List V) (i limit count : ℕ) → length vs ≤ i
    → count ≡ min limit (words of view (take i vs)) → count ≡ min limit (words of view vs)
counted_all of view vs i limit count past before = before ∙ ap (λ l. min limit (words of view l)) (take_all i vs past)
