-- The indices of taps and the number of taps of each source, after one more tap.
use Rattle.std.proofs.Common.{◌≡◌, ◌≢◌, ℕ, suc, ◌<◌, ◌≤◌, ◌+◌, inl, inr, Bool, true, false, nat_eq, cond, List, [], ◌∷◌}
use Rattle.std.proofs.Common.{◌++◌, length, map, filter, take, get_or, set, sym, ap, ◌∙◌, arith, zero-add, append_assoc}
use Rattle.std.proofs.Common.{get_or-set_same, get_or-set_other}
use Rattle.std.specs.List.{enumerate_from}
use Rattle.std.proofs.lemmas.Bool.{cases_eq, eq-eqb, ne_eqb}
use Rattle.std.proofs.lemmas.List.{length-take, length-map, get_or-map}
use Rattle.std.proofs.lemmas.List.Filters.{length-filter_more}
use Rattle.std.proofs.lemmas.List.FromFn.{get_or-enumerate_from, length-enumerate_from}
use Rattle.pals_model.specs.declared.design.Tap.{Tap}
use Rattle.pals_model.specs.RoundTexts.{taps_before}
use Rattle.pals_report.specs.proof.TapPlaces.{tap_places}

-- a tap with its number has this index
abbrev pub place_in : List Tap → ℕ × Tap → ℕ
place_in taps numbered = taps_before taps numbered.0 numbered.1.source.0

length-filter_le : {X : Type 0} (p : X → Bool) (xs : List X) → length (filter p xs) ≤ length xs
length-filter_le p [] = omega arith
length-filter_le p (x ∷ xs) =
    elim (p x) as (λ b. length (cond b (x ∷ filter p xs) (filter p xs)) ≤ suc (length xs))
    [ true ↦ omega (arith, length-filter_le p xs) | false ↦ omega (arith, length-filter_le p xs) ]

-- an index is not past the tap's number
pub place_le : (taps : List Tap) (n node : ℕ) → taps_before taps n node ≤ n
place_le taps n node =
    omega (arith, length-filter_le (λ (tap : Tap). nat_eq tap.source.0 node) (take n taps), length-take n taps)

one_more : (taps : List Tap) (i node : ℕ) (tap : Tap) → i < length taps → tap ≡ get_or taps i tap
    → taps_before taps (i + 1) node ≡ taps_before taps i node + cond (nat_eq tap.source.0 node) 1 0
one_more taps i node tap within is =
    length-filter_more (λ (t : Tap). nat_eq t.source.0 node) taps i tap within
    ∙ ap (λ (t : Tap). taps_before taps i node + cond (nat_eq t.source.0 node) 1 0) (sym is)

-- the counts after one more tap
pub counts_turn : (taps : List Tap) (counts : List ℕ) (i count nodes : ℕ) (tap : Tap) → i < length taps
    → tap ≡ get_or taps i tap → length counts ≡ nodes → tap.source.0 < nodes
    → ((node : ℕ) → node < nodes → get_or counts node 0 ≡ taps_before taps i node)
    → count ≡ get_or counts tap.source.0 0
    → (node : ℕ) → node < nodes → get_or (set counts tap.source.0 (count + 1)) node 0 ≡ taps_before taps (i + 1) node
counts_turn taps counts i count nodes tap within is long source before found node below =
    elim (cases_eq tap.source.0 node) [
      | inl same ↦
          let here : length counts ≡ nodes = long in
          let counted : taps_before taps (i + 1) node ≡ taps_before taps i node + 1 =
          one_more taps i node tap within is
          ∙ ap (λ b. taps_before taps i node + cond b 1 0) (eq-eqb tap.source.0 node same) in
          ap (λ k. get_or (set counts tap.source.0 (count + 1)) k 0) (sym same)
          ∙ get_or-set_same counts tap.source.0 (count + 1) 0 (omega arith)
          ∙ ap (λ k. k + 1) (found ∙ before tap.source.0 source ∙ ap (taps_before taps i) same) ∙ sym counted
      | inr other ↦
          let differ : node ≢ tap.source.0 = λ e. other (sym e) in
          let counted : taps_before taps (i + 1) node ≡ taps_before taps i node + 0 =
          one_more taps i node tap within is
          ∙ ap (λ b. taps_before taps i node + cond b 1 0) (ne_eqb tap.source.0 node other) in
          get_or-set_other counts tap.source.0 node (count + 1) 0 differ ∙ before node below ∙ omega (arith, counted)
    ]

-- one more index
pub places_turn : (taps : List Tap) (places : List ℕ) (i count : ℕ) (tap : Tap) (rest : List Tap) (total : List ℕ)
    → count ≡ taps_before taps i tap.source.0
    → places ++ map (place_in taps) (enumerate_from i (tap ∷ rest)) ≡ total
    → (places ++ count ∷ []) ++ map (place_in taps) (enumerate_from (i + 1) rest) ≡ total
places_turn taps places i count tap rest total is before =
    append_assoc places (count ∷ []) (map (place_in taps) (enumerate_from (i + 1) rest))
    ∙ ap (λ k. places ++ k ∷ map (place_in taps) (enumerate_from (i + 1) rest)) is ∙ before

-- the index of the tap
pub place_at : (taps : List Tap) (n place : ℕ) (tap : Tap) → n < length taps → tap ≡ get_or taps n tap
    → place ≡ get_or (tap_places taps) n place → place ≡ taps_before taps n tap.source.0
place_at taps n place tap within is found =
    found
    ∙ get_or-map (place_in taps) (enumerate_from 0 taps) n (0, tap) place (omega (arith, length-enumerate_from 0 taps))
    ∙ ap (place_in taps) (get_or-enumerate_from 0 taps n (0, tap) within)
    ∙ ap (λ k. taps_before taps k (get_or taps n tap).source.0) (zero-add n)
    ∙ ap (λ (t : Tap). taps_before taps n t.source.0) (sym is)

pub length-tap_places : (taps : List Tap) → length (tap_places taps) ≡ length taps
length-tap_places taps = length-map (enumerate_from 0 taps) (place_in taps) ∙ length-enumerate_from 0 taps
