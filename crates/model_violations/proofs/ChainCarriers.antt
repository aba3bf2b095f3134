-- For `add_carriers` and `carriers_of`: the carriers of connection chains, one after another.
use Rattle.std.proofs.Common.{◌≡◌, ◌∙◌, ℕ, ◌+◌, ◌<◌, nat_eq, ◌&&◌, ◌||◌, List, [], ◌∷◌, ◌++◌, length, map, take, get_or}
use Rattle.std.proofs.Common.{sym, ap}
use Rattle.std.proofs.lemmas.List.Folds.{list_any-append}
use Rattle.std.proofs.Math.Bool.{or_assoc, or-false}
use Rattle.annex_resolve.proofs.MappedLists.{map_next}
use Rattle.aadl_instance.specs.declared.chain.Chain.{Chain}
use Rattle.model_violations.specs.ConnectionsAndCarriers.{carries}
use Rattle.model_violations.specs.Violations.{carrier_numbers}

pub carries-append : (a b : List (ℕ × ℕ)) (n i : ℕ) → carries (a ++ b) n i ≡ (carries a n i || carries b n i)
carries-append a b n i = list_any-append (λ k. nat_eq n k.0 && nat_eq i k.1) a b

carries-one : (x : Chain) (n i : ℕ)
    → (nat_eq n x.carrier.declaration && nat_eq i x.carrier.connection) ≡ carries (carrier_numbers x ∷ []) n i
carries-one x n i = sym (or-false (nat_eq n x.carrier.declaration && nat_eq i x.carrier.connection))

-- one more chain
pub carries_next : (before old new : List (ℕ × ℕ)) (chains : List Chain) (k : ℕ) (x : Chain) → k < length chains
    → x ≡ get_or chains k x
    → ((n i : ℕ) → carries old n i ≡ (carries before n i || carries (map carrier_numbers (take k chains)) n i))
    → ((n i : ℕ) → carries new n i
    ≡ (carries old n i || (nat_eq n x.carrier.declaration && nat_eq i x.carrier.connection)))
    → (n i : ℕ) → carries new n i ≡ (carries before n i || carries (map carrier_numbers (take (k + 1) chains)) n i)
carries_next before old new chains k x within is so_far added n i =
    let front = map carrier_numbers (take k chains) in
    added n i ∙ ap (λ b. b || (nat_eq n x.carrier.declaration && nat_eq i x.carrier.connection)) (so_far n i)
    ∙ or_assoc (carries before n i) (carries front n i)
    (nat_eq n x.carrier.declaration && nat_eq i x.carrier.connection)
    ∙ ap (λ b. carries before n i || (carries front n i || b)) (carries-one x n i)
    ∙ ap (λ b. carries before n i || b)
    (sym (carries-append front (carrier_numbers x ∷ []) n i)
    ∙ ap (λ l. carries l n i) (sym (map_next carrier_numbers chains k x within is)))

-- three concatenated lists
pub carries_all : (none a b c : List (ℕ × ℕ)) (links feeds taps : List (ℕ × ℕ)) → none ≡ []
    → ((n i : ℕ) → carries a n i ≡ (carries none n i || carries links n i))
    → ((n i : ℕ) → carries b n i ≡ (carries a n i || carries feeds n i))
    → ((n i : ℕ) → carries c n i ≡ (carries b n i || carries taps n i))
    → (n i : ℕ) → carries c n i ≡ carries (links ++ feeds ++ taps) n i
carries_all none a b c links feeds taps nothing first second third n i =
    let one : carries a n i ≡ carries links n i = first n i ∙ ap (λ l. carries l n i || carries links n i) nothing in
    third n i ∙ ap (λ t. t || carries taps n i)
    (second n i ∙ ap (λ t. t || carries feeds n i) one ∙ sym (carries-append links feeds n i))
    ∙ sym (carries-append (links ++ feeds) taps n i)
