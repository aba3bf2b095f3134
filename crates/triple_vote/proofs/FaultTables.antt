-- The table of first faults, filled from the last fault of the list to the first: each place holds the first fault
-- there, which is sent to a reader. For the claim of `first_faults`.
use Rattle.std.proofs.Common.{◌≡◌, ◌≢◌, ◌∙◌, ℕ, suc, ◌+◌, ◌-◌, ◌*◌, ◌<◌, ◌≤◌, nat_eq, nat_lt, ◌&&◌, Bool, true, false}
use Rattle.std.proofs.Common.{cond, if◌then◌else◌, List, [], ◌∷◌, length, set, drop, replicate, find, Option, None}
use Rattle.std.proofs.Common.{Some, slice_get, slice_index_or, refl, sym, subst, ap, ap₂, inl, inr, arith, add-one}
use Rattle.std.proofs.lemmas.Bool.{ltb-true, lt-ltb, eqb-true, eq-eqb, cases_eq, and_parts, and_from}
use Rattle.std.proofs.lemmas.Bool.{false_from_ne_true}
use Rattle.std.proofs.lemmas.List.{drop_more, drop_all, get_or-set_same, get_or-set_other, get_or-replicate, length-set}
use Rattle.std.proofs.lemmas.List.{length-replicate}
use Rattle.std.proofs.lemmas.Option.{slice_get-get_or}
use Rattle.pals_base.specs.declared.basic_types.PortValue.{PortValue}
use Rattle.pals_runs.specs.declared.replica_faults.VoteFault.{VoteFault}
use Rattle.triple_vote.specs.VotedComposition.{is_fault, fault_or}
use Rattle.triple_vote.specs.proof.FaultTables.{place, is_replica, is_placed, with_fault, fault_at, AreFirstOn}
use Rattle.triple_vote.specs.proof.FaultTables.{AreFirst}

-- the same of the faults from this number on
abbrev pub FirstFrom : List VoteFault → ℕ → List (Option ℕ) → ℕ → Type 0
FirstFrom faults links places at =
    (l replica target : ℕ) → l < links → replica < 3 → target < 3
    → fault_at faults (slice_index_or places (place l (suc replica) (suc target)) None)
    ≡ find (is_fault l (suc replica) (suc target)) (drop at faults)

pub record IsFilled (faults : List VoteFault) (links : ℕ) (places : List (Option ℕ)) (at : ℕ) : Type 0 where
  pub size : length places ≡ links * 9 + 4
  pub first : FirstFrom faults links places at

-- ---- places
place_within : (links l replica target : ℕ) → l < links → replica < 3 → target < 3
    → place l (suc replica) (suc target) < links * 9 + 4
place_within links l replica target inside below within = omega (arith, inside, below, within)

same_link : (l m r s t u : ℕ) → 0 < r → r < 4 → 0 < s → s < 4 → 0 < t → t < 4 → 0 < u → u < 4
    → place l r t ≡ place m s u → l ≡ m
same_link l m r s t u r0 r4 s0 s4 t0 t4 u0 u4 is = omega (arith, r0, r4, s0, s4, t0, t4, u0, u4, is)

same_replica : (l r s t u : ℕ) → 0 < t → t < 4 → 0 < u → u < 4 → place l r t ≡ place l s u → r ≡ s
same_replica l r s t u t0 t4 u0 u4 is = omega (arith, t0, t4, u0, u4, is)

-- ---- a fault at a place
replica_of : (n : ℕ) → is_replica n ≡ true → (0 < n) × (n < 4)
replica_of n is = let both = and_parts (nat_lt 0 n) (nat_lt n 4) is in (ltb-true 0 n both.0, ltb-true n 4 both.1)

pub record IsPlaced (links : ℕ) (f : VoteFault) : Type 0 where
  pub inside : f.link.0 < links
  pub source : (0 < f.replica) × (f.replica < 4)
  pub reader : (0 < f.target_replica) × (f.target_replica < 4)

placed : (links : ℕ) (f : VoteFault) → is_placed links f ≡ true → IsPlaced links f
placed links f is =
    let both = and_parts (nat_lt f.link.0 links) (is_replica f.replica && is_replica f.target_replica) is in
    let rest = and_parts (is_replica f.replica) (is_replica f.target_replica) both.1 in
    record {
      inside = ltb-true f.link.0 links both.0;
      source = replica_of f.replica rest.0;
      reader = replica_of f.target_replica rest.1;
    }

pub placed_within : (links : ℕ) (f : VoteFault) → is_placed links f ≡ true
    → place f.link.0 f.replica f.target_replica < links * 9 + 4
placed_within links f is =
    let at = placed links f is in
    let inside = at.inside in
    let source = at.source.1 in
    let reader = at.reader.1 in
    omega (arith, inside, source, reader)

-- what a fault that is found has
abbrev IsAt : ℕ → ℕ → ℕ → VoteFault → Type 0
IsAt l r t f = (f.link.0 ≡ l) × (f.replica ≡ r) × (f.target_replica ≡ t)

is_at : (l r t : ℕ) (f : VoteFault) → is_fault l r t f ≡ true → IsAt l r t f
is_at l r t f is =
    let first = and_parts (nat_eq f.link.0 l) (nat_eq f.replica r && nat_eq f.target_replica t) is in
    let rest = and_parts (nat_eq f.replica r) (nat_eq f.target_replica t) first.1 in
    (eqb-true f.link.0 l first.0, eqb-true f.replica r rest.0, eqb-true f.target_replica t rest.1)

is_found : (l r t : ℕ) (f : VoteFault) → IsAt l r t f → is_fault l r t f ≡ true
is_found l r t f (link, source, reader) =
    and_from (nat_eq f.link.0 l) (nat_eq f.replica r && nat_eq f.target_replica t) (eq-eqb f.link.0 l link)
    (and_from (nat_eq f.replica r) (nat_eq f.target_replica t) (eq-eqb f.replica r source)
    (eq-eqb f.target_replica t reader))

here : (links l replica target : ℕ) (f : VoteFault) → replica < 3 → target < 3 → is_placed links f ≡ true
    → place l (suc replica) (suc target) ≡ place f.link.0 f.replica f.target_replica
    → IsAt l (suc replica) (suc target) f
here links l replica target f below within is same =
    let at = placed links f is in
    let link : f.link.0 ≡ l
    =
    same_link f.link.0 l f.replica (suc replica) f.target_replica (suc target) at.source.0 at.source.1 (omega arith)
    (omega (arith, below)) at.reader.0 at.reader.1 (omega arith) (omega (arith, within)) (sym same) in
    let moved : place l f.replica f.target_replica ≡ place l (suc replica) (suc target) =
    ap (λ n. place n f.replica f.target_replica) (sym link) ∙ sym same in
    let source : f.replica ≡ suc replica =
    same_replica l f.replica (suc replica) f.target_replica (suc target) at.reader.0 at.reader.1 (omega arith)
    (omega (arith, within)) moved in
    (link, source, omega (arith, moved, source))

elsewhere : (l r t : ℕ) (f : VoteFault) → place l r t ≢ place f.link.0 f.replica f.target_replica
    → is_fault l r t f ≡ false
elsewhere l r t f other = false_from_ne_true (is_fault l r t f) (λ is.
    let found = is_at l r t f is in
    other (ap (λ n. place n r t) (sym found.0) ∙ ap (λ n. place f.link.0 n t) (sym found.1)
    ∙ ap (place f.link.0 f.replica) (sym found.2)))

nowhere : (links l replica target : ℕ) (f : VoteFault) → is_placed links f ≡ false → l < links → replica < 3
    → target < 3 → is_fault l (suc replica) (suc target) f ≡ false
nowhere links l replica target f none inside below within =
    false_from_ne_true (is_fault l (suc replica) (suc target) f) (λ is.
    let found = is_at l (suc replica) (suc target) f is in
    let at = found.0 in
    let source = found.1 in
    let reader = found.2 in
    let all : is_placed links f ≡ true
    =
    and_from (nat_lt f.link.0 links) (is_replica f.replica && is_replica f.target_replica)
    (lt-ltb f.link.0 links (omega (arith, at, inside)))
    (and_from (is_replica f.replica) (is_replica f.target_replica)
    (and_from (nat_lt 0 f.replica) (nat_lt f.replica 4) (lt-ltb 0 f.replica (omega (arith, source)))
    (lt-ltb f.replica 4 (omega (arith, source, below))))
    (and_from (nat_lt 0 f.target_replica) (nat_lt f.target_replica 4)
    (lt-ltb 0 f.target_replica (omega (arith, reader)))
    (lt-ltb f.target_replica 4 (omega (arith, reader, within))))) in
    true_is_false (sym all ∙ none))
  where
    true_is_false : true ≡ false → ⊥
    true_is_false is = absurd (cc)

-- ---- one fault more
module _ (faults : List VoteFault) (links : ℕ) (places after : List (Option ℕ)) (at : ℕ) (f : VoteFault)
    (some : 0 < at) (inside : at ≤ length faults) (is : f ≡ slice_index_or faults (at - 1) f)
    (before : IsFilled faults links places at)
    (put : after ≡ with_fault links places f (at - 1)) where
  at_within : at - 1 < length faults
  at_within = omega (arith, some, inside)

  rest_is : drop (at - 1) faults ≡ f ∷ drop at faults
  rest_is =
      let back : (at - 1) + 1 ≡ at = omega (arith, some) in
      drop_more faults (at - 1) f at_within ∙ ap₂ (λ x n. x ∷ drop n faults) (sym is) back

  fault_is : slice_get faults (at - 1) ≡ Some f
  fault_is = slice_get-get_or faults (at - 1) f at_within ∙ ap Some (sym is)

  -- the fault that is found from there on
  found_from : (test : VoteFault → Bool) (b : Bool) → test f ≡ b
      → find test (drop (at - 1) faults) ≡ cond b (Some f) (find test (drop at faults))
  found_from test b passes = ap (find test) rest_is ∙ ap (λ c. cond c (Some f) (find test (drop at faults))) passes

  abbrev its_place : ℕ
  its_place = place f.link.0 f.replica f.target_replica

  abbrev written : List (Option ℕ)
  written = set places its_place (Some (at - 1))

  first_placed : is_placed links f ≡ true → FirstFrom faults links written (at - 1)
  first_placed found l replica target link below within =
      let less = placed_within links f found in
      let size = before.size in
      elim (cases_eq (place l (suc replica) (suc target)) its_place) [
        | inl same ↦
            ap (λ n. fault_at faults (slice_index_or written n None)) same
            ∙ ap (fault_at faults) (get_or-set_same places its_place (Some (at - 1)) None (omega (arith, less, size)))
            ∙ fault_is
            ∙ sym (found_from (is_fault l (suc replica) (suc target)) true
            (is_found l (suc replica) (suc target) f (here links l replica target f below within found same)))
        | inr other ↦
            ap (fault_at faults) (get_or-set_other places its_place (place l (suc replica) (suc target))
            (Some (at - 1)) None other)
            ∙ before.first l replica target link below within
            ∙ sym (found_from (is_fault l (suc replica) (suc target)) false
            (elsewhere l (suc replica) (suc target) f other))
      ]

  first_unplaced : is_placed links f ≡ false → FirstFrom faults links places (at - 1)
  first_unplaced none l replica target link below within =
      before.first l replica target link below within
      ∙ sym (found_from (is_fault l (suc replica) (suc target)) false
      (nowhere links l replica target f none link below within))

  filled_by : (b : Bool) → is_placed links f ≡ b → IsFilled faults links (if b then written else places) (at - 1)
  filled_by true found =
      record { size = length-set places its_place (Some (at - 1)) ∙ before.size; first = first_placed found }
  filled_by false found = record { size = before.size; first = first_unplaced found }

  pub filled_put : IsFilled faults links after (at - 1)
  filled_put = subst (λ table. IsFilled faults links table (at - 1)) (sym put) (filled_by (is_placed links f) refl)

-- ---- before the first of them, and after the last
pub filled_none : (faults : List VoteFault) (links at : ℕ) (places : List (Option ℕ)) → length faults ≤ at
    → places ≡ replicate (links * 9 + 4) None
    → IsFilled faults links places at
filled_none faults links at places past is = record {
  size = ap length is ∙ length-replicate (links * 9 + 4) None;
  first = λ l replica target link below within.
      ap (λ table. fault_at faults (slice_index_or table (place l (suc replica) (suc target)) None)) is
      ∙ ap (fault_at faults)
      (get_or-replicate (links * 9 + 4) (place l (suc replica) (suc target)) None None
      (place_within links l replica target link below within))
      ∙ sym (ap (find (is_fault l (suc replica) (suc target))) (drop_all at faults past));
}

pub first_all : (faults : List VoteFault) (links at : ℕ) (places : List (Option ℕ)) → at ≡ 0
    → IsFilled faults links places at → AreFirst faults links places
first_all faults links at places none filled l link replica target below within =
    filled.first l replica target link below within
    ∙ ap (λ n. find (is_fault l (suc replica) (suc target)) (drop n faults)) none

pub first_of_none : (faults : List VoteFault) (links : ℕ) (places : List (Option ℕ)) → faults ≡ [] → places ≡ []
    → AreFirst faults links places
first_of_none faults links places none is l link replica target below within =
    ap (λ table. fault_at faults (slice_index_or table (place l (suc replica) (suc target)) None)) is
    ∙ sym (ap (find (is_fault l (suc replica) (suc target))) none)

-- ---- the values that a reader receives
pub sent_first : (faults : List VoteFault) (places : List (Option ℕ)) (l replica target at k : ℕ)
    (own x : List PortValue) → AreFirstOn faults l places → replica < 3 → at < 3
    → target ≡ at + 1 → k ≡ place l (suc replica) target
    → x ≡ fault_or (fault_at faults (slice_index_or places k None)) own
    → x ≡ fault_or (find (is_fault l (suc replica) target) faults) own
sent_first faults places l replica target at k own x first below within next here is =
    let reader : target ≡ suc at = next ∙ add-one at in
    is
    ∙ ap (λ n. fault_or (fault_at faults (slice_index_or places n None)) own) (here ∙ ap (place l (suc replica)) reader)
    ∙ ap (λ o. fault_or o own) (first replica at below within)
    ∙ ap (λ n. fault_or (find (is_fault l (suc replica) n) faults) own) (sym reader)
