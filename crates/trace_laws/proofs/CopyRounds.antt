-- The copies of a link by their rounds: one after the other, from the last round that the target has started on.
use Rattle.std.proofs.Common.{◌≡◌, ℕ, zero, suc, ◌+◌, ◌-◌, ◌<◌, ◌≤◌, nat_eq, nat_lt, not, true, cond, List, [], ◌∷◌}
use Rattle.std.proofs.Common.{◌++◌}
use Rattle.std.proofs.Common.{length, drop, All, Option, Some, None, refl, sym, ap, ◌∙◌, arith}
use Rattle.std.specs.Prelude.{is_some, take}
use Rattle.std.specs.List.{position_or_len}
use Rattle.std.proofs.lemmas.Bool.{ltb-true, lt-ltb, eq-eqb, and_from}
use Rattle.std.proofs.lemmas.List.{map-append, length-map}
use Rattle.std.proofs.lemmas.List.Elements.{All-nil, All-cons}
use Rattle.pals_base.specs.declared.basic_types.PortValue.{PortValue}
use Rattle.pals_base.specs.UpwardNumbers.{upwards}
use Rattle.pals_base.proofs.UpwardNumbers.{length-upwards, upwards-more}
use Rattle.pals_model.specs.declared.flight_copy.FlightCopy.{FlightCopy}
use Rattle.pals_model.specs.Flights.{is_of, oldest, without_oldest}
use Rattle.run_laws.specs.proof.WorldInvariant.{IsOnce, one_if, copies, waits, taken}
use Rattle.run_laws.proofs.WorldLinkTiming.{one_true, one_of_true}
use Rattle.trace_laws.specs.proof.PutOffArrivals.{flying, rounds_of}

-- ---- the first and last round in flight
-- the source has sent each round before the last one that the target has started
pub started_are_sent : (count : ℕ) (slot : Option (List PortValue)) (sent : ℕ) (flight : List FlightCopy)
    → ((round : ℕ) → IsOnce count slot sent flight round) → count - 1 ≤ sent
started_are_sent zero slot sent flight once = omega arith
started_are_sent (suc zero) slot sent flight once = omega arith
started_are_sent (suc (suc round)) slot sent flight once =
    let all : copies round flight + one_if (waits (suc (suc round)) slot round) + one_if (taken (suc (suc round)) round)
    ≡ one_if (nat_lt round sent) = once round in
    let past : one_if (taken (suc (suc round)) round) ≡ 1 =
    one_of_true (taken (suc (suc round)) round) (lt-ltb (round + 1) (suc (suc round)) (omega arith)) in
    let some : 1 ≤ one_if (nat_lt round sent) = omega (arith, all, past) in
    let is_sent : round < sent = ltb-true round sent (one_true (nat_lt round sent) some) in
    omega (arith, is_sent)

-- a message in the slot has been sent
pub in_slot_is_sent : (count : ℕ) (slot : Option (List PortValue)) (sent : ℕ) (flight : List FlightCopy)
    → ((round : ℕ) → IsOnce count slot sent flight round) → is_some slot ≡ true → 1 ≤ count → count ≤ sent
in_slot_is_sent zero slot sent flight once full some = absurd (omega (arith, some))
in_slot_is_sent (suc round) slot sent flight once full some =
    let all : copies round flight + one_if (waits (suc round) slot round) + one_if (taken (suc round) round)
    ≡ one_if (nat_lt round sent) = once round in
    let same : suc round ≡ round + 1 = omega arith in
    let here : one_if (waits (suc round) slot round) ≡ 1 =
    one_of_true (waits (suc round) slot round)
    (and_from (nat_eq (suc round) (round + 1)) (is_some slot) (eq-eqb (suc round) (round + 1) same) full) in
    let one : 1 ≤ one_if (nat_lt round sent) = omega (arith, all, here) in
    let is_sent : round < sent = ltb-true round sent (one_true (nat_lt round sent) one) in
    omega (arith, is_sent)

-- ---- one more copy
pub rounds_push : (flight : List FlightCopy) (copy : FlightCopy) (from sent : ℕ) → from ≤ sent
    → rounds_of flight ≡ upwards from (sent - from) → copy.round ≡ sent
    → rounds_of (flight ++ copy ∷ []) ≡ upwards from (sent + 1 - from)
rounds_push flight copy from sent few rounds is =
    let last : copy.round ≡ from + (sent - from) = omega (arith, is, few) in
    let more : suc (sent - from) ≡ sent + 1 - from = omega (arith, few) in
    map-append (λ (c : FlightCopy). c.round) flight (copy ∷ []) ∙ ap (λ rs. rs ++ copy.round ∷ []) rounds
    ∙ ap (λ r. upwards from (sent - from) ++ r ∷ []) last ∙ sym (upwards-more from (sent - from))
    ∙ ap (upwards from) more

pub length_rounds : (flight : List FlightCopy) (from n : ℕ) → rounds_of flight ≡ upwards from n → length flight ≡ n
length_rounds flight from n rounds =
    sym (length-map flight (λ (c : FlightCopy). c.round)) ∙ ap length rounds ∙ length-upwards from n

pub flying_push : (slot : Option (List PortValue)) (flight : List FlightCopy) (copy : FlightCopy)
    → (is_some slot ≡ true → 1 ≤ length flight) → flying slot (flight ++ copy ∷ []) ≡ flying slot flight ++ copy ∷ []
flying_push None flight copy some = refl
flying_push (Some tuple) [] copy some = absurd (let one = some refl in omega (arith, one))
flying_push (Some tuple) (c ∷ cs) copy some = refl

-- ---- the first copy
-- a copy of the first round is first, and the others are those without it
pub record IsFirst (flight : List FlightCopy) (round : ℕ) : Type 0 where
  pub copy : FlightCopy
  pub rest : List FlightCopy
  pub flight_is : flight ≡ copy ∷ rest
  pub round_is : copy.round ≡ round
  pub oldest_is : oldest round flight ≡ Some copy
  pub without_is : without_oldest round flight ≡ rest

pub first_copy : (flight : List FlightCopy) (round n : ℕ) → rounds_of flight ≡ upwards round (suc n)
    → IsFirst flight round
first_copy [] round n rounds = absurd (cc)
first_copy (copy ∷ rest) round n rounds =
    let same : copy.round ≡ round = cc in
    let is : nat_eq copy.round round ≡ true = eq-eqb copy.round round same in
    record {
      copy = copy;
      rest = rest;
      flight_is = refl;
      round_is = same;
      oldest_is = ap (λ b. cond b (Some copy) (oldest round rest)) is;
      without_is =
          ap (λ b. take (cond (not b) (1 + position_or_len (is_of round) rest) 0) (copy ∷ rest)
          ++ drop (cond (not b) (1 + position_or_len (is_of round) rest) 0 + 1) (copy ∷ rest)) is;
    }

pub rest_rounds : (flight : List FlightCopy) (round n : ℕ) → rounds_of flight ≡ upwards round (suc n)
    → rounds_of (drop 1 flight) ≡ upwards (suc round) n
rest_rounds [] round n rounds = absurd (cc)
rest_rounds (copy ∷ rest) round n rounds = cc

-- all are of these rounds
pub rounds_at_least : (flight : List FlightCopy) (from n least : ℕ) → rounds_of flight ≡ upwards from n → least ≤ from
    → All (λ (copy : FlightCopy). least ≤ copy.round) flight
rounds_at_least [] from n least rounds few = All-nil (λ (copy : FlightCopy). least ≤ copy.round)
rounds_at_least (copy ∷ rest) from zero least rounds few = absurd (cc)
rounds_at_least (copy ∷ rest) from (suc n) least rounds few =
    let same : copy.round ≡ from = cc in
    let others : rounds_of rest ≡ upwards (suc from) n = cc in
    All-cons (λ (c : FlightCopy). least ≤ c.round) copy rest (omega (arith, same, few))
    (rounds_at_least rest (suc from) n least others (omega (arith, few)))
