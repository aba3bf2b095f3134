-- How a start, a send and an arrival change the view of a link's messages, and that the messages meet their times: the
-- proof of LinksAreTimed.
use Rattle.std.proofs.Common.{◌≡◌, ◌≢◌, inl, inr, ℕ, suc, ◌+◌, ◌-◌, ◌<◌, ◌≤◌, nat_eq, nat_le, Bool, true, false, not}
use Rattle.std.proofs.Common.{◌&&◌, cond, List, [], ◌∷◌, ◌++◌, length, take, drop, slice_get, All, Option, Some, None}
use Rattle.std.proofs.Common.{refl, sym, ap, ap₂, ◌∙◌, subst, arith, length-append}
use Rattle.std.specs.Prelude.{is_some, is_none, if◌then◌else◌}
use Rattle.std.specs.Option.{option_map, option_map_or, unwrap_or}
use Rattle.std.specs.List.{position_or_len}
use Rattle.std.proofs.lemmas.Bool.{cases_eq, cases_lt, eqb-true, leb-true, false≢true, false_from_ne_true, leb-false}
use Rattle.std.proofs.lemmas.Grind.{common_steps}
use Rattle.std.proofs.lemmas.List.Elements.{All-nil, All-cons, All-head, All-tail, All-append, All-weaker}
use Rattle.std.proofs.lemmas.Option.{same_Some, slice_get_within, slice_get-get_or}
use Rattle.list_lemmas.proofs.ElementPositions.{slice_get-push, slice_get-append_left}
use Rattle.list_lemmas.proofs.Options.{none_by_test}
use Rattle.pals_base.specs.declared.basic_types.PortValue.{PortValue}
use Rattle.pals_model.specs.declared.flight_copy.FlightCopy.{FlightCopy}
use Rattle.pals_model.specs.Flights.{is_of, oldest, without_oldest}
use Rattle.pals_runs.specs.declared.journal.Arrived.{Arrived}
use Rattle.pals_runs.specs.declared.journal.Arrived.TheVariants.{Kept, Ignored, Early}
use Rattle.run_laws.specs.TraceRules.{is_due}
use Rattle.bus_machine.proofs.ListsAndOldestCopies.{All-without_oldest, oldest_is_one}
use Rattle.run_laws.specs.proof.LinkTiming.{LinkView, due_of, one_if, copies, Whereabouts, in_flight, in_slot}
use Rattle.run_laws.specs.proof.LinkTiming.{was_taken, came_early, IsDueCopy, SlotWasDue, IsTimed}

-- ---- lists
pub sent_of : (delay : ℕ → ℕ) (sends : List ℕ) (round due : ℕ) → due_of delay sends round ≡ Some due
    → (at : ℕ) × (slice_get sends round ≡ Some at) × (due ≡ at + delay round)
sent_of delay sends round due is = parts (slice_get sends round) refl is
  where
    parts : (o : Option ℕ) → slice_get sends round ≡ o → option_map (λ at. at + delay round) o ≡ Some due
        → (at : ℕ) × (slice_get sends round ≡ Some at) × (due ≡ at + delay round)
    parts None same is = absurd (cc)
    parts (Some at) same is = (at, same, sym (same_Some _ _ is))

-- a due reading stays
pub due_more : (delay : ℕ → ℕ) (sends more : List ℕ) (round due : ℕ) → due_of delay sends round ≡ Some due
    → due_of delay (sends ++ more) round ≡ Some due
due_more delay sends more round due is =
    let of = sent_of delay sends round due is in
    ap (option_map (λ at. at + delay round)) (slice_get-append_left sends more round of.0 of.1) ∙ ap Some (sym of.2)

sent_if_due : (delay : ℕ → ℕ) (sends : List ℕ) (round due : ℕ) → due_of delay sends round ≡ Some due
    → round < length sends
sent_if_due delay sends round due is = let of = sent_of delay sends round due is in
    slice_get_within sends round of.0 of.1

pub due_if_sent : (delay : ℕ → ℕ) (sends : List ℕ) (round : ℕ) → round < length sends
    → (due : ℕ) × (due_of delay sends round ≡ Some due)
due_if_sent delay sends round within =
    let at = slice_get-get_or sends round 0 within in
    (_, ap (option_map (λ x. x + delay round)) at)

-- ---- copies
copies_more : (round : ℕ) (flight : List FlightCopy) (copy : FlightCopy)
    → copies round (flight ++ copy ∷ []) ≡ copies round flight + one_if (is_of round copy)
copies_more round [] copy = omega arith
copies_more round (c ∷ cs) copy = let rest = copies_more round cs copy in omega arith

-- without the oldest, one fewer
pub without_by : (round : ℕ) (c : FlightCopy) (cs : List FlightCopy) (b : Bool) → is_of round c ≡ b
    → without_oldest round (c ∷ cs) ≡ cond b cs (c ∷ without_oldest round cs)
without_by round c cs true is =
    let at : position_or_len (is_of round) (c ∷ cs) ≡ 0 =
    ap (λ b. cond (not b) (1 + position_or_len (is_of round) cs) 0) is in
    ap (λ n. take n (c ∷ cs) ++ drop (n + 1) (c ∷ cs)) at
without_by round c cs false is =
    let n = position_or_len (is_of round) cs in
    let more : 1 + n ≡ suc n = omega arith in
    let at : position_or_len (is_of round) (c ∷ cs) ≡ suc n = ap (λ b. cond (not b) (1 + n) 0) is ∙ more in
    let next : position_or_len (is_of round) (c ∷ cs) + 1 ≡ suc (n + 1) = ap (λ k. k + 1) at ∙ omega arith in
    ap₂ (λ k m. take k (c ∷ cs) ++ drop m (c ∷ cs)) at next

fewer_by : (round : ℕ) (c : FlightCopy) (cs : List FlightCopy) (b : Bool) → is_of round c ≡ b
    → cond b (Some c) (oldest round cs) ≢ None
    → (oldest round cs ≢ None → copies round cs ≡ copies round (without_oldest round cs) + 1)
    → one_if (is_of round c) + copies round cs ≡ copies round (cond b cs (c ∷ without_oldest round cs)) + 1
fewer_by round c cs true is some rest = let one : one_if (is_of round c) ≡ 1 = ap one_if is in omega arith
fewer_by round c cs false is some rest = let fewer = rest some in omega arith

fewer : (round : ℕ) (flight : List FlightCopy) → oldest round flight ≢ None
    → copies round flight ≡ copies round (without_oldest round flight) + 1
fewer round [] some = absurd (some refl)
fewer round (c ∷ cs) some =
    fewer_by round c cs (is_of round c) refl some (fewer round cs)
    ∙ ap (λ f. copies round f + 1) (sym (without_by round c cs (is_of round c) refl))

same_by : (round other : ℕ) (c : FlightCopy) (cs : List FlightCopy) (b : Bool) → is_of round c ≡ b → round ≢ other
    → copies other (without_oldest round cs) ≡ copies other cs
    → copies other (cond b cs (c ∷ without_oldest round cs)) ≡ one_if (is_of other c) + copies other cs
same_by round other c cs true is apart rest =
    let here : c.round ≡ round = eqb-true c.round round is in
    let none : is_of other c ≡ false =
    false_from_ne_true (is_of other c)
    (λ same. let there : c.round ≡ other = eqb-true c.round other same in apart (sym here ∙ there)) in
    let zero' : one_if (is_of other c) ≡ 0 = ap one_if none in
    omega arith
same_by round other c cs false is apart rest = ap (λ n. one_if (is_of other c) + n) rest

as_many : (round other : ℕ) (flight : List FlightCopy) → round ≢ other
    → copies other (without_oldest round flight) ≡ copies other flight
as_many round other [] apart = refl
as_many round other (c ∷ cs) apart =
    ap (copies other) (without_by round c cs (is_of round c) refl)
    ∙ same_by round other c cs (is_of round c) refl apart (as_many round other cs apart)

-- none of a round that is not sent
none_unsent : (delay : ℕ → ℕ) (sends : List ℕ) (flight : List FlightCopy) (round : ℕ)
    → All (IsDueCopy delay sends) flight → length sends ≤ round → copies round flight ≡ 0
none_unsent delay sends [] round all past = refl
none_unsent delay sends (c ∷ cs) round all past =
    let sent = (All-head (IsDueCopy delay sends) c cs all).sent in
    let other : is_of round c ≡ false =
    false_from_ne_true (is_of round c)
    (λ same. let here : c.round ≡ round = eqb-true c.round round same in absurd (omega arith)) in
    let zero' : one_if (is_of round c) ≡ 0 = ap one_if other in
    let rest = none_unsent delay sends cs round (All-tail (IsDueCopy delay sends) c cs all) past in
    omega arith

none_if : (slot : Option (List PortValue)) → (is_some slot ≡ true → ⊥) → slot ≡ None
none_if None not_full = refl
none_if (Some tuple) not_full = absurd (not_full refl)

-- ---- the target's clock advances
abbrev later : LinkView → ℕ → LinkView
later v at = record v { latest = at }

pub goes_later : (delay : ℕ → ℕ) (v : LinkView) (at : ℕ) → IsTimed delay v → v.latest ≤ at → IsTimed delay (later v at)
goes_later delay v at timed most = record {
  flights = timed.flights;
  places = timed.places;
  slot = λ full. let old = timed.slot full in
      record {
        some' = old.some';
        due = old.due;
        due_is = old.due_is;
        before = (let before = old.before in omega arith);
      };
  taken_in = λ round past. let old = timed.taken_in round past in
      record { due = old.due; at = old.at; due_is = old.due_is; at_is = old.at_is; before = old.before };
  begun = timed.begun;
}

-- ---- a start takes the slot
abbrev after_start : LinkView → ℕ → LinkView
after_start v at = record v { starts = v.starts ++ at ∷ []; latest = at; count = v.count + 1; slot = None }

placed_on : (round count flying : ℕ) (slot : Option (List PortValue)) (taken : Option ℕ) → taken ≡ None
    → (1 ≤ count → is_some slot ≡ true) → Whereabouts round count slot flying taken
    → Whereabouts round (count + 1) None flying taken
placed_on round count flying slot taken going full (in_flight one most free) = elim (cases_eq count (round + 1)) [
  | inl next ↦ absurd (false≢true (sym (ap is_some (free next)) ∙ full (omega arith)))
  | inr other ↦ in_flight one (omega arith) (λ same. refl)
]
placed_on round count flying slot taken going full (in_slot none next is) = was_taken none (omega arith)
placed_on round count flying slot taken going full (was_taken none past) = was_taken none (omega arith)
placed_on round count flying slot taken going full (came_early none early) =
    absurd (let both : None ≡ Some round = sym going ∙ early in cc)

pub goes_start : (delay : ℕ → ℕ) (v : LinkView) (at : ℕ) → IsTimed delay v → v.taken ≡ None → v.latest ≤ at
    → (1 ≤ v.count → is_some v.slot ≡ true) → IsTimed delay (after_start v at)
goes_start delay v at timed going most full = record {
  flights = timed.flights;
  places =
      λ round sent. placed_on round v.count (copies round v.flight) v.slot v.taken going full (timed.places round sent);
  slot = λ none. absurd (false≢true none);
  taken_in = λ round past. elim (cases_lt (round + 1) v.count) [
    | inl before ↦
        let old = timed.taken_in round before in
        record {
          due = old.due;
          at = old.at;
          due_is = old.due_is;
          at_is = slice_get-append_left v.starts (at ∷ []) (round + 1) old.at old.at_is;
          before = old.before;
        }
    | inr now ↦
        let this : v.count - 1 ≡ round = omega arith in
        let place : length v.starts ≡ round + 1 = timed.begun ∙ omega arith in
        let old = timed.slot (full (omega arith)) in
        record {
          due = old.due;
          at = at;
          due_is = ap (due_of delay v.sends) (sym this) ∙ old.due_is;
          at_is = ap (slice_get (v.starts ++ at ∷ [])) (sym place) ∙ slice_get-push v.starts at;
          before = (let before = old.before in omega arith);
        }
  ];
  begun = length-append v.starts (at ∷ []) ∙ ap (λ n. n + 1) timed.begun;
}

-- ---- a send puts a copy into flight
abbrev after_send : LinkView → ℕ → FlightCopy → ℕ → LinkView
after_send v at copy t = record v { sends = v.sends ++ at ∷ []; flight = v.flight ++ copy ∷ []; latest = t }

grown : (delay : ℕ → ℕ) (sends : List ℕ) (at : ℕ) (copy : FlightCopy) → IsDueCopy delay sends copy
    → IsDueCopy delay (sends ++ at ∷ []) copy
grown delay sends at copy is =
    let due = due_if_sent delay sends copy.round is.sent in
    let size = length-append sends (at ∷ []) in
    let sent = is.sent in
    record { sent = omega arith; due = is.due ∙ due.1 ∙ sym (due_more delay sends (at ∷ []) copy.round due.0 due.1) }

pub goes_send : (delay : ℕ → ℕ) (v : LinkView) (at t : ℕ) (copy : FlightCopy) → IsTimed delay v → v.taken ≡ None
    → v.latest ≤ t → copy.round ≡ length v.sends → copy.due ≡ Some (at + delay (length v.sends))
    → IsTimed delay (after_send v at copy t)
goes_send delay v at t copy timed going most round_is due_is' =
    let size : length (v.sends ++ at ∷ []) ≡ length v.sends + 1 = length-append v.sends (at ∷ []) in
    let due_new : due_of delay (v.sends ++ at ∷ []) (length v.sends) ≡ Some (at + delay (length v.sends)) =
    ap (option_map (λ x. x + delay (length v.sends))) (slice_get-push v.sends at) in
    let new : IsDueCopy delay (v.sends ++ at ∷ []) copy = record {
      sent = omega arith;
      due = due_is' ∙ sym (ap (due_of delay (v.sends ++ at ∷ [])) round_is ∙ due_new);
    } in
    record {
      flights = All-append (IsDueCopy delay (v.sends ++ at ∷ [])) v.flight (copy ∷ [])
          (All-weaker (IsDueCopy delay v.sends) (IsDueCopy delay (v.sends ++ at ∷ []))
          (λ c is. grown delay v.sends at c is) v.flight timed.flights)
          (All-cons (IsDueCopy delay (v.sends ++ at ∷ [])) copy [] new
          (All-nil (IsDueCopy delay (v.sends ++ at ∷ []))));
      places = λ round sent. elim (cases_lt round (length v.sends)) [
        | inl before ↦
            let other : is_of round copy ≡ false =
            false_from_ne_true (is_of round copy)
            (λ same. let here : copy.round ≡ round = eqb-true copy.round round same in absurd (omega arith)) in
            let as_before : copies round (v.flight ++ copy ∷ []) ≡ copies round v.flight =
            copies_more round v.flight copy ∙ ap (λ b. copies round v.flight + one_if b) other ∙ omega arith in
            subst (λ n. Whereabouts round v.count v.slot n v.taken) (sym as_before) (timed.places round before)
        | inr now ↦
            let this : round ≡ length v.sends = omega arith in
            let is : is_of round copy ≡ true = grind (arith, common_steps) in
            let none : copies round v.flight ≡ 0 =
            none_unsent delay v.sends v.flight round timed.flights (omega arith) in
            let one : copies round (v.flight ++ copy ∷ []) ≡ 1 = copies_more round v.flight copy
            ∙ ap (λ b. copies round v.flight + one_if b) is ∙ omega arith in
            let most' : v.count ≤ round + 1 = elim (cases_lt (round + 1) v.count) [
              | inl past ↦ absurd (let old = timed.taken_in round past in
                  let sent' = sent_if_due delay v.sends round old.due old.due_is in omega arith)
              | inr not_past ↦ omega arith
            ] in
            in_flight one most' (λ next. none_if v.slot (λ full.
            let old = timed.slot full in
            let here : v.count - 1 ≡ round = omega arith in
            let sent' = sent_if_due delay v.sends round old.due (ap (due_of delay v.sends) (sym here) ∙ old.due_is) in
            omega arith))
      ];
      slot = λ full.
          let old = timed.slot full in
          record {
            some' = old.some';
            due = old.due;
            due_is = due_more delay v.sends (at ∷ []) (v.count - 1) old.due old.due_is;
            before = (let before = old.before in omega arith);
          };
      taken_in = λ round past.
          let old = timed.taken_in round past in
          record {
            due = old.due;
            at = old.at;
            due_is = due_more delay v.sends (at ∷ []) round old.due old.due_is;
            at_is = old.at_is;
            before = old.before;
          };
      begun = timed.begun;
    }

-- ---- a message arrives
abbrev pub slot_after : Option (List PortValue) → List PortValue → Arrived → Option (List PortValue)
slot_after slot tuple Kept = Some tuple
slot_after slot tuple Ignored = slot
slot_after slot tuple Early = slot

abbrev pub taken_after : ℕ → Arrived → Option ℕ
taken_after round Kept = None
taken_after round Ignored = None
taken_after round Early = Some round

abbrev after_arrive : LinkView → ℕ → ℕ → List PortValue → Arrived → LinkView
after_arrive v at round tuple a =
    record v {
      latest = at;
      slot = slot_after v.slot tuple a;
      flight = without_oldest round v.flight;
      taken = taken_after round a;
    }

abbrev pub arrived_at : ℕ → Option (List PortValue) → ℕ → Arrived
arrived_at count slot round =
    if nat_le count round then Early else if nat_eq (round + 1) count && is_none slot then Kept else Ignored

-- the arriving copy was in flight, once
abbrev pub IsTaken : (ℕ → ℕ) → LinkView → ℕ → ℕ → FlightCopy → Type 0
IsTaken delay v round at copy = (oldest round v.flight ≡ Some copy) × (is_due (Some at) copy ≡ true)

due_before : (due : Option ℕ) (at : ℕ) (d : ℕ) → option_map_or (λ x. nat_le x (unwrap_or (Some at) 0)) due false ≡ true
    → due ≡ Some d → d ≤ at
due_before due at d is same =
    let here : nat_le d at ≡ true =
    sym (ap (λ o. option_map_or (λ x. nat_le x (unwrap_or (Some at) 0)) o false) same) ∙ is in
    leb-true d at here

-- it is stored, or it is early
kept_or_early : (round count flying : ℕ) (slot : Option (List PortValue)) (taken : Option ℕ) (late next : Bool)
    → nat_le count round ≡ late → nat_eq (round + 1) count ≡ next → taken ≡ None → 1 ≤ flying
    → Whereabouts round count slot flying taken
    → (if late then Early else if next && is_none slot then Kept else Ignored) ≢ Ignored
kept_or_early round count flying slot taken true next is other going some place = λ same. absurd (cc)
kept_or_early round count flying slot taken false next is other going some (in_flight one most free) =
    let past : round < count = leb-false count round is in
    let same : count ≡ round + 1 = omega arith in
    let yes' : nat_eq (round + 1) count ≡ true = grind (arith, common_steps) in
    λ ignored. absurd (let kept : Kept ≡ Ignored =
    sym (ap₂ (λ a o. if a && is_none o then Kept else Ignored) (sym other ∙ yes') (free same)) ∙ ignored in cc)
kept_or_early round count flying slot taken false next is other going some (in_slot none here full) =
    absurd (omega arith)
kept_or_early round count flying slot taken false next is other going some (was_taken none past) = absurd (omega arith)
kept_or_early round count flying slot taken false next is other going some (came_early none early) =
    absurd (let both : None ≡ Some round = sym going ∙ early in cc)

fits_by : (late next empty : Bool) → (if late then Early else if next && empty then Kept else Ignored) ≡ Kept
    → (next ≡ true) × (empty ≡ true)
fits_by true next empty is = absurd (cc)
fits_by false true true is = (refl, refl)
fits_by false true false is = absurd (cc)
fits_by false false empty is = absurd (cc)

kept_when : (round count : ℕ) (slot : Option (List PortValue)) → arrived_at count slot round ≡ Kept
    → (round + 1 ≡ count) × (slot ≡ None)
kept_when round count slot is =
    let fits = fits_by (nat_le count round) (nat_eq (round + 1) count) (is_none slot) is in
    (eqb-true (round + 1) count fits.0, none_by_test slot fits.1)

none_left : (flying left : ℕ) (round count : ℕ) (slot : Option (List PortValue)) (taken : Option ℕ) → taken ≡ None
    → flying ≡ left + 1 → Whereabouts round count slot flying taken → left ≡ 0
none_left flying left round count slot taken going fewer' (in_flight one most free) = omega arith
none_left flying left round count slot taken going fewer' (in_slot none here full) = absurd (omega arith)
none_left flying left round count slot taken going fewer' (was_taken none past) = absurd (omega arith)
none_left flying left round count slot taken going fewer' (came_early none early) = absurd (omega arith)

other_place : (round other count flying : ℕ) (slot : Option (List PortValue)) (tuple : List PortValue)
    (taken : Option ℕ) (a : Arrived) → taken ≡ None → round ≢ other → arrived_at count slot round ≡ a
    → Whereabouts other count slot flying taken
    → Whereabouts other count (slot_after slot tuple a) flying (taken_after round a)
other_place round other count flying slot tuple taken Kept going apart is (in_flight one most free) =
    let kept = kept_when round count slot is in
    in_flight one most (λ same. absurd (apart (let here = kept.0 in omega arith)))
other_place round other count flying slot tuple taken Kept going apart is (in_slot none here full) =
    let kept = kept_when round count slot is in
    absurd (apart (let there = kept.0 in omega arith))
other_place round other count flying slot tuple taken Kept going apart is (was_taken none past) = was_taken none past
other_place round other count flying slot tuple taken Kept going apart is (came_early none early) =
    absurd (let both : None ≡ Some other = sym going ∙ early in cc)
other_place round other count flying slot tuple taken Ignored going apart is (in_flight one most free) =
    in_flight one most free
other_place round other count flying slot tuple taken Ignored going apart is (in_slot none here full) =
    in_slot none here full
other_place round other count flying slot tuple taken Ignored going apart is (was_taken none past) = was_taken none past
other_place round other count flying slot tuple taken Ignored going apart is (came_early none early) =
    absurd (let both : None ≡ Some other = sym going ∙ early in cc)
other_place round other count flying slot tuple taken Early going apart is (in_flight one most free) =
    in_flight one most free
other_place round other count flying slot tuple taken Early going apart is (in_slot none here full) =
    in_slot none here full
other_place round other count flying slot tuple taken Early going apart is (was_taken none past) = was_taken none past
other_place round other count flying slot tuple taken Early going apart is (came_early none early) =
    absurd (let both : None ≡ Some other = sym going ∙ early in cc)

own_place : (round count left : ℕ) (slot : Option (List PortValue)) (tuple : List PortValue) (a : Arrived) → a ≢ Ignored
    → arrived_at count slot round ≡ a → left ≡ 0
    → Whereabouts round count (slot_after slot tuple a) left (taken_after round a)
own_place round count left slot tuple Kept used is none = let kept = kept_when round count slot is in
    in_slot none (sym kept.0) refl
own_place round count left slot tuple Ignored used is none = absurd (used refl)
own_place round count left slot tuple Early used is none = came_early none refl

-- the properties of the arriving copy
pub record Arriving (delay : ℕ → ℕ) (v : LinkView) (round at : ℕ) : Type 0 where
  pub sent : round < length v.sends
  pub due : ℕ
  pub due_is : due_of delay v.sends round ≡ Some due
  pub before : due ≤ at
  pub one_less : copies round v.flight ≡ copies round (without_oldest round v.flight) + 1

pub arriving_tells : (delay : ℕ → ℕ) (v : LinkView) (round at : ℕ) (copy : FlightCopy) → IsTimed delay v
    → IsTaken delay v round at copy → Arriving delay v round at
arriving_tells delay v round at copy timed taken =
    let one = oldest_is_one (IsDueCopy delay v.sends) round v.flight copy timed.flights taken.0 in
    let here : copy.round ≡ round = eqb-true copy.round round one.1 in
    let sent : round < length v.sends = subst (λ r. r < length v.sends) here one.0.sent in
    let due = due_if_sent delay v.sends round sent in
    record {
      sent = sent;
      due = due.0;
      due_is = due.1;
      before = due_before copy.due at due.0 taken.1 (one.0.due ∙ ap (due_of delay v.sends) here ∙ due.1);
      one_less = fewer round v.flight (λ gone. let both : None ≡ Some copy = sym gone ∙ taken.0 in absurd (cc));
    }

slot_told : (delay : ℕ → ℕ) (v : LinkView) (round at : ℕ) (tuple : List PortValue) (a : Arrived) → IsTimed delay v
    → v.latest ≤ at → Arriving delay v round at → arrived_at v.count v.slot round ≡ a
    → is_some (slot_after v.slot tuple a) ≡ true → SlotWasDue delay (after_arrive v at round tuple a)
slot_told delay v round at tuple Kept timed most tells is full =
    let kept = kept_when round v.count v.slot is in
    let here : v.count - 1 ≡ round = let there = kept.0 in omega arith in
    record {
      some' = (let there = kept.0 in omega arith);
      due = tells.due;
      due_is = ap (due_of delay v.sends) here ∙ tells.due_is;
      before = tells.before;
    }
slot_told delay v round at tuple Ignored timed most tells is full =
    let old = timed.slot full in
    record {
      some' = old.some';
      due = old.due;
      due_is = old.due_is;
      before = (let before = old.before in omega arith);
    }
slot_told delay v round at tuple Early timed most tells is full =
    let old = timed.slot full in
    record {
      some' = old.some';
      due = old.due;
      due_is = old.due_is;
      before = (let before = old.before in omega arith);
    }

pub goes_arrive : (delay : ℕ → ℕ) (v : LinkView) (at round : ℕ) (tuple : List PortValue) (copy : FlightCopy)
    (a : Arrived) → IsTimed delay v → v.taken ≡ None → v.latest ≤ at → oldest round v.flight ≡ Some copy
    → is_due (Some at) copy ≡ true
    → arrived_at v.count v.slot round ≡ a → IsTimed delay (after_arrive v at round tuple a)
goes_arrive delay v at round tuple copy a timed going most is_copy due is =
    let tells = arriving_tells delay v round at copy timed (is_copy, due) in
    let place = timed.places round tells.sent in
    let left =
    none_left (copies round v.flight) (copies round (without_oldest round v.flight)) round v.count v.slot v.taken
    going tells.one_less place in
    let less = tells.one_less in
    let used : a ≢ Ignored =
    λ ignored. kept_or_early round v.count (copies round v.flight) v.slot v.taken (nat_le v.count round)
    (nat_eq (round + 1) v.count) refl refl going (omega arith) place (is ∙ ignored) in
    record {
      flights = All-without_oldest (IsDueCopy delay v.sends) round v.flight timed.flights;
      places = λ other sent. elim (cases_eq round other) [
        | inl same ↦ subst (λ r.
            Whereabouts r v.count (slot_after v.slot tuple a) (copies r (without_oldest round v.flight))
            (taken_after round a)) same
            (own_place round v.count (copies round (without_oldest round v.flight)) v.slot tuple a used is left)
        | inr apart ↦
            subst (λ n. Whereabouts other v.count (slot_after v.slot tuple a) n (taken_after round a))
            (sym (as_many round other v.flight apart))
            (other_place round other v.count (copies other v.flight) v.slot tuple v.taken a going apart is
            (timed.places other sent))
      ];
      slot = slot_told delay v round at tuple a timed most tells is;
      taken_in = λ r past. let old = timed.taken_in r past in
          record { due = old.due; at = old.at; due_is = old.due_is; at_is = old.at_is; before = old.before };
      begun = timed.begun;
    }
