-- For `take_due`: the first due entry's message arrives, the others remain, and so on until none is due.
use Rattle.std.proofs.Common.{◌≡◌, ◌∙◌, inl, inr, ◌⊎◌, ℕ, zero, suc, ◌+◌, ◌<◌, ◌≤◌, nat_eq, Bool, true, false, cond}
use Rattle.std.proofs.Common.{List, [], ◌∷◌, length, Option, Some, refl, sym, ap, ap₂, arith}
use Rattle.std.specs.Prelude.{count_by, slice_index_or, slice_set, if◌then◌else◌}
use Rattle.std.specs.List.{position_or_len}
use Rattle.std.proofs.lemmas.Bool.{cases_eq}
use Rattle.std.proofs.lemmas.List.{get_or-set_other}
use Rattle.std.proofs.lemmas.List.Folds.{find_at}
use Rattle.std.proofs.lemmas.List.Sums.{sum_by-cons}
use Rattle.std.proofs.lemmas.Grind.{get_or-set_at}
use Rattle.std.proofs.lemmas.Option.{slice_get_within, get_or_from_slice_get}
use Rattle.list_lemmas.proofs.Options.{some_by_test}
use Rattle.pals_base.specs.declared.basic_types.LinkNo.{LinkNo}
use Rattle.pals_model.specs.declared.flight_copy.FlightCopy.{FlightCopy}
use Rattle.pals_model.specs.Flights.{is_of, oldest, without_oldest}
use Rattle.link_buffers.specs.declared.due_queue.DueEntry.{DueEntry}
use Rattle.link_buffers.specs.proof.DueQueues.{is_entry, is_due_at}
use Rattle.link_buffers.proofs.DueOrder.{entry_is_itself}
use Rattle.bus_machine.specs.LinkEvents.{is_in_flight}
use Rattle.bus_machine.specs.BusStates.{BusState, flight_at}
use Rattle.bus_machine.specs.Plans.{link_at}
use Rattle.bus_machine.specs.RunParameters.{Run}
use Rattle.bus_machine.specs.Machine.{Arrive}
use Rattle.pals_bus.specs.BusValues.{BusValue, Happens}
use Rattle.pals_bus.specs.proof.DueQueues.{comes_first, is_copy_of, copies_in_flight}
use Rattle.pals_bus.specs.proof.DueMessages.{IsDueTo, IsNextDue, TakesDue, takes_none, takes_next, AreLeft}
use Rattle.pals_bus.proofs.QueueFlightAgreement.{contains_counted, copy_counts, counts, counts_elsewhere, count_oldest}
use Rattle.pals_bus.proofs.EqualDueReadings.{SameDue, due_of}
use Rattle.pals_bus.proofs.OldestCopyRemoval.{oldest_round}
use Rattle.pals_bus.proofs.DueEntriesAndCopies.{if_some, copy_there, copy_parts, flies, due_of_entry, IsEntryOf}
use Rattle.pals_bus.proofs.DueEntriesAndCopies.{entry_of_due, not_first}

-- ---- the first remaining entry
-- it is due, and its copy is in flight
pub first_flies : (b : BusValue) (node reading : ℕ) (x : DueEntry) (rest : List DueEntry)
    → AreLeft b node reading (x ∷ rest) → (is_due_at reading x ≡ true) × (1 ≤ copies_in_flight b node x)
first_flies b node reading x rest left =
    let counted = left.counts x in
    let all = sum_by-cons (λ y. cond (is_entry x y) 1 0) x rest in
    let one : cond {A = ℕ} (is_entry x x) 1 0 ≡ 1 = ap (λ t. cond {A = ℕ} t 1 0) (entry_is_itself x) in
    if_some (is_due_at reading x) (copies_in_flight b node x) (omega (arith, counted, all, one))

pub first_in_flight : (b : BusValue) (node reading : ℕ) (x : DueEntry) (rest : List DueEntry)
    → AreLeft b node reading (x ∷ rest) → is_in_flight x.round (flight_at b.state x.link.0) ≡ true
first_in_flight b node reading x rest left =
    let some = (first_flies b node reading x rest left).1 in
    let parts =
    if_some (nat_eq (link_at b.run.design x.link.0).target.0 node)
    (count_by (is_copy_of x) (flight_at b.state x.link.0)) some in
    let found = copy_there (flight_at b.state x.link.0) x parts.1 in
    flies (flight_at b.state x.link.0) found.0 found.1 x.round found.2 (copy_parts x found.1 found.3).0

at_place : (x e : DueEntry) (rest : List DueEntry) (i : ℕ) → i < length (x ∷ rest) → slice_index_or (x ∷ rest) i e ≡ e
    → (comes_first (slice_index_or (x ∷ rest) i e) x ≡ false) ⊎ (i ≡ 0)
    → (x.link.0 < e.link.0) ⊎ ((x.link.0 ≡ e.link.0) × (x.round ≤ e.round))
at_place x e rest zero within is order = let same : x ≡ e = is in
    inr (ap (λ (k : DueEntry). k.link.0) same, let r = ap (λ (k : DueEntry). k.round) same in omega (arith, r))
at_place x e rest (suc i) within is order = elim order [
  | inl not ↦ not_first x e (ap (λ (k : DueEntry). comes_first k x) (sym is) ∙ not)
  | inr none ↦ absurd (omega (arith, none))
]

pub is_next : (b : BusValue) (node reading : ℕ) (x : DueEntry) (rest : List DueEntry)
    → length b.state.flights ≡ length b.run.design.links → AreLeft b node reading (x ∷ rest)
    → IsNextDue b node reading x.link.0 x.round
is_next b node reading x rest many left =
    let here = first_flies b node reading x rest left in
    record {
      is_due = due_of_entry b node reading x many here.0 here.1;
      first = λ other later is_due_to.
          let found = entry_of_due b node reading other later is_due_to in
          let e = found.0 in
          let entry : IsEntryOf b node reading other later e = found.1 in
          let some = entry.some in
          let counted : count_by (is_entry e) (x ∷ rest) ≡ copies_in_flight b node e = left.counts e
          ∙ ap (λ (t : Bool). if t then copies_in_flight b node e else 0) entry.due in
          let there = contains_counted (x ∷ rest) e (omega (arith, counted, some)) in
          let order : (comes_first (slice_index_or (x ∷ rest) there.0 e) x ≡ false) ⊎ (there.0 ≡ 0) =
          elim (cases_eq there.0 0) [
            | inl first ↦ inr first
            | inr later ↦ inl (left.order 0 there.0 e
                (elim (cases_eq 0 there.0)
                [ inl same ↦ absurd (later (sym same)) | inr not ↦ omega (arith, not) ]) there.1)
          ] in
          let link_is = entry.link_is in
          let round_is = entry.round_is in
          elim (at_place x e rest there.0 there.1 there.2 order) [
            | inl less ↦ inl (omega (arith, less, link_is))
            | inr same ↦ let a = same.0 in let r = same.1 in inr (a ∙ link_is, omega (arith, r, round_is))
          ];
    }

-- ---- the others remain after it
flights_after : (b c : BusValue) (link : LinkNo) (round : ℕ) (reading : Option ℕ)
    → Happens b (Arrive link round reading) c
    → c.state.flights ≡ slice_set b.state.flights link.0 (without_oldest round (flight_at b.state link.0))
flights_after b c link round reading happens = ap (λ (s : BusState). s.flights) happens.step.state

run_after : (b c : BusValue) (link : LinkNo) (round : ℕ) (reading : Option ℕ) → Happens b (Arrive link round reading) c
    → c.run ≡ b.run
run_after b c link round reading happens = ap (λ (v : BusValue). v.run) happens.others

-- the oldest copy of its round has its due reading, as all of that round do
first_oldest : (b : BusValue) (node reading : ℕ) (x : DueEntry) (rest : List DueEntry)
    → SameDue (flight_at b.state x.link.0) → AreLeft b node reading (x ∷ rest)
    → (copy : FlightCopy) × (oldest x.round (flight_at b.state x.link.0) ≡ Some copy) × (copy.round ≡ x.round)
    × (copy.due ≡ Some x.due)
first_oldest b node reading x rest same left =
    let copies = flight_at b.state x.link.0 in
    let some = (first_flies b node reading x rest left).1 in
    let parts = if_some (nat_eq (link_at b.run.design x.link.0).target.0 node) (count_by (is_copy_of x) copies) some in
    let found = copy_there copies x parts.1 in
    let like = copy_parts x found.1 found.3 in
    let first = some_by_test (oldest x.round copies) (first_in_flight b node reading x rest left) in
    let copy = first.0 in
    let round = oldest_round x.round copies copy first.1 in
    let here : slice_index_or copies found.0 copy ≡ found.1 =
    get_or_from_slice_get copies found.0 found.1 copy found.2 in
    let due =
    due_of copies (position_or_len (is_of x.round) copies) copy (sym (find_at (is_of x.round) copies) ∙ first.1) same
    found.0 copy (slice_get_within copies found.0 found.1 found.2)
    (ap (λ (k : FlightCopy). k.round) here ∙ like.0 ∙ sym round) in
    (copy, first.1, round, sym due ∙ ap (λ (k : FlightCopy). k.due) here ∙ like.1)

-- the arrival takes out that entry's copy, and no other
one_less : (b c : BusValue) (node reading : ℕ) (x : DueEntry) (rest : List DueEntry) (e : DueEntry)
    → SameDue (flight_at b.state x.link.0) → x.link.0 < length b.state.flights → AreLeft b node reading (x ∷ rest)
    → Happens b (Arrive x.link x.round (Some reading)) c
    → copies_in_flight b node e ≡ cond (is_entry e x) 1 0 + copies_in_flight c node e
one_less b c node reading x rest e same within left happens =
    let copies = flight_at b.state x.link.0 in
    let after = flights_after b c x.link x.round (Some reading) happens in
    let run = run_after b c x.link x.round (Some reading) happens in
    let target_is : (link_at c.run.design e.link.0).target.0 ≡ (link_at b.run.design e.link.0).target.0 =
    ap (λ (r : Run). (link_at r.design e.link.0).target.0) run in
    let first = first_oldest b node reading x rest same left in
    let copy = first.0 in
    elim (cases_eq e.link.0 x.link.0) [
      | inl here ↦
          let parts =
          if_some (nat_eq (link_at b.run.design x.link.0).target.0 node) (count_by (is_copy_of x) copies)
          (first_flies b node reading x rest left).1 in
          let to : nat_eq (link_at b.run.design e.link.0).target.0 node ≡ true =
          ap (λ (k : ℕ). nat_eq (link_at b.run.design k).target.0 node) here ∙ parts.0 in
          let before : copies_in_flight b node e ≡ count_by (is_copy_of e) copies =
          ap (λ (t : Bool). if t then count_by (is_copy_of e) (flight_at b.state e.link.0) else 0) to
          ∙ ap (λ (k : ℕ). count_by (is_copy_of e) (flight_at b.state k)) here in
          let flight : flight_at c.state e.link.0 ≡ without_oldest x.round copies =
          ap (λ (fs : List (List FlightCopy)). slice_index_or fs e.link.0 []) after
          ∙ get_or-set_at b.state.flights x.link.0 e.link.0 (without_oldest x.round copies) [] here within in
          let now : copies_in_flight c node e ≡ count_by (is_copy_of e) (without_oldest x.round copies) =
          ap (λ (t : Bool). if t then count_by (is_copy_of e) (flight_at c.state e.link.0) else 0)
          (ap (λ (k : ℕ). nat_eq k node) target_is ∙ to) ∙ ap (count_by (is_copy_of e)) flight in
          let all = count_oldest (is_copy_of e) x.round copies copy first.1 in
          let one : cond (is_copy_of e copy) 1 0 ≡ cond (is_entry e x) 1 0 = copy_counts e copy x.link here
          ∙ ap₂ (λ (o : Option ℕ) (r : ℕ). counts e o x.link r) first.3 first.2 in
          omega (arith, before, now, all, one)
      | inr other ↦
          let flight : flight_at c.state e.link.0 ≡ flight_at b.state e.link.0 =
          ap (λ (fs : List (List FlightCopy)). slice_index_or fs e.link.0 []) after
          ∙ get_or-set_other b.state.flights x.link.0 e.link.0 (without_oldest x.round copies) [] other in
          let kept : copies_in_flight c node e ≡ copies_in_flight b node e =
          ap₂ (λ (k : ℕ) (cs : List FlightCopy). if nat_eq k node then count_by (is_copy_of e) cs else 0)
          target_is flight in
          let none : cond (is_entry e x) 1 0 ≡ 0 = counts_elsewhere e (Some x.due) x.link x.round other in
          omega (arith, kept, none)
    ]

left_counts : (due : Bool) (all one rest now : ℕ) → one + rest ≡ (if due then all else 0)
    → (due ≡ true → all ≡ one + now) → rest ≡ (if due then now else 0)
left_counts true all one rest now before less = let is = less refl in omega (arith, before, is)
left_counts false all one rest now before less = omega (arith, before)

ordered_rest : (x : DueEntry) (rest : List DueEntry)
    → ((i j : ℕ) (d : DueEntry) → i < j → j < length (x ∷ rest)
    → comes_first (slice_index_or (x ∷ rest) j d) (slice_index_or (x ∷ rest) i d) ≡ false)
    → (i j : ℕ) (d : DueEntry) → i < j → j < length rest
    → comes_first (slice_index_or rest j d) (slice_index_or rest i d) ≡ false
ordered_rest x rest order i j d before within = order (suc i) (suc j) d (omega (arith, before)) (omega (arith, within))

pub left_after : (b c : BusValue) (node reading : ℕ) (x : DueEntry) (rest : List DueEntry)
    → SameDue (flight_at b.state x.link.0) → x.link.0 < length b.state.flights → AreLeft b node reading (x ∷ rest)
    → Happens b (Arrive x.link x.round (Some reading)) c
    → AreLeft c node reading rest
left_after b c node reading x rest same within left happens = record {
  counts = λ e.
      let before : cond (is_entry e x) 1 0 + count_by (is_entry e) rest
      ≡ (if is_due_at reading e then copies_in_flight b node e else 0) =
      sym (sum_by-cons (λ y. cond (is_entry e y) 1 0) x rest) ∙ left.counts e in
      left_counts (is_due_at reading e) (copies_in_flight b node e) (cond (is_entry e x) 1 0)
      (count_by (is_entry e) rest)
      (copies_in_flight c node e) before (λ due. one_less b c node reading x rest e same within left happens);
  order = ordered_rest x rest left.order;
}

-- none remains in the end
pub none_due : (b : BusValue) (node reading : ℕ) → AreLeft b node reading [] → (link round : ℕ)
    → IsDueTo b node reading link round → ⊥
none_due b node reading left link round is_due_to =
    let found = entry_of_due b node reading link round is_due_to in
    let entry : IsEntryOf b node reading link round found.0 = found.1 in
    let some = entry.some in
    let none : 0 ≡ copies_in_flight b node found.0 = left.counts found.0
    ∙ ap (λ (t : Bool). if t then copies_in_flight b node found.0 else 0) entry.due in
    absurd (omega (arith, some, none))

-- ---- the run stays
pub takes_run : (node reading : ℕ) (a b : BusValue) → TakesDue node reading a b → b.run ≡ a.run
takes_run node reading a b takes_none = refl
takes_run node reading a b (takes_next {b = mid} link round takes next happens) =
    run_after mid b link round (Some reading) happens ∙ takes_run node reading a mid takes
