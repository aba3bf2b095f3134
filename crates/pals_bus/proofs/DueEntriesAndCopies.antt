-- The entries of messages that are due, and their copies in flight.
use Rattle.std.proofs.Common.{◌≡◌, ◌↔◌, ◌∙◌, inl, inr, ◌⊎◌, ℕ, zero, suc, ◌+◌, ◌*◌, ◌^◌, ◌<◌, ◌≤◌, nat_eq, nat_lt}
use Rattle.std.proofs.Common.{nat_le, Bool, true, false, cond, List, [], ◌∷◌, length, find, Option, Some, None, is_some}
use Rattle.std.proofs.Common.{All, refl, sym, ap, arith}
use Rattle.std.specs.Prelude.{count_by, filter, slice_index_or, slice_get, ◌&&◌, if◌then◌else◌}
use Rattle.std.specs.Option.{option_map_or}
use Rattle.std.specs.List.Sorted.{IsNonDecreasingBy}
use Rattle.std.proofs.lemmas.Bool.{cases_eq, cases_lt, eqb-true, and_parts, false≢true, lt-ltb, or_left, or_right}
use Rattle.std.proofs.lemmas.Bool.{or_from, and_left, le-ltb, ne_eqb, cases_Bool, and_from, eq-eqb}
use Rattle.std.proofs.lemmas.List.{get_or_past}
use Rattle.std.proofs.lemmas.List.Sorted.{sum_by-IsPermutation}
use Rattle.std.proofs.lemmas.List.Sums.{sum_by-cons, count_by-le-length, length-filter}
use Rattle.std.proofs.lemmas.Option.{slice_get-get_or, get_or_from_slice_get}
use Rattle.pals_model.specs.declared.design.Link.{Link}
use Rattle.pals_model.specs.declared.flight_copy.FlightCopy.{FlightCopy}
use Rattle.link_buffers.specs.declared.due_queue.DueEntry.{DueEntry}
use Rattle.link_buffers.specs.proof.DueQueues.{QueueState, is_entry, is_due_at}
use Rattle.link_buffers.proofs.DueOrder.{entry_from_test, entry_is_itself}
use Rattle.bus_machine.specs.LinkEvents.{is_in_flight}
use Rattle.bus_machine.specs.BusStates.{flight_at}
use Rattle.bus_machine.specs.Plans.{link_at, no_link}
use Rattle.pals_model.specs.Flights.{is_of}
use Rattle.pals_bus.specs.declared.bus_fields.BusFields.{BusFields}
use Rattle.pals_bus.specs.BusValues.{BusValue}
use Rattle.pals_bus.specs.proof.BusInvariant.{IsBusInvariant, value_of}
use Rattle.pals_bus.specs.proof.OutOfRangeDefaults.{no_queue}
use Rattle.pals_bus.specs.proof.DueQueues.{AreDueEntries, comes_first, is_copy_of, copies_in_flight}
use Rattle.pals_bus.specs.proof.DueMessages.{IsDueTo, HasDue, AreLeft}
use Rattle.pals_bus.proofs.FlightRooms.{flight_is}
use Rattle.pals_bus.proofs.QueueChanges.{one_or_none}
use Rattle.pals_bus.proofs.QueueFlightAgreement.{count_none}

-- the default for a missing entry
abbrev pub no_entry : DueEntry
no_entry = record { due = 0; link = record { 0 = 0 }; round = 0 }

-- ---- the entries at first
kept_counts : (q : DueEntry → Bool) (e : DueEntry) (xs : List DueEntry) → q e ≡ true
    → count_by (is_entry e) (filter q xs) ≡ count_by (is_entry e) xs
kept_counts q e [] passes = refl
kept_counts q e (x ∷ xs) passes =
    let rest = kept_counts q e xs passes in
    let all = sum_by-cons (λ y. cond (is_entry e y) 1 0) x xs in
    elim (cases_Bool (q x)) [
      | inl holds ↦
          let is : filter q (x ∷ xs) ≡ x ∷ filter q xs = ap (λ b. cond b (x ∷ filter q xs) (filter q xs)) holds in
          let here = ap (count_by (is_entry e)) is ∙ sum_by-cons (λ y. cond (is_entry e y) 1 0) x (filter q xs) in
          omega (arith, here, rest, all)
      | inr fails ↦
          let is : filter q (x ∷ xs) ≡ filter q xs = ap (λ b. cond b (x ∷ filter q xs) (filter q xs)) fails in
          let here = ap (count_by (is_entry e)) is in
          elim (cases_Bool (is_entry e x)) [
            | inl same ↦ absurd (false≢true (sym fails ∙ ap q (sym (entry_from_test e x same)) ∙ passes))
            | inr other ↦
                let none : cond {A = ℕ} (is_entry e x) 1 0 ≡ 0 = ap (λ b. cond {A = ℕ} b 1 0) other in
                omega (arith, here, rest, all, none)
          ]
    ]

dropped_counts : (q : DueEntry → Bool) (e : DueEntry) (xs : List DueEntry) → q e ≡ false
    → count_by (is_entry e) (filter q xs) ≡ 0
dropped_counts q e [] fails = refl
dropped_counts q e (x ∷ xs) fails =
    let rest = dropped_counts q e xs fails in
    elim (cases_Bool (q x)) [
      | inl holds ↦
          let is : filter q (x ∷ xs) ≡ x ∷ filter q xs = ap (λ b. cond b (x ∷ filter q xs) (filter q xs)) holds in
          let here = ap (count_by (is_entry e)) is ∙ sum_by-cons (λ y. cond (is_entry e y) 1 0) x (filter q xs) in
          elim (cases_Bool (is_entry e x)) [
            | inl same ↦ absurd (false≢true (sym fails ∙ ap q (entry_from_test e x same) ∙ holds))
            | inr other ↦
                let none : cond {A = ℕ} (is_entry e x) 1 0 ≡ 0 = ap (λ b. cond {A = ℕ} b 1 0) other in
                omega (arith, here, rest, none)
          ]
      | inr fails_here ↦ ap (λ b. count_by (is_entry e) (cond b (x ∷ filter q xs) (filter q xs))) fails_here ∙ rest
    ]

due_counts : (q : DueEntry → Bool) (e : DueEntry) (xs : List DueEntry) (b : Bool) → q e ≡ b
    → count_by (is_entry e) (filter q xs) ≡ (if b then count_by (is_entry e) xs else 0)
due_counts q e xs true is = kept_counts q e xs is
due_counts q e xs false is = dropped_counts q e xs is

-- as many entries of a queue are due as copies are in flight
pub counts_at_first : (f : BusFields) (node reading : ℕ) (queue : QueueState) → IsBusInvariant f
    → queue ≡ slice_index_or f.queues node no_queue → (e : DueEntry)
    → count_by (is_entry e) (filter (is_due_at reading) queue.entries)
    ≡ (if is_due_at reading e then copies_in_flight (value_of f) node e else 0)
counts_at_first f node reading queue keeps is e =
    due_counts (is_due_at reading) e queue.entries (is_due_at reading e) refl
    ∙ ap (λ (n : ℕ). if is_due_at reading e then n else 0)
    (ap (λ (q : QueueState). count_by (is_entry e) q.entries) is
    ∙ keeps.queues.entries node e
    ∙ ap (λ (copies : List FlightCopy).
    if nat_eq (link_at (value_of f).run.design e.link.0).target.0 node then count_by (is_copy_of e) copies else 0)
    (sym (flight_is f.flights e.link.0)))

-- all messages that are due are in the queue
pub left_at_first : (f : BusFields) (node reading : ℕ) (queue : QueueState) (due : List DueEntry) → IsBusInvariant f
    → queue ≡ slice_index_or f.queues node no_queue → AreDueEntries queue reading due
    → AreLeft (value_of f) node reading due
left_at_first f node reading queue due keeps is are = record {
  counts =
      λ e. sum_by-IsPermutation (λ x. cond (is_entry e x) 1 0) (filter (is_due_at reading) queue.entries) due are.are
      ∙ counts_at_first f node reading queue keeps is e;
  order = are.order;
}

-- ---- an entry and its copy
pub if_some : (b : Bool) (n : ℕ) → 1 ≤ (if b then n else 0) → (b ≡ true) × (1 ≤ n)
if_some true n some = (refl, some)
if_some false n some = absurd (omega (arith, some))

pub copy_there : (copies : List FlightCopy) (e : DueEntry) → 1 ≤ count_by (is_copy_of e) copies
    → (place : ℕ) × (copy : FlightCopy) × (slice_get copies place ≡ Some copy) × (is_copy_of e copy ≡ true)
copy_there copies e some = elim (one_or_none (is_copy_of e) copies) [
  | inl found ↦ found
  | inr none ↦ absurd (let zero_is = count_none (is_copy_of e) copies none in omega (arith, some, zero_is))
]

due_there : (d : ℕ) (o : Option ℕ) → option_map_or (nat_eq d) o false ≡ true → o ≡ Some d
due_there d None passes = absurd (false≢true passes)
due_there d (Some other) passes = ap (λ k. Some k) (sym (eqb-true d other passes))

pub copy_parts : (e : DueEntry) (copy : FlightCopy) → is_copy_of e copy ≡ true
    → (copy.round ≡ e.round) × (copy.due ≡ Some e.due)
copy_parts e copy passes =
    let parts = and_parts (nat_eq copy.round e.round) (option_map_or (nat_eq e.due) copy.due false) passes in
    (eqb-true copy.round e.round parts.0, due_there e.due copy.due parts.1)

is_due_by : (reading d : ℕ) (o : Option ℕ) → o ≡ Some d → nat_le d reading ≡ true
    → option_map_or (λ due. nat_le due reading) o false ≡ true
is_due_by reading d o is due = ap (λ (p : Option ℕ). option_map_or (λ due. nat_le due reading) p false) is ∙ due

due_reading : (reading : ℕ) (o : Option ℕ) → option_map_or (λ due. nat_le due reading) o false ≡ true
    → (d : ℕ) × (o ≡ Some d) × (nat_le d reading ≡ true)
due_reading reading None passes = absurd (false≢true passes)
due_reading reading (Some d) passes = (d, refl, passes)

count_some : {X : Type 0} (p : X → Bool) (xs : List X) (i : ℕ) (x : X) → slice_get xs i ≡ Some x → p x ≡ true
    → 1 ≤ count_by p xs
count_some p [] i x is passes = absurd (cc)
count_some p (y ∷ ys) zero x is passes =
    let same : y ≡ x = cc in
    let one : cond {A = ℕ} (p y) 1 0 ≡ 1 = ap (λ b. cond {A = ℕ} b 1 0) (ap p same ∙ passes) in
    omega (arith, sum_by-cons (λ z. cond (p z) 1 0) y ys, one)
count_some p (y ∷ ys) (suc i) x is passes =
    let rest = count_some p ys i x is passes in
    omega (arith, sum_by-cons (λ z. cond (p z) 1 0) y ys, rest)

found_there : {X : Type 0} (p : X → Bool) (xs : List X) (i : ℕ) (x : X) → slice_get xs i ≡ Some x → p x ≡ true
    → is_some (find p xs) ≡ true
found_there p [] i x is passes = absurd (cc)
found_there p (y ∷ ys) zero x is passes = let same : y ≡ x = cc in
    ap (λ b. is_some (cond b (Some y) (find p ys))) (ap p same ∙ passes)
found_there p (y ∷ ys) (suc i) x is passes = elim (cases_Bool (p y)) [
  | inl holds ↦ ap (λ b. is_some (cond b (Some y) (find p ys))) holds
  | inr fails ↦ ap (λ b. is_some (cond b (Some y) (find p ys))) fails ∙ found_there p ys i x is passes
]

pub flies : (copies : List FlightCopy) (place : ℕ) (copy : FlightCopy) (round : ℕ) → slice_get copies place ≡ Some copy
    → copy.round ≡ round → is_in_flight round copies ≡ true
flies copies place copy round is of_round =
    found_there (is_of round) copies place copy is (eq-eqb copy.round round of_round)

-- ---- messages that are due
pub link_there : (b : BusValue) (link place : ℕ) (copy : FlightCopy)
    → length b.state.flights ≡ length b.run.design.links → slice_get (flight_at b.state link) place ≡ Some copy
    → link < length b.run.design.links
link_there b link place copy many is = elim (cases_lt link (length b.run.design.links)) [
  | inl within ↦ within
  | inr past ↦
      let none : flight_at b.state link ≡ [] = get_or_past b.state.flights link [] (omega (arith, many, past)) in
      let gone : slice_get (flight_at b.state link) place ≡ None =
      ap (λ (copies : List FlightCopy). slice_get copies place) none in
      absurd (cc)
]

pub due_of_entry : (b : BusValue) (node reading : ℕ) (e : DueEntry) → length b.state.flights ≡ length b.run.design.links
    → is_due_at reading e ≡ true → 1 ≤ copies_in_flight b node e → IsDueTo b node reading e.link.0 e.round
due_of_entry b node reading e many due some =
    let parts =
    if_some (nat_eq (link_at b.run.design e.link.0).target.0 node)
    (count_by (is_copy_of e) (flight_at b.state e.link.0)) some in
    let found = copy_there (flight_at b.state e.link.0) e parts.1 in
    let same = copy_parts e found.1 found.3 in
    record {
      the_link = link_at b.run.design e.link.0;
      is_link =
          slice_get-get_or b.run.design.links e.link.0 no_link (link_there b e.link.0 found.0 found.1 many found.2);
      to_node = eqb-true (link_at b.run.design e.link.0).target.0 node parts.0;
      place = found.0;
      copy = found.1;
      is_copy = found.2;
      of_round = same.0;
      due = is_due_by reading e.due found.1.due same.1 due;
    }

-- the entry of a message that is due
pub record IsEntryOf (b : BusValue) (node reading link round : ℕ) (e : DueEntry) : Type 0 where
  pub link_is : e.link.0 ≡ link
  pub round_is : e.round ≡ round
  pub due : is_due_at reading e ≡ true
  pub some : 1 ≤ copies_in_flight b node e

pub entry_of_due : (b : BusValue) (node reading link round : ℕ) → IsDueTo b node reading link round
    → (e : DueEntry) × IsEntryOf b node reading link round e
entry_of_due b node reading link round is_due_to =
    let copy = is_due_to.copy in
    let reads = due_reading reading copy.due is_due_to.due in
    let e : DueEntry = record { due = reads.0; link = record { 0 = link }; round = round } in
    let here : link_at b.run.design link ≡ is_due_to.the_link =
    get_or_from_slice_get b.run.design.links link is_due_to.the_link no_link is_due_to.is_link in
    let to : nat_eq (link_at b.run.design link).target.0 node ≡ true =
    eq-eqb (link_at b.run.design link).target.0 node (ap (λ (l : Link). l.target.0) here ∙ is_due_to.to_node) in
    let due : option_map_or (nat_eq reads.0) copy.due false ≡ true =
    ap (λ (o : Option ℕ). option_map_or (nat_eq reads.0) o false) reads.1 ∙ eq-eqb reads.0 reads.0 refl in
    let passes : is_copy_of e copy ≡ true =
    and_from (nat_eq copy.round round) (option_map_or (nat_eq reads.0) copy.due false)
    (eq-eqb copy.round round is_due_to.of_round) due in
    let count = count_some (is_copy_of e) (flight_at b.state link) is_due_to.place copy is_due_to.is_copy passes in
    let all : copies_in_flight b node e ≡ count_by (is_copy_of e) (flight_at b.state link) =
    ap (λ (t : Bool). if t then count_by (is_copy_of e) (flight_at b.state link) else 0) to in
    (e, record { link_is = refl; round_is = refl; due = reads.2; some = omega (arith, count, all) })

-- ---- the order of links and rounds

pub not_first : (x e : DueEntry) → comes_first e x ≡ false
    → (x.link.0 < e.link.0) ⊎ ((x.link.0 ≡ e.link.0) × (x.round ≤ e.round))
not_first x e not = elim (cases_lt x.link.0 e.link.0) [
  | inl less ↦ inl less
  | inr more ↦ elim (cases_eq e.link.0 x.link.0) [
    | inl same ↦ elim (cases_lt e.round x.round) [
      | inl less ↦
          absurd (false≢true (sym not
          ∙ or_right (nat_lt e.link.0 x.link.0) (nat_eq e.link.0 x.link.0 && nat_lt e.round x.round)
          (and_from (nat_eq e.link.0 x.link.0) (nat_lt e.round x.round) (eq-eqb e.link.0 x.link.0 same)
          (lt-ltb e.round x.round less))))
      | inr le ↦ inr (sym same, le)
    ]
    | inr other ↦
        absurd (false≢true (sym not
        ∙ or_left (nat_lt e.link.0 x.link.0) (nat_eq e.link.0 x.link.0 && nat_lt e.round x.round)
        (lt-ltb e.link.0 x.link.0
        (elim (cases_lt e.link.0 x.link.0)
        [ inl less ↦ less | inr le ↦ absurd (other (omega (arith, more, le))) ]))))
  ]
]

-- ---- entries in order of a number that rises with the link, and for one link with the round
abbrev pub number_of : DueEntry → ℕ
number_of e = e.link.0 * 2 ^ 32 + e.round

abbrev pub IsShort : DueEntry → Type 0
IsShort e = e.round < 2 ^ 32

later_link : (l m : ℕ) (r s : ℕ) → l * 2 ^ 32 + r ≤ m * 2 ^ 32 + s → s < 2 ^ 32 → l ≤ m
later_link l m r s le short = omega (arith, le, short)

later_round : (l m : ℕ) (r s : ℕ) → l * 2 ^ 32 + r ≤ m * 2 ^ 32 + s → m ≡ l → r ≤ s
later_round l m r s le same = omega (arith, le, same)

in_order_two : (x y : DueEntry) → number_of x ≤ number_of y → IsShort y → comes_first y x ≡ false
in_order_two x y le short =
    let link = later_link x.link.0 y.link.0 x.round y.round le short in
    or_from (nat_lt y.link.0 x.link.0) (nat_eq y.link.0 x.link.0 && nat_lt y.round x.round)
    (le-ltb y.link.0 x.link.0 link)
    (elim (cases_eq y.link.0 x.link.0) [
      | inl same ↦ ap (λ b. nat_eq y.link.0 x.link.0 && b)
          (le-ltb y.round x.round (later_round x.link.0 y.link.0 x.round y.round le same))
          ∙ ap (λ b. b && false) (eq-eqb y.link.0 x.link.0 same)
      | inr other ↦ and_left (nat_eq y.link.0 x.link.0) (nat_lt y.round x.round) (ne_eqb y.link.0 x.link.0 other)
    ])

pub in_order : (xs : List DueEntry) → IsNonDecreasingBy number_of xs → All IsShort xs → (i j : ℕ) (d : DueEntry) → i < j
    → j < length xs → comes_first (slice_index_or xs j d) (slice_index_or xs i d) ≡ false
in_order xs rises short i j d before within =
    in_order_two (slice_index_or xs i d) (slice_index_or xs j d) (rises i j d (omega (arith, before)) within)
    (short j d within)

-- ---- the entries that are due come first
pub due_place : (entries : List DueEntry) (reading count place : ℕ) → count ≡ count_by (is_due_at reading) entries
    → place < count → slice_get entries place ≡ None → ⊥
due_place [] reading count place is below none = let least = count_by-le-length (is_due_at reading) [] in
    absurd (omega (arith, is, below, least))
due_place (x ∷ xs) reading count place is below none =
    let least = count_by-le-length (is_due_at reading) (x ∷ xs) in
    let there : slice_get (x ∷ xs) place ≡ Some (slice_index_or (x ∷ xs) place x) =
    slice_get-get_or (x ∷ xs) place x (omega (arith, is, below, least)) in
    absurd (cc)

-- ---- whether any message is due
some_there : (b : BusValue) (node reading : ℕ) (entries : List DueEntry)
    → length b.state.flights ≡ length b.run.design.links
    → ((e : DueEntry) → count_by (is_entry e) entries ≡ (if is_due_at reading e then copies_in_flight b node e else 0))
    → 1 ≤ length entries → HasDue b node reading
some_there b node reading [] many counts some = absurd (omega (arith, some))
some_there b node reading (e ∷ entries) many counts some =
    let one = count_some (is_entry e) (e ∷ entries) 0 e refl (entry_is_itself e) in
    let here = counts e in
    let parts = if_some (is_due_at reading e) (copies_in_flight b node e) (omega (arith, one, here)) in
    record { link = e.link.0; round = e.round; is_due = due_of_entry b node reading e many parts.0 parts.1 }

there_some : (b : BusValue) (node reading : ℕ) (entries : List DueEntry)
    → ((e : DueEntry) → count_by (is_entry e) entries ≡ (if is_due_at reading e then copies_in_flight b node e else 0))
    → HasDue b node reading → 1 ≤ length entries
there_some b node reading [] counts due =
    let found = entry_of_due b node reading due.link due.round due.is_due in
    let entry : IsEntryOf b node reading due.link due.round found.0 = found.1 in
    let some = entry.some in
    let none : 0 ≡ copies_in_flight b node found.0 = counts found.0
    ∙ ap (λ (t : Bool). if t then copies_in_flight b node found.0 else 0) entry.due in
    absurd (omega (arith, some, none))
there_some b node reading (e ∷ entries) counts due = omega arith

-- some entry of the queue is due just if some message is
pub due_by_queue : (f : BusFields) (node reading : ℕ) (queue : QueueState) → IsBusInvariant f
    → queue ≡ slice_index_or f.queues node no_queue
    → length (value_of f).state.flights ≡ length (value_of f).run.design.links
    → (count : ℕ) → count ≡ count_by (is_due_at reading) queue.entries → (0 < count) ↔ HasDue (value_of f) node reading
due_by_queue f node reading queue keeps is many count counted =
    let entries = filter (is_due_at reading) queue.entries in
    let size = length-filter (is_due_at reading) queue.entries in (
      λ some. some_there (value_of f) node reading entries many (counts_at_first f node reading queue keeps is)
          (omega (arith, size, counted, some)),
      λ due. let some = there_some (value_of f) node reading entries (counts_at_first f node reading queue keeps is)
          due in omega (arith, size, counted, some),
    )
