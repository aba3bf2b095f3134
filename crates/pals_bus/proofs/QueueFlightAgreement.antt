-- A copy that joins or leaves a flight joins or leaves the queue of its target too, so that their counts agree.
use Rattle.std.proofs.Common.{◌≡◌, ◌≢◌, ◌∙◌, inl, inr, ℕ, suc, ◌+◌, ◌<◌, ◌≤◌, nat_eq, Bool, true, false, cond, List, []}
use Rattle.std.proofs.Common.{◌∷◌, ◌++◌, length, Option, Some, None, refl, sym, ap, arith}
use Rattle.std.specs.Prelude.{Contains, count_by, slice_set, slice_index_or, slice_get, ◌&&◌, if◌then◌else◌}
use Rattle.std.specs.List.{before_first, after_first, position_or_len}
use Rattle.std.specs.Option.{option_map_or}
use Rattle.std.proofs.lemmas.Bool.{cases_eq, false≢true, ne_eqb, eq-eqb}
use Rattle.std.proofs.lemmas.List.{get_or-set_other}
use Rattle.std.proofs.lemmas.List.Folds.{find_at}
use Rattle.std.proofs.lemmas.List.Sums.{sum_by-cons, sum_by_push, split_at_first}
use Rattle.std.proofs.lemmas.Grind.{get_or-set_at}
use Rattle.std.proofs.lemmas.Option.{slice_get_within, get_or_from_slice_get}
use Rattle.std.proofs.Math.Bool.{and-false}
use Rattle.list_lemmas.proofs.Numbers.{nat_eq-swapped}
use Rattle.pals_base.specs.declared.basic_types.LinkNo.{LinkNo}
use Rattle.pals_model.specs.declared.design.Link.{Link}
use Rattle.pals_model.specs.declared.flight_copy.FlightCopy.{FlightCopy}
use Rattle.pals_model.specs.Flights.{is_of, oldest, without_oldest}
use Rattle.link_buffers.specs.declared.due_queue.DueEntry.{DueEntry}
use Rattle.link_buffers.specs.proof.Flights.{FlightState}
use Rattle.link_buffers.specs.proof.DueQueues.{QueueState, is_entry}
use Rattle.link_buffers.proofs.BufferLaws.{count_with, count_without, count_moved}
use Rattle.link_buffers.proofs.DueOrder.{entry_from_test, entry_is_itself}
use Rattle.bus_machine.specs.Plans.{no_link}
use Rattle.pals_bus.specs.proof.OutOfRangeDefaults.{no_flight, no_queue}
use Rattle.pals_bus.specs.proof.DueQueues.{copies_to, is_copy_of, with_due, without_due}
use Rattle.pals_bus.proofs.QueueChanges.{one_or_none}

-- ---- tests

tests : (a l c : Bool) → l ≡ true → (a && l && c) ≡ (c && a)
tests true true true is = refl
tests true true false is = refl
tests false true true is = refl
tests false true false is = refl
tests a false c is = absurd (false≢true is)

tests_not : (a l c : Bool) → l ≡ false → (a && l && c) ≡ false
tests_not true false c is = refl
tests_not false false c is = refl
tests_not a true c is = absurd (false≢true (sym is))

-- ---- how many entries of a kind a message has in its queue: one, or zero
abbrev pub counts : DueEntry → Option ℕ → LinkNo → ℕ → ℕ
counts e None link round = 0
counts e (Some due) link round = cond (is_entry e (record { due = due; link = link; round = round })) 1 0

pub with_due_counts : (e : DueEntry) (queue : QueueState) (due : Option ℕ) (link : LinkNo) (round : ℕ)
    → count_by (is_entry e) (with_due queue due link round).entries
    ≡ counts e due link round + count_by (is_entry e) queue.entries
with_due_counts e queue None link round = omega arith
with_due_counts e queue (Some due) link round =
    let x : DueEntry = record { due = due; link = link; round = round } in
    count_with x e queue.entries ∙ sum_by-cons (λ y. cond (is_entry e y) 1 0) x queue.entries

pub without_due_counts : (e : DueEntry) (entries : List DueEntry) (due : Option ℕ) (link : LinkNo) (round : ℕ)
    → ((d : ℕ) → due ≡ Some d → Contains entries (record { due = d; link = link; round = round }))
    → counts e due link round + count_by (is_entry e) (without_due entries due link round)
    ≡ count_by (is_entry e) entries
without_due_counts e entries None link round has = omega arith
without_due_counts e entries (Some due) link round has =
    let x : DueEntry = record { due = due; link = link; round = round } in
    sym (sum_by-cons (λ y. cond (is_entry e y) 1 0) x (without_due entries (Some due) link round))
    ∙ count_without x e entries (has due refl)

copy_counts_of : (e : DueEntry) (due : Option ℕ) (round : ℕ) (link : LinkNo) → e.link.0 ≡ link.0
    → cond (nat_eq round e.round && option_map_or (nat_eq e.due) due false) 1 0 ≡ counts e due link round
copy_counts_of e None round link same = ap (λ b. cond {A = ℕ} b 1 0) (and-false (nat_eq round e.round))
copy_counts_of e (Some due) round link same =
    ap (λ b. cond {A = ℕ} b 1 0)
    (ap (λ c. c && nat_eq e.due due) (nat_eq-swapped round e.round)
    ∙ sym (tests (nat_eq e.due due) (nat_eq e.link.0 link.0) (nat_eq e.round round)
    (eq-eqb e.link.0 link.0 same)))

pub copy_counts : (e : DueEntry) (copy : FlightCopy) (link : LinkNo) → e.link.0 ≡ link.0
    → cond (is_copy_of e copy) 1 0 ≡ counts e copy.due link copy.round
copy_counts e copy link same = copy_counts_of e copy.due copy.round link same

pub counts_elsewhere : (e : DueEntry) (due : Option ℕ) (link : LinkNo) (round : ℕ) → e.link.0 ≢ link.0
    → counts e due link round ≡ 0
counts_elsewhere e None link round other = refl
counts_elsewhere e (Some due) link round other =
    ap (λ b. cond {A = ℕ} b 1 0)
    (tests_not (nat_eq e.due due) (nat_eq e.link.0 link.0) (nat_eq e.round round) (ne_eqb e.link.0 link.0 other))

-- ---- copies in flight to a node
copies_here : (links : List Link) (flights : List FlightState) (node : ℕ) (e : DueEntry) (link : LinkNo)
    (flight : FlightState) → e.link.0 ≡ link.0 → node ≡ (slice_index_or links link.0 no_link).target.0
    → slice_index_or flights link.0 no_flight ≡ flight
    → copies_to links flights node e ≡ count_by (is_copy_of e) flight.copies
copies_here links flights node e link flight same to is =
    let target : (slice_index_or links e.link.0 no_link).target.0 ≡ node =
    ap (λ k. (slice_index_or links k no_link).target.0) same ∙ sym to in
    ap (λ b. if b then count_by (is_copy_of e) (slice_index_or flights e.link.0 no_flight).copies else 0)
    (eq-eqb (slice_index_or links e.link.0 no_link).target.0 node target)
    ∙ ap (λ k. count_by (is_copy_of e) (slice_index_or flights k no_flight).copies) same
    ∙ ap (λ (f : FlightState). count_by (is_copy_of e) f.copies) is

copies_same : (links : List Link) (old new : List FlightState) (node : ℕ) (e : DueEntry)
    → slice_index_or new e.link.0 no_flight ≡ slice_index_or old e.link.0 no_flight
    → copies_to links new node e ≡ copies_to links old node e
copies_same links old new node e is =
    ap (λ (f : FlightState).
    if nat_eq (slice_index_or links e.link.0 no_link).target.0 node then count_by (is_copy_of e) f.copies else 0) is

copies_none : (links : List Link) (flights : List FlightState) (node : ℕ) (e : DueEntry) (link : LinkNo)
    → e.link.0 ≡ link.0 → node ≢ (slice_index_or links link.0 no_link).target.0 → copies_to links flights node e ≡ 0
copies_none links flights node e link same away =
    ap (λ b. if b then count_by (is_copy_of e) (slice_index_or flights e.link.0 no_flight).copies else 0)
    (ne_eqb (slice_index_or links e.link.0 no_link).target.0 node
    (λ is. away (sym is ∙ ap (λ k. (slice_index_or links k no_link).target.0) same)))

-- away from the target nothing changes
copies_away : (links : List Link) (flights : List FlightState) (node : ℕ) (e : DueEntry) (link : LinkNo)
    (flight : FlightState) → node ≢ (slice_index_or links link.0 no_link).target.0
    → copies_to links (slice_set flights link.0 flight) node e ≡ copies_to links flights node e
copies_away links flights node e link flight away = elim (cases_eq e.link.0 link.0) [
  | inl same ↦ copies_none links (slice_set flights link.0 flight) node e link same away
      ∙ sym (copies_none links flights node e link same away)
  | inr other ↦ copies_same links flights (slice_set flights link.0 flight) node e
      (get_or-set_other flights link.0 e.link.0 flight no_flight other)
]

-- all queues have the copies of these flights
abbrev pub HaveCopies : List Link → List FlightState → List QueueState → Type 0
HaveCopies links flights queues =
    (node : ℕ) (e : DueEntry)
    → count_by (is_entry e) (slice_index_or queues node no_queue).entries ≡ copies_to links flights node e

-- ---- one more copy
pub copy_added : (links : List Link) (flights : List FlightState) (queues : List QueueState) (link : LinkNo)
    (copy : FlightCopy) (flight : FlightState) (queue : QueueState) → HaveCopies links flights queues
    → link.0 < length flights
    → (slice_index_or links link.0 no_link).target.0 < length queues
    → flight.copies ≡ (slice_index_or flights link.0 no_flight).copies ++ copy ∷ []
    → queue ≡ with_due (slice_index_or queues (slice_index_or links link.0 no_link).target.0 no_queue) copy.due
    link copy.round
    → HaveCopies links (slice_set flights link.0 flight)
    (slice_set queues (slice_index_or links link.0 no_link).target.0 queue)
copy_added links flights queues link copy flight queue have within target is queue_is node e =
    let t = (slice_index_or links link.0 no_link).target.0 in
    let before = have node e in
    elim (cases_eq node t) [
      | inl here ↦
          let new : slice_index_or (slice_set queues t queue) node no_queue ≡ queue =
          get_or-set_at queues t node queue no_queue here target in
          let count =
          ap (λ (q : QueueState). count_by (is_entry e) q.entries) (new ∙ queue_is)
          ∙ with_due_counts e (slice_index_or queues t no_queue) copy.due link copy.round in
          let old = ap (λ k. count_by (is_entry e) (slice_index_or queues k no_queue).entries) here in
          elim (cases_eq e.link.0 link.0) [
            | inl same ↦
                let more =
                copies_here links (slice_set flights link.0 flight) node e link flight same here
                (get_or-set_at flights link.0 link.0 flight no_flight refl within) in
                let all =
                ap (count_by (is_copy_of e)) is
                ∙ sum_by_push (λ c. cond (is_copy_of e c) 1 0)
                (slice_index_or flights link.0 no_flight).copies copy in
                let had =
                copies_here links flights node e link (slice_index_or flights link.0 no_flight) same here refl in
                let one = copy_counts e copy link same in
                omega (arith, count, old, before, more, all, had, one)
            | inr other ↦
                let kept =
                copies_same links flights (slice_set flights link.0 flight) node e
                (get_or-set_other flights link.0 e.link.0 flight no_flight other) in
                let none = counts_elsewhere e copy.due link copy.round other in
                omega (arith, count, old, before, kept, none)
          ]
      | inr away ↦
          ap (λ (q : QueueState). count_by (is_entry e) q.entries) (get_or-set_other queues t node queue no_queue away)
          ∙ before
          ∙ sym (copies_away links flights node e link flight away)
    ]

-- ---- one copy less
pub count_oldest : (q : FlightCopy → Bool) (round : ℕ) (copies : List FlightCopy) (copy : FlightCopy)
    → oldest round copies ≡ Some copy → count_by q copies ≡ cond (q copy) 1 0 + count_by q (without_oldest round copies)
count_oldest q round copies copy is =
    let p = is_of round in
    let n = position_or_len p copies in
    let at : slice_get copies n ≡ Some copy = sym (find_at p copies) ∙ is in
    let here = get_or_from_slice_get copies n copy copy at in
    let all : copies ≡ before_first p copies ++ copy ∷ after_first p copies =
    split_at_first p copies copy (slice_get_within copies n copy at)
    ∙ ap (λ c. before_first p copies ++ c ∷ after_first p copies) here in
    ap (count_by q) all ∙ sym (count_moved q copy (before_first p copies) (after_first p copies))
    ∙ sum_by-cons (λ c. cond (q c) 1 0) copy (before_first p copies ++ after_first p copies)

pub count_none : {X : Type 0} (p : X → Bool) (xs : List X)
    → ((i : ℕ) (d : X) → i < length xs → p (slice_index_or xs i d) ≡ false) → count_by p xs ≡ 0
count_none p [] none = refl
count_none p (x ∷ xs) none =
    let here : cond {A = ℕ} (p x) 1 0 ≡ 0 = ap (λ b. cond {A = ℕ} b 1 0) (none 0 x (omega arith)) in
    let rest = count_none p xs (λ i d lt. none (suc i) d (omega (arith, lt))) in
    omega (arith, sum_by-cons (λ y. cond (p y) 1 0) x xs, here, rest)

pub contains_counted : (entries : List DueEntry) (x : DueEntry) → 1 ≤ count_by (is_entry x) entries → Contains entries x
contains_counted entries x some = elim (one_or_none (is_entry x) entries) [
  | inl found ↦
      let y = found.1 in
      let at = found.2 in (
        found.0,
        slice_get_within entries found.0 y at,
        get_or_from_slice_get entries found.0 y x at ∙ sym (entry_from_test x y found.3),
      )
  | inr none ↦ absurd (let zero_is = count_none (is_entry x) entries none in omega (arith, some, zero_is))
]

-- the entry of a copy in flight is in the queue of its target
pub entry_there : (links : List Link) (flights : List FlightState) (queues : List QueueState) (link : LinkNo)
    (copy : FlightCopy) (round d : ℕ) → HaveCopies links flights queues
    → oldest round (slice_index_or flights link.0 no_flight).copies ≡ Some copy → copy.due ≡ Some d
    → Contains (slice_index_or queues (slice_index_or links link.0 no_link).target.0 no_queue).entries
    (record { due = d; link = link; round = copy.round })
entry_there links flights queues link copy round d have is due =
    let t = (slice_index_or links link.0 no_link).target.0 in
    let x : DueEntry = record { due = d; link = link; round = copy.round } in
    let flight = slice_index_or flights link.0 no_flight in
    let before = have t x in
    let here = copies_here links flights t x link flight refl refl refl in
    let all = count_oldest (is_copy_of x) round flight.copies copy is in
    let one : cond {A = ℕ} (is_copy_of x copy) 1 0
    ≡ 1 = copy_counts x copy link refl ∙ ap (λ o. counts x o link copy.round) due
    ∙ ap (λ b. cond {A = ℕ} b 1 0) (entry_is_itself x) in
    contains_counted (slice_index_or queues t no_queue).entries x (omega (arith, before, here, all, one))

pub copy_taken : (links : List Link) (flights : List FlightState) (queues : List QueueState) (link : LinkNo)
    (copy : FlightCopy) (round : ℕ) (flight : FlightState) (queue : QueueState) → HaveCopies links flights queues
    → link.0 < length flights
    → (slice_index_or links link.0 no_link).target.0 < length queues
    → oldest round (slice_index_or flights link.0 no_flight).copies ≡ Some copy
    → flight.copies ≡ without_oldest round (slice_index_or flights link.0 no_flight).copies
    → queue.entries ≡ without_due
    (slice_index_or queues (slice_index_or links link.0 no_link).target.0 no_queue).entries copy.due link copy.round
    → HaveCopies links (slice_set flights link.0 flight)
    (slice_set queues (slice_index_or links link.0 no_link).target.0 queue)
copy_taken links flights queues link copy round flight queue have within target oldest_is is queue_is node e =
    let t = (slice_index_or links link.0 no_link).target.0 in
    let before = have node e in
    elim (cases_eq node t) [
      | inl here ↦
          let new : slice_index_or (slice_set queues t queue) node no_queue ≡ queue =
          get_or-set_at queues t node queue no_queue here target in
          let now =
          ap (λ (q : QueueState). count_by (is_entry e) q.entries) new ∙ ap (count_by (is_entry e)) queue_is in
          let count =
          without_due_counts e (slice_index_or queues t no_queue).entries copy.due link copy.round
          (λ d due. entry_there links flights queues link copy round d have oldest_is due) in
          let old = ap (λ k. count_by (is_entry e) (slice_index_or queues k no_queue).entries) here in
          elim (cases_eq e.link.0 link.0) [
            | inl same ↦
                let less =
                copies_here links (slice_set flights link.0 flight) node e link flight same here
                (get_or-set_at flights link.0 link.0 flight no_flight refl within) in
                let all =
                count_oldest (is_copy_of e) round (slice_index_or flights link.0 no_flight).copies copy oldest_is in
                let rest = ap (count_by (is_copy_of e)) is in
                let had =
                copies_here links flights node e link (slice_index_or flights link.0 no_flight) same here refl in
                let one = copy_counts e copy link same in
                omega (arith, now, count, old, before, less, all, rest, had, one)
            | inr other ↦
                let kept =
                copies_same links flights (slice_set flights link.0 flight) node e
                (get_or-set_other flights link.0 e.link.0 flight no_flight other) in
                let none = counts_elsewhere e copy.due link copy.round other in
                omega (arith, now, count, old, before, kept, none)
          ]
      | inr away ↦
          ap (λ (q : QueueState). count_by (is_entry e) q.entries) (get_or-set_other queues t node queue no_queue away)
          ∙ before
          ∙ sym (copies_away links flights node e link flight away)
    ]
