-- The arrivals that a start reads, one after another: each takes the first copy of its link out of flight and leaves it
-- in its slot.
use Rattle.std.proofs.Common.{◌≡◌, ◌≢◌, inl, inr, ◌⊎◌, ℕ, zero, suc, ◌+◌, ◌<◌, ◌≤◌, nat_eq, nat_le, Bool, true, false}
use Rattle.std.proofs.Common.{◌&&◌, List, [], ◌∷◌, ◌++◌, length, map, drop, All, Option, Some, None, refl, sym, ap, ap₂}
use Rattle.std.proofs.Common.{◌∙◌}
use Rattle.std.proofs.Common.{subst, arith}
use Rattle.std.specs.Prelude.{is_some, is_none, slice_set, if◌then◌else◌}
use Rattle.std.specs.List.{AllByRecursion as Every, Contains}
use Rattle.std.specs.Option.{option_map_or}
use Rattle.std.proofs.lemmas.Bool.{cases_eq, eq-eqb, and_from, lt-leb, le-leb}
use Rattle.std.proofs.lemmas.Grind.{get_or-set_at}
use Rattle.std.proofs.lemmas.List.{append-nil, append_assoc, get_or-set_other}
use Rattle.std.proofs.lemmas.List.Elements.{All-append, All-cons, All-nil, All-head}
use Rattle.std.proofs.Math.Seq.{map-set_same}
use Rattle.list_lemmas.proofs.Elements.{Contains-cons_cases}
use Rattle.list_lemmas.proofs.PairwiseProperties.{Pairs}
use Rattle.pals_base.specs.declared.basic_types.LinkNo.{LinkNo}
use Rattle.pals_base.specs.declared.basic_types.PortValue.{PortValue}
use Rattle.pals_base.specs.declared.limits.TheConstants.{ROUNDS, READING}
use Rattle.pals_base.specs.PeriodBoundAndReleases.{alarm}
use Rattle.pals_base.specs.UpwardNumbers.{upwards}
use Rattle.pals_model.specs.Flights.{oldest, without_oldest}
use Rattle.pals_model.specs.PortKindsAndRates.{ins_in}
use Rattle.pals_model.proofs.SourceLaws.{same_link}
use Rattle.pals_runs.specs.declared.journal.Arrived.{Arrived}
use Rattle.pals_runs.specs.declared.journal.Arrived.TheVariants.{Kept, Ignored, Early}
use Rattle.pals_runs.specs.declared.journal.JournalEntry.{JournalEntry}
use Rattle.bus_machine.specs.LinkEvents.{arriving}
use Rattle.bus_machine.specs.Nodes.{NodeState}
use Rattle.bus_machine.specs.NodeEvents.{slot_at, arrived, with_message}
use Rattle.bus_machine.specs.BusStates.{BusState, node_at, flight_at, with_node, with_flight}
use Rattle.bus_machine.specs.Plans.{link_at, component_at}
use Rattle.bus_machine.specs.RunParameters.{Run}
use Rattle.bus_machine.specs.Machine.{Arrive, arrival, early_stop}
use Rattle.bus_machine.specs.Replay.{stop_entry}
use Rattle.bus_machine.specs.Agreement.{Agrees}
use Rattle.bus_machine.specs.proof.AgreementLaws.{IsRunOf}
use Rattle.bus_machine.proofs.MessageAndRunAgreement.{replay_agrees}
use Rattle.bus_machine.proofs.StateChangeAgreement.{node_set}
use Rattle.run_laws.specs.EntriesOfDesigns.{IsEntryIn}
use Rattle.run_laws.specs.HistoriesAndTraces.{History, goes_on}
use Rattle.run_laws.specs.JournalReadings.{latest}
use Rattle.run_laws.specs.NodeLinkQuantifiers.{EachNode}
use Rattle.run_laws.specs.TraceRules.{is_due}
use Rattle.run_laws.specs.Worlds.{World, reading_at}
use Rattle.run_laws.proofs.HistoryReplay.{replays}
use Rattle.run_laws.proofs.NodePicksAndRunReplay.{component_is}
use Rattle.run_laws.proofs.WorldLinkTiming.{link_is, rule_of}
use Rattle.trace_laws.specs.proof.PutOffArrivals.{no_message, emptied, rounds_of, IsDueBetween}
use Rattle.trace_laws.proofs.CopyRounds.{IsFirst, first_copy}
use Rattle.trace_laws.proofs.JournalReadings.{one_more_at_most}
use Rattle.pals_runs.specs.declared.journal.JournalEntry.TheVariants as entry

-- ---- the state before
-- a node that is to start its next round at a reading by which the message of each of its links is due
pub record IsToRead (run : Run) (w : World) (t : BusState) (node round : ℕ) : Type 0 where
  pub rules : IsRunOf run
  pub within : node < length run.design.components
  pub count : (node_at t node).count ≡ suc round
  pub in_range : (round ≤ ROUNDS) × (reading_at w node ≤ READING)
  pub due : alarm run.design.period (round + 1) ≤ reading_at w node
  -- of each link into it
  pub many : ℕ → ℕ
  pub rounds : (number : ℕ) → number < length run.design.links → (link_at run.design number).target.0 ≡ node
      → rounds_of (flight_at t number) ≡ upwards round (suc (many number))
  pub between : (number : ℕ) → number < length run.design.links → All (IsDueBetween run) (flight_at t number)

-- ---- in between
-- a link whose message is in flight still
pub record IsPending (run : Run) (t u : BusState) (node number : ℕ) : Type 0 where
  pub within : number < length run.design.links
  pub to : (link_at run.design number).target.0 ≡ node
  pub slot : slot_at (node_at u node) (link_at run.design number).in_port ≡ None
  pub flight : flight_at u number ≡ flight_at t number

-- a link whose message is in the slot
pub record IsRead (run : Run) (t u : BusState) (node number : ℕ) : Type 0 where
  pub slot : is_some (slot_at (node_at u node) (link_at run.design number).in_port) ≡ true
  pub flight : flight_at u number ≡ drop 1 (flight_at t number)

pub record IsReading (run : Run) (w : World) (t : BusState) (node : ℕ) (ls : List ℕ) (journal : List JournalEntry)
    (u : BusState) : Type 0 where
  pub history : History run journal u
  pub of_design : All (IsEntryIn run.design) journal
  pub going : u.stop ≡ None
  pub nodes : u.nodes ≡ slice_set t.nodes node (node_at u node)
  pub here : emptied (node_at u node) ≡ emptied (node_at t node)
  pub pending : Every (IsPending run t u node) ls
  pub taken : (number : ℕ) → number < length run.design.links → (link_at run.design number).target.0 ≡ node
      → Contains ls number ⊎ IsRead run t u node number
  pub others : (number : ℕ) → number < length run.design.links → (link_at run.design number).target.0 ≢ node
      → flight_at u number ≡ flight_at t number
  pub read : EachNode run (λ k. latest run.design k journal ≤ reading_at w k)

-- ---- one arrival
pub set_twice : {X : Type 0} (xs : List X) (k : ℕ) (x y : X) → slice_set (slice_set xs k x) k y ≡ slice_set xs k y
set_twice [] k x y = refl
set_twice (z ∷ xs) zero x y = refl
set_twice (z ∷ xs) (suc k) x y = ap (λ ys. z ∷ ys) (set_twice xs k x y)

kept_by : (n : NodeState) (port round : ℕ) → n.count ≡ suc round → slot_at n port ≡ None → arrived n port round ≡ Kept
kept_by n port round last empty =
    let not_early : nat_le n.count round ≡ false = lt-leb n.count round (omega (arith, last)) in
    let same : round + 1 ≡ n.count = omega (arith, last) in
    let fits_slot : (nat_eq (round + 1) n.count && is_none (slot_at n port)) ≡ true =
    and_from (nat_eq (round + 1) n.count) (is_none (slot_at n port)) (eq-eqb (round + 1) n.count same)
    (ap (λ (o : Option (List PortValue)). is_none o) empty) in
    ap₂ (λ (late fit : Bool). if late then Early else if fit then Kept else Ignored) not_early fits_slot

module _ (run : Run) (w : World) (t : BusState) (round : ℕ) (l : ℕ) (ls : List ℕ) (journal : List JournalEntry)
    (u : BusState) (inside : l < length run.design.links)
    (ready : IsToRead run w t (link_at run.design l).target.0 round)
    (now : IsReading run w t (link_at run.design l).target.0 (l ∷ ls) journal u)
    (apart : Every (λ j. l ≢ j) ls) where
  abbrev number : LinkNo
  number = record { 0 = l }

  abbrev node : ℕ
  node = (link_at run.design l).target.0

  abbrev port : ℕ
  port = (link_at run.design l).in_port

  abbrev reading : ℕ
  reading = reading_at w node

  abbrev n : NodeState
  n = node_at u node

  abbrev tuple : List PortValue
  tuple = arriving round (flight_at u l)

  abbrev m : NodeState
  m = with_message n port tuple Kept

  abbrev left_by : Arrived → BusState
  left_by a =
      record (with_flight (with_node u node (with_message n port tuple a)) l (without_oldest round (flight_at u l))) {
        stop = early_stop number round (Some reading) a;
      }

  abbrev v : BusState
  v = left_by Kept

  agrees : Agrees run u
  agrees = replay_agrees run journal u ready.rules (replays run journal u now.history)

  pending : IsPending run t u node l
  pending = now.pending.0

  counted : n.count ≡ suc round
  counted = ap (λ (k : NodeState). k.count) now.here ∙ ready.count

  first : IsFirst (flight_at t l) round
  first = first_copy (flight_at t l) round (ready.many l) (ready.rounds l inside refl)

  kept : arrival run u number round ≡ Kept
  kept = kept_by n port round counted pending.slot

  -- ---- the event
  copy_is : oldest round (flight_at u l) ≡ Some first.copy
  copy_is = ap (oldest round) pending.flight ∙ first.oldest_is

  is_due_now : is_due (Some reading) first.copy ≡ true
  is_due_now =
      let all : All (IsDueBetween run) (first.copy ∷ first.rest) =
      subst (All (IsDueBetween run)) first.flight_is (ready.between l inside) in
      let between = All-head (IsDueBetween run) first.copy first.rest all in
      let next : alarm run.design.period (first.copy.round + 1) ≡ alarm run.design.period (round + 1) =
      ap (λ r. alarm run.design.period (r + 1)) first.round_is in
      let soon = between.early in
      let at = ready.due in
      ap (λ o. option_map_or (λ due. nat_le due reading) o false) between.due_is
      ∙ le-leb between.due reading (omega (arith, soon, next, at))

  abbrev x : JournalEntry
  x = entry.Arrive number round (Some reading) Kept

  history_more : History run (journal ++ x ∷ []) v
  history_more =
      subst (λ a. History run (journal ++ entry.Arrive number round (Some reading) a
      ∷ stop_entry (early_stop number round (Some reading) a)) (left_by a)) kept
      (goes_on (Arrive number round (Some reading)) now.history
      (record { going = now.going; allowed = ap is_some copy_is; state = refl })
      (record {
        read = record {
          at = reading;
          reading_is = refl;
          rises = now.read node ready.within;
          from_then = omega arith;
        };
        copy = first.copy;
        is_copy = copy_is;
        due = is_due_now;
      }))

  -- ---- the node
  in_nodes : node < length u.nodes
  in_nodes = let many = agrees.node_count in let within = ready.within in omega (arith, many, within)

  in_flights : l < length u.flights
  in_flights = let many = agrees.flight_count in omega (arith, many, inside)

  has_slot : port < length n.slots
  has_slot =
      let rule = (rule_of run l ready.rules inside).target in
      let is_c = component_is run node ready.within in
      let slots = (agrees.nodes node (component_at run.design node) is_c).slots in
      let below : port < length (component_at run.design node).behaviour.ins =
      subst (λ o. port < ins_in o) is_c rule.port_is in
      omega (arith, slots, below)

  node_is : node_at v node ≡ m
  node_is = node_set u node m in_nodes

  here_is : emptied (node_at v node) ≡ emptied (node_at t node)
  here_is =
      ap emptied node_is
      ∙ ap (λ slots. record n { slots = slots }) (map-set_same no_message n.slots port (Some tuple) None refl)
      ∙ now.here

  nodes_are : v.nodes ≡ slice_set t.nodes node (node_at v node)
  nodes_are =
      ap (λ ns. slice_set ns node m) now.nodes ∙ set_twice t.nodes node n m ∙ ap (slice_set t.nodes node) (sym node_is)

  -- ---- links
  flight_same : (k : ℕ) → k ≢ l → flight_at v k ≡ flight_at u k
  flight_same k other = get_or-set_other u.flights l k (without_oldest round (flight_at u l)) [] other

  slot_same : (k : ℕ) → k < length run.design.links → (link_at run.design k).target.0 ≡ node → k ≢ l
      → slot_at (node_at v node) (link_at run.design k).in_port ≡ slot_at n (link_at run.design k).in_port
  slot_same k within to other =
      let ports : (link_at run.design k).in_port ≢ port =
      λ p. other (same_link run.design k l (link_at run.design k) (link_at run.design l) ready.rules.design
      (link_is run k within) (link_is run l inside) to p) in
      ap (λ (j : NodeState). slot_at j (link_at run.design k).in_port) node_is
      ∙ get_or-set_other n.slots port (link_at run.design k).in_port (Some tuple) None ports

  this_is_read : IsRead run t v node l
  this_is_read = record {
    slot =
        ap (λ (k : NodeState). is_some (slot_at k port)) node_is
        ∙ ap is_some (get_or-set_at n.slots port port (Some tuple) None refl has_slot);
    flight =
        get_or-set_at u.flights l l (without_oldest round (flight_at u l)) [] refl in_flights
        ∙ ap (without_oldest round) pending.flight ∙ first.without_is ∙ sym (ap (drop 1) first.flight_is);
  }

  still_read : (k : ℕ) → k < length run.design.links → (link_at run.design k).target.0 ≡ node → k ≢ l
      → IsRead run t u node k → IsRead run t v node k
  still_read k within to other had = record {
    slot = ap is_some (slot_same k within to other) ∙ had.slot;
    flight = flight_same k other ∙ had.flight;
  }

  still_pending : (k : ℕ) → l ≢ k → IsPending run t u node k → IsPending run t v node k
  still_pending k other was =
      let differs : k ≢ l = λ e. other (sym e) in
      record {
        within = was.within;
        to = was.to;
        slot = slot_same k was.within was.to differs ∙ was.slot;
        flight = flight_same k differs ∙ was.flight;
      }

  all_pending : (js : List ℕ) → Every (λ j. l ≢ j) js → Every (IsPending run t u node) js
      → Every (IsPending run t v node) js
  all_pending [] others were = tt
  all_pending (j ∷ js) others were = (still_pending j others.0 were.0, all_pending js others.1 were.1)

  taken_now : (k : ℕ) → k < length run.design.links → (link_at run.design k).target.0 ≡ node
      → Contains ls k ⊎ IsRead run t v node k
  taken_now k within to = elim (cases_eq k l) [
    | inl same ↦ inr (subst (IsRead run t v node) (sym same) this_is_read)
    | inr other ↦ elim (now.taken k within to) [
      | inl waits ↦ elim (Contains-cons_cases l ls k waits) [
        | inl first_one ↦ absurd (other (sym first_one))
        | inr later ↦ inl later
      ]
      | inr had ↦ inr (still_read k within to other had)
    ]
  ]

  pub read_one : IsReading run w t node ls (journal ++ x ∷ []) v
  read_one = record {
    history = history_more;
    of_design =
        All-append (IsEntryIn run.design) journal (x ∷ []) now.of_design
        (All-cons (IsEntryIn run.design) x [] (inside, ready.in_range.0, ready.in_range.1)
        (All-nil (IsEntryIn run.design)));
    going = refl;
    nodes = nodes_are;
    here = here_is;
    pending = all_pending ls apart now.pending.1;
    taken = taken_now;
    others = λ k within elsewhere.
        flight_same k (λ same. elsewhere (ap (λ j. (link_at run.design j).target.0) same))
        ∙ now.others k within elsewhere;
    read = λ k within. one_more_at_most run.design (reading_at w) journal x k (now.read k within) refl;
  }

-- ---- all of them
abbrev pub arrivals_of : World → ℕ → ℕ → List ℕ → List JournalEntry
arrivals_of w node round ls = map (λ l. entry.Arrive (record { 0 = l }) round (Some (reading_at w node)) Kept) ls

one_read : (run : Run) (w : World) (t : BusState) (node round l : ℕ) (ls : List ℕ) (journal : List JournalEntry)
    (u : BusState) → (link_at run.design l).target.0 ≡ node → l < length run.design.links → IsToRead run w t node round
    → IsReading run w t node (l ∷ ls) journal u → Every (λ j. l ≢ j) ls
    → (v : BusState)
    × IsReading run w t node ls
    (journal ++ entry.Arrive (record { 0 = l }) round (Some (reading_at w node)) Kept ∷ []) v
one_read run w t to_start round l ls journal u to inside ready now apart =
    subst (λ k. IsToRead run w t k round → IsReading run w t k (l ∷ ls) journal u
    → (v : BusState)
    × IsReading run w t k ls (journal ++ entry.Arrive (record { 0 = l }) round (Some (reading_at w k)) Kept ∷ []) v) to
    (λ fit at. (_, read_one run w t round l ls journal u inside fit at apart)) ready now

pub read_all : (run : Run) (w : World) (t : BusState) (node round : ℕ) (ls : List ℕ) (journal : List JournalEntry)
    (u : BusState) → IsToRead run w t node round → Pairs (λ i j. i ≢ j) ls → IsReading run w t node ls journal u
    → (v : BusState) × IsReading run w t node [] (journal ++ arrivals_of w node round ls) v
read_all run w t node round [] journal u ready apart now =
    (u, subst (λ j. IsReading run w t node [] j u) (sym (append-nil journal)) now)
read_all run w t node round (l ∷ ls) journal u ready apart now =
    let x : JournalEntry = entry.Arrive (record { 0 = l }) round (Some (reading_at w node)) Kept in
    let one = one_read run w t node round l ls journal u now.pending.0.to now.pending.0.within ready now apart.0 in
    let all = read_all run w t node round ls (journal ++ x ∷ []) one.0 ready apart.1 one.1 in (
      all.0,
      subst (λ j. IsReading run w t node [] j all.0) (append_assoc journal (x ∷ []) (arrivals_of w node round ls))
          all.1,
    )
