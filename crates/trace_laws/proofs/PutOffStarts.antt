-- A start: the messages that it reads arrive in the history, and then it starts as in the world.
use Rattle.std.proofs.Common.{◌≡◌, ◌≢◌, inl, inr, ℕ, zero, suc, ◌+◌, ◌-◌, ◌*◌, ◌<◌, ◌≤◌, nat_le, true, false}
use Rattle.std.proofs.Common.{List, [], ◌∷◌, ◌++◌, length, map, drop, All, Option, Some, None, refl, sym, ap, ap₂, ◌∙◌}
use Rattle.std.proofs.Common.{subst}
use Rattle.std.proofs.Common.{arith}
use Rattle.std.specs.Prelude.{is_some, slice_index_or, slice_set, replicate}
use Rattle.std.specs.List.{Contains}
use Rattle.std.specs.Option.{option_map_or}
use Rattle.std.proofs.lemmas.Bool.{cases_eq, lt-leb, false≢true}
use Rattle.std.proofs.lemmas.List.{append-nil, append_assoc}
use Rattle.std.proofs.lemmas.List.Elements.{All-append, All-cons, All-nil, All-head, All-tail}
use Rattle.list_lemmas.proofs.Elements.{Contains-nil}
use Rattle.list_lemmas.proofs.ElementPositions.{get_or-map_constant}
use Rattle.std.proofs.lemmas.Option.{get_or_from_slice_get, slice_get_within}
use Rattle.pals_base.specs.declared.basic_types.NodeNo.{NodeNo}
use Rattle.pals_base.specs.declared.basic_types.PortValue.{PortValue}
use Rattle.pals_base.specs.declared.basic_types.PortValue.TheVariants.{Absent}
use Rattle.pals_base.specs.declared.limits.TheConstants.{ROUNDS}
use Rattle.pals_base.specs.PeriodBoundAndReleases.{alarm}
use Rattle.pals_base.specs.UpwardNumbers.{upwards}
use Rattle.pals_model.specs.declared.design.Component.{Component}
use Rattle.pals_model.specs.declared.design.Link.{Link}
use Rattle.pals_model.specs.Composition.{comp}
use Rattle.pals_model.specs.ComponentInputs.{values_at, input_vectors}
use Rattle.pals_model.specs.declared.flight_copy.FlightCopy.{FlightCopy}
use Rattle.pals_runs.specs.declared.phase.Phase.TheVariants.{Waiting, Running, Done}
use Rattle.pals_runs.specs.declared.journal.JournalEntry.{JournalEntry}
use Rattle.bus_machine.specs.Nodes.{NodeState, sent_rounds}
use Rattle.bus_machine.specs.NodeEvents.{slot_at, is_waiting, started}
use Rattle.bus_machine.specs.Machine.{Start, after, after_start}
use Rattle.bus_machine.specs.Replay.{entries, start_entry}
use Rattle.bus_machine.specs.Agreement.{Agrees, NodeAgrees, IsInRound, PhaseAgrees}
use Rattle.bus_machine.specs.BusStates.{BusState, node_at, flight_at, no_node, with_node}
use Rattle.bus_machine.specs.MissedMessages.{rounds_sent_on, missing_link}
use Rattle.bus_machine.specs.Plans.{plan_of, link_at, no_link, component_at}
use Rattle.pals_model.specs.IncomingAndOutgoingLinks.{links_into}
use Rattle.bus_machine.specs.RunParameters.{Run}
use Rattle.bus_machine.specs.proof.AgreementLaws.{IsRunOf}
use Rattle.bus_machine.proofs.MessageAndRunAgreement.{replay_agrees}
use Rattle.bus_machine.proofs.StateChangeAgreement.{node_set, node_stays}
use Rattle.bus_machine.proofs.NodeReplacement.{keeps_at}
use Rattle.bus_machine.proofs.NodeEventBusAgreement.{is_waiting_phase}
use Rattle.run_laws.specs.EntriesOfDesigns.{IsEntryIn}
use Rattle.run_laws.specs.HistoriesAndTraces.{History, goes_on}
use Rattle.run_laws.specs.NodeLinkQuantifiers.{EachNode}
use Rattle.run_laws.proofs.HistoryReplay.{replays}
use Rattle.run_laws.proofs.NodePicksAndRunReplay.{component_is}
use Rattle.run_laws.proofs.TimeArithmetic.{alarm_more}
use Rattle.run_laws.proofs.WorldInvariantAfterStarts.{slot_empty, sent_as_before}
use Rattle.run_laws.proofs.MissedLinks.{missed_link}
use Rattle.run_laws.specs.JournalReadings.{latest}
use Rattle.run_laws.specs.Runs.{NoneDue}
use Rattle.run_laws.specs.TraceRules.{is_due}
use Rattle.run_laws.specs.Worlds.{World, reading_at, world_after}
use Rattle.run_laws.specs.proof.WorldInvariant.{KeepsTime}
use Rattle.run_laws.proofs.FaultlessEventConditions.{FaultlessStart}
use Rattle.run_laws.proofs.WorldLinkTiming.{link_is, has_come}
use Rattle.run_laws.proofs.WorldNodeTiming.{late, phase_agrees}
use Rattle.trace_laws.specs.WorldTraces.{recorded, arrivals_at}
use Rattle.trace_laws.specs.proof.PutOffArrivals.{no_message, emptied, flying, rounds_of, IsDueBetween, LinksArePutOff}
use Rattle.trace_laws.specs.proof.PutOffArrivals.{IsPutOff}
use Rattle.trace_laws.proofs.CopyRounds.{in_slot_is_sent, rest_rounds, rounds_at_least}
use Rattle.trace_laws.proofs.EmptiedNodes.{emptied_at, emptied_set}
use Rattle.trace_laws.proofs.JournalReadings.{one_more_at_most}
use Rattle.trace_laws.proofs.LinksInto.{every_into, pairs_into, contains_into}
use Rattle.trace_laws.proofs.PutOffSteps.{count_in_range, reading_in_range}
use Rattle.trace_laws.proofs.ReadArrivals.{set_twice, IsToRead, IsPending, IsRead, IsReading, arrivals_of, read_all}
use Rattle.pals_runs.specs.declared.events_and_faults.Event.TheVariants as event
use Rattle.pals_runs.specs.declared.journal.JournalEntry.TheVariants as entry

-- ---- lists
set_same : {X : Type 0} (xs : List X) (k : ℕ) (d : X) → slice_set xs k (slice_index_or xs k d) ≡ xs
set_same [] k d = refl
set_same (x ∷ xs) zero d = refl
set_same (x ∷ xs) (suc k) d = ap (λ ys. x ∷ ys) (set_same xs k d)

all_rest : (P : FlightCopy → Type 0) (xs : List FlightCopy) → All P xs → All P (drop 1 xs)
all_rest P [] all = All-nil P
all_rest P (x ∷ xs) all = All-tail P x xs all

flying_full : (slot : Option (List PortValue)) (flight : List FlightCopy) → is_some slot ≡ true
    → flying slot flight ≡ drop 1 flight
flying_full None flight full = absurd (false≢true full)
flying_full (Some tuple) flight full = refl

empty_twice : (slots : List (Option (List PortValue))) → map no_message (map no_message slots) ≡ map no_message slots
empty_twice [] = refl
empty_twice (slot ∷ slots) = ap (λ more. None ∷ more) (empty_twice slots)

emptied_twice : (n : NodeState) → emptied (emptied n) ≡ emptied n
emptied_twice n = ap (λ slots. record n { slots = slots }) (empty_twice n.slots)

-- no copy of these rounds is due at a reading less than twice the skew past the first of their alarms
none_due : (run : Run) (count reading : ℕ) (flight : List FlightCopy)
    → reading + 2 ≤ alarm run.design.period count + 2 * run.design.gamma.eps
    → All (λ (copy : FlightCopy). count ≤ copy.round) flight → All (IsDueBetween run) flight
    → All (λ copy. is_due (Some reading) copy ≡ false) flight
none_due run count reading [] soon rounds between = All-nil (λ copy. is_due (Some reading) copy ≡ false)
none_due run count reading (copy ∷ flight) soon rounds between =
    let least = All-head (λ (c : FlightCopy). count ≤ c.round) copy flight rounds in
    let this = All-head (IsDueBetween run) copy flight between in
    let more = alarm_more run.design.period count copy.round least in
    let late = this.late in
    All-cons (λ c. is_due (Some reading) c ≡ false) copy flight
    (ap (λ o. option_map_or (λ due. nat_le due reading) o false) this.due_is
    ∙ lt-leb this.due reading (omega (arith, soon, more, late)))
    (none_due run count reading flight soon (All-tail (λ (c : FlightCopy). count ≤ c.round) copy flight rounds)
    (All-tail (IsDueBetween run) copy flight between))

-- ---- a node whose messages have arrived
-- what the start finds in the history: the world's flights into the node, and a full slot of each link, but in round 0
record IsPrepared (run : Run) (w : World) (t : BusState) (node : ℕ) (journal : List JournalEntry) (u : BusState) : Type
    0 where
  history : History run journal u
  of_design : All (IsEntryIn run.design) journal
  going : u.stop ≡ None
  nodes : u.nodes ≡ slice_set t.nodes node (node_at u node)
  here : emptied (node_at u node) ≡ emptied (node_at w.bus node)
  full : (number : ℕ) → number < length run.design.links → (link_at run.design number).target.0 ≡ node
      → 0 < (node_at w.bus node).count → is_some (slot_at (node_at u node) (link_at run.design number).in_port) ≡ true
  rounds : (number : ℕ) → number < length run.design.links → (link_at run.design number).target.0 ≡ node
      → rounds_of (flight_at u number)
      ≡ upwards (node_at w.bus node).count (rounds_sent_on run w.bus number - (node_at w.bus node).count)
  flight : (number : ℕ) → number < length run.design.links → (link_at run.design number).target.0 ≡ node
      → flight_at u number ≡ flight_at w.bus number
  between : (number : ℕ) → number < length run.design.links → (link_at run.design number).target.0 ≡ node
      → All (IsDueBetween run) (flight_at u number)
  others : (number : ℕ) → number < length run.design.links → (link_at run.design number).target.0 ≢ node
      → flight_at u number ≡ flight_at t number
  read : EachNode run (λ k. latest run.design k journal ≤ reading_at w k)

module _ (run : Run) (w : World) (journal : List JournalEntry) (t : BusState) (rules : IsRunOf run)
    (few : run.rounds ≤ ROUNDS) (keeps : KeepsTime run w) (put : IsPutOff run w journal t) (node : NodeNo)
    (fine : FaultlessStart run w node) where
  abbrev here : NodeState
  here = node_at w.bus node.0

  abbrev reading : ℕ
  reading = reading_at w node.0

  at : node_at t node.0 ≡ emptied here
  at = emptied_at w.bus t node.0 put.nodes

  waits : here.phase ≡ Waiting
  waits = is_waiting_phase here.phase fine.waits

  busy : here.phase ≢ Done
  busy done = absurd (let no : Waiting ≡ Done = sym waits ∙ done in cc)

  -- the alarm is due, and less than twice the skew ago
  due : alarm run.design.period here.count ≤ reading
  due = fine.due

  soon : reading + 2 ≤ alarm run.design.period here.count + 2 * run.design.gamma.eps
  soon =
      let last = late run w rules keeps node.0 fine.within busy in
      let clock = keeps.clocks node.0 fine.within in
      let fast = clock.fast in
      omega (arith, last, fast)

  -- ---- the messages that it reads
  rests : (here.count < run.rounds)
  rests =
      let agrees = subst (PhaseAgrees run node.0 (component_at run.design node.0) here) waits
      (phase_agrees run w rules keeps node.0 fine.within) in
      agrees.1

  abbrev sent_on : ℕ → ℕ
  sent_on number = rounds_sent_on run w.bus number

  full : (number : ℕ) → number < length run.design.links → (link_at run.design number).target.0 ≡ node.0
      → 0 < here.count → is_some (slot_at here (link_at run.design number).in_port) ≡ true
  full number within to some =
      let g = run.design.gamma in
      let target : ℕ = (link_at run.design number).target.0 in
      let count : (node_at w.bus target).count ≡ here.count = ap (λ k. (node_at w.bus k).count) to in
      let alarms : alarm run.design.period (node_at w.bus target).count ≡ alarm run.design.period here.count =
      ap (alarm run.design.period) count in
      let more = rests in
      let clock = keeps.clocks node.0 fine.within in
      let fast = clock.fast in
      let now = due in
      subst (λ k. is_some (slot_at (node_at w.bus k) (link_at run.design number).in_port) ≡ true) to
      (has_come run w rules keeps number within (omega (arith, some, count)) (omega (arith, more, count))
      (omega (arith, alarms, fast, now)))

  first_is : (number : ℕ) → number < length run.design.links → (link_at run.design number).target.0 ≡ node.0
      → (round : ℕ) → here.count ≡ suc round
      → rounds_of (flight_at t number) ≡ upwards round (suc (sent_on number - suc round))
  first_is number within to round last =
      let link : Link = link_at run.design number in
      let target : ℕ = link.target.0 in
      let slot = slot_at (node_at w.bus target) link.in_port in
      let count : (node_at w.bus target).count ≡ here.count = ap (λ k. (node_at w.bus k).count) to in
      let filled : is_some slot ≡ true =
      subst (λ k. is_some (slot_at (node_at w.bus k) link.in_port) ≡ true) (sym to)
      (full number within to (omega (arith, last))) in
      let is_sent = in_slot_is_sent (node_at w.bus target).count slot (sent_on number) (flight_at w.bus number)
      (keeps.links number within).once filled (omega (arith, count, last)) in
      let from : (node_at w.bus target).count - 1 ≡ round = omega (arith, count, last) in
      let many : sent_on number - ((node_at w.bus target).count - 1) ≡ suc (sent_on number - suc round) =
      omega (arith, count, last, is_sent) in
      (put.links number within).rounds ∙ ap₂ upwards from many

  ready : (round : ℕ) → here.count ≡ suc round → IsToRead run w t node.0 round
  ready round last =
      let place : here.count ≡ round + 1 = omega (arith, last) in
      let count = count_in_range run w rules few keeps node.0 fine.within in
      record {
        rules = rules;
        within = fine.within;
        count = ap (λ (n : NodeState). n.count) at ∙ last;
        in_range = (
          (let fewer : round ≤ ROUNDS = omega (arith, count, last) in fewer),
          reading_in_range run w rules few keeps node.0 fine.within busy,
        );
        due = subst (λ r. alarm run.design.period r ≤ reading) place due;
        many = λ number. sent_on number - suc round;
        rounds = λ number within to. first_is number within to round last;
        between = λ number within. (put.links number within).due;
      }

  abbrev into : List ℕ
  into = links_into run.design node.0

  begin_reading : IsReading run w t node.0 into journal t
  begin_reading = record {
    history = put.history;
    of_design = put.of_design;
    going = put.going;
    nodes = sym (set_same t.nodes node.0 no_node);
    here = refl;
    pending =
        every_into (IsPending run t t node.0) node.0 0 run.design.links
        (λ k l is to.
        let place : k ≡ 0 + k = omega arith in
        let this : link_at run.design k ≡ l = get_or_from_slice_get run.design.links k l no_link is in
        subst (IsPending run t t node.0) place
        (record {
          within = slice_get_within run.design.links k l is;
          to = ap (λ (x : Link). x.target.0) this ∙ to;
          slot =
              ap (λ (n : NodeState). slot_at n (link_at run.design k).in_port) at
              ∙ get_or-map_constant {Y = Option (List PortValue)} None here.slots (link_at run.design k).in_port;
          flight = refl;
        }));
    taken = λ number within to.
        inl (let place : 0 + number ≡ number = omega arith in
        subst (Contains into) place
        (contains_into node.0 0 run.design.links number (link_at run.design number) (link_is run number within) to));
    others = λ number within elsewhere. refl;
    read = put.read;
  }

  prepared_after : (round : ℕ) → here.count ≡ suc round → (u : BusState) (told : List JournalEntry)
      → IsReading run w t node.0 [] told u → IsPrepared run w t node.0 told u
  prepared_after round last u told done =
      let was : (number : ℕ) → number < length run.design.links → (link_at run.design number).target.0 ≡ node.0
      → IsRead run t u node.0 number =
      λ number within to. elim (done.taken number within to)
      [ inl none ↦ absurd (Contains-nil number none) | inr had ↦ had ] in
      record {
        history = done.history;
        of_design = done.of_design;
        going = done.going;
        nodes = done.nodes;
        here = done.here ∙ ap emptied at ∙ emptied_twice here;
        full = λ number within to some. (was number within to).slot;
        rounds = λ number within to.
            ap rounds_of (was number within to).flight
            ∙ rest_rounds (flight_at t number) round (sent_on number - suc round) (first_is number within to round last)
            ∙ ap (λ c. upwards c (sent_on number - c)) (sym last);
        flight = λ number within to.
            (was number within to).flight
            ∙ sym ((put.links number within).flight
            ∙ flying_full (slot_at (node_at w.bus (link_at run.design number).target.0)
            (link_at run.design number).in_port)
            (flight_at t number)
            (subst (λ k. is_some (slot_at (node_at w.bus k) (link_at run.design number).in_port) ≡ true) (sym to)
            (full number within to (omega (arith, last)))));
        between = λ number within to.
            subst (All (IsDueBetween run)) (sym (was number within to).flight)
            (all_rest (IsDueBetween run) (flight_at t number) (put.links number within).due);
        others = done.others;
        read = done.read;
      }

  prepared_first : here.count ≡ 0 → IsPrepared run w t node.0 journal t
  prepared_first none = record {
    history = put.history;
    of_design = put.of_design;
    going = put.going;
    nodes = sym (set_same t.nodes node.0 no_node);
    here = ap emptied at ∙ emptied_twice here;
    full = λ number within to some. absurd (omega (arith, none, some));
    rounds = λ number within to.
        let count : (node_at w.bus (link_at run.design number).target.0).count ≡ here.count =
        ap (λ k. (node_at w.bus k).count) to in
        let from : (node_at w.bus (link_at run.design number).target.0).count - 1 ≡ here.count =
        omega (arith, count, none) in
        (put.links number within).rounds ∙ ap (λ c. upwards c (sent_on number - c)) from;
    flight = λ number within to.
        let link : Link = link_at run.design number in
        let n : NodeState = node_at w.bus link.target.0 in
        let count : n.count ≡ here.count = ap (λ k. (node_at w.bus k).count) to in
        sym ((put.links number within).flight
        ∙ ap (λ o. flying o (flight_at t number))
        (slot_empty run number n.count (slot_at n link.in_port)
        (keeps.agrees.links number link (link_is run number within)).slot (count ∙ none)));
    between = λ number within to. (put.links number within).due;
    others = λ number within elsewhere. refl;
    read = put.read;
  }

  prepared : (count : ℕ) → here.count ≡ count
      → (u : BusState) × IsPrepared run w t node.0 (journal ++ arrivals_at run.design node (Some reading) count) u
  prepared zero is = (
    t,
    subst (λ told. IsPrepared run w t node.0 told t) (sym (append-nil journal)) (prepared_first is),
  )
  prepared (suc round) is =
      let all = read_all run w t node.0 round into journal t (ready round is) (pairs_into node.0 0 run.design.links)
      begin_reading in
      (all.0, prepared_after round is all.0 (journal ++ arrivals_of w node.0 round into) all.1)

  -- ---- nothing is missing
  none_missing : (s : BusState) → (o : Option ℕ) → missing_link run s node.0 ≡ o → (node_at s node.0).count ≡ here.count
      → ((number : ℕ) → number < length run.design.links → (link_at run.design number).target.0 ≡ node.0
      → 0 < here.count → is_some (slot_at (node_at s node.0) (link_at run.design number).in_port) ≡ true)
      → o ≡ None
  none_missing s None is count filled = refl
  none_missing s (Some number) is count filled =
      let missed = missed_link run s node.0 number is in
      let link : Link = missed.the_link in
      let within = slice_get_within run.design.links number link missed.is_link in
      let this : link_at run.design number ≡ link =
      get_or_from_slice_get run.design.links number link no_link missed.is_link in
      let begun = missed.begun in
      let has = filled number within (ap (λ (x : Link). x.target.0) this ∙ missed.to_node)
      (omega (arith, begun, count)) in
      let lacks : is_some (slot_at (node_at s node.0) (link_at run.design number).in_port) ≡ false =
      ap (λ (x : Link). is_some (slot_at (node_at s node.0) x.in_port)) this ∙ ap is_some missed.empty in
      absurd (false≢true (sym lacks ∙ has))

  world_misses_none : missing_link run w.bus node.0 ≡ None
  world_misses_none = none_missing w.bus (missing_link run w.bus node.0) refl refl full

  -- ---- the start itself
  module _ (told : List JournalEntry) (u : BusState) (done : IsPrepared run w t node.0 told u)
      (later : KeepsTime run (world_after run w (event.Start node))) where
    abbrev n : NodeState
    n = node_at u node.0

    abbrev values : ℕ → List PortValue
    values count = values_at run.env count

    abbrev begun : NodeState
    begun = started (plan_of run.design node.0) (values n.count) n

    abbrev world_begun : NodeState
    world_begun = started (plan_of run.design node.0) (values here.count) here

    abbrev v : BusState
    v = with_node u node.0 begun

    abbrev bus : BusState
    bus = with_node w.bus node.0 world_begun

    abbrev x : JournalEntry
    x = entry.Start node here.count (Some reading)

    counted : n.count ≡ here.count
    counted = ap (λ (k : NodeState). k.count) done.here

    misses_none : missing_link run u node.0 ≡ None
    misses_none = none_missing u (missing_link run u node.0) refl counted done.full

    state_is : after run u (Start node (Some reading)) ≡ v
    state_is = ap (after_start run u node (Some reading)) misses_none

    bus_is : (world_after run w (event.Start node)).bus ≡ bus
    bus_is = ap (after_start run w.bus node (Some reading)) world_misses_none

    entries_are : entries run u (Start node (Some reading)) ≡ x ∷ []
    entries_are =
        ap (λ o. start_entry run u node (Some reading) o ∷ []) misses_none
        ∙ ap (λ c. entry.Start node c (Some reading) ∷ []) counted

    world_entries_are : entries run w.bus (Start node (Some reading)) ≡ x ∷ []
    world_entries_are = ap (λ o. start_entry run w.bus node (Some reading) o ∷ []) world_misses_none

    none_is_due : NoneDue run u node.0 (Some reading)
    none_is_due number link is to =
        let within = slice_get_within run.design.links number link is in
        let this : link_at run.design number ≡ link = get_or_from_slice_get run.design.links number link no_link is in
        let into_it : (link_at run.design number).target.0 ≡ node.0 = ap (λ (y : Link). y.target.0) this ∙ to in
        none_due run here.count reading (flight_at u number) soon
        (rounds_at_least (flight_at u number) here.count (sent_on number - here.count) here.count
        (done.rounds number within into_it) (omega arith))
        (done.between number within into_it)

    history_more : History run (told ++ x ∷ []) v
    history_more =
        subst (λ es. History run (told ++ es) v) entries_are
        (goes_on (Start node (Some reading)) done.history
        (record {
          going = done.going;
          allowed = ap (λ (k : NodeState). is_waiting k.phase) done.here ∙ fine.waits;
          state = sym state_is;
        })
        (record {
          read = record {
            at = reading;
            reading_is = refl;
            rises = done.read node.0 fine.within;
            from_then = subst (λ c. alarm run.design.period c ≤ reading) (sym counted) due;
          };
          taken = none_is_due;
        }))

    -- ---- the node
    in_nodes : node.0 < length u.nodes
    in_nodes =
        let many = (replay_agrees run told u rules (replays run told u done.history)).node_count in
        let within = fine.within in omega (arith, many, within)

    in_bus : node.0 < length w.bus.nodes
    in_bus = let many = keeps.agrees.node_count in let within = fine.within in omega (arith, many, within)

    -- the inputs of the round are the composition's in both
    round_inputs : (s : BusState) (k : NodeState) → Agrees run s → node_at s node.0 ≡ k → k.phase ≡ Running 0
        → k.count ≡ suc here.count
        → k.vectors ≡ input_vectors run.design run.env (comp run.design run.env here.count).messages node.0 here.count
    round_inputs s k agrees is runs count =
        let c : Component = component_at run.design node.0 in
        let one : NodeAgrees run node.0 c k =
        subst (NodeAgrees run node.0 c) is (agrees.nodes node.0 c (component_is run node.0 fine.within)) in
        let round : IsInRound run node.0 c k 0 = subst (PhaseAgrees run node.0 c k) runs one.phase in
        let way = round.under_way in
        let number = way.count in
        let same : way.round ≡ here.count = omega (arith, number, count) in
        way.vectors ∙ ap (λ r. input_vectors run.design run.env (comp run.design run.env r).messages node.0 r) same

    vectors_are : begun.vectors ≡ world_begun.vectors
    vectors_are =
        let own : suc n.count ≡ suc here.count = ap suc counted in
        let one : n.count + 1 ≡ suc here.count = omega (arith, own) in
        let other : here.count + 1 ≡ suc here.count = omega arith in
        round_inputs v begun (replay_agrees run (told ++ x ∷ []) v rules (replays run (told ++ x ∷ []) v history_more))
        (node_set u node.0 begun in_nodes) refl one
        ∙ sym (round_inputs bus world_begun (subst (Agrees run) bus_is later.agrees)
        (node_set w.bus node.0 world_begun in_bus) refl other)

    abbrev begun_with : NodeState → List (List PortValue) → NodeState
    begun_with k vectors = record k {
      count = k.count + 1;
      phase = Running 0;
      vectors = vectors;
      outs = replicate (length (plan_of run.design node.0).behaviour.outs)
          (replicate (plan_of run.design node.0).rate Absent);
      sent = false;
    }

    begun_is : begun ≡ emptied world_begun
    begun_is = ap₂ begun_with done.here vectors_are
        ∙ ap (λ k. begun_with k world_begun.vectors) (sym (emptied_twice here))

    nodes_are : v.nodes ≡ map emptied bus.nodes
    nodes_are =
        ap (λ ns. slice_set ns node.0 begun) done.nodes ∙ set_twice t.nodes node.0 n begun
        ∙ emptied_set w.bus t node.0 begun world_begun put.nodes begun_is

    -- ---- the links
    sent_same : (number : ℕ) → rounds_sent_on run bus number ≡ sent_on number
    sent_same number =
        keeps_at (λ (k : NodeState). sent_rounds k) w.bus node.0 (link_at run.design number).source.0 world_begun
        (sent_as_before run w rules keeps node fine)

    links_are : LinksArePutOff run bus v
    links_are number within =
        let link : Link = link_at run.design number in
        let target : ℕ = link.target.0 in
        elim (cases_eq target node.0) [
          | inl to ↦
              let is : node_at bus target ≡ world_begun =
              ap (node_at bus) to ∙ node_set w.bus node.0 world_begun in_bus in
              let count : (node_at bus target).count - 1 ≡ here.count =
              ap (λ (k : NodeState). k.count - 1) is ∙
              (let less : here.count + 1 - 1 ≡ here.count = omega arith in less) in
              let slot : slot_at (node_at bus target) link.in_port ≡ None =
              ap (λ (k : NodeState). slot_at k link.in_port) is
              ∙ get_or-map_constant {Y = Option (List PortValue)} None here.slots link.in_port in
              record {
                rounds = done.rounds number within to ∙ ap₂ (λ c s. upwards c (s - c)) (sym count)
                    (sym (sent_same number));
                flight = sym (done.flight number within to) ∙ ap (λ o. flying o (flight_at u number)) (sym slot);
                due = done.between number within to;
              }
          | inr other ↦
              let is : node_at bus target ≡ node_at w.bus target = node_stays w.bus node.0 target world_begun other in
              let before = put.links number within in
              let flies : flight_at u number ≡ flight_at t number = done.others number within other in
              record {
                rounds = ap rounds_of flies ∙ before.rounds
                    ∙ ap₂ (λ c s. upwards (c - 1) (s - (c - 1))) (sym (ap (λ (k : NodeState). k.count) is))
                    (sym (sent_same number));
                flight = before.flight
                    ∙ ap₂ flying (sym (ap (λ (k : NodeState). slot_at k link.in_port) is)) (sym flies);
                due = subst (All (IsDueBetween run)) (sym flies) before.due;
              }
        ]

    begun_put_off : IsPutOff run (world_after run w (event.Start node)) (told ++ x ∷ []) v
    begun_put_off =
        let count = count_in_range run w rules few keeps node.0 fine.within in
        record {
          history = history_more;
          of_design = All-append (IsEntryIn run.design) told (x ∷ []) done.of_design
              (All-cons (IsEntryIn run.design) x []
              (fine.within, count, reading_in_range run w rules few keeps node.0 fine.within busy)
              (All-nil (IsEntryIn run.design)));
          going = done.going;
          nodes = nodes_are ∙ ap (λ (b : BusState). map emptied b.nodes) (sym bus_is);
          links = subst (λ b. LinksArePutOff run b v) (sym bus_is) links_are;
          read = λ k within. one_more_at_most run.design (reading_at w) told x k (done.read k within) refl;
        }

  pub start_put_off : KeepsTime run (world_after run w (event.Start node))
      → (u : BusState)
      × IsPutOff run (world_after run w (event.Start node)) (journal ++ recorded run w (event.Start node)) u
  start_put_off later =
      let arrivals = arrivals_at run.design node (Some reading) here.count in
      let ready_now = prepared here.count refl in
      let x : JournalEntry = entry.Start node here.count (Some reading) in
      let all : (journal ++ arrivals) ++ x ∷ [] ≡ journal ++ recorded run w (event.Start node) =
      append_assoc journal arrivals (x ∷ [])
      ∙ ap (λ es. journal ++ (arrivals ++ es))
      (sym (world_entries_are (journal ++ arrivals) ready_now.0 ready_now.1 later)) in (
        v (journal ++ arrivals) ready_now.0 ready_now.1 later,
        subst (λ told. IsPutOff run (world_after run w (event.Start node)) told
            (v (journal ++ arrivals) ready_now.0 ready_now.1 later)) all
            (begun_put_off (journal ++ arrivals) ready_now.0 ready_now.1 later),
      )
