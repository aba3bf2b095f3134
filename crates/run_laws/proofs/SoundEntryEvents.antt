-- An entry that violates no rule belongs to an event of the machine that is in time.
use Rattle.std.proofs.Common.{◌≡◌, ℕ, ◌+◌, ◌<◌, ◌≤◌, nat_eq, nat_lt, true, false, not, ◌&&◌, cond, List, [], ◌∷◌}
use Rattle.std.proofs.Common.{length, All, Option, Some, None, refl, sym, ap, ap₂, ◌∙◌, subst, arith}
use Rattle.std.specs.Prelude.{is_some, is_none, slice_index_or}
use Rattle.std.specs.Option.{option_map_or, unwrap_or}
use Rattle.std.proofs.lemmas.Bool.{and_parts, eqb-true, ltb-false, false≢true, true≢false, not-false}
use Rattle.std.proofs.lemmas.List.Elements.{All-nil, All-cons}
use Rattle.std.proofs.lemmas.Option.{slice_get_within, slice_get-get_or}
use Rattle.std.proofs.lemmas.Slice.Eq.{bytes_eq-Decides}
use Rattle.list_lemmas.proofs.Booleans.{and_three_parts}
use Rattle.list_lemmas.proofs.Options.{none_by_test}
use Rattle.pals_base.specs.declared.limits.TheConstants.{ROUNDS}
use Rattle.pals_base.specs.declared.basic_types.NodeNo.{NodeNo}
use Rattle.pals_base.specs.declared.basic_types.LinkNo.{LinkNo}
use Rattle.pals_model.specs.declared.design.DesignParts.{DesignParts}
use Rattle.pals_model.specs.declared.flight_copy.FlightCopy.{FlightCopy}
use Rattle.pals_model.specs.Flights.{oldest}
use Rattle.pals_model.specs.DesignRules.{IsDesign, IsLink}
use Rattle.pals_model.proofs.FirstMatches.{at_element}
use Rattle.pals_runs.specs.declared.journal.Arrived.{Arrived}
use Rattle.pals_runs.specs.declared.journal.Arrived.TheVariants.{Kept, Ignored, Early}
use Rattle.pals_runs.specs.declared.journal.Cause.{Cause}
use Rattle.pals_runs.specs.declared.journal.Stop.{Stop}
use Rattle.pals_runs.specs.declared.journal.Stop.TheVariants as stop
use Rattle.pals_runs.specs.declared.journal.JournalEntry.{JournalEntry}
use Rattle.pals_runs.specs.declared.journal.JournalEntry.TheVariants as entry
use Rattle.pals_runs.specs.declared.verdicts.TraceRule.TheVariants as rule
use Rattle.pals_runs.specs.JournalLines.{entry_line}
use Rattle.bus_machine.specs.Plans.{plan_of, no_link, link_at}
use Rattle.bus_machine.specs.Nodes.{round_of}
use Rattle.bus_machine.specs.NodeEvents.{is_waiting, next_step}
use Rattle.bus_machine.specs.AlarmsAndReleases.{start_alarm, step_alarm, release_reading}
use Rattle.bus_machine.specs.BusStates.{BusState, node_at, flight_at}
use Rattle.bus_machine.specs.RunParameters.{Run}
use Rattle.bus_machine.specs.MissedMessages.{missing_link, cause_of}
use Rattle.bus_machine.specs.Machine.{BusEvent, Start, Step, Finish, Send, Arrive, IsStep, is_allowed, after, arrival}
use Rattle.bus_machine.specs.Machine.{missed_stop, early_stop}
use Rattle.bus_machine.specs.Replay.{entries, start_entry, stop_entry}
use Rattle.run_laws.specs.JournalReadings.{latest}
use Rattle.run_laws.specs.EntryEventsAndReadings.{timed, has_reading, event_of}
use Rattle.run_laws.specs.TraceRules.{same_result, fits, is_in_order, falls, is_before, too_early, is_due, waits}
use Rattle.run_laws.specs.TraceRules.{is_line_of, first_entry, tells_stop, broken}
use Rattle.run_laws.specs.EntriesOfDesigns.{IsEntryIn}
use Rattle.run_laws.proofs.EntryLines.{lines_differ}
use Rattle.run_laws.proofs.MissedLinks.{missed_link}
use Rattle.run_laws.specs.HistoriesAndTraces.{IsRead, IsInTime}
use Rattle.run_laws.proofs.PassedRuleTests.{none_broken, if_none, none_is_due}

-- ---- the next entry
abbrev pub listed : Option JournalEntry → List JournalEntry
listed None = []
listed (Some e) = e ∷ []

-- an entry is the first entry of an allowed event in time; the other entries of the event belong to the design
pub record IsNext (run : Run) (front : List JournalEntry) (s : BusState) (e : JournalEntry) : Type 0 where
  pub event : BusEvent
  pub is_event : event_of run.design e ≡ Some event
  pub step : IsStep run s event (after run s event)
  pub more : Option JournalEntry
  pub tells : entries run s event ≡ e ∷ listed more
  pub more_in : All (IsEntryIn run.design) (listed more)
  pub in_time : IsInTime run front s event

-- the last readings of all nodes
abbrev pub AreLast : Run → List JournalEntry → List ℕ → Type 0
AreLast run front readings =
    (k : ℕ) → k < length run.design.components → slice_index_or readings k 0 ≡ latest run.design k front

-- ---- parts
read_at : (run : Run) (front : List JournalEntry) (readings : List ℕ) (node at least : ℕ) → AreLast run front readings
    → node < length run.design.components
    → nat_lt at (slice_index_or readings node 0) ≡ false → least ≤ at → IsRead run front node (Some at) least
read_at run front readings node at least are within rises from_then =
    let last = are node within in
    let le = ltb-false at (slice_index_or readings node 0) rises in
    record { at = at; reading_is = refl; rises = subst (λ k. k ≤ at) last le; from_then = from_then }

not_before : (at least : ℕ) → cond (is_before (Some at) least) (Some rule.Alarm) None ≡ None → least ≤ at
not_before at least none = ltb-false at least (if_none (is_before (Some at) least) rule.Alarm none)

not_released : (at least : ℕ) → cond (is_before (Some at) least) (Some rule.Release) None ≡ None → least ≤ at
not_released at least none = ltb-false at least (if_none (is_before (Some at) least) rule.Release none)

pub target_within : (design : DesignParts) (link : ℕ) → IsDesign design → link < length design.links
    → (link_at design link).target.0 < length design.components
target_within design link rules within =
    let rule =
    at_element (IsLink design) design.links link (link_at design link) rules.links.each
    (slice_get-get_or design.links link no_link within) in
    rule.target.node_is

-- the line of a start is not the line of a stop: their third letters differ
other_letter : (a b : ℕ) → a ≡ 97 → b ≡ 111 → a ≡ b → ⊥
other_letter a b is_a is_o same = absurd (omega arith)

no_stop_line : (design : DesignParts) (node : NodeNo) (round : ℕ) (reading : Option ℕ) (link : LinkNo) (other : ℕ)
    (at : Option ℕ) (cause : Cause)
    → entry_line design (entry.Start node round reading)
    ≡ entry_line design (entry.Stopped (stop.Missed link other at cause)) → ⊥
no_stop_line design node round reading link other at cause same =
    other_letter 97 111 refl refl (ap (λ (line : List ℕ). slice_index_or line 2 0) same)

same_line : (design : DesignParts) (e other : JournalEntry) → is_line_of design e (Some other) ≡ true
    → entry_line design e ≡ entry_line design other
same_line design e other is = (bytes_eq-Decides (entry_line design e) (entry_line design other)).0 is

alone : (run : Run) (s : BusState) (event : BusEvent) (e : JournalEntry) → entries run s event ≡ e ∷ []
    → entries run s event ≡ e ∷ listed None
alone run s event e is = is

-- ---- Start
start_told : (run : Run) (s : BusState) (node : NodeNo) (round at : ℕ) (m : Option ℕ) → round ≡ (node_at s node.0).count
    → is_line_of run.design (entry.Start node round (Some at))
    (first_entry (start_entry run s node (Some at) m ∷ [])) ≡ true
    → start_entry run s node (Some at) m ≡ entry.Start node round (Some at)
start_told run s node round at None same tells = ap (λ r. entry.Start node r (Some at)) (sym same)
start_told run s node round at (Some link) same tells =
    let why = missed_stop run s node (Some at) link in
    absurd (no_stop_line run.design node round (Some at) (record { 0 = link }) (round_of (node_at s node.0)) (Some at)
    (cause_of run s link (round_of (node_at s node.0)))
    (same_line run.design (entry.Start node round (Some at)) (entry.Stopped why) tells))

start_next : (run : Run) (front : List JournalEntry) (s : BusState) (readings : List ℕ) (node : NodeNo) (round : ℕ)
    (reading : Option ℕ) → AreLast run front readings → IsEntryIn run.design (entry.Start node round reading)
    → is_some reading ≡ true → broken run s readings (entry.Start node round reading) ≡ None
    → IsNext run front s (entry.Start node round reading)
start_next run front s readings node round None are of has none = absurd (false≢true has)
start_next run front s readings node round (Some at) are of has none =
    let e = entry.Start node round (Some at) in
    let n = node_at s node.0 in
    let kept =
    none_broken (is_in_order run s e) (falls readings (timed run.design e)) (waits run s e)
    (tells_stop run s e (event_of run.design e)) (too_early run s e) none in
    let order = and_three_parts (is_none s.stop) (is_waiting n.phase) (nat_eq round n.count) kept.0 in
    let same : round ≡ n.count = eqb-true round n.count order.2 in
    record {
      event = Start node (Some at);
      is_event = refl;
      step = record { going = none_by_test s.stop order.0; allowed = order.1; state = refl };
      more = None;
      tells = ap (λ x. x ∷ []) (start_told run s node round at (missing_link run s node.0) same kept.4);
      more_in = All-nil (IsEntryIn run.design);
      in_time =
          record {
            read = read_at run front readings node.0 at (start_alarm (plan_of run.design node.0) n) are of.0
                kept.1 (not_before at (start_alarm (plan_of run.design node.0) n) kept.2);
            taken = none_is_due run s node.0 (Some at) kept.3;
          };
    }

-- ---- Step
step_by : (o : Option ℕ) (step : ℕ) → is_some o ≡ true → step ≡ unwrap_or o 0 → o ≡ Some step
step_by None step some same = absurd (false≢true some)
step_by (Some k) step some same = ap Some (sym same)

step_next : (run : Run) (front : List JournalEntry) (s : BusState) (readings : List ℕ) (node : NodeNo) (round step : ℕ)
    (reading : Option ℕ) → AreLast run front readings → IsEntryIn run.design (entry.Step node round step reading)
    → is_some reading ≡ true → broken run s readings (entry.Step node round step reading) ≡ None
    → IsNext run front s (entry.Step node round step reading)
step_next run front s readings node round step None are of has none = absurd (false≢true has)
step_next run front s readings node round step (Some at) are of has none =
    let e = entry.Step node round step (Some at) in
    let n = node_at s node.0 in
    let least = step_alarm (plan_of run.design node.0) n step in
    let kept =
    none_broken (is_in_order run s e) (falls readings (timed run.design e)) (waits run s e)
    (tells_stop run s e (event_of run.design e)) (too_early run s e) none in
    let order =
    and_three_parts (is_none s.stop) (is_some (next_step n.phase))
    (nat_eq round (round_of n) && nat_eq step (unwrap_or (next_step n.phase) 0)) kept.0 in
    let both = and_parts (nat_eq round (round_of n)) (nat_eq step (unwrap_or (next_step n.phase) 0)) order.2 in
    let same_round : round ≡ round_of n = eqb-true round (round_of n) both.0 in
    let same_step : step ≡ unwrap_or (next_step n.phase) 0 = eqb-true step (unwrap_or (next_step n.phase) 0) both.1 in
    record {
      event = Step node (Some at);
      is_event = refl;
      step = record { going = none_by_test s.stop order.0; allowed = order.1; state = refl };
      more = None;
      tells = ap₂ (λ r i. entry.Step node r i (Some at) ∷ []) (sym same_round) (sym same_step);
      more_in = All-nil (IsEntryIn run.design);
      in_time =
          record {
            step = step;
            next = step_by (next_step n.phase) step order.1 same_step;
            read = read_at run front readings node.0 at least are of.0.0 kept.1 (not_before at least kept.2);
          };
    }

-- ---- Finish
finish_next : (run : Run) (front : List JournalEntry) (s : BusState) (readings : List ℕ) (node : NodeNo) (round : ℕ)
    → broken run s readings (entry.Finish node round) ≡ None → IsNext run front s (entry.Finish node round)
finish_next run front s readings node round none =
    let e = entry.Finish node round in
    let n = node_at s node.0 in
    let kept =
    none_broken (is_in_order run s e) (falls readings (timed run.design e)) (waits run s e)
    (tells_stop run s e (event_of run.design e)) (too_early run s e) none in
    let order = and_three_parts (is_none s.stop) (is_allowed run s (Finish node)) (nat_eq round (round_of n)) kept.0 in
    record {
      event = Finish node;
      is_event = refl;
      step = record { going = none_by_test s.stop order.0; allowed = order.1; state = refl };
      more = None;
      tells = ap (λ r. entry.Finish node r ∷ []) (sym (eqb-true round (round_of n) order.2));
      more_in = All-nil (IsEntryIn run.design);
      in_time = tt;
    }

-- ---- Send
send_next : (run : Run) (front : List JournalEntry) (s : BusState) (readings : List ℕ) (node : NodeNo) (round : ℕ)
    (reading : Option ℕ) → AreLast run front readings → IsEntryIn run.design (entry.Send node round reading)
    → is_some reading ≡ true → broken run s readings (entry.Send node round reading) ≡ None
    → IsNext run front s (entry.Send node round reading)
send_next run front s readings node round None are of has none = absurd (false≢true has)
send_next run front s readings node round (Some at) are of has none =
    let e = entry.Send node round (Some at) in
    let n = node_at s node.0 in
    let least = release_reading (plan_of run.design node.0) n in
    let kept =
    none_broken (is_in_order run s e) (falls readings (timed run.design e)) (waits run s e)
    (tells_stop run s e (event_of run.design e)) (too_early run s e) none in
    let order =
    and_three_parts (is_none s.stop) (is_allowed run s (Send node (Some at))) (nat_eq round (round_of n)) kept.0 in
    record {
      event = Send node (Some at);
      is_event = refl;
      step = record { going = none_by_test s.stop order.0; allowed = order.1; state = refl };
      more = None;
      tells = ap (λ r. entry.Send node r (Some at) ∷ []) (sym (eqb-true round (round_of n) order.2));
      more_in = All-nil (IsEntryIn run.design);
      in_time = read_at run front readings node.0 at least are of.0 kept.1 (not_released at least kept.2);
    }

-- ---- Arrive
pub same_arrived : (a b : Arrived) → same_result a b ≡ true → a ≡ b
same_arrived Kept Kept is = refl
same_arrived Kept Ignored is = absurd (false≢true is)
same_arrived Kept Early is = absurd (false≢true is)
same_arrived Ignored Kept is = absurd (false≢true is)
same_arrived Ignored Ignored is = refl
same_arrived Ignored Early is = absurd (false≢true is)
same_arrived Early Kept is = absurd (false≢true is)
same_arrived Early Ignored is = absurd (false≢true is)
same_arrived Early Early is = refl

abbrev stop_told : LinkNo → ℕ → Option ℕ → Arrived → Option JournalEntry
stop_told link round reading Kept = None
stop_told link round reading Ignored = None
stop_told link round reading Early = Some (entry.Stopped (stop.Early link round reading))

stop_listed : (link : LinkNo) (round : ℕ) (reading : Option ℕ) (a : Arrived)
    → stop_entry (early_stop link round reading a) ≡ listed (stop_told link round reading a)
stop_listed link round reading Kept = refl
stop_listed link round reading Ignored = refl
stop_listed link round reading Early = refl

stop_in : (design : DesignParts) (link : LinkNo) (round : ℕ) (reading : Option ℕ) (a result : Arrived)
    → IsEntryIn design (entry.Arrive link round reading result)
    → All (IsEntryIn design) (listed (stop_told link round reading a))
stop_in design link round reading Kept result of = All-nil (IsEntryIn design)
stop_in design link round reading Ignored result of = All-nil (IsEntryIn design)
stop_in design link round reading Early result of =
    All-cons (IsEntryIn design) (entry.Stopped (stop.Early link round reading)) [] of (All-nil (IsEntryIn design))

-- the copy that is due
abbrev DueCopy : Option ℕ → Option FlightCopy → Type 0
DueCopy reading o = (copy : FlightCopy) × (o ≡ Some copy) × (is_due reading copy ≡ true)

due_copy : (reading : Option ℕ) (o : Option FlightCopy) → not (option_map_or (is_due reading) o false) ≡ false
    → DueCopy reading o
due_copy reading None due = absurd (true≢false due)
due_copy reading (Some copy) due = (copy, refl, not-false (is_due reading copy) due)

arrive_next : (run : Run) (front : List JournalEntry) (s : BusState) (readings : List ℕ) (link : LinkNo) (round : ℕ)
    (reading : Option ℕ) (result : Arrived) → IsDesign run.design → AreLast run front readings
    → IsEntryIn run.design (entry.Arrive link round reading result)
    → is_some reading ≡ true → broken run s readings (entry.Arrive link round reading result) ≡ None
    → IsNext run front s (entry.Arrive link round reading result)
arrive_next run front s readings link round None result rules are of has none = absurd (false≢true has)
arrive_next run front s readings link round (Some at) result rules are of has none =
    let e = entry.Arrive link round (Some at) result in
    let a = arrival run s link round in
    let kept =
    none_broken (is_in_order run s e) (falls readings (timed run.design e)) (waits run s e)
    (tells_stop run s e (event_of run.design e)) (too_early run s e) none in
    let order =
    and_three_parts (is_none s.stop) (is_allowed run s (Arrive link round (Some at)))
    (same_result result a) kept.0 in
    let same : result ≡ a = same_arrived result a order.2 in
    let due = due_copy (Some at) (oldest round (flight_at s link.0)) kept.3 in
    record {
      event = Arrive link round (Some at);
      is_event = refl;
      step = record { going = none_by_test s.stop order.0; allowed = order.1; state = refl };
      more = stop_told link round (Some at) a;
      tells = ap₂ (λ r es. entry.Arrive link round (Some at) r ∷ es) (sym same) (stop_listed link round (Some at) a);
      more_in = stop_in run.design link round (Some at) a result of;
      in_time =
          record {
            read = read_at run front readings (link_at run.design link.0).target.0 at 0 are
                (target_within run.design link.0 rules of.0) kept.1 (omega arith);
            copy = due.0;
            is_copy = due.1;
            due = due.2;
          };
    }

-- ---- a missed stop
missed_told : (run : Run) (s : BusState) (link : LinkNo) (round at : ℕ) (cause : Cause) (m : Option ℕ)
    → let node = (link_at run.design link.0).target in
    IsDesign run.design → IsEntryIn run.design (entry.Stopped (stop.Missed link round (Some at) cause))
    → round + 1 ≡ (node_at s node.0).count → missing_link run s node.0 ≡ m
    → is_line_of run.design (entry.Stopped (stop.Missed link round (Some at) cause))
    (first_entry (start_entry run s node (Some at) m ∷ [])) ≡ true
    → start_entry run s node (Some at) m ≡ entry.Stopped (stop.Missed link round (Some at) cause)
missed_told run s link round at cause None rules of same misses tells =
    let node = (link_at run.design link.0).target in
    absurd (no_stop_line run.design node (node_at s node.0).count (Some at) link round (Some at) cause
    (sym (same_line run.design (entry.Stopped (stop.Missed link round (Some at) cause))
    (entry.Start node (node_at s node.0).count (Some at)) tells)))
missed_told run s link round at cause (Some number) rules of same misses tells =
    let node = (link_at run.design link.0).target in
    let e = entry.Stopped (stop.Missed link round (Some at) cause) in
    let other = entry.Stopped (missed_stop run s node (Some at) number) in
    let missed = missed_link run s node.0 number misses in
    let few : round ≤ ROUNDS = of.1 in
    let last : round_of (node_at s node.0) ≤ ROUNDS = omega arith in
    sym (lines_differ run.design e rules of other
    (slice_get_within run.design.links number missed.the_link missed.is_link, last, of.2)
    (same_line run.design e other tells))

missed_next : (run : Run) (front : List JournalEntry) (s : BusState) (readings : List ℕ) (link : LinkNo) (round : ℕ)
    (reading : Option ℕ) (cause : Cause) → IsDesign run.design → AreLast run front readings
    → IsEntryIn run.design (entry.Stopped (stop.Missed link round reading cause))
    → is_some reading ≡ true → broken run s readings (entry.Stopped (stop.Missed link round reading cause)) ≡ None
    → IsNext run front s (entry.Stopped (stop.Missed link round reading cause))
missed_next run front s readings link round None cause rules are of has none = absurd (false≢true has)
missed_next run front s readings link round (Some at) cause rules are of has none =
    let e = entry.Stopped (stop.Missed link round (Some at) cause) in
    let node = (link_at run.design link.0).target in
    let n = node_at s node.0 in
    let least = start_alarm (plan_of run.design node.0) n in
    let kept =
    none_broken (is_in_order run s e) (falls readings (timed run.design e)) (waits run s e)
    (tells_stop run s e (event_of run.design e)) (too_early run s e) none in
    let order = and_three_parts (is_none s.stop) (is_waiting n.phase) (nat_eq (round + 1) n.count) kept.0 in
    record {
      event = Start node (Some at);
      is_event = refl;
      step = record { going = none_by_test s.stop order.0; allowed = order.1; state = refl };
      more = None;
      tells =
          ap (λ x. x ∷ []) (missed_told run s link round at cause (missing_link run s node.0) rules of
          (eqb-true (round + 1) n.count order.2) refl kept.4);
      more_in = All-nil (IsEntryIn run.design);
      in_time =
          record {
            read = read_at run front readings node.0 at least are (target_within run.design link.0 rules of.0)
                kept.1 (not_before at least kept.2);
            taken = none_is_due run s node.0 (Some at) kept.3;
          };
    }

-- ---- each entry
no_loss : (run : Run) (front : List JournalEntry) (s : BusState) (readings : List ℕ) (e : JournalEntry)
    → fits run s e ≡ false → broken run s readings e ≡ None → IsNext run front s e
no_loss run front s readings e other none =
    let kept =
    none_broken (is_in_order run s e) (falls readings (timed run.design e)) (waits run s e)
    (tells_stop run s e (event_of run.design e)) (too_early run s e) none in
    let order =
    and_three_parts (is_none s.stop) (option_map_or (is_allowed run s) (event_of run.design e) true)
    (fits run s e) kept.0 in
    absurd (false≢true (sym other ∙ order.2))

no_early : (run : Run) (front : List JournalEntry) (s : BusState) (readings : List ℕ) (link : LinkNo) (round : ℕ)
    (reading : Option ℕ) → broken run s readings (entry.Stopped (stop.Early link round reading)) ≡ None
    → IsNext run front s (entry.Stopped (stop.Early link round reading))
no_early run front s readings link round reading none =
    let e = entry.Stopped (stop.Early link round reading) in
    let kept =
    none_broken (is_in_order run s e) (falls readings (timed run.design e)) (waits run s e)
    (tells_stop run s e (event_of run.design e)) (too_early run s e) none in
    absurd (false≢true kept.4)

stop_next : (run : Run) (front : List JournalEntry) (s : BusState) (readings : List ℕ) (why : Stop)
    → IsDesign run.design → AreLast run front readings → IsEntryIn run.design (entry.Stopped why)
    → has_reading (timed run.design (entry.Stopped why)) ≡ true → broken run s readings (entry.Stopped why) ≡ None
    → IsNext run front s (entry.Stopped why)
stop_next run front s readings (stop.Missed link round reading cause) rules are of has none =
    missed_next run front s readings link round reading cause rules are of has none
stop_next run front s readings (stop.Early link round reading) rules are of has none =
    no_early run front s readings link round reading none

pub entry_next : (run : Run) (front : List JournalEntry) (s : BusState) (readings : List ℕ) (e : JournalEntry)
    → IsDesign run.design → AreLast run front readings → IsEntryIn run.design e
    → has_reading (timed run.design e) ≡ true → broken run s readings e ≡ None → IsNext run front s e
entry_next run front s readings (entry.Arrive link round reading result) rules are of has none =
    arrive_next run front s readings link round reading result rules are of has none
entry_next run front s readings (entry.Start node round reading) rules are of has none =
    start_next run front s readings node round reading are of has none
entry_next run front s readings (entry.Step node round step reading) rules are of has none =
    step_next run front s readings node round step reading are of has none
entry_next run front s readings (entry.Finish node round) rules are of has none =
    finish_next run front s readings node round none
entry_next run front s readings (entry.Send node round reading) rules are of has none =
    send_next run front s readings node round reading are of has none
entry_next run front s readings (entry.Drop link round) rules are of has none =
    no_loss run front s readings (entry.Drop link round) refl none
entry_next run front s readings (entry.Repeat link round) rules are of has none =
    no_loss run front s readings (entry.Repeat link round) refl none
entry_next run front s readings (entry.Stopped why) rules are of has none =
    stop_next run front s readings why rules are of has none
