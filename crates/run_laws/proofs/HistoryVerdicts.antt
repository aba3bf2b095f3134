-- The lines of a history that is over break no rule.
use Rattle.std.proofs.Common.{◌≡◌, ◌≢◌, ◌⊎◌, inl, inr, ℕ, ◌+◌, ◌<◌, ◌≤◌, nat_eq, nat_lt, Bool, true, false, not, ◌&&◌}
use Rattle.std.proofs.Common.{cond, List, [], ◌∷◌, ◌++◌, length, map, All, Option, Some, None, refl, sym, ap, ap₂, ◌∙◌}
use Rattle.std.proofs.Common.{subst, arith}
use Rattle.std.specs.Prelude.{is_some, is_none}
use Rattle.std.specs.List.{list_all}
use Rattle.std.specs.Option.{option_map_or, unwrap_or}
use Rattle.std.proofs.lemmas.List.Elements.{All-nil, All-cons, All-head, All-tail, All-from_get_or}
use Rattle.std.proofs.lemmas.List.Sums.{fold-append}
use Rattle.std.proofs.lemmas.Bool.{eq-eqb, le-ltb}
use Rattle.list_lemmas.proofs.Numbers.{nat_eq-self}
use Rattle.list_lemmas.proofs.Elements.{All-append_right}
use Rattle.pals_base.specs.declared.basic_types.NodeNo.{NodeNo}
use Rattle.pals_base.specs.declared.basic_types.LinkNo.{LinkNo}
use Rattle.pals_model.specs.declared.design.Link.{Link}
use Rattle.pals_model.specs.declared.design.DesignParts.{DesignParts}
use Rattle.pals_model.specs.RoundTexts.{report_lines}
use Rattle.pals_model.specs.DesignRules.{IsDesign}
use Rattle.pals_model.proofs.WordBytes.{same_bytes}
use Rattle.pals_runs.specs.declared.journal.Arrived.{Arrived}
use Rattle.pals_runs.specs.declared.journal.Arrived.TheVariants.{Kept, Ignored, Early}
use Rattle.pals_runs.specs.declared.journal.Stop.{Stop}
use Rattle.pals_runs.specs.declared.journal.Stop.TheVariants as stop
use Rattle.pals_runs.specs.declared.journal.JournalEntry.{JournalEntry}
use Rattle.pals_runs.specs.declared.journal.JournalEntry.TheVariants as entry
use Rattle.pals_runs.specs.declared.verdicts.TraceRule.{TraceRule}
use Rattle.pals_runs.specs.declared.verdicts.TraceRule.TheVariants as rule
use Rattle.pals_runs.specs.declared.verdicts.Verdict.TheVariants.{Sound}
use Rattle.pals_runs.specs.JournalLines.{entry_line}
use Rattle.bus_machine.specs.Plans.{plan_of, link_at}
use Rattle.bus_machine.specs.Nodes.{NodeState, round_of}
use Rattle.bus_machine.specs.NodeEvents.{is_waiting, next_step}
use Rattle.bus_machine.specs.AlarmsAndReleases.{start_alarm, step_alarm, release_reading}
use Rattle.bus_machine.specs.BusStates.{BusState, no_node, node_at, finished_by_all}
use Rattle.bus_machine.specs.RunParameters.{Run}
use Rattle.bus_machine.specs.MissedMessages.{missing_link}
use Rattle.bus_machine.specs.Machine.{BusEvent, Start, Step, Finish, Send, Arrive, Drop, Repeat, is_allowed, after}
use Rattle.bus_machine.specs.Machine.{arrival, early_stop}
use Rattle.bus_machine.specs.Replay.{entries, start_entry, stop_entry}
use Rattle.bus_machine.proofs.MessageAndRunAgreement.{replay_agrees}
use Rattle.run_laws.specs.JournalReadings.{latest}
use Rattle.run_laws.specs.EntryEventsAndReadings.{timed, has_reading, event_of}
use Rattle.run_laws.specs.TraceRules.{same_result, is_in_order, falls, is_before, too_early, is_due, waits, is_line_of}
use Rattle.run_laws.specs.TraceRules.{first_entry, tells_stop, broken}
use Rattle.run_laws.specs.TraceVerdicts.{Audit, opening_audit, noted, second_entry, audit_event, audit_after}
use Rattle.run_laws.specs.TraceVerdicts.{line_broken, is_done, wrong_or, verdict}
use Rattle.run_laws.specs.Meetings.{AllDone}
use Rattle.run_laws.specs.EntriesOfDesigns.{IsEntryIn}
use Rattle.run_laws.specs.HistoriesAndTraces.{IsStoppedOrDone, IsRead, StepsInTime, StartsInTime, ArrivesInTime}
use Rattle.run_laws.specs.HistoriesAndTraces.{IsInTime, History, opens, goes_on}
use Rattle.run_laws.proofs.EntryLines.{lines_tell_entries}
use Rattle.run_laws.proofs.EntryForms.{lines_have_forms}
use Rattle.run_laws.proofs.MissedLinks.{missed_link}
use Rattle.run_laws.proofs.RuleKeepingLines.{BreakNone, audited, break_append, verdict_is, not_before, none_of}
use Rattle.run_laws.proofs.RuleKeepingLines.{none_due}
use Rattle.run_laws.proofs.TraceAndJournalVerdicts.{FirstHasForm, behind_report}
use Rattle.run_laws.specs.proof.HistoryAndTraceLaws.{TracesAreSound}
use Rattle.run_laws.proofs.SoundEntryEvents.{AreLast, target_within}
use Rattle.run_laws.proofs.SoundTraces.{length-noted, noted_last, opening_many, opening_last}
use Rattle.run_laws.proofs.HistoryReplay.{replays}
use Rattle.run_laws.proofs.MeetingStopsAndBounds.{link_is}

-- ---- an audit that has come as far as a history
pub record IsAt (run : Run) (front : List JournalEntry) (s : BusState) (a : Audit) : Type 0 where
  pub bus : a.bus ≡ s
  pub owed : a.owed ≡ None
  pub many : length a.readings ≡ length run.design.components
  pub last : AreLast run front a.readings

abbrev pub Passes : Run → List JournalEntry → BusState → BusState → List JournalEntry → Type 0
Passes run front s t told' =
    (a : Audit) → IsAt run front s a → BreakNone run a told' × IsAt run (front ++ told') t (audited run a told')

-- an entry breaks no rule, whatever the audit's readings are
abbrev pub BreaksNone : Run → List JournalEntry → BusState → JournalEntry → Type 0
BreaksNone run front s x = (readings : List ℕ) → AreLast run front readings → broken run s readings x ≡ None

pub line_is : (run : Run) (front : List JournalEntry) (s : BusState) (a : Audit) (x : JournalEntry) → IsAt run front s a
    → has_reading (timed run.design x) ≡ true → broken run s a.readings x ≡ None → line_broken run a (Some x) ≡ None
line_is run front s a x up has none =
    (λ i. cond (not (has i)) (Some rule.Text)
    (cond (is_some (up.owed i)) (cond (is_line_of run.design x (up.owed i)) None (Some rule.Stop))
    (broken run (up.bus i) a.readings x))) ∙ none

pub after_is : (run : Run) (front : List JournalEntry) (s : BusState) (a : Audit) (x : JournalEntry) (e : BusEvent)
    → IsAt run front s a → event_of run.design x ≡ Some e
    → audit_after run a x ≡ record {
      bus = after run s e;
      readings = noted a.readings (timed run.design x);
      owed = second_entry (entries run s e);
    }
after_is run front s a x e up is =
    ap (λ o. audit_event run a (noted a.readings (timed run.design x))
    (cond (is_some o) None (event_of run.design x))) up.owed
    ∙ ap (audit_event run a (noted a.readings (timed run.design x))) is
    ∙ ap (λ b. record {
      bus = after run b e;
      readings = noted a.readings (timed run.design x);
      owed = second_entry (entries run b e);
    }) up.bus

goes_up : (run : Run) (front : List JournalEntry) (t : BusState) (readings : List ℕ) (x : JournalEntry)
    → IsDesign run.design → IsEntryIn run.design x → length readings ≡ length run.design.components
    → AreLast run front readings
    → IsAt run (front ++ x ∷ []) t (record { bus = t; readings = noted readings (timed run.design x); owed = None })
goes_up run front t readings x rules of many last =
    record {
      bus = refl;
      owed = refl;
      many = length-noted readings (timed run.design x) ∙ many;
      last = noted_last run front readings x rules of many last;
    }

one_line : (run : Run) (front : List JournalEntry) (s : BusState) (x : JournalEntry) (e : BusEvent)
    → IsDesign run.design → IsEntryIn run.design x → event_of run.design x ≡ Some e
    → second_entry (entries run s e) ≡ None → has_reading (timed run.design x) ≡ true
    → BreaksNone run front s x → Passes run front s (after run s e) (x ∷ [])
one_line run front s x e rules of is alone has none = λ a up.
    let next : audit_after run a x ≡ record {
      bus = after run s e;
      readings = noted a.readings (timed run.design x);
      owed = None;
    } =
    after_is run front s a x e up is
    ∙ ap (λ o. record {
      bus = after run s e;
      readings = noted a.readings (timed run.design x);
      owed = o;
    }) alone in (
      (lines_tell_entries run.design x rules of, line_is run front s a x up has (none a.readings up.last), tt),
      subst (IsAt run (front ++ x ∷ []) (after run s e)) (sym next)
          (goes_up run front (after run s e) a.readings x rules of up.many up.last),
    )

-- ---- rules
no_fall : (run : Run) (front : List JournalEntry) (node least : ℕ) (reading : Option ℕ) (readings : List ℕ)
    → IsRead run front node reading least → node < length run.design.components → AreLast run front readings
    → falls readings (Some (record { node = node; reading = reading })) ≡ false
no_fall run front node least reading readings read within are =
    let le = read.rises in
    ap₂ (λ o l. nat_lt (unwrap_or o 0) l) read.reading_is (are node within)
    ∙ le-ltb read.at (latest run.design node front) le

its_line : (design : DesignParts) (x : JournalEntry) → is_line_of design x (Some x) ≡ true
its_line design x = same_bytes (entry_line design x)

own_result : (a : Arrived) → same_result a a ≡ true
own_result Kept = refl
own_result Ignored = refl
own_result Early = refl

in_order : (why : Option Stop) (may fit : Bool) → why ≡ None → may ≡ true → fit ≡ true
    → (is_none why && may && fit) ≡ true
in_order why may fit going is fits' = λ i. is_none (going i) && is i && fits' i

not_early : (run : Run) (front : List JournalEntry) (node least : ℕ) (reading : Option ℕ) (r : TraceRule)
    → IsRead run front node reading least → cond (is_before reading least) (Some r) None ≡ None
not_early run front node least reading r read =
    ap (λ b. cond b (Some r) None) (not_before reading read.at least read.reading_is read.from_then)

has_one : (run : Run) (front : List JournalEntry) (node least : ℕ) (reading : Option ℕ)
    → IsRead run front node reading least → is_some reading ≡ true
has_one run front node least reading read = ap is_some read.reading_is

-- ---- Start
pub start_passes : (run : Run) (front : List JournalEntry) (s : BusState) (node : NodeNo) (reading : Option ℕ)
    → IsDesign run.design → StartsInTime run front s node.0 reading → is_waiting (node_at s node.0).phase ≡ true
    → s.stop ≡ None → missing_link run s node.0 ≡ None
    → IsEntryIn run.design (entry.Start node (node_at s node.0).count reading)
    → Passes run front s (after run s (Start node reading)) (entry.Start node (node_at s node.0).count reading ∷ [])
start_passes run front s node reading rules b may going misses of =
    let n = node_at s node.0 in
    let x = entry.Start node n.count reading in
    let least = start_alarm (plan_of run.design node.0) n in
    one_line run front s x (Start node reading) rules of refl
    (ap (λ m. second_entry (start_entry run s node reading m ∷ [])) misses)
    (has_one run front node.0 least reading b.read)
    (λ readings are.
    none_of (is_in_order run s x) (falls readings (timed run.design x)) (waits run s x)
    (tells_stop run s x (event_of run.design x)) (too_early run s x)
    (in_order s.stop (is_waiting n.phase) (nat_eq n.count n.count) going may (nat_eq-self n.count))
    (no_fall run front node.0 least reading readings b.read of.0 are)
    (not_early run front node.0 least reading rule.Alarm b.read)
    (none_due run s node.0 reading b.taken)
    (ap (λ m. is_line_of run.design x (first_entry (start_entry run s node reading m ∷ []))) misses
    ∙ its_line run.design x))

pub missed_passes : (run : Run) (front : List JournalEntry) (s : BusState) (link : ℕ) (reading : Option ℕ)
    → let node = (link_at run.design link).target in
    IsDesign run.design → StartsInTime run front s node.0 reading → is_waiting (node_at s node.0).phase ≡ true
    → s.stop ≡ None → missing_link run s node.0 ≡ Some link → 1 ≤ (node_at s node.0).count
    → IsEntryIn run.design (start_entry run s node reading (Some link))
    → Passes run front s (after run s (Start node reading)) (start_entry run s node reading (Some link) ∷ [])
missed_passes run front s link reading rules b may going misses some of =
    let node = (link_at run.design link).target in
    let n = node_at s node.0 in
    let x = start_entry run s node reading (Some link) in
    let least = start_alarm (plan_of run.design node.0) n in
    let next : round_of n + 1 ≡ n.count = omega arith in
    one_line run front s x (Start node reading) rules of refl
    (ap (λ m. second_entry (start_entry run s node reading m ∷ [])) misses)
    (has_one run front node.0 least reading b.read)
    (λ readings are.
    none_of (is_in_order run s x) (falls readings (timed run.design x)) (waits run s x)
    (tells_stop run s x (event_of run.design x)) (too_early run s x)
    (in_order s.stop (is_waiting n.phase) (nat_eq (round_of n + 1) n.count) going may
    (eq-eqb (round_of n + 1) n.count next))
    (no_fall run front node.0 least reading readings b.read (target_within run.design link rules of.0) are)
    (not_early run front node.0 least reading rule.Alarm b.read)
    (none_due run s node.0 reading b.taken)
    (ap (λ m. is_line_of run.design x (first_entry (start_entry run s node reading m ∷ []))) misses
    ∙ its_line run.design x))

abbrev pub Misses : Run → List JournalEntry → BusState → ℕ → Option ℕ → NodeNo → Type 0
Misses run front s link reading node =
    IsDesign run.design → StartsInTime run front s node.0 reading → is_waiting (node_at s node.0).phase ≡ true
    → s.stop ≡ None → missing_link run s node.0 ≡ Some link → 1 ≤ (node_at s node.0).count
    → IsEntryIn run.design (start_entry run s node reading (Some link))
    → Passes run front s (after run s (Start node reading)) (start_entry run s node reading (Some link) ∷ [])

start_by : (run : Run) (front : List JournalEntry) (s : BusState) (node : NodeNo) (reading m : Option ℕ)
    → IsDesign run.design → StartsInTime run front s node.0 reading → is_waiting (node_at s node.0).phase ≡ true
    → s.stop ≡ None → missing_link run s node.0 ≡ m
    → All (IsEntryIn run.design) (start_entry run s node reading m ∷ [])
    → Passes run front s (after run s (Start node reading)) (start_entry run s node reading m ∷ [])
start_by run front s node reading None rules b may going misses of =
    start_passes run front s node reading rules b may going misses (All-head (IsEntryIn run.design) _ [] of)
start_by run front s node reading (Some link) rules b may going misses of =
    let missed = missed_link run s node.0 link misses in
    let here : (link_at run.design link).target.0 ≡ node.0 =
    ap (λ (l : Link). l.target.0) (link_is run link missed.the_link missed.is_link) ∙ missed.to_node in
    let same : (link_at run.design link).target ≡ node = ap (λ (k : ℕ). record { 0 = k }) here in
    let own : Misses run front s link reading (link_at run.design link).target =
    missed_passes run front s link reading in
    subst (Misses run front s link reading) same own rules b may going misses missed.begun
    (All-head (IsEntryIn run.design) _ [] of)

-- ---- Step
pub step_passes : (run : Run) (front : List JournalEntry) (s : BusState) (node : NodeNo) (reading : Option ℕ)
    → IsDesign run.design → StepsInTime run front s node.0 reading → is_allowed run s (Step node reading) ≡ true
    → s.stop ≡ None
    → All (IsEntryIn run.design) (entries run s (Step node reading))
    → Passes run front s (after run s (Step node reading)) (entries run s (Step node reading))
step_passes run front s node reading rules b may going all =
    let n = node_at s node.0 in
    let i = unwrap_or (next_step n.phase) 0 in
    let x = entry.Step node (round_of n) i reading in
    let of = All-head (IsEntryIn run.design) x [] all in
    let same : b.step ≡ i = ap (λ o. unwrap_or o 0) (sym b.next) in
    let least = step_alarm (plan_of run.design node.0) n i in
    let read : IsRead run front node.0 reading least =
    subst (λ k. IsRead run front node.0 reading (step_alarm (plan_of run.design node.0) n k)) same b.read in
    one_line run front s x (Step node reading) rules of refl refl (has_one run front node.0 least reading read)
    (λ readings are.
    none_of (is_in_order run s x) (falls readings (timed run.design x)) (waits run s x)
    (tells_stop run s x (event_of run.design x)) (too_early run s x)
    (in_order s.stop (is_allowed run s (Step node reading)) (nat_eq (round_of n) (round_of n) && nat_eq i i) going may
    (ap₂ (λ c d. c && d) (nat_eq-self (round_of n)) (nat_eq-self i)))
    (no_fall run front node.0 least reading readings read of.0.0 are)
    (not_early run front node.0 least reading rule.Alarm read)
    refl (its_line run.design x))

-- ---- Finish
pub finish_passes : (run : Run) (front : List JournalEntry) (s : BusState) (node : NodeNo) → IsDesign run.design
    → is_allowed run s (Finish node) ≡ true → s.stop ≡ None → All (IsEntryIn run.design) (entries run s (Finish node))
    → Passes run front s (after run s (Finish node)) (entries run s (Finish node))
finish_passes run front s node rules may going all =
    let n = node_at s node.0 in
    let x = entry.Finish node (round_of n) in
    one_line run front s x (Finish node) rules (All-head (IsEntryIn run.design) x [] all) refl refl refl
    (λ readings are.
    none_of (is_in_order run s x) false false (tells_stop run s x (event_of run.design x)) None
    (in_order s.stop (is_allowed run s (Finish node)) (nat_eq (round_of n) (round_of n)) going may
    (nat_eq-self (round_of n))) refl refl refl (its_line run.design x))

-- ---- Send
pub send_passes : (run : Run) (front : List JournalEntry) (s : BusState) (node : NodeNo) (reading : Option ℕ)
    → IsDesign run.design → IsRead run front node.0 reading
    (release_reading (plan_of run.design node.0) (node_at s node.0)) → is_allowed run s (Send node reading) ≡ true
    → s.stop ≡ None
    → All (IsEntryIn run.design) (entries run s (Send node reading))
    → Passes run front s (after run s (Send node reading)) (entries run s (Send node reading))
send_passes run front s node reading rules read may going all =
    let n = node_at s node.0 in
    let x = entry.Send node (round_of n) reading in
    let of = All-head (IsEntryIn run.design) x [] all in
    let least = release_reading (plan_of run.design node.0) n in
    one_line run front s x (Send node reading) rules of refl refl (has_one run front node.0 least reading read)
    (λ readings are.
    none_of (is_in_order run s x) (falls readings (timed run.design x)) (waits run s x)
    (tells_stop run s x (event_of run.design x)) (too_early run s x)
    (in_order s.stop (is_allowed run s (Send node reading)) (nat_eq (round_of n) (round_of n)) going may
    (nat_eq-self (round_of n)))
    (no_fall run front node.0 least reading readings read of.0 are)
    (not_early run front node.0 least reading rule.Release read)
    refl (its_line run.design x))

-- ---- Arrive
pub arrive_rules : (run : Run) (front : List JournalEntry) (s : BusState) (link : LinkNo) (round : ℕ)
    (reading : Option ℕ)
    → IsDesign run.design → ArrivesInTime run front s link.0 round reading
    → is_allowed run s (Arrive link round reading) ≡ true → s.stop ≡ None
    → link.0 < length run.design.links
    → BreaksNone run front s (entry.Arrive link round reading (arrival run s link round))
arrive_rules run front s link round reading rules t may going within = λ readings are.
    let node = (link_at run.design link.0).target in
    let a = arrival run s link round in
    let x = entry.Arrive link round reading a in
    none_of (is_in_order run s x) (falls readings (timed run.design x)) (waits run s x)
    (tells_stop run s x (event_of run.design x)) (too_early run s x)
    (in_order s.stop (is_allowed run s (Arrive link round reading)) (same_result a a) going may (own_result a))
    (no_fall run front node.0 0 reading readings t.read (target_within run.design link.0 rules within) are)
    refl
    (ap (λ o. not (option_map_or (is_due reading) o false)) t.is_copy ∙ ap not t.due)
    (its_line run.design x)

pub append_two : (front : List JournalEntry) (x y : JournalEntry) → (front ++ x ∷ []) ++ y ∷ [] ≡ front ++ x ∷ y ∷ []
append_two [] x y = refl
append_two (z ∷ front) x y = ap (λ js. z ∷ js) (append_two front x y)

abbrev pub Told : Run → List JournalEntry → BusState → LinkNo → ℕ → Option ℕ → Arrived → Type 0
Told run front s link round reading a =
    Passes run front s (after run s (Arrive link round reading))
    (entry.Arrive link round reading a ∷ stop_entry (early_stop link round reading a))

pub two_lines : (run : Run) (front : List JournalEntry) (s : BusState) (link : LinkNo) (round : ℕ) (reading : Option ℕ)
    (a : Arrived) → IsDesign run.design → ArrivesInTime run front s link.0 round reading
    → is_allowed run s (Arrive link round reading) ≡ true → s.stop ≡ None
    → arrival run s link round ≡ a
    → All (IsEntryIn run.design) (entry.Arrive link round reading a ∷ stop_entry (early_stop link round reading a))
    → Told run front s link round reading a
two_lines run front s link round reading Kept rules t may going is all =
    let x = entry.Arrive link round reading Kept in
    let of = All-head (IsEntryIn run.design) x [] all in
    one_line run front s x (Arrive link round reading) rules of refl
    (ap (λ a. second_entry (entry.Arrive link round reading a ∷ stop_entry (early_stop link round reading a))) is)
    (has_one run front (link_at run.design link.0).target.0 0 reading t.read)
    (λ readings are. subst (λ a. broken run s readings (entry.Arrive link round reading a) ≡ None) is
    (arrive_rules run front s link round reading rules t may going of.0 readings are))
two_lines run front s link round reading Ignored rules t may going is all =
    let x = entry.Arrive link round reading Ignored in
    let of = All-head (IsEntryIn run.design) x [] all in
    one_line run front s x (Arrive link round reading) rules of refl
    (ap (λ a. second_entry (entry.Arrive link round reading a ∷ stop_entry (early_stop link round reading a))) is)
    (has_one run front (link_at run.design link.0).target.0 0 reading t.read)
    (λ readings are. subst (λ a. broken run s readings (entry.Arrive link round reading a) ≡ None) is
    (arrive_rules run front s link round reading rules t may going of.0 readings are))
two_lines run front s link round reading Early rules t may going is all = λ a up.
    let x = entry.Arrive link round reading Early in
    let y = entry.Stopped (stop.Early link round reading) in
    let u = after run s (Arrive link round reading) in
    let of_x = All-head (IsEntryIn run.design) x (y ∷ []) all in
    let of_y = All-head (IsEntryIn run.design) y [] (All-tail (IsEntryIn run.design) x (y ∷ []) all) in
    let has = has_one run front (link_at run.design link.0).target.0 0 reading t.read in
    let none =
    subst (λ r. broken run s a.readings (entry.Arrive link round reading r) ≡ None) is
    (arrive_rules run front s link round reading rules t may going of_x.0 a.readings up.last) in
    let first : audit_after run a x ≡ record {
      bus = u;
      readings = noted a.readings (timed run.design x);
      owed = Some y;
    } =
    after_is run front s a x (Arrive link round reading) up refl
    ∙ ap (λ r. record {
      bus = u;
      readings = noted a.readings (timed run.design x);
      owed = second_entry (entry.Arrive link round reading r ∷ stop_entry (early_stop link round reading r));
    }) is in
    let b = goes_up run front u a.readings x rules of_x up.many up.last in
    let line_two : line_broken run (audit_after run a x) (Some y) ≡ None =
    ap (λ c. line_broken run c (Some y)) first
    ∙ (λ i. cond (not (has i)) (Some rule.Text) (cond (its_line run.design y i) None (Some rule.Stop))) in
    let last : audit_after run (audit_after run a x) y ≡ record {
      bus = u;
      readings = noted (noted a.readings (timed run.design x)) (timed run.design y);
      owed = None;
    } =
    ap (λ c. audit_after run c y) first in
    let end' = goes_up run (front ++ x ∷ []) u (noted a.readings (timed run.design x)) y rules of_y b.many b.last in (
      (
        lines_tell_entries run.design x rules of_x,
        line_is run front s a x up has none,
        (lines_tell_entries run.design y rules of_y, line_two, tt),
      ),
      subst (λ js. IsAt run js u (audited run a (x ∷ y ∷ []))) (append_two front x y)
          (subst (IsAt run ((front ++ x ∷ []) ++ y ∷ []) u) (sym last) end'),
    )

-- ---- each event
pub event_passes : (run : Run) (front : List JournalEntry) (s : BusState) (e : BusEvent) → IsDesign run.design
    → IsInTime run front s e → is_allowed run s e ≡ true → s.stop ≡ None → All (IsEntryIn run.design) (entries run s e)
    → Passes run front s (after run s e) (entries run s e)
event_passes run front s (Start node reading) rules in_time may going of =
    start_by run front s node reading (missing_link run s node.0) rules in_time may going refl of
event_passes run front s (Step node reading) rules in_time may going of =
    step_passes run front s node reading rules in_time may going of
event_passes run front s (Finish node) rules in_time may going of = finish_passes run front s node rules may going of
event_passes run front s (Send node reading) rules in_time may going of =
    send_passes run front s node reading rules in_time may going of
event_passes run front s (Arrive link round reading) rules in_time may going of =
    two_lines run front s link round reading (arrival run s link round) rules in_time may going refl of
event_passes run front s (Drop link round) rules in_time may going of = absurd in_time
event_passes run front s (Repeat link round) rules in_time may going of = absurd in_time

-- ---- each history
pub front_of : {X : Type 0} (P : X → Type 0) (xs ys : List X) → All P (xs ++ ys) → All P xs
front_of P [] ys all = All-nil P
front_of P (x ∷ xs) ys all =
    All-cons P x xs (All-head P x (xs ++ ys) all) (front_of P xs ys (All-tail P x (xs ++ ys) all))

pub passes : (run : Run) (journal : List JournalEntry) (s : BusState) → IsDesign run.design → History run journal s
    → All (IsEntryIn run.design) journal
    → BreakNone run (opening_audit run) journal × IsAt run journal s (audited run (opening_audit run) journal)
passes run journal s rules opens of =
    (tt, record { bus = refl; owed = refl; many = opening_many run; last = opening_last run })
passes run journal s rules (goes_on {journal = before} {s = t} e history step in_time) of =
    let old = passes run before t rules history (front_of (IsEntryIn run.design) before (entries run t e) of) in
    let new =
    event_passes run before t e rules in_time step.allowed step.going
    (All-append_right (IsEntryIn run.design) before (entries run t e) of)
    (audited run (opening_audit run) before) old.1 in (
      break_append run (opening_audit run) before (entries run t e) old.0 new.0,
      subst (IsAt run (before ++ entries run t e) s)
          (sym (fold-append (audit_after run) (opening_audit run) before (entries run t e)))
          (subst (λ u. IsAt run (before ++ entries run t e) u
          (audited run (audited run (opening_audit run) before) (entries run t e))) (sym step.state) new.1),
    )

-- ---- the end
pub all_done : (ns : List NodeState) → All (λ (n : NodeState). is_done n.phase ≡ true) ns
    → list_all (λ (n : NodeState). is_done n.phase) ns ≡ true
all_done [] done = refl
all_done (n ∷ ns) done =
    ap₂ (λ a b. a && b) (All-head (λ (m : NodeState). is_done m.phase ≡ true) n ns done)
    (all_done ns (All-tail (λ (m : NodeState). is_done m.phase ≡ true) n ns done))

pub tests_done : (run : Run) (s : BusState) → length s.nodes ≡ length run.design.components → AllDone run s
    → list_all (λ (n : NodeState). is_done n.phase) s.nodes ≡ true
tests_done run s many done =
    all_done s.nodes (All-from_get_or (λ (n : NodeState). is_done n.phase ≡ true) s.nodes no_node
    (λ node within. ap is_done (done node (omega arith))))

pub over_by : (o : Option Stop) (done : Bool) → (o ≢ None) ⊎ (done ≡ true) → (is_none o && not done) ≡ false
over_by None done (inl stands) = absurd (stands refl)
over_by None done (inr all) = ap not all
over_by (Some why) done over = refl

pub over_is : (run : Run) (s : BusState) → length s.nodes ≡ length run.design.components → IsStoppedOrDone run s
    → (is_none s.stop && not (list_all (λ (n : NodeState). is_done n.phase) s.nodes)) ≡ false
over_is run s many (inl stands) = over_by s.stop (list_all (λ (n : NodeState). is_done n.phase) s.nodes) (inl stands)
over_is run s many (inr done) =
    over_by s.stop (list_all (λ (n : NodeState). is_done n.phase) s.nodes) (inr (tests_done run s many done))

-- ---- the whole
pub first_has_form : (design : DesignParts) (journal : List JournalEntry) → IsDesign design
    → All (IsEntryIn design) journal
    → FirstHasForm (map (entry_line design) journal)
first_has_form design [] rules fit = tt
first_has_form design (e ∷ es) rules fit =
    ap is_some (lines_have_forms design e rules (All-head (IsEntryIn design) e es fit))

pub traces_are_sound : TracesAreSound
traces_are_sound run lines rounds why rules t =
    let journal = t.journal in
    let s = t.state in
    let rows = finished_by_all run s in
    let report = report_lines run.design run.env rows in
    let at = passes run journal s rules.design t.history t.of_design in
    let a = audited run (opening_audit run) journal in
    let i = length report + length journal in
    let many = (replay_agrees run journal s rules (replays run journal s t.history)).node_count in
    ap (verdict run) t.lines_are
    ∙ behind_report run rows (map (entry_line run.design) journal) rules.design
    (first_has_form run.design journal rules.design t.of_design)
    ∙ verdict_is run rows (length report) (opening_audit run) journal at.0
    ∙ ap₂ (λ b o. wrong_or i
    (cond (is_some o) (Some rule.Stop)
    (cond (is_none b.stop && not (list_all (λ (n : NodeState). is_done n.phase) b.nodes)) (Some rule.Unfinished)
    (cond (nat_eq rows (finished_by_all run b)) None (Some rule.Count)))) (Sound rows b.stop))
    at.1.bus at.1.owed
    ∙ ap (λ b. wrong_or i (cond b (Some rule.Unfinished) (cond (nat_eq rows rows) None (Some rule.Count)))
    (Sound rows s.stop)) (over_is run s many t.over)
    ∙ ap (λ b. wrong_or i (cond b None (Some rule.Count)) (Sound rows s.stop)) (nat_eq-self rows)
    ∙ ap₂ (λ n o. Sound n o) (sym t.rounds_are) (sym t.stop_is)
