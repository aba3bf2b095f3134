-- What is judged sound is the trace of a history that is over.
use Rattle.std.proofs.Common.{◌≡◌, ◌≢◌, ◌⊎◌, inl, inr, ℕ, zero, suc, ◌+◌, ◌/◌, ◌<◌, ◌≤◌, nat_eq, Bool, true, false, not}
use Rattle.std.proofs.Common.{◌&&◌, cond, List, [], ◌∷◌, ◌++◌, length, map, take, drop, All, Option, Some, None, refl}
use Rattle.std.proofs.Common.{sym, ap, ap₂, ◌∙◌, subst, arith, length-take-le, take-append-drop}
use Rattle.std.specs.Prelude.{is_some, is_none, slice_index_or, slice_set}
use Rattle.std.specs.List.{list_all}
use Rattle.std.proofs.lemmas.Bool.{and_parts, eqb-true, eqb-false, false≢true, true≢false}
use Rattle.std.proofs.lemmas.Grind.{get_or-set_at}
use Rattle.std.proofs.lemmas.List.{length-set, get_or-set_other, length-map, append-nil, append_assoc}
use Rattle.std.proofs.lemmas.List.Elements.{All-nil, All-cons, All-head}
use Rattle.std.proofs.lemmas.List.Sums.{fold-append, prefix_len-le-length}
use Rattle.std.proofs.lemmas.Option.{same_Some}
use Rattle.std.proofs.lemmas.Slice.Eq.{bytes_eq-Decides}
use Rattle.list_lemmas.proofs.Options.{none_unless_some}
use Rattle.pals_base.specs.UpwardNumbers.{upwards}
use Rattle.pals_base.proofs.UpwardNumbers.{length-upwards}
use Rattle.pals_model.specs.declared.design.DesignParts.{DesignParts}
use Rattle.pals_model.specs.RoundTexts.{report_lines}
use Rattle.pals_model.specs.DesignRules.{IsDesign}
use Rattle.pals_runs.specs.declared.phase.Phase.{Phase}
use Rattle.pals_runs.specs.declared.phase.Phase.TheVariants.{Waiting, Running, Between, Holding, Done}
use Rattle.pals_runs.specs.declared.journal.Stop.{Stop}
use Rattle.pals_runs.specs.declared.journal.Stop.TheVariants as stop
use Rattle.pals_runs.specs.declared.journal.JournalEntry.{JournalEntry}
use Rattle.pals_runs.specs.declared.journal.JournalEntry.TheVariants as entry
use Rattle.pals_runs.specs.declared.verdicts.TraceRule.{TraceRule}
use Rattle.pals_runs.specs.declared.verdicts.TraceRule.TheVariants as rule
use Rattle.pals_runs.specs.declared.verdicts.Verdict.{Verdict}
use Rattle.pals_runs.specs.declared.verdicts.Verdict.TheVariants.{Sound, Wrong}
use Rattle.pals_runs.specs.JournalLines.{entry_line}
use Rattle.bus_machine.specs.Nodes.{NodeState}
use Rattle.bus_machine.specs.BusStates.{BusState, opening, finished_by_all, no_node}
use Rattle.bus_machine.specs.Plans.{link_at}
use Rattle.bus_machine.specs.RunParameters.{Run}
use Rattle.bus_machine.specs.Machine.{after}
use Rattle.bus_machine.specs.Replay.{entries}
use Rattle.run_laws.specs.LineForms.{form_of}
use Rattle.run_laws.specs.JournalReadings.{last_of, latest}
use Rattle.run_laws.specs.EntriesInLines.{entry_of_line}
use Rattle.run_laws.specs.EntryEventsAndReadings.{Timed, timed, has_reading}
use Rattle.run_laws.specs.TraceRules.{is_line_of, reading_of, broken}
use Rattle.run_laws.specs.TraceVerdicts.{report_size, row_size, wrong_row, Audit, opening_audit, noted, second_entry}
use Rattle.run_laws.specs.TraceVerdicts.{audit_event, audit_after, line_broken, is_done, end_broken, wrong_or, entry_or}
use Rattle.run_laws.specs.TraceVerdicts.{journal_verdict, trace_verdict}
use Rattle.run_laws.specs.EntriesOfDesigns.{IsEntryIn}
use Rattle.run_laws.specs.HistoriesAndTraces.{IsStoppedOrDone, History, opens, goes_on, IsTraceOf}
use Rattle.run_laws.proofs.EntryLines.{lines_differ}
use Rattle.run_laws.proofs.ParsedEntryRanges.{told_are_in}
use Rattle.run_laws.specs.proof.HistoryAndTraceLaws.{SoundAreTraces}
use Rattle.run_laws.proofs.UniqueEntrySpelling.{told_is_line}
use Rattle.run_laws.proofs.SoundRows.{report_is}
use Rattle.run_laws.proofs.SoundEntryEvents.{listed, AreLast, target_within, entry_next}

-- ---- last readings
noted_by : (readings : List ℕ) (j k at before : ℕ) (b : Bool) → nat_eq j k ≡ b → j < length readings
    → slice_index_or readings k 0 ≡ before → slice_index_or (slice_set readings j at) k 0 ≡ cond b at before
noted_by readings j k at before true is within old = get_or-set_at readings j k at 0 (sym (eqb-true j k is)) within
noted_by readings j k at before false is within old =
    get_or-set_other readings j k at 0 (λ same. eqb-false j k is (sym same)) ∙ old

noted_is : (readings : List ℕ) (o : Option Timed) (k before : ℕ) → ((t : Timed) → o ≡ Some t → t.node < length readings)
    → slice_index_or readings k 0 ≡ before → slice_index_or (noted readings o) k 0 ≡ last_of k before o
noted_is readings None k before within old = old
noted_is readings (Some t) k before within old =
    noted_by readings t.node k (reading_of t) before (nat_eq t.node k) refl (within t refl) old

pub length-noted : (readings : List ℕ) (o : Option Timed) → length (noted readings o) ≡ length readings
length-noted readings None = refl
length-noted readings (Some t) = length-set readings t.node (reading_of t)

pub latest_one : (design : DesignParts) (k : ℕ) (journal : List JournalEntry) (x : JournalEntry)
    → latest design k (journal ++ x ∷ []) ≡ last_of k (latest design k journal) (timed design x)
latest_one design k journal x = fold-append (λ b e. last_of k b (timed design e)) 0 journal (x ∷ [])

-- the clock that an entry shows belongs to an existing node
at_node : (n node : ℕ) (reading : Option ℕ) (t : Timed) → node < n
    → Some (record { node = node; reading = reading }) ≡ Some t → t.node < n
at_node n node reading t within is = subst (λ (u : Timed). u.node < n) (same_Some _ _ is) within

stop_within : (design : DesignParts) (why : Stop) → IsDesign design → IsEntryIn design (entry.Stopped why) → (t : Timed)
    → timed design (entry.Stopped why) ≡ Some t → t.node < length design.components
stop_within design (stop.Missed link round reading cause) rules of t is =
    at_node (length design.components) (link_at design link.0).target.0 reading t
    (target_within design link.0 rules of.0) is
stop_within design (stop.Early link round reading) rules of t is =
    at_node (length design.components) (link_at design link.0).target.0 reading t
    (target_within design link.0 rules of.0) is

pub timed_within : (design : DesignParts) (e : JournalEntry) → IsDesign design → IsEntryIn design e → (t : Timed)
    → timed design e ≡ Some t → t.node < length design.components
timed_within design (entry.Arrive link round reading result) rules of t is =
    at_node (length design.components) (link_at design link.0).target.0 reading t
    (target_within design link.0 rules of.0) is
timed_within design (entry.Start node round reading) rules of t is =
    at_node (length design.components) node.0 reading t of.0 is
timed_within design (entry.Step node round step reading) rules of t is =
    at_node (length design.components) node.0 reading t of.0.0 is
timed_within design (entry.Finish node round) rules of t is = absurd (cc)
timed_within design (entry.Send node round reading) rules of t is =
    at_node (length design.components) node.0 reading t of.0 is
timed_within design (entry.Drop link round) rules of t is = absurd (cc)
timed_within design (entry.Repeat link round) rules of t is = absurd (cc)
timed_within design (entry.Stopped why) rules of t is = stop_within design why rules of t is

pub noted_last : (run : Run) (front : List JournalEntry) (readings : List ℕ) (e : JournalEntry) → IsDesign run.design
    → IsEntryIn run.design e → length readings ≡ length run.design.components → AreLast run front readings
    → AreLast run (front ++ e ∷ []) (noted readings (timed run.design e))
noted_last run front readings e rules of many are = λ k below.
    noted_is readings (timed run.design e) k (latest run.design k front)
    (λ t is. let within = timed_within run.design e rules of t is in omega arith) (are k below)
    ∙ sym (latest_one run.design k front e)

-- ---- an audit that has come as far as a history
pub record KeepsUp (run : Run) (front : List JournalEntry) (a : Audit) : Type 0 where
  pub owed_in : All (IsEntryIn run.design) (listed a.owed)
  pub history : History run (front ++ listed a.owed) a.bus
  pub many : length a.readings ≡ length run.design.components
  pub last : AreLast run front a.readings

abbrev no_reading : NodeState → ℕ
no_reading n = 0

zeros : (ns : List NodeState) (k : ℕ) → slice_index_or (map no_reading ns) k (no_reading no_node) ≡ no_reading no_node
zeros [] k = refl
zeros (n ∷ ns) zero = refl
zeros (n ∷ ns) (suc k) = zeros ns k

pub opening_many : (run : Run) → length (opening_audit run).readings ≡ length run.design.components
opening_many run =
    length-map (opening run).nodes _ ∙ length-map (upwards 0 (length run.design.components)) _
    ∙ length-upwards 0 (length run.design.components)

pub opening_last : (run : Run) → AreLast run [] (opening_audit run).readings
opening_last run = λ k below. zeros (opening run).nodes k

pub opening_up : (run : Run) → KeepsUp run [] (opening_audit run)
opening_up run =
    record {
      owed_in = All-nil (IsEntryIn run.design);
      history = opens;
      many = opening_many run;
      last = opening_last run;
    }

-- ---- one line
second_is : (e : JournalEntry) (more : Option JournalEntry) → second_entry (e ∷ listed more) ≡ more
second_is e None = refl
second_is e (Some other) = refl

wrong_by : (index : ℕ) (o : Option TraceRule) (otherwise : Verdict) (rounds : ℕ) (why : Option Stop)
    → wrong_or index o otherwise ≡ Sound rounds why → (o ≡ None) × (otherwise ≡ Sound rounds why)
wrong_by index None otherwise rounds why sound = (refl, sound)
wrong_by index (Some r) otherwise rounds why sound = absurd (cc)

pub line_parts : (reads : Bool) (o p : Option TraceRule) (owes : Bool)
    → cond (not reads) (Some rule.Text) (cond owes o p) ≡ None → (reads ≡ true) × (cond owes o p ≡ None)
line_parts true o p owes none = (refl, none)
line_parts false o p owes none = absurd (cc)

pub stop_line : (same : Bool) → cond same None (Some rule.Stop) ≡ None → same ≡ true
stop_line true none = refl
stop_line false none = absurd (cc)

pub follow_by : (run : Run) (front : List JournalEntry) (bus : BusState) (readings : List ℕ)
    (owed : Option JournalEntry)
    (e : JournalEntry) → let a : Audit = record { bus = bus; readings = readings; owed = owed } in
    IsDesign run.design → IsEntryIn run.design e → KeepsUp run front a → line_broken run a (Some e) ≡ None
    → KeepsUp run (front ++ e ∷ []) (audit_after run a e)
follow_by run front bus readings None e rules of up none =
    let a : Audit = record { bus = bus; readings = readings; owed = None } in
    let parts = line_parts (has_reading (timed run.design e)) None (broken run bus readings e) false none in
    let next = entry_next run front bus readings e rules up.last of parts.0 parts.1 in
    let more : second_entry (entries run bus next.event) ≡ next.more = ap second_entry next.tells
    ∙ second_is e next.more in
    let is : audit_after run a e ≡ record {
      bus = after run bus next.event;
      readings = noted readings (timed run.design e);
      owed = next.more;
    } =
    ap (audit_event run a (noted readings (timed run.design e))) next.is_event
    ∙ ap (λ o. record {
      bus = after run bus next.event;
      readings = noted readings (timed run.design e);
      owed = o;
    }) more in
    let before : History run front bus = subst (λ j. History run j bus) (append-nil front) up.history in
    let then : History run (front ++ entries run bus next.event) (after run bus next.event) =
    goes_on next.event before next.step next.in_time in
    subst (KeepsUp run (front ++ e ∷ [])) (sym is)
    (record {
      owed_in = next.more_in;
      history =
          subst (λ j. History run j (after run bus next.event))
          (ap (λ es. front ++ es) next.tells ∙ sym (append_assoc front (e ∷ []) (listed next.more))) then;
      many = length-noted readings (timed run.design e) ∙ up.many;
      last = noted_last run front readings e rules of up.many up.last;
    })
follow_by run front bus readings (Some o) e rules of up none =
    let parts =
    line_parts (has_reading (timed run.design e)) (cond (is_line_of run.design e (Some o)) None (Some rule.Stop))
    (broken run bus readings e) true none in
    let same : e ≡ o = lines_differ run.design e rules of o (All-head (IsEntryIn run.design) o [] up.owed_in)
    ((bytes_eq-Decides (entry_line run.design e) (entry_line run.design o)).0
    (stop_line (is_line_of run.design e (Some o)) parts.1)) in
    record {
      owed_in = All-nil (IsEntryIn run.design);
      history =
          subst (λ j. History run j bus)
          (ap (λ x. front ++ x ∷ []) (sym same) ∙ sym (append-nil (front ++ e ∷ []))) up.history;
      many = length-noted readings (timed run.design e) ∙ up.many;
      last = noted_last run front readings e rules of up.many up.last;
    }

-- ---- the end
pub end_parts : (owes unfinished same : Bool)
    → cond owes (Some rule.Stop) (cond unfinished (Some rule.Unfinished) (cond same None (Some rule.Count))) ≡ None
    → (owes ≡ false) × (unfinished ≡ false) × (same ≡ true)
end_parts true unfinished same none = absurd (cc)
end_parts false true same none = absurd (cc)
end_parts false false true none = (refl, refl, refl)
end_parts false false false none = absurd (cc)

pub over_by : (o : Option Stop) (all : Bool) → (is_none o && not all) ≡ false → (o ≢ None) ⊎ (all ≡ true)
over_by None true over = inr refl
over_by None false over = absurd (true≢false over)
over_by (Some why) all over = inl (λ same. absurd (cc))

pub done_phase : (p : Phase) → is_done p ≡ true → p ≡ Done
done_phase Waiting is = absurd (false≢true is)
done_phase (Running step) is = absurd (false≢true is)
done_phase (Between steps) is = absurd (false≢true is)
done_phase Holding is = absurd (false≢true is)
done_phase Done is = refl

pub done_at : (ns : List NodeState) (k : ℕ) → list_all (λ (n : NodeState). is_done n.phase) ns ≡ true
    → (slice_index_or ns k no_node).phase ≡ Done
done_at [] k all = refl
done_at (n ∷ ns) zero all =
    done_phase n.phase (and_parts (is_done n.phase) (list_all (λ (m : NodeState). is_done m.phase) ns) all).0
done_at (n ∷ ns) (suc k) all =
    done_at ns k (and_parts (is_done n.phase) (list_all (λ (m : NodeState). is_done m.phase) ns) all).1

pub over_or : (run : Run) (s : BusState)
    → (s.stop ≢ None) ⊎ (list_all (λ (n : NodeState). is_done n.phase) s.nodes ≡ true)
    → IsStoppedOrDone run s
over_or run s (inl stands) = inl stands
over_or run s (inr all) = inr (λ node within. done_at s.nodes node all)

-- ---- the journal
-- the entries of the remaining lines
pub record IsRest (run : Run) (rows : ℕ) (front : List JournalEntry) (lines : List (List ℕ)) (rounds : ℕ)
    (why : Option Stop) : Type 0 where
  journal : List JournalEntry
  state : BusState
  lines_are : lines ≡ map (entry_line run.design) journal
  of_design : All (IsEntryIn run.design) journal
  history : History run (front ++ journal) state
  over : IsStoppedOrDone run state
  rounds_are : rounds ≡ finished_by_all run state
  rows_are : rows ≡ rounds
  stop_is : why ≡ state.stop

pub sound_rounds : (a b : ℕ) (o p : Option Stop) → Sound a o ≡ Sound b p → (a ≡ b) × (o ≡ p)
sound_rounds a b o p same = (cc, cc)

pub ends : (run : Run) (rows index : ℕ) (front : List JournalEntry) (a : Audit) (rounds : ℕ) (why : Option Stop)
    → KeepsUp run front a → journal_verdict run rows index a [] ≡ Sound rounds why → IsRest run rows front [] rounds why
ends run rows index front a rounds why up sound =
    let finished = finished_by_all run a.bus in
    let parts = wrong_by index (end_broken run rows a) (Sound rows a.bus.stop) rounds why sound in
    let all = list_all (λ (n : NodeState). is_done n.phase) a.bus.nodes in
    let kept = end_parts (is_some a.owed) (is_none a.bus.stop && not all) (nat_eq rows finished) parts.0 in
    let none = none_unless_some a.owed kept.0 in
    let same = sound_rounds rows rounds a.bus.stop why parts.1 in
    record {
      journal = [];
      state = a.bus;
      lines_are = refl;
      of_design = All-nil (IsEntryIn run.design);
      history = subst (λ o. History run (front ++ listed o) a.bus) none up.history;
      over = over_or run a.bus (over_by a.bus.stop all kept.1);
      rounds_are = sym same.0 ∙ eqb-true rows finished kept.2;
      rows_are = same.0;
      stop_is = sym same.1;
    }

abbrev Later : Run → ℕ → List (List ℕ) → ℕ → ℕ → Option Stop → Type 0
Later run rows lines index rounds why =
    (front : List JournalEntry) (a : Audit) → KeepsUp run front a
    → journal_verdict run rows index a lines ≡ Sound rounds why → IsRest run rows front lines rounds why

goes : (run : Run) (rows index : ℕ) (front : List JournalEntry) (a : Audit) (line : List ℕ) (lines : List (List ℕ))
    (rounds : ℕ) (why : Option Stop) (o : Option JournalEntry) → IsDesign run.design → entry_of_line run.design line ≡ o
    → KeepsUp run front a
    → wrong_or index (line_broken run a o) (journal_verdict run rows (index + 1) (audit_after run a (entry_or o)) lines)
    ≡ Sound rounds why → Later run rows lines (index + 1) rounds why
    → IsRest run rows front (line ∷ lines) rounds why
goes run rows index front a line lines rounds why None rules is up sound later =
    let parts =
    wrong_by index (Some rule.Text) (journal_verdict run rows (index + 1) (audit_after run a (entry_or None)) lines)
    rounds why sound in
    absurd (cc)
goes run rows index front a line lines rounds why (Some e) rules is up sound later =
    let parts =
    wrong_by index (line_broken run a (Some e)) (journal_verdict run rows (index + 1) (audit_after run a e) lines)
    rounds why sound in
    let of = told_are_in run.design line e is in
    let next = follow_by run front a.bus a.readings a.owed e rules of up parts.0 in
    let rest = later (front ++ e ∷ []) (audit_after run a e) next parts.1 in
    record {
      journal = e ∷ rest.journal;
      state = rest.state;
      lines_are = ap₂ (λ l ls. l ∷ ls) (told_is_line run.design line e is) rest.lines_are;
      of_design = All-cons (IsEntryIn run.design) e rest.journal of rest.of_design;
      history = subst (λ j. History run j rest.state) (append_assoc front (e ∷ []) rest.journal) rest.history;
      over = rest.over;
      rounds_are = rest.rounds_are;
      rows_are = rest.rows_are;
      stop_is = rest.stop_is;
    }

journal_means : (run : Run) (rows : ℕ) (lines : List (List ℕ)) (index rounds : ℕ) (why : Option Stop)
    → IsDesign run.design → Later run rows lines index rounds why
journal_means run rows [] index rounds why rules = λ front a up sound. ends run rows index front a rounds why up sound
journal_means run rows (line ∷ lines) index rounds why rules = λ front a up sound.
    goes run rows index front a line lines rounds why (entry_of_line run.design line) rules refl up sound
    (journal_means run rows lines (index + 1) rounds why rules)

-- ---- the whole
whole_by : (run : Run) (size : ℕ) (lines : List (List ℕ)) (rounds : ℕ) (why : Option Stop) (o : Option ℕ)
    → IsDesign run.design → size ≤ length lines → wrong_row run.design run.env (take size lines) ≡ o
    → trace_verdict run size o lines ≡ Sound rounds why
    → IsTraceOf run lines rounds why
whole_by run size lines rounds why (Some index) rules within row sound =
    absurd (let no : Wrong index rule.Row ≡ Sound rounds why = sound in cc)
whole_by run size lines rounds why None rules within row sound =
    let rows = size / row_size run.design in
    let rest =
    journal_means run rows (drop size lines) size rounds why rules [] (opening_audit run) (opening_up run) sound in
    let many : length (take size lines) ≡ size = length-take-le size lines within in
    let report : take size lines ≡ report_lines run.design run.env (finished_by_all run rest.state) =
    report_is run.design run.env (take size lines) row
    ∙ ap (λ n. report_lines run.design run.env (n / row_size run.design)) many
    ∙ ap (report_lines run.design run.env) (rest.rows_are ∙ rest.rounds_are) in
    record {
      journal = rest.journal;
      state = rest.state;
      lines_are = sym (take-append-drop size lines) ∙ ap₂ (λ xs ys. xs ++ ys) report rest.lines_are;
      of_design = rest.of_design;
      history = rest.history;
      over = rest.over;
      rounds_are = rest.rounds_are;
      stop_is = rest.stop_is;
    }

pub sound_are_traces : SoundAreTraces
sound_are_traces run lines rounds why rules sound =
    whole_by run (report_size lines) lines rounds why (wrong_row run.design run.env (take (report_size lines) lines))
    rules.design (prefix_len-le-length (λ line. not (is_some (form_of line))) lines) refl sound
