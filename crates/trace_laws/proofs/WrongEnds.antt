-- A trace that is wrong at its end: its journal is that of a history which is not over, or of one which is over and has
-- finished another number of rounds.
use Rattle.std.proofs.Common.{◌⊎◌, inl, inr, ◌≡◌, ℕ, ◌+◌, ◌-◌, ◌/◌, ◌≤◌, nat_eq, Bool, true, false, not, ◌&&◌}
use Rattle.std.proofs.Common.{cond, All, List, [], ◌∷◌, ◌++◌, length, map, take, drop, Option, Some, None, refl, sym}
use Rattle.std.proofs.Common.{ap, subst}
use Rattle.std.proofs.Common.{◌∙◌, arith}
use Rattle.std.specs.Prelude.{is_some, is_none}
use Rattle.std.specs.List.{list_all}
use Rattle.std.proofs.lemmas.Bool.{true≢false}
use Rattle.std.proofs.lemmas.List.{append-nil, length-drop, take-append-drop}
use Rattle.std.proofs.Math.Nat.{mul-div_left}
use Rattle.list_lemmas.proofs.Numbers.{nat_eq-self}
use Rattle.pals_model.specs.DesignRules.{IsDesign}
use Rattle.pals_runs.specs.declared.journal.JournalEntry.{JournalEntry}
use Rattle.pals_runs.specs.declared.journal.Stop.{Stop}
use Rattle.pals_runs.specs.declared.verdicts.TraceRule.{TraceRule}
use Rattle.pals_runs.specs.declared.verdicts.Verdict.{Verdict}
use Rattle.pals_runs.specs.declared.verdicts.Verdict.TheVariants.{Sound, Wrong}
use Rattle.pals_runs.specs.JournalLines.{entry_line}
use Rattle.bus_machine.specs.Nodes.{NodeState}
use Rattle.bus_machine.specs.BusStates.{BusState, finished_by_all}
use Rattle.bus_machine.specs.RunParameters.{Run}
use Rattle.bus_machine.specs.proof.AgreementLaws.{IsRunOf}
use Rattle.bus_machine.proofs.MessageAndRunAgreement.{replay_agrees}
use Rattle.run_laws.specs.HistoriesAndTraces.{History}
use Rattle.run_laws.specs.EntriesInLines.{entry_of_line}
use Rattle.run_laws.specs.EntriesOfDesigns.{IsEntryIn}
use Rattle.run_laws.specs.EntryEventsAndReadings.{timed, has_reading, event_of}
use Rattle.run_laws.specs.TraceRules.{broken, is_in_order, falls, is_before, alarm_at, stop_alarm, too_early, waits}
use Rattle.run_laws.specs.TraceRules.{tells_stop}
use Rattle.run_laws.specs.TraceRules.{is_line_of}
use Rattle.run_laws.specs.TraceVerdicts.{Audit, audit_after, line_broken, end_broken, is_done, wrong_or, entry_or}
use Rattle.run_laws.specs.TraceVerdicts.{journal_verdict, report_size, row_size}
use Rattle.run_laws.proofs.HistoryReplay.{replays}
use Rattle.run_laws.proofs.ReportRows.{row_some}
use Rattle.run_laws.proofs.SoundEntryEvents.{listed}
use Rattle.run_laws.proofs.SoundTraces.{KeepsUp, over_by, over_or}
use Rattle.run_laws.proofs.HistoryVerdicts.{over_is}
use Rattle.trace_laws.specs.WrongLines.{HasLines, journal_lines, GoesOn, CountsOthers}
use Rattle.trace_laws.proofs.LinesBefore.{wrong_from, just_here}
use Rattle.trace_laws.proofs.WrongJournalLines.{IsInJournal, at_index}
use Rattle.bus_machine.specs.AlarmsAndReleases.{step_alarm, release_reading}
use Rattle.bus_machine.specs.BusStates.{node_at}
use Rattle.bus_machine.specs.Plans.{plan_of, link_at}
use Rattle.pals_runs.specs.declared.journal.JournalEntry.TheVariants as entry
use Rattle.pals_runs.specs.declared.journal.Stop.TheVariants as stop
use Rattle.pals_runs.specs.declared.verdicts.TraceRule.TheVariants as rule

-- ---- rules of lines
abbrev pub is_of_lines : TraceRule → Bool
is_of_lines rule.Row = false
is_of_lines rule.Text = true
is_of_lines rule.Order = true
is_of_lines rule.Reading = true
is_of_lines rule.Alarm = true
is_of_lines rule.Release = true
is_of_lines rule.Due = true
is_of_lines rule.Stop = true
is_of_lines rule.Unfinished = false
is_of_lines rule.Count = false

one_rule : (b : Bool) (x r : TraceRule) → is_of_lines x ≡ true → cond b (Some x) None ≡ Some r → is_of_lines r ≡ true
one_rule true x r of_lines is = (let same : x ≡ r = cc in ap is_of_lines (sym same)) ∙ of_lines
one_rule false x r of_lines is = absurd (cc)

stop_rule : (run : Run) (s : BusState) (why : Stop) (r : TraceRule) → stop_alarm run s why ≡ Some r
    → is_of_lines r ≡ true
stop_rule run s (stop.Missed link round reading cause) r is =
    one_rule (is_before reading (alarm_at run s (link_at run.design link.0).target.0)) rule.Alarm r refl is
stop_rule run s (stop.Early link round reading) r is = absurd (cc)

early_rule : (run : Run) (s : BusState) (e : JournalEntry) (r : TraceRule) → too_early run s e ≡ Some r
    → is_of_lines r ≡ true
early_rule run s (entry.Arrive link round reading result) r is = absurd (cc)
early_rule run s (entry.Start node round reading) r is =
    one_rule (is_before reading (alarm_at run s node.0)) rule.Alarm r refl is
early_rule run s (entry.Step node round step reading) r is =
    one_rule (is_before reading (step_alarm (plan_of run.design node.0) (node_at s node.0) step)) rule.Alarm r refl is
early_rule run s (entry.Finish node round) r is = absurd (cc)
early_rule run s (entry.Send node round reading) r is =
    one_rule (is_before reading (release_reading (plan_of run.design node.0) (node_at s node.0))) rule.Release r refl is
early_rule run s (entry.Drop link round) r is = absurd (cc)
early_rule run s (entry.Repeat link round) r is = absurd (cc)
early_rule run s (entry.Stopped why) r is = stop_rule run s why r is

entry_rule : (order falling : Bool) (early : Option TraceRule) (waiting telling : Bool) (r : TraceRule)
    → ((x : TraceRule) → early ≡ Some x → is_of_lines x ≡ true)
    → cond (not order) (Some rule.Order) (cond falling (Some rule.Reading) (cond (is_some early) early
    (cond waiting (Some rule.Due) (cond (not telling) (Some rule.Stop) None)))) ≡ Some r
    → is_of_lines r ≡ true
entry_rule false falling early waiting telling r of_lines is =
    let same : rule.Order ≡ r = cc in ap is_of_lines (sym same)
entry_rule true true early waiting telling r of_lines is =
    let same : rule.Reading ≡ r = cc in ap is_of_lines (sym same)
entry_rule true false (Some x) waiting telling r of_lines is = of_lines r is
entry_rule true false None true telling r of_lines is =
    let same : rule.Due ≡ r = cc in ap is_of_lines (sym same)
entry_rule true false None false telling r of_lines is = one_rule (not telling) rule.Stop r refl is

owing_rule : (reads owes same : Bool) (o : Option TraceRule) (r : TraceRule)
    → ((x : TraceRule) → o ≡ Some x → is_of_lines x ≡ true)
    → cond (not reads) (Some rule.Text) (cond owes (cond same None (Some rule.Stop)) o) ≡ Some r → is_of_lines r ≡ true
owing_rule false owes same o r of_lines is = let text : rule.Text ≡ r = cc in ap is_of_lines (sym text)
owing_rule true true true o r of_lines is = absurd (cc)
owing_rule true true false o r of_lines is = let stops : rule.Stop ≡ r = cc in ap is_of_lines (sym stops)
owing_rule true false same o r of_lines is = of_lines r is

-- no line breaks another rule
line_rule : (run : Run) (a : Audit) (o : Option JournalEntry) (r : TraceRule) → line_broken run a o ≡ Some r
    → is_of_lines r ≡ true
line_rule run a None r is = let same : rule.Text ≡ r = cc in ap is_of_lines (sym same)
line_rule run a (Some e) r is =
    owing_rule (has_reading (timed run.design e)) (is_some a.owed) (is_line_of run.design e a.owed)
    (broken run a.bus a.readings e) r
    (λ x broke. entry_rule (is_in_order run a.bus e) (falls a.readings (timed run.design e)) (too_early run a.bus e)
    (waits run a.bus e) (tells_stop run a.bus e (event_of run.design e)) x (early_rule run a.bus e) broke)
    is

-- ---- so no line remains at a rule of the end
none_left : (run : Run) (rows i : ℕ) (a : Audit) (lines : List (List ℕ)) (why : TraceRule) → is_of_lines why ≡ false
    → journal_verdict run rows i a lines ≡ Wrong i why → (lines ≡ []) × (end_broken run rows a ≡ Some why)
none_left run rows i a [] why end wrong =
    (refl, just_here i i (end_broken run rows a) (Sound rows a.bus.stop) why (omega arith) (λ sound. absurd (cc)) wrong)
none_left run rows i a (line ∷ lines) why end wrong =
    let next : Audit = audit_after run a (entry_or (entry_of_line run.design line)) in
    let broke = just_here i i (line_broken run a (entry_of_line run.design line))
    (journal_verdict run rows (i + 1) next lines) why (omega arith) (wrong_from run rows (i + 1) i next lines why)
    wrong in
    absurd (true≢false (sym (line_rule run a (entry_of_line run.design line) why broke) ∙ end))

-- ---- and no rule of rows is broken in a journal
either : (i j : ℕ) (o : Option TraceRule) (otherwise : Verdict) (why : TraceRule) → wrong_or i o otherwise ≡ Wrong j why
    → (o ≡ Some why) ⊎ (otherwise ≡ Wrong j why)
either i j None otherwise why wrong = inr wrong
either i j (Some r) otherwise why wrong = inl (let same : r ≡ why = cc in ap Some same)

end_row : (owes unfinished same : Bool)
    → cond owes (Some rule.Stop) (cond unfinished (Some rule.Unfinished) (cond same None (Some rule.Count)))
    ≡ Some rule.Row
    → ⊥
end_row true unfinished same is = absurd (let other : rule.Stop ≡ rule.Row = cc in cc)
end_row false true same is = absurd (let other : rule.Unfinished ≡ rule.Row = cc in cc)
end_row false false true is = absurd (cc)
end_row false false false is = absurd (let other : rule.Count ≡ rule.Row = cc in cc)

pub no_row : (run : Run) (rows i j : ℕ) (a : Audit) (lines : List (List ℕ))
    → journal_verdict run rows i a lines ≡ Wrong j rule.Row → ⊥
no_row run rows i j a [] wrong =
    elim (either i j (end_broken run rows a) (Sound rows a.bus.stop) rule.Row wrong) [
      | inl broke ↦ end_row (is_some a.owed)
          (is_none a.bus.stop && not (list_all (λ (n : NodeState). is_done n.phase) a.bus.nodes))
          (nat_eq rows (finished_by_all run a.bus)) broke
      | inr sound ↦ absurd (cc)
    ]
no_row run rows i j a (line ∷ lines) wrong =
    let next : Audit = audit_after run a (entry_or (entry_of_line run.design line)) in
    elim (either i j (line_broken run a (entry_of_line run.design line)) (journal_verdict run rows (i + 1) next lines)
    rule.Row wrong) [
      | inl broke ↦ absurd (true≢false (sym (line_rule run a (entry_of_line run.design line) rule.Row broke)))
      | inr later ↦ no_row run rows (i + 1) j next lines later
    ]

-- the entries of all lines, and the rule that their end breaks
record HasAll (run : Run) (rows : ℕ) (lines : List (List ℕ)) (index : ℕ) (why : TraceRule) : Type 0 where
  told : List JournalEntry
  audit : Audit
  up : KeepsUp run told audit
  of_design : All (IsEntryIn run.design) told
  lines_are : map (entry_line run.design) told ≡ journal_lines lines
  ends : end_broken run rows audit ≡ Some why

has_all : (run : Run) (rows : ℕ) (lines : List (List ℕ)) (index : ℕ) (why : TraceRule) → IsDesign run.design
    → is_of_lines why ≡ false → IsInJournal run rows lines index why → HasAll run rows lines index why
has_all run rows lines index why rules end at =
    let had = at_index run rows lines index why rules at in
    let left = none_left run rows (report_size lines + at.k) had.audit (drop at.k (journal_lines lines)) why end
    had.rest in
    record {
      told = had.told;
      audit = had.audit;
      up = had.up;
      of_design = had.of_design;
      lines_are = had.lines_are ∙ sym (append-nil (take at.k (journal_lines lines)))
          ∙ ap (λ ls. take at.k (journal_lines lines) ++ ls) (sym left.0)
          ∙ take-append-drop at.k (journal_lines lines);
      ends = left.1;
    }

-- a trace without a further line ends at the index
pub at_end : (run : Run) (rows : ℕ) (lines : List (List ℕ)) (index : ℕ) (why : TraceRule) → IsDesign run.design
    → is_of_lines why ≡ false → report_size lines ≤ length lines → IsInJournal run rows lines index why
    → index ≡ length lines
at_end run rows lines index why rules end few at =
    let had = at_index run rows lines index why rules at in
    let left = none_left run rows (report_size lines + at.k) had.audit (drop at.k (journal_lines lines)) why end
    had.rest in
    let none : length (drop at.k (journal_lines lines)) ≡ 0 = ap length left.0 in
    let rest : length (drop at.k (journal_lines lines)) ≡ length (journal_lines lines) - at.k =
    length-drop at.k (journal_lines lines) in
    let many : length (journal_lines lines) ≡ length lines - report_size lines =
    length-drop (report_size lines) lines in
    let is = at.index_is in let within = at.within in
    omega (arith, none, rest, many, is, within, few)

-- ---- no stop is owed
none_owed : (o : Option JournalEntry) → is_some o ≡ false → listed o ≡ []
none_owed None unowed = refl
none_owed (Some e) unowed = absurd (true≢false unowed)

abbrev has_lines : (run : Run) (rows : ℕ) (lines : List (List ℕ)) (index : ℕ) (why : TraceRule)
    → (had : HasAll run rows lines index why) → is_some had.audit.owed ≡ false → HasLines run (journal_lines lines)
has_lines run rows lines index why had unowed = record {
  journal = had.told;
  state = had.audit.bus;
  history =
      subst (λ j. History run j had.audit.bus)
      (ap (λ es. had.told ++ es) (none_owed had.audit.owed unowed) ∙ append-nil had.told) had.up.history;
  of_design = had.of_design;
  lines_are = had.lines_are;
}

-- ---- unfinished
unfinished_parts : (owes unfinished same : Bool)
    → cond owes (Some rule.Stop) (cond unfinished (Some rule.Unfinished) (cond same None (Some rule.Count)))
    ≡ Some rule.Unfinished
    → (owes ≡ false) × (unfinished ≡ true)
unfinished_parts true unfinished same is = absurd (let other : rule.Stop ≡ rule.Unfinished = cc in cc)
unfinished_parts false true same is = (refl, refl)
unfinished_parts false false true is = absurd (cc)
unfinished_parts false false false is = absurd (let other : rule.Count ≡ rule.Unfinished = cc in cc)

abbrev all_done : Audit → Bool
all_done a = list_all (λ (n : NodeState). is_done n.phase) a.bus.nodes

pub unfinished_goes_on : (run : Run) (rows : ℕ) (lines : List (List ℕ)) (index : ℕ) → IsRunOf run
    → IsInJournal run rows lines index rule.Unfinished → GoesOn run lines
unfinished_goes_on run rows lines index rules at =
    let had = has_all run rows lines index rule.Unfinished rules.design refl at in
    let parts = unfinished_parts (is_some had.audit.owed) (is_none had.audit.bus.stop && not (all_done had.audit))
    (nat_eq rows (finished_by_all run had.audit.bus)) had.ends in
    let has = has_lines run rows lines index rule.Unfinished had parts.0 in
    let many = (replay_agrees run has.journal has.state rules
    (replays run has.journal has.state has.history)).node_count in
    record { has = has; not_over = λ over. true≢false (sym parts.1 ∙ over_is run has.state many over) }

-- ---- another number of rounds
count_parts : (owes unfinished same : Bool)
    → cond owes (Some rule.Stop) (cond unfinished (Some rule.Unfinished) (cond same None (Some rule.Count)))
    ≡ Some rule.Count
    → (owes ≡ false) × (unfinished ≡ false) × (same ≡ false)
count_parts true unfinished same is = absurd (let other : rule.Stop ≡ rule.Count = cc in cc)
count_parts false true same is = absurd (let other : rule.Unfinished ≡ rule.Count = cc in cc)
count_parts false false true is = absurd (cc)
count_parts false false false is = (refl, refl, refl)

pub counts_others : (run : Run) (lines : List (List ℕ)) (index : ℕ) → IsRunOf run
    → IsInJournal run (report_size lines / row_size run.design) lines index rule.Count → CountsOthers run lines
counts_others run lines index rules at =
    let rows = report_size lines / row_size run.design in
    let had = has_all run rows lines index rule.Count rules.design refl at in
    let parts = count_parts (is_some had.audit.owed) (is_none had.audit.bus.stop && not (all_done had.audit))
    (nat_eq rows (finished_by_all run had.audit.bus)) had.ends in
    let has = has_lines run rows lines index rule.Count had parts.0 in
    record {
      has = has;
      over = over_or run had.audit.bus (over_by had.audit.bus.stop (all_done had.audit) parts.1);
      other = λ others size_is same.
          let whole : rows ≡ others = ap (λ n. n / row_size run.design) size_is
          ∙ mul-div_left others (row_some run.design) in
          true≢false (sym (ap (λ n. nat_eq n (finished_by_all run had.audit.bus)) (whole ∙ same)
          ∙ nat_eq-self (finished_by_all run had.audit.bus)) ∙ parts.2);
    }
