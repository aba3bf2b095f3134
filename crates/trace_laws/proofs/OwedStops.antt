-- Whether a stop is owed at a wrong line: not at the rules of events, and at a missing stop at the end.
use Rattle.std.proofs.Common.{◌≡◌, ◌≢◌, ℕ, ◌+◌, ◌-◌, ◌<◌, ◌≤◌, nat_eq, Bool, true, false, not, ◌&&◌, cond, List, []}
use Rattle.std.proofs.Common.{◌∷◌, ◌++◌, length, take, drop, Option, Some, None, refl, sym, ap, ◌∙◌, subst, arith}
use Rattle.std.specs.Prelude.{is_some, is_none}
use Rattle.std.specs.List.{list_all}
use Rattle.std.proofs.lemmas.Bool.{true≢false}
use Rattle.std.proofs.lemmas.List.{append-nil, length-drop}
use Rattle.pals_model.specs.DesignRules.{IsDesign}
use Rattle.pals_runs.specs.declared.journal.JournalEntry.{JournalEntry}
use Rattle.pals_runs.specs.declared.verdicts.TraceRule.{TraceRule}
use Rattle.pals_runs.specs.declared.verdicts.Verdict.TheVariants.{Sound, Wrong}
use Rattle.bus_machine.specs.Nodes.{NodeState}
use Rattle.bus_machine.specs.BusStates.{finished_by_all}
use Rattle.bus_machine.specs.RunParameters.{Run}
use Rattle.run_laws.specs.EntriesInLines.{entry_of_line}
use Rattle.run_laws.specs.EntryEventsAndReadings.{timed, has_reading}
use Rattle.run_laws.specs.HistoriesAndTraces.{History}
use Rattle.run_laws.specs.TraceRules.{broken, is_line_of}
use Rattle.run_laws.specs.TraceVerdicts.{Audit, opening_audit, audit_after, line_broken, end_broken, is_done, wrong_or}
use Rattle.run_laws.specs.TraceVerdicts.{entry_or}
use Rattle.run_laws.specs.TraceVerdicts.{journal_verdict, report_size}
use Rattle.run_laws.proofs.SoundEntryEvents.{listed}
use Rattle.run_laws.proofs.RuleKeepingLines.{audited, verdict_is}
use Rattle.run_laws.proofs.HistoryVerdicts.{passes}
use Rattle.trace_laws.specs.WrongLines.{HasLines, BeginsHistory, journal_lines, LacksStop, IsOfEvents}
use Rattle.trace_laws.proofs.LinesBefore.{wrong_from, just_here}
use Rattle.trace_laws.proofs.WrongJournalLines.{IsInJournal, at_index, begins_by}
use Rattle.pals_runs.specs.declared.verdicts.TraceRule.TheVariants as rule

-- ---- at a line
owing : (reads owes same : Bool) (o : Option TraceRule) (r : TraceRule) → r ≢ rule.Text → r ≢ rule.Stop
    → cond (not reads) (Some rule.Text) (cond owes (cond same None (Some rule.Stop)) o) ≡ Some r → owes ≡ false
owing false owes same o r text stop is = absurd (text (let found : rule.Text ≡ r = cc in sym found))
owing true true true o r text stop is = absurd (cc)
owing true true false o r text stop is = absurd (stop (let found : rule.Stop ≡ r = cc in sym found))
owing true false same o r text stop is = refl

none_owed_at : (run : Run) (a : Audit) (o : Option JournalEntry) (r : TraceRule) → r ≢ rule.Text → r ≢ rule.Stop
    → line_broken run a o ≡ Some r → is_some a.owed ≡ false
none_owed_at run a None r text stop is = absurd (text (let found : rule.Text ≡ r = cc in sym found))
none_owed_at run a (Some e) r text stop is =
    owing (has_reading (timed run.design e)) (is_some a.owed) (is_line_of run.design e a.owed)
    (broken run a.bus a.readings e) r text stop is

-- the line that the verdict names breaks its rule
breaks : (run : Run) (rows i : ℕ) (a : Audit) (lines : List (List ℕ)) (why : TraceRule) → 0 < length lines
    → why ≢ rule.Text → why ≢ rule.Stop → journal_verdict run rows i a lines ≡ Wrong i why → is_some a.owed ≡ false
breaks run rows i a [] why some text stop wrong = absurd (omega (arith, some))
breaks run rows i a (line ∷ lines) why some text stop wrong =
    let next : Audit = audit_after run a (entry_or (entry_of_line run.design line)) in
    none_owed_at run a (entry_of_line run.design line) why text stop
    (just_here i i (line_broken run a (entry_of_line run.design line)) (journal_verdict run rows (i + 1) next lines) why
    (omega arith) (wrong_from run rows (i + 1) i next lines why) wrong)

listed_none : (o : Option JournalEntry) → is_some o ≡ false → listed o ≡ []
listed_none None unowed = refl
listed_none (Some e) unowed = absurd (true≢false unowed)

-- so all lines before it are the lines of a history
pub has_before : (run : Run) (rows : ℕ) (lines : List (List ℕ)) (index : ℕ) (why : TraceRule) → IsDesign run.design
    → IsOfEvents why → IsInJournal run rows lines index why → index < length lines
    → HasLines run (take (index - report_size lines) (journal_lines lines))
has_before run rows lines index why rules events at less =
    let size = report_size lines in
    let had = at_index run rows lines index why rules at in
    let many : length (journal_lines lines) ≡ length lines - size = length-drop size lines in
    let rest : length (drop at.k (journal_lines lines)) ≡ length (journal_lines lines) - at.k =
    length-drop at.k (journal_lines lines) in
    let is = at.index_is in
    let some : 0 < length (drop at.k (journal_lines lines)) = omega (arith, many, rest, is, less) in
    let unowed = breaks run rows (size + at.k) had.audit (drop at.k (journal_lines lines)) why some events.1 events.2
    had.rest in
    let place : at.k ≡ index - size = omega (arith, is) in
    subst (λ k. HasLines run (take k (journal_lines lines))) place
    (record {
      journal = had.told;
      state = had.audit.bus;
      history =
          subst (λ j. History run j had.audit.bus)
          (ap (λ es. had.told ++ es) (listed_none had.audit.owed unowed) ∙ append-nil had.told) had.up.history;
      of_design = had.of_design;
      lines_are = had.lines_are;
    })

-- ---- at the end
end_owes : (owes unfinished same : Bool)
    → cond owes (Some rule.Stop) (cond unfinished (Some rule.Unfinished) (cond same None (Some rule.Count)))
    ≡ Some rule.Stop
    → owes ≡ true
end_owes true unfinished same is = refl
end_owes false true same is = absurd (let other : rule.Unfinished ≡ rule.Stop = cc in cc)
end_owes false false true is = absurd (cc)
end_owes false false false is = absurd (let other : rule.Count ≡ rule.Stop = cc in cc)

end_breaks : (i j : ℕ) (o : Option TraceRule) (rows : ℕ) (a : Audit) (why : TraceRule)
    → wrong_or i o (Sound rows a.bus.stop) ≡ Wrong j why → o ≡ Some why
end_breaks i j None rows a why wrong = absurd (cc)
end_breaks i j (Some r) rows a why wrong = let same : r ≡ why = cc in ap Some same

abbrev all_done : Audit → Bool
all_done a = list_all (λ (n : NodeState). is_done n.phase) a.bus.nodes

owes_at_end : (run : Run) (rows i j : ℕ) (a : Audit)
    → wrong_or i (end_broken run rows a) (Sound rows a.bus.stop) ≡ Wrong j rule.Stop → is_some a.owed ≡ true
owes_at_end run rows i j a wrong =
    end_owes (is_some a.owed) (is_none a.bus.stop && not (all_done a)) (nat_eq rows (finished_by_all run a.bus))
    (end_breaks i j (end_broken run rows a) rows a rule.Stop wrong)

-- a history that has just these lines owes none
not_all : (run : Run) (rows index : ℕ) (lines : List (List ℕ)) → IsDesign run.design
    → journal_verdict run rows (report_size lines) (opening_audit run) (journal_lines lines) ≡ Wrong index rule.Stop
    → HasLines run (journal_lines lines) → ⊥
not_all run rows index lines rules wrong has =
    let at = passes run has.journal has.state rules has.history has.of_design in
    let a = audited run (opening_audit run) has.journal in
    let its : wrong_or (report_size lines + length has.journal) (end_broken run rows a) (Sound rows a.bus.stop)
    ≡ Wrong index rule.Stop =
    sym (verdict_is run rows (report_size lines) (opening_audit run) has.journal at.0)
    ∙ ap (journal_verdict run rows (report_size lines) (opening_audit run)) has.lines_are ∙ wrong in
    let owes = owes_at_end run rows (report_size lines + length has.journal) index a its in
    true≢false (sym owes ∙ ap is_some at.1.owed)

take_all : {X : Type 0} (xs : List X) → take (length xs) xs ≡ xs
take_all [] = refl
take_all (x ∷ xs) = ap (λ ys. x ∷ ys) (take_all xs)

pub lacks_stop : (run : Run) (rows : ℕ) (lines : List (List ℕ)) (index : ℕ) → IsDesign run.design
    → index ≡ length lines → report_size lines ≤ length lines → IsInJournal run rows lines index rule.Stop
    → LacksStop run lines
lacks_stop run rows lines index rules last few at =
    let had = at_index run rows lines index rule.Stop rules at in
    let many : length (journal_lines lines) ≡ length lines - report_size lines =
    length-drop (report_size lines) lines in
    let is = at.index_is in
    let all : at.k ≡ length (journal_lines lines) = omega (arith, many, is, last, few) in
    let whole : take at.k (journal_lines lines) ≡ journal_lines lines =
    ap (λ k. take k (journal_lines lines)) all ∙ take_all (journal_lines lines) in
    record {
      begins =
          subst (BeginsHistory run) whole
          (begins_by run rows (report_size lines) (journal_lines lines) at.k rule.Stop had);
      not_all = not_all run rows (report_size lines + at.k) lines rules at.verdict_is;
    }
