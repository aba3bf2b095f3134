-- A wrong line of the journal: the lines before it begin a history's lines, and with it they begin none.
use Rattle.std.proofs.Common.{◌≡◌, ℕ, zero, suc, ◌+◌, ◌-◌, ◌<◌, ◌≤◌, List, [], ◌∷◌, ◌++◌, length, map, take}
use Rattle.std.proofs.Common.{Some, None, refl, sym, ap, subst, ◌∙◌, arith}
use Rattle.std.proofs.lemmas.List.{length-drop}
use Rattle.std.proofs.lemmas.List.Elements.{All-append}
use Rattle.pals_model.specs.DesignRules.{IsDesign}
use Rattle.pals_runs.specs.declared.journal.JournalEntry.{JournalEntry}
use Rattle.pals_runs.specs.declared.verdicts.TraceRule.{TraceRule}
use Rattle.pals_runs.specs.declared.verdicts.Verdict.TheVariants.{Wrong}
use Rattle.pals_runs.specs.JournalLines.{entry_line}
use Rattle.bus_machine.specs.RunParameters.{Run}
use Rattle.run_laws.specs.EntriesInLines.{entry_of_line}
use Rattle.run_laws.specs.EntriesOfDesigns.{IsEntryIn}
use Rattle.run_laws.specs.TraceVerdicts.{Audit, opening_audit, audit_after, line_broken, wrong_or, entry_or}
use Rattle.run_laws.specs.TraceVerdicts.{journal_verdict, report_size}
use Rattle.run_laws.proofs.SoundEntryEvents.{listed}
use Rattle.run_laws.proofs.RuleKeepingLines.{BreakNone}
use Rattle.run_laws.proofs.SoundTraces.{opening_up}
use Rattle.run_laws.proofs.HistoryVerdicts.{passes}
use Rattle.trace_laws.specs.WrongLines.{BeginsHistory, journal_lines, IsFirstWrong}
use Rattle.trace_laws.proofs.LinesBefore.{wrong_from, wrong_to, HasBefore, before}

pub map_append : {X Y : Type 0} (f : X → Y) (xs ys : List X) → map f (xs ++ ys) ≡ map f xs ++ map f ys
map_append f [] ys = refl
map_append f (x ∷ xs) ys = ap (λ zs. f x ∷ zs) (map_append f xs ys)

-- ---- the lines before
-- with the stop that is owed, if one is, their entries are a history's
pub begins_by : (run : Run) (rows index : ℕ) (lines : List (List ℕ)) (k : ℕ) (why : TraceRule)
    → HasBefore run rows index [] lines k why → BeginsHistory run (take k lines)
begins_by run rows index lines k why had = record {
  later = map (entry_line run.design) (listed had.audit.owed);
  has = record {
    journal = had.told ++ listed had.audit.owed;
    state = had.audit.bus;
    history = had.up.history;
    of_design = All-append (IsEntryIn run.design) had.told (listed had.audit.owed) had.of_design had.up.owed_in;
    lines_are = map_append (entry_line run.design) had.told (listed had.audit.owed)
        ∙ ap (λ ls. ls ++ map (entry_line run.design) (listed had.audit.owed)) had.lines_are;
  };
}

-- ---- with it
-- a line that passes leaves the verdict to the lines after it
passed : (run : Run) (rows index i : ℕ) (a : Audit) (line : List ℕ) (lines : List (List ℕ)) (e : JournalEntry)
    (why : TraceRule) → entry_of_line run.design (entry_line run.design e) ≡ Some e → line_broken run a (Some e) ≡ None
    → entry_line run.design e ≡ line → journal_verdict run rows index a (line ∷ lines) ≡ Wrong i why
    → journal_verdict run rows (index + 1) (audit_after run a e) lines ≡ Wrong i why
passed run rows index i a line lines e why told none first wrong =
    let is : entry_of_line run.design line ≡ Some e = ap (entry_of_line run.design) (sym first) ∙ told in
    sym (ap (λ o. wrong_or index (line_broken run a o)
    (journal_verdict run rows (index + 1) (audit_after run a (entry_or o)) lines)) is
    ∙ ap (λ w. wrong_or index w (journal_verdict run rows (index + 1) (audit_after run a e) lines)) none)
    ∙ wrong

-- a history passes the audit line by line
against : (run : Run) (rows index k : ℕ) (a : Audit) (lines later : List (List ℕ)) (es : List JournalEntry)
    (why : TraceRule) → BreakNone run a es → map (entry_line run.design) es ≡ take (suc k) lines ++ later
    → journal_verdict run rows index a lines ≡ Wrong (index + k) why → k < length lines → ⊥
against run rows index k a [] later es why none same wrong less = absurd (omega (arith, less))
against run rows index k a (line ∷ lines) later [] why none same wrong less = absurd (cc)
against run rows index zero a (line ∷ lines) later (e ∷ es) why none same wrong less =
    let first : entry_line run.design e ≡ line = cc in
    let now = passed run rows index (index + 0) a line lines e why none.0 none.1 first wrong in
    let past = wrong_from run rows (index + 1) (index + 0) (audit_after run a e) lines why now in
    absurd (omega (arith, past))
against run rows index (suc n) a (line ∷ lines) later (e ∷ es) why none same wrong less =
    let first : entry_line run.design e ≡ line = cc in
    let rest : map (entry_line run.design) es ≡ take (suc n) lines ++ later = cc in
    let now = passed run rows index (index + suc n) a line lines e why none.0 none.1 first wrong in
    let place : index + suc n ≡ index + 1 + n = omega arith in
    against run rows (index + 1) n (audit_after run a e) lines later es why none.2 rest
    (now ∙ ap (λ i. Wrong i why) place) (omega (arith, less))

-- ---- the whole
-- where the verdict is on the journal: the index is that of one of its lines, or of their end
pub record IsInJournal (run : Run) (rows : ℕ) (lines : List (List ℕ)) (index : ℕ) (why : TraceRule) : Type 0 where
  pub k : ℕ
  pub index_is : index ≡ report_size lines + k
  pub within : k ≤ length (journal_lines lines)
  pub verdict_is : journal_verdict run rows (report_size lines) (opening_audit run) (journal_lines lines)
      ≡ Wrong (report_size lines + k) why

pub in_journal : (run : Run) (rows : ℕ) (lines : List (List ℕ)) (index : ℕ) (why : TraceRule)
    → journal_verdict run rows (report_size lines) (opening_audit run) (journal_lines lines) ≡ Wrong index why
    → IsInJournal run rows lines index why
in_journal run rows lines index why wrong =
    let size = report_size lines in
    let from = wrong_from run rows size index (opening_audit run) (journal_lines lines) why wrong in
    let to = wrong_to run rows size index (opening_audit run) (journal_lines lines) why wrong in
    let place : index ≡ size + (index - size) = omega (arith, from) in
    record {
      k = index - size;
      index_is = place;
      within = omega (arith, from, to);
      verdict_is = wrong ∙ ap (λ i. Wrong i why) place;
    }

-- the audit at the index
pub at_index : (run : Run) (rows : ℕ) (lines : List (List ℕ)) (index : ℕ) (why : TraceRule) → IsDesign run.design
    → (at : IsInJournal run rows lines index why)
    → HasBefore run rows (report_size lines) [] (journal_lines lines) at.k why
at_index run rows lines index why rules at =
    before run rows (journal_lines lines) (report_size lines) at.k why rules [] (opening_audit run) (opening_up run)
    at.verdict_is at.within

pub first_wrong : (run : Run) (rows : ℕ) (lines : List (List ℕ)) (index : ℕ) (why : TraceRule) → IsDesign run.design
    → IsInJournal run rows lines index why → index < length lines → IsFirstWrong run lines index
first_wrong run rows lines index why rules at less =
    let size = report_size lines in
    let many : length (journal_lines lines) ≡ length lines - size = length-drop size lines in
    let is = at.index_is in
    let short : at.k < length (journal_lines lines) = omega (arith, many, less, is) in
    let place : at.k ≡ index - size = omega (arith, is) in
    record {
      before =
          subst (λ k. BeginsHistory run (take k (journal_lines lines))) place
          (begins_by run rows size (journal_lines lines) at.k why (at_index run rows lines index why rules at));
      with_it = λ begins.
          let same : map (entry_line run.design) begins.has.journal ≡ take (suc at.k) (journal_lines lines)
          ++ begins.later =
          begins.has.lines_are ∙ ap (λ k. take (suc k) (journal_lines lines) ++ begins.later) (sym place) in
          against run rows size at.k (opening_audit run) (journal_lines lines) begins.later begins.has.journal why
          (passes run begins.has.journal begins.has.state rules begins.has.history begins.has.of_design).0
          same at.verdict_is short;
    }
