-- What a wrong trace means, at a line and at its end.
use Rattle.std.proofs.Common.{◌≡◌, ◌≢◌, ℕ, ◌/◌, ◌≤◌, not, List, length, take, drop, Option, Some, None, refl, sym, ap}
use Rattle.std.proofs.Common.{subst}
use Rattle.std.specs.Prelude.{is_some}
use Rattle.std.proofs.lemmas.List.Sums.{prefix_len-le-length}
use Rattle.pals_runs.specs.declared.verdicts.TraceRule.{TraceRule}
use Rattle.pals_runs.specs.declared.verdicts.Verdict.TheVariants.{Wrong}
use Rattle.bus_machine.specs.RunParameters.{Run}
use Rattle.bus_machine.specs.proof.AgreementLaws.{IsRunOf}
use Rattle.run_laws.specs.LineForms.{form_of}
use Rattle.run_laws.specs.TraceVerdicts.{opening_audit, report_size, row_size, wrong_row, trace_verdict, verdict}
use Rattle.trace_laws.specs.WrongLines.{BeginsReport, LacksStop, GoesOn, CountsOthers, IsWrongBy}
use Rattle.trace_laws.proofs.WrongJournalLines.{IsInJournal, in_journal, first_wrong}
use Rattle.trace_laws.proofs.WrongEnds.{no_row, at_end, unfinished_goes_on, counts_others}
use Rattle.trace_laws.proofs.OwedStops.{has_before, lacks_stop}
use Rattle.trace_laws.proofs.WrongRows.{begins_report}
use Rattle.trace_laws.proofs.PrefixVerdicts.{no_trace_begins}
use Rattle.pals_runs.specs.declared.verdicts.TraceRule.TheVariants as rule

abbrev rows_in : Run → List (List ℕ) → ℕ
rows_in run lines = report_size lines / row_size run.design

-- a rule that is not the report's is broken in the journal
journal_by : (run : Run) (lines : List (List ℕ)) (index : ℕ) (why : TraceRule) (o : Option ℕ)
    → trace_verdict run (report_size lines) o lines ≡ Wrong index why → why ≢ rule.Row
    → IsInJournal run (rows_in run lines) lines index why
journal_by run lines index why (Some at) wrong other =
    absurd (other (let same : rule.Row ≡ why = cc in sym same))
journal_by run lines index why None wrong other = in_journal run (rows_in run lines) lines index why wrong

is_in_journal : (run : Run) (lines : List (List ℕ)) (index : ℕ) (why : TraceRule) → verdict run lines ≡ Wrong index why
    → why ≢ rule.Row → IsInJournal run (rows_in run lines) lines index why
is_in_journal run lines index why wrong other =
    journal_by run lines index why (wrong_row run.design run.env (take (report_size lines) lines)) wrong other

report_within : (lines : List (List ℕ)) → report_size lines ≤ length lines
report_within lines = prefix_len-le-length (λ line. not (is_some (form_of line))) lines

unfinished_is_end : (run : Run) (lines : List (List ℕ)) (index : ℕ) → IsRunOf run
    → verdict run lines ≡ Wrong index rule.Unfinished → (index ≡ length lines) × GoesOn run lines
unfinished_is_end run lines index rules wrong =
    let at = is_in_journal run lines index rule.Unfinished wrong (λ same. absurd (cc)) in (
      at_end run (rows_in run lines) lines index rule.Unfinished rules.design refl (report_within lines) at,
      unfinished_goes_on run (rows_in run lines) lines index rules at,
    )

count_is_end : (run : Run) (lines : List (List ℕ)) (index : ℕ) → IsRunOf run
    → verdict run lines ≡ Wrong index rule.Count → (index ≡ length lines) × CountsOthers run lines
count_is_end run lines index rules wrong =
    let at = is_in_journal run lines index rule.Count wrong (λ same. absurd (cc)) in (
      at_end run (rows_in run lines) lines index rule.Count rules.design refl (report_within lines) at,
      counts_others run lines index rules at,
    )

stop_is_missing : (run : Run) (lines : List (List ℕ)) (index : ℕ) → IsRunOf run → index ≡ length lines
    → verdict run lines ≡ Wrong index rule.Stop → LacksStop run lines
stop_is_missing run lines index rules last wrong =
    lacks_stop run (rows_in run lines) lines index rules.design last (report_within lines)
    (is_in_journal run lines index rule.Stop wrong (λ same. absurd (cc)))

-- the rule of rows is broken in the report
row_at : (run : Run) (lines : List (List ℕ)) (index : ℕ) (o : Option ℕ)
    → trace_verdict run (report_size lines) o lines ≡ Wrong index rule.Row → o ≡ Some index
row_at run lines index (Some at) wrong = let same : at ≡ index = cc in ap Some same
row_at run lines index None wrong =
    absurd (no_row run (rows_in run lines) (report_size lines) index (opening_audit run)
    (drop (report_size lines) lines)
    wrong)

row_begins : (run : Run) (lines : List (List ℕ)) (index : ℕ) → verdict run lines ≡ Wrong index rule.Row
    → BeginsReport run (take index lines)
row_begins run lines index wrong =
    begins_report run lines index
    (row_at run lines index (wrong_row run.design run.env (take (report_size lines) lines)) wrong) (report_within lines)

pub wrong_lines_have_a_cause : (run : Run) (lines : List (List ℕ)) (index : ℕ) (why : TraceRule) → IsRunOf run
    → verdict run lines ≡ Wrong index why → IsWrongBy run lines index why
wrong_lines_have_a_cause run lines index why rules wrong = record {
  row = λ is. row_begins run lines index (subst (λ r. verdict run lines ≡ Wrong index r) is wrong);
  before = λ events less.
      has_before run (rows_in run lines) lines index why rules.design events
      (is_in_journal run lines index why wrong events.0) less;
  stop = λ is last.
      stop_is_missing run lines index rules last (subst (λ r. verdict run lines ≡ Wrong index r) is wrong);
  journal = λ other less.
      first_wrong run (rows_in run lines) lines index why rules.design (is_in_journal run lines index why wrong other)
      less;
  line = λ less. no_trace_begins run lines index why rules less wrong;
  unfinished = λ is.
      unfinished_is_end run lines index rules (subst (λ r. verdict run lines ≡ Wrong index r) is wrong);
  count = λ is. count_is_end run lines index rules (subst (λ r. verdict run lines ≡ Wrong index r) is wrong);
}
