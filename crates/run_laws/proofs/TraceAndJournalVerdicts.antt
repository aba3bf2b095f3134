-- The verdict on a trace whose first lines are its design's report is the verdict on the following lines, the journal.
use Rattle.std.proofs.Common.{◌≡◌, ℕ, ◌+◌, ◌*◌, ◌/◌, Bool, true, false, not, cond, List, [], ◌∷◌, ◌++◌, length, take}
use Rattle.std.proofs.Common.{drop, All, None, refl, ap, ap₂, ◌∙◌, arith}
use Rattle.std.specs.Prelude.{is_some}
use Rattle.std.specs.List.{position_or_len}
use Rattle.std.proofs.lemmas.List.Elements.{All-head, All-tail}
use Rattle.std.proofs.lemmas.Nat.{div-mul-add}
use Rattle.list_lemmas.proofs.ListOperations.{take-append_front}
use Rattle.pals_model.specs.declared.design.DesignParts.{DesignParts}
use Rattle.pals_model.specs.declared.environment.Env.{Env}
use Rattle.pals_model.specs.RoundTexts.{report_lines}
use Rattle.pals_model.specs.DesignRules.{IsDesign}
use Rattle.bus_machine.specs.RunParameters.{Run}
use Rattle.run_laws.specs.LineForms.{form_of}
use Rattle.run_laws.specs.TraceVerdicts.{report_size, row_size, wrong_row, opening_audit, journal_verdict}
use Rattle.run_laws.specs.TraceVerdicts.{trace_verdict, verdict}
use Rattle.run_laws.proofs.ReportRows.{report_length, row_some, reports_have_rows}
use Rattle.run_laws.proofs.ReportsWithoutJournalLines.{reports_have_no_forms}

abbrev has_form : List ℕ → Bool
has_form line = is_some (form_of line)

-- the first of these lines, if there is one, has a form
abbrev pub FirstHasForm : List (List ℕ) → Type 0
FirstHasForm [] = Unit {0}
FirstHasForm (line ∷ lines) = has_form line ≡ true

past_by : (row : List ℕ) (rows lines : List (List ℕ)) (b : Bool) → has_form row ≡ b → b ≡ false
    → position_or_len has_form (rows ++ lines) ≡ length rows
    → position_or_len has_form ((row ∷ rows) ++ lines) ≡ length (row ∷ rows)
past_by row rows lines b is fails rest =
    ap (λ x. cond (not x) (1 + position_or_len has_form (rows ++ lines)) 0) (is ∙ fails)
    ∙ (let more : 1 + position_or_len has_form (rows ++ lines) ≡ length (row ∷ rows) = omega arith in more)

ends_there : (rows lines : List (List ℕ)) → All (λ row. form_of row ≡ None) rows → FirstHasForm lines
    → position_or_len has_form (rows ++ lines) ≡ length rows
ends_there [] [] none first = refl
ends_there [] (line ∷ lines) none first = ap (λ x. cond (not x) (1 + position_or_len has_form lines) 0) first
ends_there (row ∷ rows) lines none first =
    past_by row rows lines (has_form row) refl (ap is_some (All-head (λ r. form_of r ≡ None) row rows none))
    (ends_there rows lines (All-tail (λ r. form_of r ≡ None) row rows none) first)

drop_front : (xs ys : List (List ℕ)) → drop (length xs) (xs ++ ys) ≡ ys
drop_front [] ys = refl
drop_front (x ∷ xs) ys = drop_front xs ys

rows_in : (design : DesignParts) (env : Env) (rounds : ℕ)
    → length (report_lines design env rounds) / row_size design ≡ rounds
rows_in design env rounds =
    let here : length (report_lines design env rounds) ≡ rounds * row_size design + 0 = report_length design env rounds
    ∙ omega arith in
    ap (λ n. n / row_size design) here ∙ div-mul-add rounds (row_size design) 0 (row_some design)

pub behind_report : (run : Run) (rounds : ℕ) (lines : List (List ℕ)) → IsDesign run.design → FirstHasForm lines
    → let report = report_lines run.design run.env rounds in
    verdict run (report ++ lines) ≡ journal_verdict run rounds (length report) (opening_audit run) lines
behind_report run rounds lines rules first =
    let report = report_lines run.design run.env rounds in
    let size : report_size (report ++ lines) ≡ length report =
    ends_there report lines (reports_have_no_forms run.design run.env rounds rules) first in
    ap (λ n. trace_verdict run n (wrong_row run.design run.env (take n (report ++ lines))) (report ++ lines)) size
    ∙ ap (λ ls. trace_verdict run (length report) (wrong_row run.design run.env ls) (report ++ lines))
    (take-append_front report lines)
    ∙ ap (λ o. trace_verdict run (length report) o (report ++ lines)) (reports_have_rows run.design run.env rounds)
    ∙ ap₂ (λ n ls. journal_verdict run n (length report) (opening_audit run) ls) (rows_in run.design run.env rounds)
    (drop_front report lines)
