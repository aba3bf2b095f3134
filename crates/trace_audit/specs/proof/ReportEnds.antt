-- How the report of a trace ends.
use Rattle.std.specs.Prelude.{◌≡◌, ℕ, ◌%◌, nat_eq, if◌then◌else◌, List, take, Some, None}
use Rattle.pals_model.specs.declared.design.DesignParts.{DesignParts}
use Rattle.pals_model.specs.declared.environment.Env.{Env}
use Rattle.run_laws.specs.TraceVerdicts.{report_size, wrong_row}
use Rattle.trace_audit.specs.declared.report.ReportEnd.{ReportEnd}
use Rattle.trace_audit.specs.declared.report.ReportEnd.TheVariants.{Whole, Wrong}

-- it is whole and the composition's, or has a first wrong line
abbrev pub ReportEnds : DesignParts → Env → List (List ℕ) → ReportEnd → Type 0
ReportEnds design env lines (Whole size) =
    (size ≡ report_size lines) × (wrong_row design env (take size lines) ≡ None)
ReportEnds design env lines (Wrong index) = wrong_row design env (take (report_size lines) lines) ≡ Some index

-- at this index, where all lines before it are the composition's
abbrev pub end_at : ℕ → ℕ → ReportEnd
end_at index size = if nat_eq (index % size) 0 then Whole index else Wrong index

abbrev pub index_of : ReportEnd → ℕ
index_of (Whole size) = size
index_of (Wrong index) = index
