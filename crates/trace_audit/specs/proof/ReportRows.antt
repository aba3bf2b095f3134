-- How far the rows of a report are made.
use Rattle.std.specs.Prelude.{◌≡◌, ◌≢◌, ℕ, ◌+◌, ◌/◌, ◌%◌, List, length, drop}
use Rattle.pals_model.specs.declared.design.DesignParts.{DesignParts}
use Rattle.pals_model.specs.declared.environment.Env.{Env}
use Rattle.pals_model.specs.RoundTexts.{composed_lines}
use Rattle.pals_report.specs.proof.TapPlaces.{tap_places}
use Rattle.sync_product.specs.proof.ProductStates.{state_after}
use Rattle.run_laws.specs.TraceVerdicts.{row_size}
use Rattle.trace_audit.specs.declared.audited_rows.AuditedRows.{AuditedRows}
use Rattle.trace_audit.specs.proof.RemainingRowLines.{HasLeft}

-- the composition after this many rounds, and room for a round's values
pub record AreRows (design : DesignParts) (env : Env) (r : AuditedRows) (rounds : ℕ) : Type 0 where
  pub env_is : r.env.now ≡ env
  pub product : r.product ≡ state_after design env rounds
  pub values : length r.values.items ≡ length env.lists
  pub places : r.places ≡ tap_places design.taps

-- the number of rows that contain the lines before an index
abbrev pub rows_begun : DesignParts → ℕ → ℕ
rows_begun design index = (index + length design.components + length design.taps) / row_size design

-- the lines of an index's row from the index on
abbrev pub left_at : DesignParts → Env → ℕ → List (List ℕ)
left_at design env index = drop (index % row_size design) (composed_lines design env (index / row_size design))

-- the lines before an index are taken
pub record IsAtLine (design : DesignParts) (env : Env) (r : AuditedRows) (index : ℕ) : Type 0 where
  pub rows : AreRows design env r (rows_begun design index)
  pub left : index % row_size design ≢ 0 → HasLeft r.row (left_at design env index)
