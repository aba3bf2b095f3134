use Rattle.std.proofs.Common.{sym, subst₂}
use Rattle.std.specs.Prelude.{IfOk}
use Rattle.pals_model.specs.declared.design.DesignParts.{DesignParts}
use Rattle.pals_model.specs.declared.environment.Env.{Env}
use Rattle.trace_audit.specs.proof.ReportEnds.{ReportEnds}
use Rattle.trace_audit.specs.proof.ReportRows.{IsAtLine}
use Rattle.trace_audit.proofs.report.read_report.Goals as goal

pub read_lines-requires-clause-rows : goal.read_lines-requires-clause-rows
read_lines-requires-clause-rows c =
    let rows = c.in_ok-rows.rows in
    let at = c.in_ok-rows.ensures in
    subst₂ (λ (d : DesignParts) (e : Env). IsAtLine d e rows 0) (sym c.deref.ensures) (sym at.rows.env_is) at

pub returns-clause-value : goal.returns-clause-value
returns-clause-value c =
    let at = c.in_ok-rows.ensures in
    subst₂ (λ (d : DesignParts) (e : Env). IfOk c.read_lines.result (ReportEnds d e c.args.trace.now)) c.deref.ensures
    at.rows.env_is c.read_lines.ensures.value
