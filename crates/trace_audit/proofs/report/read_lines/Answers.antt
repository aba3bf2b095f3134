use Rattle.std.proofs.Common.{◌≡◌, ◌+◌, ◌≤◌, true, false, length, sym, ap, ap₂, ◌∙◌, subst₂, arith, rules, tests}
use Rattle.std.specs.Prelude.{bytes_eq, is_some}
use Rattle.pals_model.specs.declared.design.DesignParts.{DesignParts}
use Rattle.pals_model.specs.declared.environment.Env.{Env}
use Rattle.run_laws.specs.LineForms.{form_of}
use Rattle.run_laws.specs.TraceVerdicts.{line_at, row_size}
use Rattle.trace_audit.specs.declared.report.ReportEnd.TheVariants.{Wrong}
use Rattle.trace_audit.specs.proof.ReportEnds.{end_at, index_of}
use Rattle.trace_audit.specs.proof.ReportRows.{IsAtLine}
use Rattle.trace_audit.proofs.ReportRows.{own_design}
use Rattle.trace_audit.proofs.ReportEnds.{at_end, at_form, at_other, at_same, index_of_end, report_ends}
use Rattle.trace_audit.proofs.report.read_lines.Goals as goal

pub returns-then-has_form-clause-value : goal.returns-then-has_form-clause-value
returns-then-has_form-clause-value c =
    let design = c.args.design.now in
    let size : c.row_size-size.result ≡ row_size design = c.row_size-size.ensures.value in
    let form : is_some (form_of c.index-trace-index.result) ≡ true =
    sym (c.has_form.ensures ∙ ap (λ l. is_some (form_of l)) c.as_str.ensures) ∙ c.if-has_form.true in
    report_ends design c.args.rows.now.env.now c.args.trace.now c.end_at.result
    (c.end_at.ensures ∙ ap (end_at c.loop-index.index) size
    ∙ at_form design c.args.rows.now.env.now c.args.trace.now c.loop-index.index c.index-trace-index.result
    c.loop-index-test.true c.index-trace-index.is form c.loop-index.invariant.ends)

pub returns-then-has_form-clause-within : goal.returns-then-has_form-clause-within
returns-then-has_form-clause-within c =
    let end = ap index_of c.end_at.ensures ∙ index_of_end c.loop-index.index c.row_size-size.result in
    let before = c.loop-index-test.true in
    omega (arith, end, before)

pub is_line-requires-clause-at : goal.is_line-requires-clause-at
is_line-requires-clause-at c =
    let rows = c.loop-index.rows in
    let at = c.loop-index.invariant.rows in
    let own = own_design c.args.design.now c.args.rows.now.env.now rows _ at.rows in
    subst₂ (λ (d : DesignParts) (e : Env). IsAtLine d e rows c.loop-index.index) (sym own) (sym at.rows.env_is) at

pub returns-then-not-branch-clause-value : goal.returns-then-not-branch-clause-value
returns-then-not-branch-clause-value c =
    let design = c.args.design.now in
    let at = c.loop-index.invariant.rows in
    let line = c.index-trace-index.result in
    let own = own_design design c.args.rows.now.env.now c.loop-index.rows _ at.rows in
    let none : c.in_ok-is_line.field-0 ≡ false = search (rules, tests) in
    let form : is_some (form_of line) ≡ false =
    sym (c.has_form.ensures ∙ ap (λ l. is_some (form_of l)) c.as_str.ensures) ∙ c.if-has_form.false in
    let same : bytes_eq line (line_at design c.args.rows.now.env.now c.loop-index.index) ≡ false =
    sym (c.in_ok-is_line.ensures.same
    ∙ ap (λ l. bytes_eq l (line_at c.loop-index.rows.product.design c.loop-index.rows.env.now c.loop-index.index))
    c.as_bytes.ensures.value
    ∙ ap₂ (λ (d : DesignParts) (e : Env). bytes_eq line (line_at d e c.loop-index.index)) own at.rows.env_is) ∙ none in
    report_ends design c.args.rows.now.env.now c.args.trace.now (Wrong c.loop-index.index)
    (at_other design c.args.rows.now.env.now c.args.trace.now c.loop-index.index line c.loop-index-test.true
    c.index-trace-index.is form same c.loop-index.invariant.ends)

pub loop-index-preserved : goal.loop-index-preserved
loop-index-preserved c =
    let design = c.args.design.now in
    let at = c.loop-index.invariant.rows in
    let line = c.index-trace-index.result in
    let own = own_design design c.args.rows.now.env.now c.loop-index.rows _ at.rows in
    let one : c.in_ok-is_line.field-0 ≡ true = search (rules, tests) in
    let form : is_some (form_of line) ≡ false =
    sym (c.has_form.ensures ∙ ap (λ l. is_some (form_of l)) c.as_str.ensures) ∙ c.if-has_form.false in
    let same : bytes_eq line (line_at design c.args.rows.now.env.now c.loop-index.index) ≡ true =
    sym (c.in_ok-is_line.ensures.same
    ∙ ap (λ l. bytes_eq l (line_at c.loop-index.rows.product.design c.loop-index.rows.env.now c.loop-index.index))
    c.as_bytes.ensures.value
    ∙ ap₂ (λ (d : DesignParts) (e : Env). bytes_eq line (line_at d e c.loop-index.index)) own at.rows.env_is) ∙ one in
    record {
      rows =
          subst₂ (λ (d : DesignParts) (e : Env). IsAtLine d e c.is_line.new.self (c.loop-index.index + 1)) own
          at.rows.env_is c.in_ok-is_line.ensures.next;
      ends =
          at_same design c.args.rows.now.env.now c.args.trace.now c.loop-index.index line c.loop-index-test.true
          c.index-trace-index.is form same c.loop-index.invariant.ends;
    }

pub returns-clause-value : goal.returns-clause-value
returns-clause-value c =
    let design = c.args.design.now in
    let size : c.row_size-size.result ≡ row_size design = c.row_size-size.ensures.value in
    let past : length c.args.trace.now ≤ c.loop-index.index = omega arith in
    let end : length c.args.trace.now ≡ c.loop-index.index = omega arith in
    report_ends design c.args.rows.now.env.now c.args.trace.now c.end_at-2.result
    (c.end_at-2.ensures ∙ ap₂ end_at end size
    ∙ at_end design c.args.rows.now.env.now c.args.trace.now c.loop-index.index past c.loop-index.invariant.ends)
