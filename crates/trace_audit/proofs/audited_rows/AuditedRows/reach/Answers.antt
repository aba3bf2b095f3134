use Rattle.std.proofs.Common.{◌≡◌, ◌/◌, ◌%◌, sym, ap, ◌∙◌, subst}
use Rattle.run_laws.specs.TraceVerdicts.{row_size}
use Rattle.trace_audit.specs.proof.ReportRows.{AreRows}
use Rattle.trace_audit.proofs.ReportLinePositions.{begun_first, begun_later}
use Rattle.trace_audit.proofs.audited_rows.AuditedRows.reach.Goals as goal

pub make_row-requires : goal.make_row-requires
make_row-requires c =
    let old = c.args.self.now in
    let design = old.product.design in
    let index = c.args.index in
    let size : c.row_size-size.result ≡ row_size design = c.row_size-size.ensures.value
    ∙ ap row_size c.design.ensures in
    let none = ap (λ k. index % k) (sym size) ∙ c.if-index-size-eq0.true in
    subst (AreRows design old.env.now old) (begun_first design index none ∙ ap (λ k. index / k) (sym size))
    c.requires.at.rows

pub returns-else-index-size-eq0-clause-rows : goal.returns-else-index-size-eq0-clause-rows
returns-else-index-size-eq0-clause-rows c =
    let old = c.args.self.now in
    let design = old.product.design in
    let index = c.args.index in
    let size : c.row_size-size.result ≡ row_size design = c.row_size-size.ensures.value
    ∙ ap row_size c.design.ensures in
    subst (AreRows design old.env.now old)
    (begun_later design index (λ none. c.if-index-size-eq0.false (ap (λ k. index % k) size ∙ none)))
    c.requires.at.rows
