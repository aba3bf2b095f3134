use Rattle.std.proofs.Common.{◌≡◌, ◌++◌, length, take, drop, sym, ap, ◌∙◌, arith}
use Rattle.list_lemmas.proofs.ListOperations.{take-written_whole}
use Rattle.list_lemmas.proofs.Results.{OnOk-weaker}
use Rattle.pals_model.specs.declared.design.DesignParts.{DesignParts}
use Rattle.pals_model.specs.ComponentInputs.{values_at}
use Rattle.pals_model.specs.RoundTexts.{composed_lines, row}
use Rattle.pals_model.proofs.ShapeLaws.{length-values_at}
use Rattle.sync_product.specs.proof.ProductStates.{ProductState}
use Rattle.trace_audit.specs.declared.row_text.RowText.{RowText}
use Rattle.trace_audit.specs.proof.RemainingRowLines.{HasLeft}
use Rattle.trace_audit.proofs.ReportRows.{parts_made}
use Rattle.trace_audit.proofs.audited_rows.AuditedRows.make_row.Goals as goal

pub returns-clause-row : goal.returns-clause-row
returns-clause-row c =
    let old = c.args.self.now in
    let design = old.product.design in
    let env = old.env.now in
    let round = c.args.round in
    let written = c.write_values.new.values in
    let wide : length written ≡ length env.lists = ap length c.write_values.ensures ∙ length-values_at env round in
    let whole : take old.values.len (written ++ drop (length written) old.values.items) ≡ written =
    take-written_whole old.values.len written old.values.items (omega arith) (wide ∙ sym c.requires.values) in
    let here : c.as_slice.result.now ≡ values_at env round = c.as_slice.ensures.value ∙ whole
    ∙ c.write_values.ensures in
    let shown : c.design.result.now ≡ design = c.design.ensures
    ∙ ap (λ (s : ProductState). s.design) c.in_ok-advance.ensures.ok in
    let made =
    c.add_row.ensures.composed env
    (parts_made design c.design.result.now env round old.product c.advance.new.self c.as_slice.result.now
    c.parts.result.now c.requires.product here c.in_ok-advance.ensures.ok c.parts.ensures shown) in
    let text : RowText = record { text = c.add_row.new.out; place = 0 } in
    OnOk-weaker c.add_row.result (c.add_row.new.out.items ≡ c.clear.new.self.items ++ row c.design.result.now env round)
    (HasLeft text (composed_lines design env round))
    (λ is. record {
      within = omega arith;
      text =
          is ∙ ap (λ before. before ++ row c.design.result.now env round) c.clear.ensures.items
          ∙ ap (λ (d : DesignParts). row d env round) shown;
    }) made
