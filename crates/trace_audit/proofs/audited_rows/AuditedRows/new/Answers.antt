use Rattle.std.proofs.Common.{◌≡◌, length, refl, sym, ap, ◌∙◌, rules}
use Rattle.std.specs.Arc.{arc_value}
use Rattle.pals_model.specs.declared.design.DesignParts.{DesignParts}
use Rattle.pals_report.specs.proof.TapPlaces.{tap_places}
use Rattle.sync_product.specs.proof.ProductStates.{begun, state_after}
use Rattle.trace_audit.proofs.ReportLinePositions.{first_place, none_begun}
use Rattle.trace_audit.proofs.audited_rows.AuditedRows.new.Goals as goal

pub returns : goal.returns
returns c =
    let design = arc_value c.args.design.now in
    let env = c.args.env.now in
    let clone : arc_value c.in_ok-try_clone.field-0 ≡ design = search rules in
    let values : length c.in_ok-values.values.items ≡ length env.lists = search rules in
    record {
      rows = record {
        env_is = refl;
        product = c.in_ok-product.ensures ∙ ap begun clone ∙ ap (state_after design env) (sym (none_begun design));
        values = values;
        places = c.in_ok-places.ensures ∙ ap (λ (d : DesignParts). tap_places d.taps) c.deref.ensures;
      };
      left = λ some. absurd (some (first_place design));
    }
