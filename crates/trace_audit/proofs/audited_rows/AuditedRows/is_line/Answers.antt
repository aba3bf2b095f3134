use Rattle.std.proofs.Common.{sym, ap, ◌∙◌, subst}
use Rattle.sync_product.specs.proof.ProductStates.{state_after}
use Rattle.run_laws.specs.TraceVerdicts.{line_at}
use Rattle.trace_audit.specs.proof.RemainingRowLines.{HasLeft}
use Rattle.trace_audit.proofs.ReportLinePositions.{begun_after, left_behind, left_is, left_next, line_is_one}
use Rattle.trace_audit.proofs.audited_rows.AuditedRows.is_line.Goals as goal

pub returns-clause-same : goal.returns-clause-same
returns-clause-same c =
    let design = c.args.self.now.product.design in
    let env = c.args.self.now.env.now in
    let index = c.args.index in
    let left = subst (HasLeft c.reach.new.self.row) (left_is design env index) c.in_ok-reach.ensures.left in
    c.take_line.ensures.same (line_at design env index) (left_behind design env index) left
    (line_is_one design env index c.in_ok-reach.ensures.rules)

pub returns-clause-next : goal.returns-clause-next
returns-clause-next c =
    let design = c.args.self.now.product.design in
    let env = c.args.self.now.env.now in
    let index = c.args.index in
    let left = subst (HasLeft c.reach.new.self.row) (left_is design env index) c.in_ok-reach.ensures.left in
    let rows = c.in_ok-reach.ensures.rows in
    record {
      rows = record {
        env_is = rows.env_is;
        product = rows.product ∙ ap (state_after design env) (sym (begun_after design index));
        values = rows.values;
        places = rows.places;
      };
      left = λ some. subst (HasLeft c.take_line.new.self) (sym (left_next design env index some))
          (c.take_line.ensures.left (line_at design env index) (left_behind design env index) left
          (line_is_one design env index c.in_ok-reach.ensures.rules));
    }
