use Rattle.std.proofs.Common.{◌≡◌, ◌∙◌, ◌+◌, nat_lt, ap, length, take, arith}
use Rattle.std.proofs.lemmas.Grind.{common_steps}
use Rattle.list_lemmas.proofs.ListOperations.{filled_more, filled_all}
use Rattle.pals_base.specs.Tuples.{column, cut}
use Rattle.pals_base.proofs.ColumnsAndCutTuples.{length-cut}
use Rattle.sync_product.specs.proof.Rounds.{value_if_before}
use Rattle.sync_product.proofs.PortColumns.{cut_column-at, length-column}
use Rattle.sync_product.proofs.tuple_columns.write_port_tuple.Goals as goal

pub loop-at-preserved : goal.loop-at-preserved
loop-at-preserved c =
    let at = c.loop-at.at in
    let count = c.args.count in
    let port = c.args.port in
    let rows = c.args.rows.now in
    let wanted = cut count (column port rows) in
    let size : length wanted ≡ length rows = length-cut count (column port rows) ∙ length-column rows port in
    let item =
    c.value_if_before.ensures
    ∙ ap (λ r. value_if_before (nat_lt at count) port r) c.as_slice.ensures.value
    ∙ cut_column-at rows port count at c.index-rows-at.result c.value_if_before.result c.loop-at-test.true
    c.index-rows-at.is in
    record {
      len = grind (arith, common_steps);
      done =
          ap (take (at + 1)) c.set.ensures
          ∙ filled_more c.loop-at.to wanted at c.value_if_before.result (omega arith) (omega arith) item
          c.loop-at.invariant.done;
    }

pub returns : goal.returns
returns c =
    let rows = c.args.rows.now in
    let wanted = cut c.args.count (column c.args.port rows) in
    let size : length wanted ≡ length rows = length-cut c.args.count (column c.args.port rows)
    ∙ length-column rows c.args.port in
    filled_all c.loop-at.to wanted c.loop-at.at (omega arith) (omega arith) c.loop-at.invariant.done
