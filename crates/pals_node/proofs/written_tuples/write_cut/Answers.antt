use Rattle.std.proofs.Common.{◌≡◌, ◌∙◌, ◌+◌, ap, length, take, arith}
use Rattle.std.proofs.lemmas.Grind.{common_steps}
use Rattle.list_lemmas.proofs.ListOperations.{filled_more, filled_all}
use Rattle.pals_base.specs.Tuples.{cut}
use Rattle.pals_base.proofs.ColumnsAndCutTuples.{length-cut}
use Rattle.pals_node.proofs.TuplesSlotsAndZips.{cut_place}
use Rattle.pals_node.proofs.written_tuples.write_cut.Goals as goal

pub loop-at-preserved : goal.loop-at-preserved
loop-at-preserved c =
    let at = c.loop-at.at in
    let from = c.args.from.now in
    let wanted = cut c.args.count from in
    let size : length wanted ≡ length from = length-cut c.args.count from in
    let item = c.value_if_before.ensures ∙ cut_place c.args.count at from c.value_if_before.result c.loop-at-test.true
    in
    record {
      len = grind (arith, common_steps);
      done =
          ap (take (at + 1)) c.set.ensures
          ∙ filled_more c.loop-at.to wanted at c.value_if_before.result (omega arith) (omega arith) item
          c.loop-at.invariant.done;
    }

pub returns : goal.returns
returns c =
    let wanted = cut c.args.count c.args.from.now in
    let size : length wanted ≡ length c.args.from.now = length-cut c.args.count c.args.from.now in
    filled_all c.loop-at.to wanted c.loop-at.at (omega arith) (omega arith) c.loop-at.invariant.done
