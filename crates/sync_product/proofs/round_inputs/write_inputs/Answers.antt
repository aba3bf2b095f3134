use Rattle.std.proofs.Common.{◌≡◌, ◌∙◌, ◌+◌, ap, sym, length, take, map, arith}
use Rattle.std.proofs.lemmas.Grind.{common_steps}
use Rattle.list_lemmas.proofs.ListOperations.{filled_more, filled_all}
use Rattle.pals_base.specs.Tuples.{column}
use Rattle.sync_product.specs.proof.Rounds.{brought}
use Rattle.sync_product.proofs.PortColumns.{column_of_map-at, length-column_of_map}
use Rattle.sync_product.proofs.round_inputs.write_inputs.Goals as goal

pub loop-at-preserved : goal.loop-at-preserved
loop-at-preserved c =
    let at = c.loop-at.at in
    let f = brought c.args.round c.args.wired.component.now.rate in
    let sources = c.args.wired.sources.now in
    let wanted = column c.args.step (map f sources) in
    let size : length wanted ≡ length sources = length-column_of_map f sources c.args.step in
    let item =
    c.value_brought.ensures ∙ sym
    (column_of_map-at f sources c.args.step at c.value_brought.result _ c.loop-at-test.true) in
    record {
      len = grind (arith, common_steps);
      done =
          ap (take (at + 1)) c.set.ensures
          ∙ filled_more c.loop-at.inputs wanted at c.value_brought.result (omega (arith, c.requires.count))
          (omega arith) item c.loop-at.invariant.done;
    }

pub returns-clause-inputs : goal.returns-clause-inputs
returns-clause-inputs c =
    let f = brought c.args.round c.args.wired.component.now.rate in
    let sources = c.args.wired.sources.now in
    let wanted = column c.args.step (map f sources) in
    let size : length wanted ≡ length sources = length-column_of_map f sources c.args.step in
    filled_all c.loop-at.inputs wanted c.loop-at.at (omega (arith, c.requires.count)) (omega arith)
    c.loop-at.invariant.done
