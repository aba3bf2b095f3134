use Rattle.model_violations.proofs.SpellingTables.{turned, left_behind}
use Rattle.model_violations.proofs.distinct_spellings.first_spellings.Goals as goal

pub loop-name-preserved : goal.loop-name-preserved
loop-name-preserved c = record {
  left =
      turned c.args.names.now c.loop-name.first _ c.loop-name.name-index c.name-item.result c.loop-name-test.true
      c.name-item.is c.in_ok-add_first.ensures.first c.loop-name.invariant.left;
  known = c.in_ok-add_first.ensures.known;
}

pub returns : goal.returns
returns c =
    left_behind c.args.names.now c.loop-name.name-index c.loop-name.first c.loop-name-test.false
    c.loop-name.invariant.left
