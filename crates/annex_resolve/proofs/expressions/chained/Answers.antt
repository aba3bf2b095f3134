use Rattle.annex_resolve.proofs.SeveralOperands.{chained_several}
use Rattle.annex_resolve.proofs.expressions.chained.Goals as goal

pub returns : goal.returns
returns c =
    chained_several c.args.first c.in_ok-first.first c.args.rest c.is_empty.result c.if-is_empty.false
    c.is_empty.ensures c.in_ok-first.ensures.ok
