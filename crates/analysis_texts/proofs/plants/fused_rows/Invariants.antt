use Rattle.std.proofs.Common.{◌≡◌, length}
use Rattle.analysis_texts.proofs.FusedRows.{HasRows}
use Rattle.analysis_texts.proofs.plants.fused_rows.Given as goal

-- the product is at the round, the text has the rows before it, and there is a value for each root in port
abbrev pub invariant-loop-round : goal.invariant-loop-round
invariant-loop-round l = record {
  rows : HasRows l.fn.product.design l.fn.product.pairs l.env l.round l.product l.text.items;
  values : length l.values.items ≡ length l.env.lists;
}
