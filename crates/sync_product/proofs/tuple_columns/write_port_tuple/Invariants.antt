use Rattle.std.proofs.Common.{◌≡◌, length, take}
use Rattle.pals_base.specs.Tuples.{column, cut}
use Rattle.sync_product.proofs.tuple_columns.write_port_tuple.Given as goal

-- the first places are written
abbrev pub invariant-loop-at : goal.invariant-loop-at
invariant-loop-at l = record {
  len : length l.to ≡ length l.rows;
  done : take l.at l.to ≡ take l.at (cut l.count (column l.port l.rows));
}
