use Rattle.std.proofs.Common.{◌≡◌, ◌<◌, length, take, All}
use Rattle.pals_base.specs.Tuples.{with_places}
use Rattle.pals_node.proofs.written_tuples.write_places.Given as goal

-- the first tuples have their places
abbrev pub invariant-loop-port : goal.invariant-loop-port
invariant-loop-port l = record {
  len : length l.tuples ≡ length l.values;
  within : All (λ tuple. l.at < length tuple) l.tuples;
  done : l.tuples ≡ with_places l.at (take l.port l.values) l.fn.tuples;
}
