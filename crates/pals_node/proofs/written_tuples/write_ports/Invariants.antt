use Rattle.std.proofs.Common.{◌≡◌, length, map, take, All, [], slice_index_or}
use Rattle.pals_base.specs.Tuples.{cut}
use Rattle.pals_node.proofs.written_tuples.write_ports.Given as goal

-- the first tuples are written
abbrev pub invariant-loop-at : goal.invariant-loop-at
invariant-loop-at l = record {
  len : length l.to ≡ length l.ports;
  places_are : All (λ tuple. length tuple ≡ l.places) l.to;
  done : take l.at l.to ≡ take l.at (map (λ port. cut l.count (slice_index_or l.from port [])) l.ports);
}
