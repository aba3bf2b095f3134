use Rattle.std.proofs.Common.{◌≡◌, List, length, map, take}
use Rattle.std.specs.Prelude.{Option}
use Rattle.pals_base.specs.declared.basic_types.PortValue.{PortValue}
use Rattle.pals_node.proofs.TuplesSlotsAndZips.{no_message}
use Rattle.pals_node.proofs.slots_and_input_vectors.empty_all.Given as goal

-- the first slots are empty
abbrev pub invariant-loop-at : goal.invariant-loop-at
invariant-loop-at l = record {
  len : length l.slots ≡ length l.fn.slots;
  done : take l.at l.slots ≡ take l.at (map (λ (_ : Option (List PortValue)). no_message) l.fn.slots);
}
