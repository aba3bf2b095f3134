use Rattle.std.proofs.Common.{◌≡◌, List, length, map, take}
use Rattle.pals_base.specs.declared.basic_types.PortValue.{PortValue}
use Rattle.pals_model.proofs.part.Part.copy_from.Given as goal

-- the frame and the first tuples are the other's, and the lengths stay
abbrev pub invariant-loop-at : goal.invariant-loop-at
invariant-loop-at l = record {
  frame : l.self.frame ≡ l.other.frame;
  sizes : map (λ (tuple : List PortValue). length tuple) l.self.outs
      ≡ map (λ (tuple : List PortValue). length tuple) l.other.outs;
  copied : take l.at l.self.outs ≡ take l.at l.other.outs;
}
