use Rattle.std.proofs.Common.{◌≡◌, length, take, map, List}
use Rattle.pals_base.specs.declared.basic_types.PortValue.{PortValue}
use Rattle.pals_base.specs.Tuples.{column}
use Rattle.sync_product.proofs.component_stage.write_taps.Given as goal

-- the first tuples are written, and the lengths stay
abbrev pub invariant-loop-at : goal.invariant-loop-at
invariant-loop-at l = record {
  sizes : map (λ (tuple : List PortValue). length tuple) l.outs
      ≡ map (λ (tuple : List PortValue). length tuple) l.fn.outs;
  done : take l.at l.outs ≡ take l.at (map (λ port. column port l.rows) l.taps);
}
