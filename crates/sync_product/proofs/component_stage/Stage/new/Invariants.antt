use Rattle.std.proofs.Common.{◌≡◌, length, map, replicate, List}
use Rattle.pals_base.specs.declared.basic_types.PortValue.{PortValue}
use Rattle.sync_product.proofs.component_stage.Stage.new.Given as goal

abbrev pub invariant-loop-step : goal.invariant-loop-step
invariant-loop-step l = record {
  outs : l.outs ≡ length l.component.behaviour.outs;
  rows : map (λ (row : List PortValue). length row) l.rows ≡ replicate l._step (length l.component.behaviour.outs);
}
