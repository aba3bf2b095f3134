use Rattle.std.proofs.Common.{◌≡◌, length, take, map}
use Rattle.pals_base.specs.Tuples.{column}
use Rattle.sync_product.specs.proof.Rounds.{brought}
use Rattle.sync_product.proofs.round_inputs.write_inputs.Given as goal

-- the first places are written
abbrev pub invariant-loop-at : goal.invariant-loop-at
invariant-loop-at l = record {
  len : length l.inputs ≡ length l.fn.inputs;
  done : take l.at l.inputs ≡ take l.at (column l.step
      (map (brought l.round l.wired.component.now.rate) l.wired.sources.now));
}
