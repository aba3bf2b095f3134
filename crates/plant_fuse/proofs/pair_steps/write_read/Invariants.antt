use Rattle.std.proofs.Common.{◌≡◌, length, take}
use Rattle.std.specs.Option.{option_copied}
use Rattle.plant_fuse.specs.proof.PairSteps.{member_of_pair, side_vector}
use Rattle.plant_fuse.proofs.pair_steps.write_read.Given as goal

-- the first places are written
abbrev pub invariant-loop-at : goal.invariant-loop-at
invariant-loop-at l = record {
  len : length l.inputs ≡ length l.fn.inputs;
  done : take l.at l.inputs ≡ take l.at (side_vector l.round (member_of_pair l.side) l.step (option_copied l.last));
}
