use Rattle.std.proofs.Common.{◌≡◌, map, take}
use Rattle.triple_vote.specs.proof.ReplicaLayers.{opening_part}
use Rattle.triple_vote.proofs.opening.opening_frames.Given as goal

abbrev pub invariant-loop-component : goal.invariant-loop-component
invariant-loop-component l = l.parts ≡ map opening_part (take l.component-index l.component-items)
