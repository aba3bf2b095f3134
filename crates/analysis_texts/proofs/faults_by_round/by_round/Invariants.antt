use Rattle.std.proofs.Common.{◌≡◌, map}
use Rattle.pals_base.specs.UpwardNumbers.{upwards}
use Rattle.analysis_texts.specs.ReplicasAndRoundFaults.{faults_of}
use Rattle.analysis_texts.proofs.faults_by_round.by_round.Given as goal

-- the faults so far are at their rounds
abbrev pub invariant-loop-fault : goal.invariant-loop-fault
invariant-loop-fault l = l.table.items ≡ map (faults_of l.yielded) (upwards 0 l.fn.rounds)
