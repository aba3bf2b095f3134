use Rattle.std.proofs.Common.{◌≡◌, [], map}
use Rattle.pals_base.specs.UpwardNumbers.{upwards}
use Rattle.analysis_texts.specs.ReplicasAndRoundFaults.{faults_of}
use Rattle.analysis_texts.proofs.faults_by_round.no_faults.Given as goal

-- a list for each round so far
abbrev pub invariant-loop-round : goal.invariant-loop-round
invariant-loop-round l = l.table.items ≡ map (faults_of []) (upwards 0 l._round)
