use Rattle.std.proofs.Common.{◌∙◌, [], ◌∷◌, ◌++◌, List, map, sym, ap}
use Rattle.pals_base.specs.UpwardNumbers.{upwards}
use Rattle.pals_base.proofs.UpwardNumbers.{map_upwards_more}
use Rattle.pals_runs.specs.declared.replica_faults.VoteFault.{VoteFault}
use Rattle.analysis_texts.specs.ReplicasAndRoundFaults.{faults_of}
use Rattle.analysis_texts.proofs.faults_by_round.no_faults.Goals as goal

pub loop-round-preserved : goal.loop-round-preserved
loop-round-preserved c =
    c.in_ok-push.ensures.items ∙ ap (λ table. table ++ c.new.result ∷ []) c.loop-round.invariant
    ∙ ap (λ (faults : List VoteFault). map (faults_of []) (upwards 0 c.loop-round._round) ++ faults ∷ []) c.new.ensures
    ∙ sym (map_upwards_more (faults_of []) c.loop-round._round)
