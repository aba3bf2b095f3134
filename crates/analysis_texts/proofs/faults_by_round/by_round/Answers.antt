use Rattle.std.proofs.Common.{◌∙◌}
use Rattle.analysis_texts.proofs.RoundFaultTables.{filed_more}
use Rattle.analysis_texts.proofs.faults_by_round.by_round.Goals as goal

pub loop-fault-preserved : goal.loop-fault-preserved
loop-fault-preserved c =
    c.in_ok-add_round_fault.ensures
    ∙ filed_more c.loop-fault.yielded c.in-Some.fault c.args.rounds c.loop-fault.table.items c.loop-fault.invariant
