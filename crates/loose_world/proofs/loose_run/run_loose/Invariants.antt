use Rattle.loose_world.proofs.LooseRuns.{AreDone}
use Rattle.loose_world.proofs.loose_run.run_loose.Given as goal

-- the first events have happened, without a stop
abbrev pub invariant-loop-index : goal.invariant-loop-index
invariant-loop-index l = AreDone l.fn.bus l.events l.index l.bus l.fn.sent.items l.sent.items
