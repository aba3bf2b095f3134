use Rattle.pals_model.specs.Delays.{AreDelays}
use Rattle.bus_tests.proofs.checked_bus_calls.delays.Given as goal

abbrev pub invariant-loop-link : goal.invariant-loop-link
invariant-loop-link l = AreDelays l._link-index (record { lists = l.lists })
