-- The law that a stop shows which bound was not kept.
use Rattle.std.specs.Prelude.{IfSome}
use Rattle.run_laws.specs.proof.RunQuantifiers.{InRuns}
use Rattle.run_laws.specs.BoundsBrokenAtStops.{BoundedStop}

abbrev pub StopsAreBounded : Type 0
StopsAreBounded = InRuns (λ run clocks journal s. IfSome s.stop (BoundedStop run journal))
