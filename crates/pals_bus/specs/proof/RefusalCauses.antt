-- That an error of a bus is a refusal, with a cause of some kind.
use Rattle.pals_bus.specs.declared.bus_error.BusError.{BusError}
use Rattle.pals_bus.specs.declared.bus_error.BusError.TheVariants.{Stopped, Refused}

-- the run has no stop, and the event is refused for a reason of this kind
abbrev pub IsRefusedBy : {E : Type 0} → (E → Type 0) → BusError E → Type 0
IsRefusedBy Causes (Stopped why) = ⊥
IsRefusedBy Causes (Refused cause) = Causes cause
