-- Virtual time: each node acts once no other node waits for a smaller reading.
use Rattle.std.specs.Prelude.{◌≡◌, ◌≢◌, ◌⊎◌, ℕ, ◌<◌, ◌≤◌, true, length, Option, Some, None, option_map}
use Rattle.bus_machine.specs.Plans.{plan_of}
use Rattle.bus_machine.specs.BusStates.{node_at}
use Rattle.bus_machine.specs.ActionsAndTargets.{target, action_of}
use Rattle.pals_bus.specs.declared.meeting.Meet.{Meet}
use Rattle.pals_bus.specs.BusValues.{BusValue}
use Rattle.pals_bus.specs.declared.meeting.Meet.TheVariants as meet

-- the reading that a node waits for, or works at; `None` if it is done
abbrev pub target_in : BusValue → ℕ → Option ℕ
target_in b node = let plan = plan_of b.run.design node in
    option_map (target plan) (action_of plan (node_at b.state node))

-- no node that is not done has a lesser target
abbrev pub IsLeast : BusValue → ℕ → Type 0
IsLeast b reading =
    (other least : ℕ) → other < length b.run.design.components → target_in b other ≡ Some least → reading ≤ least

-- the run has a stop, or is closed
abbrev pub HasEnded : BusValue → Type 0
HasEnded b = (b.state.stop ≢ None) ⊎ (b.closed ≡ true)

-- another node has a lesser target
pub record IsBefore (b : BusValue) (other node : ℕ) : Type 0 where
  pub within : other < length b.run.design.components
  pub own : ℕ
  pub least : ℕ
  pub own_is : target_in b node ≡ Some own
  pub least_is : target_in b other ≡ Some least
  pub less : least < own

-- it may act at this reading: the run has no stop and is not closed, and no other node has a smaller target
pub record GoesAt (b : BusValue) (node : ℕ) (reading : Option ℕ) : Type 0 where
  pub going : HasEnded b → ⊥
  pub own : ℕ
  pub own_is : target_in b node ≡ Some own
  pub reading_is : reading ≡ Some own
  pub least : IsLeast b own

abbrev pub Meets : BusValue → ℕ → Meet → Type 0
Meets b node (meet.Go reading) = GoesAt b node (Some reading)
Meets b node (meet.Wait other) = IsBefore b other.0 node
Meets b node meet.Ended = HasEnded b
