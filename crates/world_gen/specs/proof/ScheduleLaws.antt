-- Laws of schedules, at every run of a design.
use Rattle.std.specs.Prelude.{◌≡◌, ℕ, ◌<◌, List, length}
use Rattle.pals_model.specs.declared.design.DesignParts.{DesignParts}
use Rattle.pals_runs.specs.declared.phase.Phase.TheVariants.{Done}
use Rattle.pals_runs.specs.declared.events_and_faults.Event.{Event}
use Rattle.bus_machine.specs.BusStates.{node_at}
use Rattle.bus_machine.specs.RunParameters.{Run}
use Rattle.bus_machine.specs.proof.AgreementLaws.{IsRunOf}
use Rattle.run_laws.specs.Worlds.{opening_world}
use Rattle.run_laws.specs.EventLists.{IsWithin, world_left}
use Rattle.world_gen.specs.proof.Schedules.{AreMoments, schedule_at}

-- a schedule is within the bounds, and ends with all rounds finished and sent
pub record IsWhole (run : Run) (events : List Event) : Type 0 where
  pub within : IsWithin run (opening_world run) events
  pub done : (node : ℕ) → node < length run.design.components
      → (node_at (world_left run (opening_world run) events).bus node).phase ≡ Done

abbrev pub SchedulesAreWhole : Type 0
SchedulesAreWhole =
    (run : Run) (moments : List ℕ) → IsRunOf run → AreMoments run.design run.rounds 0 moments
    → IsWhole run (schedule_at run.design run.rounds moments)

-- it has one list of moments
abbrev pub MomentsExist : Type 0
MomentsExist = (run : Run) → IsRunOf run → (moments : List ℕ) × AreMoments run.design run.rounds 0 moments

abbrev pub MomentsAreOne : Type 0
MomentsAreOne =
    (design : DesignParts) (rounds : ℕ) (moments others : List ℕ) → AreMoments design rounds 0 moments
    → AreMoments design rounds 0 others → moments ≡ others
