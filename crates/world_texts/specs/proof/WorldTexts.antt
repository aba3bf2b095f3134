-- The report on a list of timed events, event by event.
use Rattle.std.specs.Prelude.{◌≡◌, ℕ, false, List, ◌++◌}
use Rattle.pals_model.specs.RoundTexts.{text_of}
use Rattle.pals_runs.specs.declared.events_and_faults.Event.{Event}
use Rattle.bus_machine.specs.RunParameters.{Run}
use Rattle.pals_bus.specs.proof.OpeningNodes.{opening_bus}
use Rattle.run_laws.specs.Worlds.{world_run, opening_world}
use Rattle.loose_world.specs.LooseRuns.{InTurn}
use Rattle.loose_world.specs.proof.BusAfterEvents.{Undergoes}
use Rattle.timed_world.specs.declared.event_list.WorldEnd.{WorldEnd}
use Rattle.timed_world.specs.proof.WorldValuesAndMoves.{WorldValue, world_of}
use Rattle.timed_world.specs.proof.EventLists.{Leads, EndsAt}
use Rattle.world_texts.specs.declared.world_text.WorldReport.{WorldReport}
use Rattle.world_texts.specs.declared.world_text.WorldReport.TheVariants.{Whole, Refused}
use Rattle.world_texts.specs.WorldTexts.{IsFirstFault, IsToldWorld}
use Rattle.timed_world.specs.declared.event_list.WorldEnd.TheVariants as end

abbrev pub TellsWorld : Run → List Event → WorldReport → Type 0
TellsWorld run events (Whole text) = IsToldWorld run events text.items
TellsWorld run events (Refused index fault) = IsFirstFault run events index fault

-- ---- from any world on
-- a world has had no event yet
pub record IsOpening (v : WorldValue) : Type 0 where
  pub bus : v.bus ≡ opening_bus v.bus.run v.bus.codes false
  pub world : world_of v ≡ opening_world v.bus.run
  pub run : v.bus.run ≡ world_run v.bus.run.design v.bus.run.env v.bus.run.rounds

-- events lead from one world to another, and the lines of their bus's messages are appended to a text
pub record LeadsTelling (old : WorldValue) (events : List Event) (new : WorldValue)
    (before text : List ℕ) : Type 0 where
  pub leads : Leads old events new
  pub lines : List (List ℕ)
  pub undergone : InTurn Undergoes old.bus events new.bus lines
  pub told : text ≡ before ++ text_of lines

abbrev pub TellsEvents : WorldValue → List Event → WorldEnd → WorldValue → List ℕ → List ℕ → Type 0
TellsEvents old events end.All new before text = LeadsTelling old events new before text
TellsEvents old events (end.At index fault) new before text = EndsAt old events index fault new
