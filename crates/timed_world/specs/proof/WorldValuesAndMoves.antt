-- The model of a world: a bus, the time, the readings, and the times of the last changes.
use Rattle.std.specs.Prelude.{◌≡◌, ℕ, ◌≤◌, false, List, [], map, Option, Some, None}
use Rattle.pals_base.specs.declared.limits.TheConstants.{ROUNDS}
use Rattle.pals_model.specs.declared.design.Component.{Component}
use Rattle.pals_model.specs.declared.design.DesignParts.{DesignParts}
use Rattle.pals_model.specs.declared.environment.Env.{Env}
use Rattle.step_code.specs.declared.instr.CodeParts.{CodeParts}
use Rattle.pals_runs.specs.declared.events_and_faults.Event.{Event}
use Rattle.bus_machine.specs.Machine.{BusEvent}
use Rattle.bus_machine.specs.proof.AgreementLaws.{IsRunOf}
use Rattle.pals_bus.specs.BusValues.{BusValue, Happens}
use Rattle.pals_bus.specs.proof.OpeningNodes.{opening_bus}
use Rattle.run_laws.specs.Worlds.{World, world_run, zeros, bus_event, world_after}
use Rattle.run_laws.specs.proof.WorldInvariant.{KeepsTime}

-- the times of nodes in order, as in the definition of worlds
pub record WorldValue : Type 0 where
  pub bus : BusValue
  pub time : ℕ
  pub readings : List ℕ
  pub since : List ℕ
  pub ready : List ℕ
  pub sent_at : List (List ℕ)

-- the world that it is
abbrev pub world_of : WorldValue → World
world_of v =
    record {
      bus = v.bus.state;
      time = v.time;
      readings = v.readings;
      since = v.since;
      ready = v.ready;
      sent_at = v.sent_at;
    }

-- before the first event; its nodes do not meet
abbrev pub opening_value : DesignParts → List CodeParts → Env → ℕ → WorldValue
opening_value design codes env rounds = record {
  bus = opening_bus (world_run design env rounds) codes false;
  time = 0;
  readings = zeros design;
  since = zeros design;
  ready = zeros design;
  sent_at = map (λ (_ : Component). []) design.components;
}

-- the invariant of worlds: its run belongs to a design, its nodes have clocks of their own, the run has no stop, and
-- its times are within the bounds
pub record KeepsWorld (v : WorldValue) : Type 0 where
  pub rules : IsRunOf v.bus.run
  pub few : v.bus.run.rounds ≤ ROUNDS
  pub apart : v.bus.meeting ≡ false
  pub keeps : KeepsTime v.bus.run (world_of v)

-- ---- an event
-- the bus makes the event of the world, where it is one of the bus
abbrev pub BusMoves : BusValue → Option BusEvent → BusValue → Type 0
BusMoves old None new = new ≡ old
BusMoves old (Some what) new = Happens old what new

-- an event happened: the world is the one after it, and the bus made the event
pub record Moves (old : WorldValue) (e : Event) (new : WorldValue) : Type 0 where
  pub world : world_of new ≡ world_after old.bus.run (world_of old) e
  pub bus : BusMoves old.bus (bus_event (world_of old) e) new.bus
