-- How the parts of a run's nodes end, and the outcome of a run.
use Rattle.std.specs.Prelude.{◌≡◌, ◌≢◌, ℕ, ◌<◌, Bool, true, false, is_some, List, length, Option, Some, None, slice_get}
use Rattle.pals_clock.specs.declared.clock.Clocks.{Clocks}
use Rattle.pals_runs.specs.declared.phase.Phase.{Phase}
use Rattle.pals_runs.specs.declared.phase.Phase.TheVariants.{Waiting, Running, Between, Holding, Done}
use Rattle.bus_machine.specs.proof.AgreementLaws.{IsRunOf}
use Rattle.bus_machine.specs.BusStates.{node_at}
use Rattle.pals_bus.specs.BusValues.{BusValue}
use Rattle.run_laws.specs.Runs.{lists_in, Runs}
use Rattle.node_threads.specs.declared.node_end.NodeEnd.{NodeEnd}
use Rattle.node_threads.specs.declared.node_end.NodeNote.{NodeNote}
use Rattle.node_threads.specs.proof.SharedCourses.{CourseValue, EndsAt, note_at}
use Rattle.node_threads.specs.declared.node_end.NodeEnd.TheVariants as end
use Rattle.node_threads.specs.declared.node_end.NodeNote.TheVariants as note

-- ---- the ends of a run
-- what the end of a node's part implies for the bus and the clocks
abbrev pub EndFits : BusValue → Clocks → ℕ → NodeEnd → Type 0
EndFits b clocks node end.Finished = (node_at b.state node).phase ≡ Done
EndFits b clocks node end.Stopped = b.state.stop ≢ None
EndFits b clocks node (end.ClockEnded goal) = EndsAt b clocks node goal
EndFits b clocks node end.Closed = b.closed ≡ true
EndFits b clocks node end.Memory = Unit {0}

-- one end for each node, which fits; if one was closed, another found no memory
pub record EndsFit (b : BusValue) (clocks : Clocks) (ends : List NodeEnd) : Type 0 where
  pub many : length ends ≡ length b.run.design.components
  pub each : (node : ℕ) (e : NodeEnd) → slice_get ends node ≡ Some e → EndFits b clocks node e
  pub closed : (node : ℕ) → slice_get ends node ≡ Some end.Closed
      → (other : ℕ) × (slice_get ends other ≡ Some end.Memory)

-- the outcome of a run: the run is the given one; the clocks have reached some place in the same lists; the
-- bus is where the events of a run that keeps to them lead; and the ends fit
pub record IsOutcome (old : BusValue) (clocks : Clocks) (new : BusValue) (ends : List NodeEnd) : Type 0 where
  pub run : new.run ≡ old.run
  pub rules : IsRunOf new.run
  pub later : Clocks
  pub lists : lists_in later ≡ lists_in clocks
  pub runs : Runs new.run later new.journal new.state
  pub ends_fit : EndsFit new later ends

-- ---- the end that a course shows for a node, where its part has ended
abbrev pub closed_end : Bool → Option NodeEnd
closed_end true = Some end.Closed
closed_end false = None

abbrev pub stopped_end : Bool → Bool → Option NodeEnd
stopped_end true closed = Some end.Stopped
stopped_end false closed = closed_end closed

abbrev pub phase_end : Phase → Bool → Bool → Option NodeEnd
phase_end Waiting stopped closed = stopped_end stopped closed
phase_end (Running step) stopped closed = stopped_end stopped closed
phase_end (Between steps) stopped closed = stopped_end stopped closed
phase_end Holding stopped closed = stopped_end stopped closed
phase_end Done stopped closed = Some end.Finished

abbrev pub noted_end : NodeNote → Phase → Bool → Bool → Option NodeEnd
noted_end (note.ClockEnded goal) phase stopped closed = Some (end.ClockEnded goal)
noted_end note.Memory phase stopped closed = Some end.Memory
noted_end note.Open phase stopped closed = phase_end phase stopped closed

abbrev pub end_in : CourseValue → ℕ → Option NodeEnd
end_in c node =
    noted_end (note_at c.notes node) (node_at c.bus.state node).phase (is_some c.bus.state.stop) c.bus.closed

-- the part of each node has ended
abbrev pub AllEnded : CourseValue → Type 0
AllEnded c = (node : ℕ) → node < length c.bus.run.design.components → end_in c node ≢ None
