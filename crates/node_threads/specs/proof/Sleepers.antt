-- Who sleeps until the course of a run advances, and who has to be woken once the lock is free.
use Rattle.std.specs.Prelude.{◌≡◌, ◌⊎◌, ℕ, ◌<◌, ◌&&◌, Bool, true, false, List, length, replicate, Option, Some, None}
use Rattle.std.specs.Prelude.{slice_index_or, slice_set}
use Rattle.pals_base.specs.declared.limits.TheConstants.{COMPONENTS}
use Rattle.pals_runs.specs.declared.phase.Phase.TheVariants.{Waiting}
use Rattle.bus_machine.specs.BusStates.{BusState, node_at}
use Rattle.bus_machine.specs.RunParameters.{Run}
use Rattle.run_laws.specs.Runs.{target_of}
use Rattle.node_threads.specs.declared.wake_list.WakeList.{WakeList}
use Rattle.node_threads.specs.declared.wake_list.Sleeper.{Sleeper}
use Rattle.node_threads.specs.declared.sleepers.ThreadSlot.{ThreadSlot}
use Rattle.node_threads.specs.declared.sleepers.Sleepers.{Sleepers}
use Rattle.node_threads.specs.proof.SharedCourses.{CourseValue, IsOpen}
use Rattle.node_threads.specs.declared.wake_list.Sleeper.TheVariants as sleeper

-- nobody is to be woken
abbrev pub no_wakes : WakeList
no_wakes = record { any = false; nodes = replicate COMPONENTS false; caller = false }

-- a node has a thread of its own, which is awake
abbrev pub free_slot : ThreadSlot
free_slot = record { of_caller = false; sleeps = false }

abbrev pub slot_at : List ThreadSlot → ℕ → ThreadSlot
slot_at threads node = slice_index_or threads node free_slot

abbrev pub with_slot : Sleepers → ℕ → ThreadSlot → Sleepers
with_slot s node slot = record s { threads = slice_set s.threads node slot }

-- ---- waits
-- a node's target is above an hour
abbrev pub IsAbove : Run → BusState → ℕ → ℕ → Type 0
IsAbove run s hour node = (least : ℕ) → target_of run s node ≡ Some least → hour < least

-- an hour is over: the target of each node that is not done is above it
abbrev pub IsHourOver : CourseValue → ℕ → Type 0
IsHourOver c hour = (node : ℕ) → node < length c.bus.run.design.components → IsAbove c.bus.run c.bus.state hour node

-- a node that can continue waits: if nodes meet, for the hour of its target, and else for its sources, before it
-- starts a round
pub record Waits (c : CourseValue) (hour node : ℕ) : Type 0 where
  pub is_open : IsOpen c node
  pub meets : c.bus.meeting ≡ true → IsAbove c.bus.run c.bus.state hour node
  pub starts : c.bus.meeting ≡ false → (node_at c.bus.state node).phase ≡ Waiting

-- ---- who is woken
-- whether the thread that has a node is to be woken: the calling thread, or its own
abbrev pub wakes_thread : WakeList → ℕ → Bool → Bool
wakes_thread wakes node true = wakes.any && wakes.caller
wakes_thread wakes node false = wakes.any && slice_index_or wakes.nodes node false

-- the thread that has a node is to be woken too
abbrev pub with_wake : WakeList → ℕ → Bool → WakeList
with_wake w node true = record w { any = true; caller = true }
with_wake w node false = record w { any = true; nodes = slice_set w.nodes node true }

-- a thread is to be woken
abbrev pub is_to_wake : WakeList → Sleeper → Bool
is_to_wake w (sleeper.Node node) = wakes_thread w node false
is_to_wake w sleeper.Caller = wakes_thread w 0 true

-- a thread need not be woken; if there is none, nobody has to be
abbrev pub without_sleeper : WakeList → Option Sleeper → WakeList
without_sleeper w None = record w { any = false }
without_sleeper w (Some (sleeper.Node node)) = record w { nodes = slice_set w.nodes node false }
without_sleeper w (Some sleeper.Caller) = record w { any = false; caller = false }

-- the thread that had a node slept, and is to be woken
pub record IsRoused (old new : Sleepers) (node : ℕ) : Type 0 where
  pub slept : (slot_at old.threads node).sleeps ≡ true
  pub slot : slot_at new.threads node ≡ record { of_caller = (slot_at old.threads node).of_caller; sleeps = false }
  pub woken : node < length new.wakes.nodes → wakes_thread new.wakes node (slot_at old.threads node).of_caller ≡ true

-- some who slept are roused, and nothing else changes for anybody; who was to be woken still is
pub record Rouses (old new : Sleepers) : Type 0 where
  pub threads : (node : ℕ) → (slot_at new.threads node ≡ slot_at old.threads node) ⊎ IsRoused old new node
  pub many : length new.wakes.nodes ≡ length old.wakes.nodes
  pub woken : (node : ℕ) (own : Bool) → wakes_thread old.wakes node own ≡ true → wakes_thread new.wakes node own ≡ true
