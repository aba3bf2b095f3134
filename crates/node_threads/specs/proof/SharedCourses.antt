-- The state that the nodes share under the lock: a bus with the clocks of its nodes, which are a run, and a record of
-- each node.
use Rattle.std.specs.Prelude.{◌≡◌, ◌⊎◌, ℕ, ◌<◌, ◌≤◌, Bool, true, false, List, [], length, map, Option, Some, None}
use Rattle.std.specs.Prelude.{slice_index_or}
use Rattle.pals_base.specs.declared.limits.TheConstants.{READING, ROUNDS}
use Rattle.pals_base.specs.declared.basic_types.NodeNo.{NodeNo}
use Rattle.pals_clock.specs.ClockStates.{ClockState, unpicked}
use Rattle.pals_clock.specs.declared.clock.Clocks.{Clocks}
use Rattle.pals_clock.specs.declared.clock.Clocks.TheVariants.{Meet, Lists}
use Rattle.pals_model.specs.declared.design.Link.{Link}
use Rattle.pals_runs.specs.declared.phase.Phase.TheVariants.{Waiting, Done}
use Rattle.bus_machine.specs.declared.node_action.NodeAction.{NodeAction}
use Rattle.bus_machine.specs.declared.node_action.Next.{Next}
use Rattle.bus_machine.specs.proof.AgreementLaws.{IsRunOf}
use Rattle.bus_machine.specs.Plans.{plan_of}
use Rattle.bus_machine.specs.BusStates.{node_at}
use Rattle.bus_machine.specs.Nodes.{sent_rounds}
use Rattle.bus_machine.specs.Machine.{BusEvent}
use Rattle.bus_machine.specs.ActionsAndTargets.{next_of, target}
use Rattle.pals_bus.specs.BusValues.{BusValue}
use Rattle.run_laws.specs.proof.ClockAnswersAndDueArrivals.{IsToStart}
use Rattle.run_laws.specs.Runs.{lists_in, HasEnded, Does, IsAwaited, KeepsTo, Runs}
use Rattle.node_threads.specs.declared.node_end.NodeNote.{NodeNote}
use Rattle.node_threads.specs.declared.clocks.ClockAnswer.{ClockAnswer}
use Rattle.bus_machine.specs.declared.node_action.NodeAction.TheVariants as action
use Rattle.node_threads.specs.declared.node_end.NodeNote.TheVariants as note
use Rattle.node_threads.specs.declared.clocks.ClockAnswer.TheVariants as look

pub record CourseValue : Type 0 where
  pub bus : BusValue
  pub clocks : Clocks
  pub notes : List NodeNote

-- where nodes meet they have no lists
abbrev pub clocks_of : Bool → List ClockState → Clocks
clocks_of true lists = Meet
clocks_of false lists = Lists lists

abbrev pub course_of : BusValue → List ClockState → List NodeNote → CourseValue
course_of bus lists notes = record { bus = bus; clocks = clocks_of bus.meeting lists; notes = notes }

-- the record of a node
abbrev pub note_at : List NodeNote → ℕ → NodeNote
note_at notes node = slice_index_or notes node note.Open

-- a node's list holds no reading for its next target, which is this one
abbrev pub EndsAt : BusValue → Clocks → ℕ → ℕ → Type 0
EndsAt b Meet node goal = ⊥
EndsAt b (Lists lists) node goal =
    (ended : HasEnded b.run lists b.state node) × (target (plan_of b.run.design node) ended.0 ≡ goal)

-- ---- the invariant of the lock
-- one list for each node, if they don't meet
abbrev pub AreMany : ℕ → Clocks → Type 0
AreMany count Meet = Unit {0}
AreMany count (Lists lists) = length lists ≡ count

pub record IsCourse (c : CourseValue) : Type 0 where
  pub rules : IsRunOf c.bus.run
  pub few : c.bus.run.rounds ≤ ROUNDS
  pub runs : Runs c.bus.run c.clocks c.bus.journal c.bus.state
  pub lists : AreMany (length c.bus.run.design.components) c.clocks
  pub notes : length c.notes ≡ length c.bus.run.design.components
  -- the record of a node says that its list has ended only if it has
  pub ended : (node goal : ℕ) → note_at c.notes node ≡ note.ClockEnded goal → EndsAt c.bus c.clocks node goal
  -- a run is closed only where some node found no memory
  pub closed : c.bus.closed ≡ true → (node : ℕ) × (note_at c.notes node ≡ note.Memory)

-- ---- steps
-- of the run of a bus, with these lists
abbrev pub IsOf : BusValue → Clocks → CourseValue → Type 0
IsOf bus clocks c = (c.bus.run ≡ bus.run) × (lists_in c.clocks ≡ lists_in clocks)

-- the run, its step codes and the lists stay, whatever is picked and done
pub record Stays (old new : CourseValue) : Type 0 where
  pub run : new.bus.run ≡ old.bus.run
  pub codes : new.bus.codes ≡ old.bus.codes
  pub lists : lists_in new.clocks ≡ lists_in old.clocks

-- a node whose part continues
pub record IsOpen (c : CourseValue) (node : ℕ) : Type 0 where
  pub within : node < length c.bus.run.design.components
  pub noted : note_at c.notes node ≡ note.Open
  pub going : c.bus.state.stop ≡ None
  pub unclosed : c.bus.closed ≡ false

-- a node has done all its rounds
abbrev pub IsDone : CourseValue → ℕ → Type 0
IsDone c node = (node_at c.bus.state node).phase ≡ Done

-- the next step of a node, and its earliest reading; nothing if its job is out, or if it is done
abbrev pub next_in : CourseValue → ℕ → Option Next
next_in c node = next_of (plan_of c.bus.run.design node) (node_at c.bus.state node)

abbrev pub IsNext : CourseValue → ℕ → Next → Type 0
IsNext c node next = next_in c node ≡ Some next

-- whether an action is a send
abbrev pub sends : NodeAction → Bool
sends (action.Start round) = false
sends (action.Step round step) = false
sends (action.Send round) = true

-- whether the next step is a send
abbrev pub is_send : Option Next → Bool
is_send None = false
is_send (Some next) = sends next.action

-- a node is to start its next round
pub record IsWaiting (c : CourseValue) (node : ℕ) : Type 0 where
  pub within : node < length c.bus.run.design.components
  pub phase : (node_at c.bus.state node).phase ≡ Waiting

-- a node's next action, at a reading that its clock shows
pub record IsReady (c : CourseValue) (node : NodeNo) (action : NodeAction) (reading : ℕ) : Type 0 where
  pub is_open : IsOpen c node.0
  pub does : Does c.bus.run c.clocks c.bus.state node (Some reading) action
  pub range : reading ≤ READING

-- what a clock answers
abbrev pub Looks : CourseValue → NodeNo → Next → ClockAnswer → Type 0
Looks c node next (look.At reading) = IsReady c node next.action reading
Looks c node next look.Wait = Unit {0}
Looks c node next look.Ended = IsOpen c node.0 × EndsAt c.bus c.clocks node.0 next.target

-- a node is to start its next round at a reading
abbrev pub IsToStartIn : CourseValue → NodeNo → ℕ → Type 0
IsToStartIn c node reading = IsToStart c.bus.run c.clocks c.bus.state node reading

-- each source of a node has sent the round before, or its list has ended
abbrev pub IsAwaitedIn : CourseValue → ℕ → Type 0
IsAwaitedIn c node = IsAwaited c.bus.run c.clocks c.bus.state node

-- an event that follows the clocks
abbrev pub Allows : CourseValue → BusEvent → Type 0
Allows c e = KeepsTo c.bus.run c.clocks c.bus.state e

-- ---- the wait of a start
-- a node has sent this many rounds, or its list has ended; where nodes meet nothing is asked
abbrev pub HasSent : BusValue → Clocks → ℕ → ℕ → Type 0
HasSent b Meet node rounds = Unit {0}
HasSent b (Lists lists) node rounds = (rounds ≤ sent_rounds (node_at b.state node)) ⊎ HasEnded b.run lists b.state node

-- where a link goes to a node, its source has sent the round before the one that this node is to start, or its list
-- has ended
abbrev pub IsSentOn : CourseValue → ℕ → Link → Type 0
IsSentOn c node link = link.target.0 ≡ node → HasSent c.bus c.clocks link.source.0 (node_at c.bus.state node).count

-- ---- the clocks at the opening
-- the clocks of a bus: a meeting if its nodes meet, and else a list for each node
abbrev pub AreClocksOf : BusValue → Clocks → Type 0
AreClocksOf b Meet = b.meeting ≡ true
AreClocksOf b (Lists lists) = (b.meeting ≡ false) × (length lists ≡ length b.run.design.components)

-- the lists, of which nothing is picked
abbrev pub fresh_of : Clocks → List ClockState
fresh_of Meet = []
fresh_of (Lists lists) = map (λ (clock : ClockState). unpicked clock.readings) lists
