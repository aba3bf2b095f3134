-- What a node answers, and why.
use Rattle.std.specs.Prelude.{◌≡◌, ◌≢◌, ℕ, nat_lt, Bool, true, false, List, Option, Some, None}
use Rattle.std.specs.Option.{option_map_or}
use Rattle.pals_base.specs.declared.basic_types.PortValue.{PortValue}
use Rattle.pals_runs.specs.declared.phase.Phase.{Phase}
use Rattle.pals_runs.specs.declared.phase.Phase.TheVariants.{Waiting, Running, Between, Holding, Done}
use Rattle.bus_machine.specs.NodeEvents.{missing, started, stepped, finished, may_send, sent_from, messages_from}
use Rattle.bus_machine.specs.AlarmsAndReleases.{start_alarm, step_alarm, release_reading}
use Rattle.pals_node.specs.declared.refusals.StartEnd.{StartEnd}
use Rattle.pals_node.specs.declared.refusals.StepEnd.{StepEnd}
use Rattle.pals_node.specs.declared.refusals.SendEnd.{SendEnd}
use Rattle.pals_node.specs.declared.job.Finished.{Finished}
use Rattle.pals_node.specs.declared.job.Finished.TheVariants.{Used, Redone}
use Rattle.pals_node.specs.proof.NodeAndJobValues.{NodeValue, JobValue, with_state, job_at}
use Rattle.pals_node.specs.declared.refusals.StartEnd.TheVariants as start
use Rattle.pals_node.specs.declared.refusals.StepEnd.TheVariants as step
use Rattle.pals_node.specs.declared.refusals.SendEnd.TheVariants as send

-- a reading is given, and below the alarm
abbrev pub is_early : Option ℕ → ℕ → Bool
is_early reading alarm = option_map_or (λ at. nat_lt at alarm) reading false

-- a round is in hand
abbrev pub is_busy : Phase → Bool
is_busy Waiting = false
is_busy (Running i) = true
is_busy (Between i) = true
is_busy Holding = true
is_busy Done = false

-- ---- Start
pub record Starts (old : NodeValue) (env : List PortValue) (reading : Option ℕ) (new : NodeValue)
    (job : JobValue) : Type 0 where
  pub waits : old.state.phase ≡ Waiting
  pub due : is_early reading (start_alarm old.program.plan old.state) ≡ false
  pub full : missing old.program.plan old.state ≡ None
  pub state : new ≡ with_state old (started old.program.plan env old.state)
  pub job_is : job ≡ job_at new 0

-- why a start gives no job; nothing has changed then
abbrev pub StartEnds : NodeValue → Option ℕ → StartEnd → Type 0
StartEnds n reading start.Busy = is_busy n.state.phase ≡ true
StartEnds n reading start.Over = n.state.phase ≡ Done
StartEnds n reading (start.NotYet alarm) =
    (n.state.phase ≡ Waiting) × (alarm ≡ start_alarm n.program.plan n.state) × (is_early reading alarm ≡ true)
StartEnds n reading (start.Missed port) =
    (n.state.phase ≡ Waiting) × (is_early reading (start_alarm n.program.plan n.state) ≡ false)
    × (missing n.program.plan n.state ≡ Some port)
StartEnds n reading start.Memory = Unit {0}

-- ---- Step
pub record Steps (old : NodeValue) (reading : Option ℕ) (new : NodeValue) (job : JobValue) : Type 0 where
  pub next : ℕ
  pub between : old.state.phase ≡ Between next
  pub due : is_early reading (step_alarm old.program.plan old.state next) ≡ false
  pub state : new ≡ with_state old (stepped next old.state)
  pub job_is : job ≡ job_at new next

abbrev pub StepEnds : NodeValue → Option ℕ → StepEnd → Type 0
StepEnds n reading step.NotBetween = (i : ℕ) → n.state.phase ≢ Between i
StepEnds n reading (step.NotYet alarm) =
    (i : ℕ) × (n.state.phase ≡ Between i) × (alarm ≡ step_alarm n.program.plan n.state i)
    × (is_early reading alarm ≡ true)
StepEnds n reading step.Memory = Unit {0}

-- ---- Finish
abbrev pub Finishes : NodeValue → NodeValue → ℕ → Type 0
Finishes old new i =
    (old.state.phase ≡ Running i) × (new ≡ with_state old (finished old.program.plan old.rounds i old.state))

-- a submitted job is used if and only if it belongs to the outstanding job
abbrev pub IsUsed : Finished → JobValue → JobValue → Type 0
IsUsed Used job out = job ≡ out
IsUsed Redone job out = job ≢ out

-- a finish, with the submitted job
pub record FinishesWith (old : NodeValue) (job : JobValue) (new : NodeValue) (how : Finished) : Type 0 where
  pub running : ℕ
  pub finishes : Finishes old new running
  pub used : IsUsed how job (job_at old running)

abbrev pub FinishesHere : NodeValue → NodeValue → Type 0
FinishesHere old new = (i : ℕ) × Finishes old new i

-- no job is out
abbrev pub NoneRuns : NodeValue → Type 0
NoneRuns n = (i : ℕ) → n.state.phase ≢ Running i

-- ---- Send
pub record Sends (old : NodeValue) (reading : Option ℕ) (new : NodeValue)
    (messages : List (List PortValue)) : Type 0 where
  pub may : may_send old.program.plan old.state ≡ true
  pub due : is_early reading (release_reading old.program.plan old.state) ≡ false
  pub state : new ≡ with_state old (sent_from old.rounds old.state)
  pub messages_are : messages ≡ messages_from old.program.plan old.state

abbrev pub SendEnds : NodeValue → Option ℕ → SendEnd → Type 0
SendEnds n reading send.NotFinished = may_send n.program.plan n.state ≡ false
SendEnds n reading (send.NotYet release) =
    (may_send n.program.plan n.state ≡ true) × (release ≡ release_reading n.program.plan n.state)
    × (is_early reading release ≡ true)
