-- The bus machine whose nodes run step code: a finish leaves what the code of the node's component leaves.
use Rattle.std.specs.Prelude.{◌≡◌, ◌↔◌, ℕ, ◌<◌, true, List, [], ◌++◌, length, None}
use Rattle.pals_base.specs.SingleStep.{Fired}
use Rattle.pals_base.specs.Tuples.{with_places}
use Rattle.step_code.specs.declared.instr.CodeParts.{CodeParts}
use Rattle.step_code.specs.proof.CodeRuns.{Executed, Leaves, IsStuck, IsUnfinished, exec}
use Rattle.pals_model.specs.Composition.{no_frame}
use Rattle.pals_runs.specs.declared.journal.JournalEntry.{JournalEntry}
use Rattle.pals_runs.specs.declared.phase.Phase.TheVariants.{Running}
use Rattle.bus_machine.specs.declared.plan.Plan.{Plan}
use Rattle.bus_machine.specs.Nodes.{NodeState, job_of}
use Rattle.bus_machine.specs.NodeEvents.{running_step, finished_with, fired}
use Rattle.bus_machine.specs.BusStates.{BusState, opening, node_at, with_node}
use Rattle.bus_machine.specs.Plans.{plan_of}
use Rattle.bus_machine.specs.RunParameters.{Run}
use Rattle.bus_machine.specs.Machine.{BusEvent, Start, Step, Finish, Send, Arrive, Drop, Repeat, after, is_allowed}
use Rattle.bus_machine.specs.Machine.{on_step}
use Rattle.bus_machine.specs.Replay.{Replays, entries}
use Rattle.pals_bus.specs.proof.StepCodesOfNodes.{code_at}

-- ---- a step of code
-- the code of the node's component, at its frame and at the inputs of the job that is out
abbrev pub executed : List CodeParts → Plan → ℕ → NodeState → Executed
executed codes plan step n = exec (code_at codes plan.node.0) n.frame (job_of plan n step).inputs

-- a code that gets stuck leaves nothing
abbrev pub left_by : Executed → Fired
left_by (Leaves result) = result
left_by IsStuck = record { frame = no_frame; outs = [] }
left_by IsUnfinished = record { frame = no_frame; outs = [] }

abbrev pub finished_by_code : List CodeParts → Plan → ℕ → ℕ → NodeState → NodeState
finished_by_code codes plan rounds step n =
    let result = left_by (executed codes plan step n) in
    finished_with plan rounds step n result (with_places step result.outs n.outs)

-- ---- the machine
abbrev pub after_by_code : Run → List CodeParts → BusState → BusEvent → BusState
after_by_code run codes s (Finish node) =
    on_step (running_step (node_at s node.0).phase) s
    (λ step. with_node s node.0 (finished_by_code codes (plan_of run.design node.0) run.rounds step (node_at s node.0)))
after_by_code run codes s (Start node reading) = after run s (Start node reading)
after_by_code run codes s (Step node reading) = after run s (Step node reading)
after_by_code run codes s (Send node reading) = after run s (Send node reading)
after_by_code run codes s (Arrive link round reading) = after run s (Arrive link round reading)
after_by_code run codes s (Drop link round) = after run s (Drop link round)
after_by_code run codes s (Repeat link round) = after run s (Repeat link round)

pub record IsCodeStep (run : Run) (codes : List CodeParts) (s : BusState) (e : BusEvent) (t : BusState) : Type 0 where
  pub going : s.stop ≡ None
  pub allowed : is_allowed run s e ≡ true
  pub state : t ≡ after_by_code run codes s e

-- the steps of a journal lead from the opening state to this one
pub data CodeReplays (run : Run) (codes : List CodeParts) : List JournalEntry → BusState → Type 0 where
  opens : CodeReplays run codes [] (opening run)
  goes_on : {journal : List JournalEntry} {s t : BusState} (e : BusEvent) → CodeReplays run codes journal s
      → IsCodeStep run codes s e t
      → CodeReplays run codes (journal ++ entries run s e) t

-- ---- the law
abbrev pub SameReplays : Run → List CodeParts → Type 0
SameReplays run codes =
    (journal : List JournalEntry) (s : BusState) → Replays run journal s ↔ CodeReplays run codes journal s

-- each step of a code that a node runs leaves what the behaviour's step leaves
abbrev pub NoneIsStuck : Run → List CodeParts → Type 0
NoneIsStuck run codes =
    (journal : List JournalEntry) (s : BusState) (node step : ℕ) → Replays run journal s
    → node < length run.design.components → (node_at s node).phase ≡ Running step
    → executed codes (plan_of run.design node) step (node_at s node)
    ≡ Leaves (fired (plan_of run.design node) step (node_at s node))
