-- The actions of a node, one after another, and how far they have brought it.
use Rattle.std.specs.Prelude.{◌≡◌, ℕ, zero, suc, ◌+◌, ◌≤◌, ◌⊎◌, false, true, Option}
use Rattle.pals_runs.specs.declared.phase.Phase.{Phase}
use Rattle.pals_runs.specs.declared.phase.Phase.TheVariants.{Waiting, Running, Between, Holding, Done}
use Rattle.bus_machine.specs.declared.plan.Plan.{Plan}
use Rattle.bus_machine.specs.Nodes.{NodeState, round_of}
use Rattle.bus_machine.specs.declared.node_action.NodeAction.{NodeAction}
use Rattle.bus_machine.specs.ActionsAndTargets.{Progress, next_action, progress_after, next_in}
use Rattle.bus_machine.specs.declared.node_action.NodeAction.TheVariants as action

-- the progress of a node, and its next action
pub record Turn : Type 0 where
  pub before : Progress
  pub action : NodeAction

abbrev pub first_turn : Turn
first_turn = record { before = record { round = 0; steps = 0; sent = false }; action = action.Start 0 }

abbrev pub next_turn : Plan → Turn → Turn
next_turn plan t =
    record { before = progress_after t.before t.action; action = next_action plan (progress_after t.before t.action) }

-- the turn after n others
abbrev pub turns : Plan → ℕ → Turn → Turn
turns plan zero t = t
turns plan (suc n) t = turns plan n (next_turn plan t)

abbrev pub turn : Plan → ℕ → Turn
turn plan n = turns plan n first_turn

-- ---- of a node's state
-- how far its actions have brought it: the step that runs counts
abbrev pub progress_in : Plan → NodeState → Phase → Progress
progress_in plan n Waiting = record { round = round_of n; steps = plan.rate; sent = true }
progress_in plan n (Running step) = record { round = round_of n; steps = step + 1; sent = n.sent }
progress_in plan n (Between steps) = record { round = round_of n; steps = steps; sent = n.sent }
progress_in plan n Holding = record { round = round_of n; steps = plan.rate; sent = n.sent }
progress_in plan n Done = record { round = round_of n; steps = plan.rate; sent = true }

-- the next action of a node that runs no step
abbrev pub upcoming : Plan → NodeState → Option NodeAction
upcoming plan n = next_in plan n n.phase

-- `done` actions bring a node to its state
pub record AtFirst (n : NodeState) (done : ℕ) : Type 0 where
  pub none_done : done ≡ 0
  pub count : n.count ≡ 0
  pub phase : n.phase ≡ Waiting

pub record AfterSome (plan : Plan) (n : NodeState) (done : ℕ) : Type 0 where
  pub before : ℕ
  pub done_is : done ≡ suc before
  pub count : 1 ≤ n.count
  pub progress : (turn plan done).before ≡ progress_in plan n n.phase

abbrev pub Follows : Plan → ℕ → NodeState → Type 0
Follows plan done n = AtFirst n done ⊎ AfterSome plan n done
