-- What a node does next, and the reading that it waits for.
use Rattle.std.specs.Prelude.{ℕ, ◌+◌, ◌*◌, zero, suc, nat_eq, nat_lt, nat_le, Bool, true, false, not, ◌&&◌, ◌||◌}
use Rattle.std.specs.Prelude.{if◌then◌else◌, List, [], ◌∷◌, map, Option, Some, None, option_map}
use Rattle.pals_base.specs.PeriodBoundAndReleases.{alarm}
use Rattle.pals_runs.specs.declared.phase.Phase.{Phase}
use Rattle.pals_runs.specs.declared.phase.Phase.TheVariants.{Waiting, Running, Between, Holding, Done}
use Rattle.bus_machine.specs.declared.node_action.NodeAction.{NodeAction}
use Rattle.bus_machine.specs.declared.node_action.Next.{Next}
use Rattle.bus_machine.specs.declared.plan.Plan.{Plan}
use Rattle.bus_machine.specs.Nodes.{NodeState, round_of}
use Rattle.bus_machine.specs.declared.node_action.NodeAction.TheVariants as action

-- from which reading on it may be done
abbrev pub target : Plan → NodeAction → ℕ
target plan (action.Start round) = alarm plan.period round
target plan (action.Step round step) = alarm plan.period round + step * plan.step_period
target plan (action.Send round) = alarm plan.period round + plan.release_offset

-- how far a node has come in a round: how many steps are finished, and whether it is sent
pub record Progress : Type 0 where
  pub round : ℕ
  pub steps : ℕ
  pub sent : Bool

-- the send comes next once enough steps are finished, and all are or its target is no later than that of the next step
abbrev pub send_is_next : Plan → Progress → Bool
send_is_next plan p =
    not p.sent && nat_le plan.sent_steps p.steps
    && (nat_eq p.steps plan.rate || nat_le plan.release_offset (p.steps * plan.step_period))

-- the send, else the next step, else the next round
abbrev pub next_action : Plan → Progress → NodeAction
next_action plan p =
    if send_is_next plan p then action.Send p.round
    else if nat_lt p.steps plan.rate then action.Step p.round p.steps
    else action.Start (p.round + 1)

abbrev pub progress_after : Progress → NodeAction → Progress
progress_after p (action.Start round) = record { round = round; steps = 1; sent = false }
progress_after p (action.Step round step) = record p { steps = step + 1 }
progress_after p (action.Send round) = record p { sent = true }

-- n actions, from `action` on
abbrev pub actions_from : Plan → ℕ → Progress → NodeAction → List NodeAction
actions_from plan zero p action = []
actions_from plan (suc n) p action =
    action ∷ actions_from plan n (progress_after p action) (next_action plan (progress_after p action))

-- all actions of a run: in each round its steps, and a send
abbrev pub actions : Plan → ℕ → List NodeAction
actions plan rounds =
    actions_from plan (rounds * (plan.rate + 1)) (record { round = 0; steps = 0; sent = false }) (action.Start 0)

-- the targets of a node
abbrev pub targets : Plan → ℕ → List ℕ
targets plan rounds = map (target plan) (actions plan rounds)

-- ---- of a node's state
-- its current action, or its next one; `None` if it is done
abbrev pub action_in : Plan → NodeState → Phase → Option NodeAction
action_in plan n Waiting = Some (action.Start n.count)
action_in plan n (Running step) =
    Some (if nat_eq step 0 then action.Start (round_of n) else action.Step (round_of n) step)
action_in plan n (Between steps) = Some (next_action plan (record { round = round_of n; steps = steps; sent = n.sent }))
action_in plan n Holding = Some (action.Send (round_of n))
action_in plan n Done = None

abbrev pub action_of : Plan → NodeState → Option NodeAction
action_of plan n = action_in plan n n.phase

-- its next action, and the time from which it may happen; `None` if a step runs, or all is done
abbrev pub next_in : Plan → NodeState → Phase → Option NodeAction
next_in plan n Waiting = Some (action.Start n.count)
next_in plan n (Running step) = None
next_in plan n (Between steps) = Some (next_action plan (record { round = round_of n; steps = steps; sent = n.sent }))
next_in plan n Holding = Some (action.Send (round_of n))
next_in plan n Done = None

abbrev pub next_of : Plan → NodeState → Option Next
next_of plan n = option_map (λ a. record { action = a; target = target plan a }) (next_in plan n n.phase)
