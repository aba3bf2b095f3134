-- The last time that each node and each message allows.
use Rattle.std.specs.Prelude.{ℕ, ◌+◌, ◌-◌, min, max, if◌then◌else◌, Option, Some, None}
use Rattle.pals_runs.specs.declared.phase.Phase.{Phase}
use Rattle.pals_runs.specs.declared.phase.Phase.TheVariants.{Waiting, Running, Between, Holding, Done}
use Rattle.bus_machine.specs.Plans.{plan_of}
use Rattle.bus_machine.specs.NodeEvents.{may_send}
use Rattle.bus_machine.specs.AlarmsAndReleases.{start_alarm, step_alarm, release_reading}
use Rattle.bus_machine.specs.BusStates.{node_at}
use Rattle.bus_machine.specs.RunParameters.{Run}
use Rattle.run_laws.specs.Worlds.{World, since_at, ready_at, flight_since}

-- the last time at which a clock that is at most the skew behind still reads less than this alarm
abbrev pub last_before : ℕ → ℕ → ℕ
last_before reading eps = reading + eps - 1

-- by its phase: a round, or a step of it, is to start once its alarm is due; a step is to be finished
abbrev pub phase_deadline : Run → World → ℕ → Phase → Option ℕ
phase_deadline run w node Waiting =
    Some (last_before (start_alarm (plan_of run.design node) (node_at w.bus node)) run.design.gamma.eps)
phase_deadline run w node (Running step) = Some (since_at w node + run.design.gamma.alpha_max)
phase_deadline run w node (Between steps) =
    Some (last_before (step_alarm (plan_of run.design node) (node_at w.bus node) steps) run.design.gamma.eps)
phase_deadline run w node Holding = None
phase_deadline run w node Done = None

-- the last time for the send of a round: after its release and the finish of the sent steps
abbrev pub send_deadline : Run → World → ℕ → Option ℕ
send_deadline run w node =
    let plan = plan_of run.design node in
    let n = node_at w.bus node in
    if may_send plan n then Some
    (max (ready_at w node) (last_before (release_reading plan n) run.design.gamma.eps)) else None

-- the smaller one, if there are two
abbrev pub lesser : Option ℕ → Option ℕ → Option ℕ
lesser None b = b
lesser (Some a) None = Some a
lesser (Some a) (Some b) = Some (min a b)

abbrev pub node_deadline : Run → World → ℕ → Option ℕ
node_deadline run w node = lesser (phase_deadline run w node (node_at w.bus node).phase) (send_deadline run w node)

-- a message is to arrive
abbrev pub message_deadline : Run → World → ℕ → ℕ → ℕ
message_deadline run w link round = flight_since run w link round + run.design.gamma.mu_max
