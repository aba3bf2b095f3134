-- How many steps a node has finished and how many rounds it has sent, event by event.
use Rattle.std.specs.Prelude.{◌≡◌, ℕ, ◌+◌, ◌*◌, nat_eq, Bool, false, cond, length}
use Rattle.std.specs.Option.{option_map_or}
use Rattle.pals_model.specs.PortKindsAndRates.{rate_of}
use Rattle.pals_runs.specs.declared.phase.Phase.{Phase}
use Rattle.pals_runs.specs.declared.phase.Phase.TheVariants.{Waiting, Running, Between, Holding, Done}
use Rattle.pals_runs.specs.declared.events_and_faults.Event.{Event}
use Rattle.bus_machine.specs.Nodes.{NodeState, sent_rounds}
use Rattle.bus_machine.specs.BusStates.{BusState, node_at}
use Rattle.bus_machine.specs.RunParameters.{Run}
use Rattle.bus_machine.specs.WorldTexts.{is_finish, sender}

-- the finished steps of a round that is not finished
abbrev pub steps_in_hand : Phase → ℕ
steps_in_hand Waiting = 0
steps_in_hand (Running step) = step
steps_in_hand (Between steps) = steps
steps_in_hand Holding = 0
steps_in_hand Done = 0

-- the steps that a node of this rate has finished: the steps of its finished rounds and of its current round
abbrev pub steps_finished : ℕ → NodeState → ℕ
steps_finished rate n = rate * length n.parts + steps_in_hand n.phase

-- a round of this node is sent
abbrev pub is_send : ℕ → Event → Bool
is_send node e = option_map_or (λ j. nat_eq j node) (sender e) false

-- a finish adds a step to its node, a send a round, and no event more
pub record IsCounted (run : Run) (s : BusState) (e : Event) (t : BusState) (node : ℕ) : Type 0 where
  pub steps : let rate = rate_of run.design node in
      steps_finished rate (node_at t node) ≡ steps_finished rate (node_at s node) + cond (is_finish node e) 1 0
  pub sends : sent_rounds (node_at t node) ≡ sent_rounds (node_at s node) + cond (is_send node e) 1 0
