-- What a node does: it starts a round, starts a step, finishes a step, sends, and takes what arrives.
use Rattle.std.specs.Prelude.{ℕ, ◌+◌, nat_eq, nat_lt, nat_le, Bool, true, false, not, ◌&&◌, if◌then◌else◌, List, []}
use Rattle.std.specs.Prelude.{◌∷◌, ◌++◌, length, map, zip, replicate, position, Option, Some, None, is_none}
use Rattle.std.specs.Prelude.{slice_index_or, slice_set}
use Rattle.std.specs.Option.{option_map_or}
use Rattle.pals_base.specs.declared.basic_types.PortValue.{PortValue}
use Rattle.pals_base.specs.declared.basic_types.PortValue.TheVariants.{Absent}
use Rattle.pals_base.specs.SingleStep.{Fired, fire}
use Rattle.pals_base.specs.Tuples.{cut, with_places}
use Rattle.pals_model.specs.declared.part.Part.{Part}
use Rattle.pals_runs.specs.declared.phase.Phase.{Phase}
use Rattle.pals_runs.specs.declared.phase.Phase.TheVariants.{Waiting, Running, Between, Holding, Done}
use Rattle.pals_runs.specs.declared.journal.Arrived.{Arrived}
use Rattle.pals_runs.specs.declared.journal.Arrived.TheVariants.{Kept, Ignored, Early}
use Rattle.bus_machine.specs.declared.plan.Input.{Input}
use Rattle.bus_machine.specs.declared.plan.Plan.{Plan}
use Rattle.bus_machine.specs.Nodes.{NodeState, job_of, vectors_of, finished_steps, at_rest}
use Rattle.bus_machine.specs.declared.plan.Input.TheVariants as input

-- ---- Start: a waiting node starts its next round, unless a link's message of the round before is missing
abbrev pub is_waiting : Phase → Bool
is_waiting Waiting = true
is_waiting (Running step) = false
is_waiting (Between steps) = false
is_waiting Holding = false
is_waiting Done = false

-- an in port that a link goes to, with an empty slot
abbrev pub lacks : Input → Option (List PortValue) → Bool
lacks input.Nothing slot = false
lacks (input.Root root adaptor) slot = false
lacks (input.Link rate adaptor) slot = is_none slot

-- the first in port whose message a start would miss; round 0 has none before it
abbrev pub missing : Plan → NodeState → Option ℕ
missing plan n = if nat_eq n.count 0 then None else position (λ p. lacks p.0 p.1) (zip plan.inputs n.slots)

-- all slots are taken, every place of the outputs is absent, and the job of step 0 goes out
abbrev pub started : Plan → List PortValue → NodeState → NodeState
started plan values n = record n {
  count = n.count + 1;
  phase = Running 0;
  slots = map (λ (_ : Option (List PortValue)). None) n.slots;
  vectors = vectors_of plan values n.slots;
  outs = replicate (length plan.behaviour.outs) (replicate plan.rate Absent);
  sent = false;
}

-- ---- Step: between two steps, the job of the next one goes out
abbrev pub next_step : Phase → Option ℕ
next_step Waiting = None
next_step (Running step) = None
next_step (Between steps) = Some steps
next_step Holding = None
next_step Done = None

abbrev pub stepped : ℕ → NodeState → NodeState
stepped step n = record n { phase = Running step }

-- ---- Finish: what a step's job gives becomes the frame and its places of the outputs
abbrev pub running_step : Phase → Option ℕ
running_step Waiting = None
running_step (Running step) = Some step
running_step (Between steps) = None
running_step Holding = None
running_step Done = None

abbrev pub fired : Plan → ℕ → NodeState → Fired
fired plan step n = fire plan.behaviour n.frame (job_of plan n step).inputs

-- after the last step the round is held until it is sent
abbrev pub after_round : ℕ → NodeState → Phase
after_round rounds n = if n.sent then at_rest (nat_eq n.count rounds) else Holding

abbrev pub part_left : Plan → Fired → List (List PortValue) → Part
part_left plan result outs = record { frame = result.frame; outs = map (λ port. slice_index_or outs port []) plan.taps }

abbrev pub finished_with : Plan → ℕ → ℕ → NodeState → Fired → List (List PortValue) → NodeState
finished_with plan rounds step n result outs =
    if nat_lt (step + 1) plan.rate
    then record n { frame = result.frame; outs = outs; phase = Between (step + 1) }
    else record n {
      frame = result.frame;
      outs = outs;
      phase = after_round rounds n;
      parts = n.parts ++ part_left plan result outs ∷ [];
    }

abbrev pub finished : Plan → ℕ → ℕ → NodeState → NodeState
finished plan rounds step n =
    finished_with plan rounds step n (fired plan step n) (with_places step (fired plan step n).outs n.outs)

-- ---- Send: once enough steps are finished, a round that is not sent goes out on each link from the node
abbrev pub may_send : Plan → NodeState → Bool
may_send plan n = not n.sent && option_map_or (nat_le plan.sent_steps) (finished_steps plan.rate n.phase) false

-- a held round is then at an end; in another phase the phase stays
abbrev pub after_send : ℕ → ℕ → Phase → Phase
after_send count rounds Waiting = Waiting
after_send count rounds (Running step) = Running step
after_send count rounds (Between steps) = Between steps
after_send count rounds Holding = at_rest (nat_eq count rounds)
after_send count rounds Done = Done

abbrev pub sent_from : ℕ → NodeState → NodeState
sent_from rounds n = record n { phase = after_send n.count rounds n.phase; sent = true }

-- the cut tuple of an out port
abbrev pub message_from : Plan → NodeState → ℕ → List PortValue
message_from plan n port = cut plan.sent_steps (slice_index_or n.outs port [])

-- the messages of all links from the node, in their order
abbrev pub messages_from : Plan → NodeState → List (List PortValue)
messages_from plan n = map (message_from plan n) plan.out_links

-- ---- Arrive: a message of the last round that is started fills its slot
abbrev pub slot_at : NodeState → ℕ → Option (List PortValue)
slot_at n port = slice_index_or n.slots port None

abbrev pub arrived : NodeState → ℕ → ℕ → Arrived
arrived n port round =
    if nat_le n.count round then Early
    else if nat_eq (round + 1) n.count && is_none (slot_at n port) then Kept
    else Ignored

abbrev pub with_message : NodeState → ℕ → List PortValue → Arrived → NodeState
with_message n port tuple Kept = record n { slots = slice_set n.slots port (Some tuple) }
with_message n port tuple Ignored = n
with_message n port tuple Early = n

-- the node after an in port has received a message of a round
abbrev pub received : NodeState → ℕ → ℕ → List PortValue → NodeState
received n port round tuple = with_message n port tuple (arrived n port round)
