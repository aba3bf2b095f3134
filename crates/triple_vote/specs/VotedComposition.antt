-- The composition with three replicas of some components, whose messages each reader votes on. Replicas are numbered
-- from 0 here, and from 1 in faults.
use Rattle.std.specs.Prelude.{ℕ, zero, suc, nat_eq, ◌&&◌, Bool, false, if◌then◌else◌, List, [], length, map, find}
use Rattle.std.specs.Prelude.{replicate, Option, None, Some, slice_get, slice_index_or}
use Rattle.pals_base.specs.declared.basic_types.PortValue.{PortValue}
use Rattle.pals_base.specs.declared.basic_types.PortValue.TheVariants.{Absent}
use Rattle.pals_base.specs.declared.frames.Frame.{Frame}
use Rattle.pals_base.specs.SingleStep.{initial}
use Rattle.pals_base.specs.StepSequences.{steps, Stepped}
use Rattle.pals_base.specs.Tuples.{cut}
use Rattle.pals_base.specs.UpwardNumbers.{upwards}
use Rattle.pals_base.specs.PeriodBoundAndReleases.{sent_steps}
use Rattle.pals_model.specs.declared.design.Component.{Component}
use Rattle.pals_model.specs.declared.design.Link.{Link}
use Rattle.pals_model.specs.declared.design.Tap.{Tap}
use Rattle.pals_model.specs.declared.design.DesignParts.{DesignParts}
use Rattle.pals_model.specs.declared.environment.Env.{Env}
use Rattle.pals_model.specs.ComponentInputs.{inputs_of, values_at}
use Rattle.pals_model.specs.PortKindsAndRates.{rate_of}
use Rattle.pals_model.specs.Composition.{no_frame}
use Rattle.pals_runs.specs.declared.replica_faults.VoteFault.{VoteFault}
use Rattle.triple_vote.specs.Votes.{votes}

-- ---- replicas
abbrev pub is_replicated : List Bool → ℕ → Bool
is_replicated replicated node = slice_index_or replicated node false

-- how many replicas a component has
abbrev pub copies_of : List Bool → ℕ → ℕ
copies_of replicated node = if is_replicated replicated node then 3 else 1

-- how many replicas of its target receive on a link
abbrev pub receivers_in : List Bool → Option Link → ℕ
receivers_in replicated None = 0
receivers_in replicated (Some link) = copies_of replicated link.target.0

-- the source of a link, 0 if it has none
abbrev pub source_in : Option Link → ℕ
source_in None = 0
source_in (Some link) = link.source.0

-- after some rounds: for each component the frame of each of its replicas, and for each link the tuple that each
-- replica of its target received in the last round
pub record VotedConfiguration : Type 0 where
  pub frames : List (List Frame)
  pub received : List (List (List PortValue))

abbrev pub frame_at : VotedConfiguration → ℕ → ℕ → Frame
frame_at v node replica = slice_index_or (slice_index_or v.frames node []) replica no_frame

abbrev pub received_at : VotedConfiguration → ℕ → ℕ → List PortValue
received_at v link replica = slice_index_or (slice_index_or v.received link []) replica []

-- ---- for each replica of each component, and for each replica that receives on each link
abbrev pub for_replicas : DesignParts → List Bool → (ℕ → ℕ → Frame) → List (List Frame)
for_replicas design replicated f =
    map (λ node. map (f node) (upwards 0 (copies_of replicated node))) (upwards 0 (length design.components))

abbrev pub for_receivers : DesignParts → List Bool → (ℕ → ℕ → List PortValue) → List (List (List PortValue))
for_receivers design replicated f =
    map (λ l. map (f l) (upwards 0 (receivers_in replicated (slice_get design.links l))))
    (upwards 0 (length design.links))

-- ---- before the first round
abbrev pub first_frame : Option Component → Frame
first_frame None = no_frame
first_frame (Some c) = initial c.behaviour

abbrev pub first_tuple : DesignParts → Option Link → List PortValue
first_tuple design None = []
first_tuple design (Some link) = replicate (rate_of design link.source.0) Absent

abbrev pub voted_opening : DesignParts → List Bool → VotedConfiguration
voted_opening design replicated = record {
  frames = for_replicas design replicated (λ node replica. first_frame (slice_get design.components node));
  received = for_receivers design replicated (λ l replica. first_tuple design (slice_get design.links l));
}

-- ---- the steps of a replica in a round, from its received messages
abbrev pub heard_by : ℕ → VotedConfiguration → List (List PortValue)
heard_by replica v = map (λ tuples. slice_index_or tuples replica []) v.received

abbrev pub steps_in : DesignParts → List PortValue → VotedConfiguration → ℕ → ℕ → Option Component → Stepped
steps_in design values v node replica None = record { frame = no_frame; tuples = [] }
steps_in design values v node replica (Some c) =
    steps c.behaviour (frame_at v node replica) (inputs_of design values (heard_by replica v) node c)

abbrev pub replica_steps : DesignParts → List PortValue → VotedConfiguration → ℕ → ℕ → Stepped
replica_steps design values v node replica = steps_in design values v node replica (slice_get design.components node)

-- its tuple of an out port
abbrev pub tuple_at : DesignParts → List PortValue → VotedConfiguration → ℕ → ℕ → ℕ → List PortValue
tuple_at design values v node port replica = slice_index_or (replica_steps design values v node replica).tuples port []

-- ---- the message on a link to a replica of the link's target
-- a fault belongs to this link, to this replica of its source and to this replica of its target, both numbered from 1
abbrev pub is_fault : ℕ → ℕ → ℕ → VoteFault → Bool
is_fault link replica target f = nat_eq f.link.0 link && (nat_eq f.replica replica && nat_eq f.target_replica target)

-- a fault's tuple, which is not cut, where one is listed
abbrev pub fault_or : Option VoteFault → List PortValue → List PortValue
fault_or None tuple = tuple
fault_or (Some f) tuple = f.values

-- and else its own tuple, cut
abbrev pub own_message : DesignParts → List PortValue → VotedConfiguration → Link → ℕ → List PortValue
own_message design values v link replica =
    cut (sent_steps design.gamma design.period (rate_of design link.source.0))
    (tuple_at design values v link.source.0 link.out_port replica)

abbrev pub sent_to : DesignParts → List PortValue → List VoteFault → VotedConfiguration → ℕ → Link → ℕ → ℕ
    → List PortValue
sent_to design values faults v l link target replica =
    fault_or (find (is_fault l (suc replica) (suc target)) faults) (own_message design values v link replica)

-- ---- what a replica receives
-- of one tuple for each replica of a component that has three: the vote
abbrev pub vote_of : (ℕ → List PortValue) → List PortValue
vote_of tuple = votes (tuple 0) (tuple 1) (tuple 2)

abbrev pub receives_on : DesignParts → List Bool → List PortValue → List VoteFault → VotedConfiguration → ℕ → ℕ
    → Option Link
    → List PortValue
receives_on design replicated values faults v l target None = []
receives_on design replicated values faults v l target (Some link) =
    if is_replicated replicated link.source.0 then vote_of (sent_to design values faults v l link target)
    else own_message design values v link 0

-- ---- one round, with these values of the root in ports, and these faults
abbrev pub next_voted : DesignParts → List Bool → List PortValue → List VoteFault → VotedConfiguration
    → VotedConfiguration
next_voted design replicated values faults v = record {
  frames = for_replicas design replicated (λ node replica. (replica_steps design values v node replica).frame);
  received =
      for_receivers design replicated
      (λ l target. receives_on design replicated values faults v l target (slice_get design.links l));
}

-- after a number of rounds, with the faults of each round
unfoldable pub voted_composition : DesignParts → Env → List Bool → (ℕ → List VoteFault) → ℕ → VotedConfiguration
voted_composition design env replicated faults zero = voted_opening design replicated
voted_composition design env replicated faults (suc round) =
    next_voted design replicated (values_at env round) (faults round)
    (voted_composition design env replicated faults round)

-- ---- its observers
-- the whole tuple that a root out port shows: for a component with three replicas, the vote
abbrev pub voted_tap_by : DesignParts → List Bool → List PortValue → VotedConfiguration → Tap → List PortValue
voted_tap_by design replicated values v tap =
    if is_replicated replicated tap.source.0 then vote_of (tuple_at design values v tap.source.0 tap.out_port)
    else tuple_at design values v tap.source.0 tap.out_port 0

unfoldable pub voted_tap : DesignParts → Env → List Bool → (ℕ → List VoteFault) → Tap → ℕ → List PortValue
voted_tap design env replicated faults tap round =
    voted_tap_by design replicated (values_at env round) (voted_composition design env replicated faults round) tap
