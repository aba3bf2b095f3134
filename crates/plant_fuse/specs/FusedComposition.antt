-- Fused composition: a plant and its controller run the steps of a round in alternation. The controller's step reads
-- the outputs of the plant's step of the same number, and the plant's step reads the outputs of the controller's
-- previous step. Otherwise it is the composition. The equations are over whole lists, of the steps of any number of
-- rounds.
use Rattle.std.specs.Prelude.{◌≡◌, ◌≢◌, ℕ, zero, suc, ◌+◌, ◌*◌, ◌/◌, ◌%◌, ◌<◌, nat_eq, Bool, ◌&&◌, if◌then◌else◌, List}
use Rattle.std.specs.Prelude.{[], map, replicate, length, take, All, AllPairs, Option, Some, None, slice_get}
use Rattle.std.specs.Prelude.{slice_index_or}
use Rattle.std.specs.List.{list_any, enumerate_from}
use Rattle.pals_base.specs.declared.basic_types.PortValue.{PortValue}
use Rattle.pals_base.specs.declared.basic_types.PortValue.TheVariants.{Absent}
use Rattle.pals_base.specs.declared.frames.Frame.{Frame}
use Rattle.pals_base.specs.PeriodBoundAndReleases.{sent_steps}
use Rattle.pals_base.specs.SingleStep.{initial}
use Rattle.pals_base.specs.StepSequences.{frame_after, outputs}
use Rattle.pals_base.specs.Tuples.{cut}
use Rattle.pals_base.specs.UpwardNumbers.{upwards}
use Rattle.pals_runs.specs.declared.plant_pairs.Pair.{Pair}
use Rattle.pals_model.specs.declared.design.Component.{Component}
use Rattle.pals_model.specs.declared.design.Link.{Link}
use Rattle.pals_model.specs.declared.design.DesignParts.{DesignParts}
use Rattle.pals_model.specs.declared.environment.Env.{Env}
use Rattle.pals_model.specs.declared.port_sources.PortSource.{PortSource}
use Rattle.pals_model.specs.ComponentInputs.{sources_of, brought_tuple, values_at}
use Rattle.pals_model.specs.PortKindsAndRates.{rate_of}
use Rattle.pals_model.specs.declared.port_sources.PortSource.TheVariants as source

-- ---- pairs
-- a link goes from one component to another
abbrev pub goes : ℕ → ℕ → Link → Bool
goes a b link = nat_eq link.source.0 a && nat_eq link.target.0 b

-- a link from a controller to its plant
abbrev pub is_to_plant : List Pair → Link → Bool
is_to_plant pairs link = list_any (λ pair. goes pair.controller.0 pair.plant.0 link) pairs

-- a link from a plant to its controller
abbrev pub is_to_controller : List Pair → Link → Bool
is_to_controller pairs link = list_any (λ pair. goes pair.plant.0 pair.controller.0 link) pairs

-- both are there, at one rate
pub record IsPair (design : DesignParts) (pair : Pair) : Type 0 where
  pub plant : pair.plant.0 < length design.components
  pub controller : pair.controller.0 < length design.components
  pub two : pair.plant.0 ≢ pair.controller.0
  pub rates : rate_of design pair.plant.0 ≡ rate_of design pair.controller.0
  -- each link of the plant has its other end at the controller
  pub from_plant : All (λ link. link.source.0 ≡ pair.plant.0 → link.target.0 ≡ pair.controller.0) design.links
  pub to_plant : All (λ link. link.target.0 ≡ pair.plant.0 → link.source.0 ≡ pair.controller.0) design.links

-- no component is in both
pub record AreApart (a b : Pair) : Type 0 where
  pub plants : a.plant.0 ≢ b.plant.0
  pub controllers : a.controller.0 ≢ b.controller.0
  pub first : a.plant.0 ≢ b.controller.0
  pub second : a.controller.0 ≢ b.plant.0

pub record ArePairs (design : DesignParts) (pairs : List Pair) : Type 0 where
  pub each : All (IsPair design) pairs
  pub apart : AllPairs AreApart pairs

-- ---- what components leave
-- the input vectors of each component, one for each of its steps in all rounds
abbrev pub Inputs : Type 0
Inputs = List (List (List PortValue))

abbrev pub inputs_to : Inputs → ℕ → List (List PortValue)
inputs_to ins node = slice_index_or ins node []

-- what the out ports have in each of the steps that a component makes at its input vectors, from its first frame on
abbrev pub outputs_in : Option Component → List (List PortValue) → List (List PortValue)
outputs_in None vectors = []
outputs_in (Some c) vectors = outputs c.behaviour (initial c.behaviour) vectors

abbrev pub outputs_of : DesignParts → Inputs → ℕ → List (List PortValue)
outputs_of design ins node = outputs_in (slice_get design.components node) (inputs_to ins node)

-- the value of an out port in a step
abbrev pub left_by : DesignParts → Inputs → ℕ → ℕ → ℕ → PortValue
left_by design ins node port step = slice_index_or (slice_index_or (outputs_of design ins node) step []) port Absent

-- and in the step before, absent before the first step
abbrev pub left_before : DesignParts → Inputs → ℕ → ℕ → ℕ → PortValue
left_before design ins node port zero = Absent
left_before design ins node port (suc step) = left_by design ins node port step

-- ---- messages
-- the values of an out port in the steps of a round
abbrev pub round_tuple : DesignParts → Inputs → ℕ → ℕ → ℕ → List PortValue
round_tuple design ins node port round =
    map (λ i. left_by design ins node port (round * rate_of design node + i)) (upwards 0 (rate_of design node))

-- a link inside a pair has its whole tuple; every other one is cut as in the composition
abbrev pub message_on : DesignParts → List Pair → Inputs → ℕ → Link → List PortValue
message_on design pairs ins round link =
    if is_to_plant pairs link then round_tuple design ins link.source.0 link.out_port round
    else if is_to_controller pairs link then round_tuple design ins link.source.0 link.out_port round
    else cut (sent_steps design.gamma design.period (rate_of design link.source.0))
    (round_tuple design ins link.source.0 link.out_port round)

-- the messages of the round before, which are absent tuples before the first
abbrev pub messages_before : DesignParts → List Pair → Inputs → ℕ → List (List PortValue)
messages_before design pairs ins zero =
    map (λ (link : Link). replicate (rate_of design link.source.0) Absent) design.links
messages_before design pairs ins (suc round) = map (message_on design pairs ins round) design.links

-- ---- the inputs of a step
-- as in the composition: the step's place of the vectors of its round
abbrev pub from_round : DesignParts → List Pair → Env → Inputs → ℕ → ℕ → PortSource → PortValue
from_round design pairs env ins rate step source =
    slice_index_or (brought_tuple design (values_at env (step / rate)) (messages_before design pairs ins (step / rate))
    rate
    source) (step % rate) Absent

-- a plant reads on a link from its controller what the controller's step before left; a controller reads on a link
-- from its plant what the plant's step of this number left
abbrev pub value_on : DesignParts → List Pair → Env → Inputs → ℕ → ℕ → ℕ → Option Link → PortValue
value_on design pairs env ins rate step number None = from_round design pairs env ins rate step (source.Link number)
value_on design pairs env ins rate step number (Some link) =
    if is_to_plant pairs link then left_before design ins link.source.0 link.out_port step
    else if is_to_controller pairs link then left_by design ins link.source.0 link.out_port step
    else from_round design pairs env ins rate step (source.Link number)

abbrev pub value_read : DesignParts → List Pair → Env → Inputs → ℕ → ℕ → PortSource → PortValue
value_read design pairs env ins rate step source.Nothing = from_round design pairs env ins rate step source.Nothing
value_read design pairs env ins rate step (source.Feed feed root) =
    from_round design pairs env ins rate step (source.Feed feed root)
value_read design pairs env ins rate step (source.Link number) =
    value_on design pairs env ins rate step number (slice_get design.links number)

-- the input vector of a step
abbrev pub vector_of : DesignParts → List Pair → Env → Inputs → ℕ → Component → ℕ → List PortValue
vector_of design pairs env ins node c step =
    map (value_read design pairs env ins c.rate step) (sources_of design node c)

-- ---- steps
-- a component's frame before a step, and what the step makes of it
abbrev pub frame_before : Inputs → ℕ → Component → ℕ → Frame
frame_before ins node c step = frame_after c.behaviour (initial c.behaviour) (take step (inputs_to ins node))

-- ---- the equations
-- the inputs of all steps of the first rounds, if the steps have the outputs of these inputs
unfoldable pub reads : DesignParts → List Pair → Env → ℕ → Inputs → Inputs
reads design pairs env rounds ins =
    map (λ numbered. map (vector_of design pairs env ins numbered.0 numbered.1) (upwards 0 (rounds * numbered.1.rate)))
    (enumerate_from 0 design.components)

-- the inputs of the first rounds are a fixed point of `reads`
abbrev pub IsFused : DesignParts → List Pair → Env → ℕ → Inputs → Type 0
IsFused design pairs env rounds ins = ins ≡ reads design pairs env rounds ins
