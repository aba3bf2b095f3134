-- One round of a fused composition, from the configuration before it.
use Rattle.std.specs.Prelude.{◌≡◌, ℕ, zero, suc, ◌-◌, ◌*◌, ◌<◌, if◌then◌else◌, List, [], map, drop, Option, Some, None}
use Rattle.std.specs.Prelude.{slice_get, slice_index_or}
use Rattle.std.specs.List.{enumerate_from}
use Rattle.pals_base.specs.declared.basic_types.PortValue.{PortValue}
use Rattle.pals_base.specs.declared.basic_types.PortValue.TheVariants.{Absent}
use Rattle.pals_base.specs.declared.frames.Frame.{Frame}
use Rattle.pals_base.specs.PeriodBoundAndReleases.{sent_steps}
use Rattle.pals_base.specs.StepSequences.{frame_after, outputs}
use Rattle.pals_base.specs.Tuples.{cut}
use Rattle.pals_base.specs.UpwardNumbers.{upwards}
use Rattle.pals_model.specs.declared.design.Component.{Component}
use Rattle.pals_model.specs.declared.design.Link.{Link}
use Rattle.pals_model.specs.declared.design.DesignParts.{DesignParts}
use Rattle.pals_model.specs.declared.environment.Env.{Env}
use Rattle.pals_model.specs.declared.port_sources.PortSource.{PortSource}
use Rattle.pals_model.specs.ComponentInputs.{sources_of, brought_tuple, values_at}
use Rattle.pals_model.specs.PortKindsAndRates.{rate_of}
use Rattle.pals_model.specs.Composition.{Configuration, opening, no_frame}
use Rattle.pals_runs.specs.declared.plant_pairs.Pair.{Pair}
use Rattle.plant_fuse.specs.FusedComposition.{is_to_plant, is_to_controller, Inputs, inputs_to}
use Rattle.pals_model.specs.declared.port_sources.PortSource.TheVariants as source

-- ---- what components leave in the round
-- a value for each component, each out port of it and each step
abbrev pub LeftValues : Type 0
LeftValues = ℕ → ℕ → ℕ → PortValue

abbrev pub frame_at : Configuration → ℕ → Frame
frame_at before node = slice_index_or before.frames node no_frame

abbrev pub outputs_from : Option Component → Frame → List (List PortValue) → List (List PortValue)
outputs_from None frame vectors = []
outputs_from (Some c) frame vectors = outputs c.behaviour frame vectors

-- the rows of a component, one for each step, at these input vectors of the round
abbrev pub rows_in : DesignParts → Configuration → Inputs → ℕ → List (List PortValue)
rows_in design before vectors node =
    outputs_from (slice_get design.components node) (frame_at before node) (inputs_to vectors node)

abbrev pub place_at : List (List PortValue) → ℕ → ℕ → PortValue
place_at rows port step = slice_index_or (slice_index_or rows step []) port Absent

abbrev pub left_in : DesignParts → Configuration → Inputs → LeftValues
left_in design before vectors node port step = place_at (rows_in design before vectors node) port step

-- ---- what a step of the round reads, where components leave such values
-- what the source of a link left in the step before; that of the first step is the last place of the link's message
-- before
abbrev pub left_before_by : DesignParts → Configuration → LeftValues → ℕ → Link → ℕ → PortValue
left_before_by design before left number link zero =
    slice_index_or (slice_index_or before.messages number []) (rate_of design link.source.0 - 1) Absent
left_before_by design before left number link (suc step) = left link.source.0 link.out_port step

abbrev pub brought : DesignParts → List PortValue → Configuration → ℕ → ℕ → PortSource → PortValue
brought design values before rate step source =
    slice_index_or (brought_tuple design values before.messages rate source) step Absent

abbrev pub link_by : DesignParts → List Pair → List PortValue → Configuration → LeftValues → ℕ → ℕ → ℕ
    → Option Link → PortValue
link_by design pairs values before left rate step number None =
    brought design values before rate step (source.Link number)
link_by design pairs values before left rate step number (Some link) =
    if is_to_plant pairs link then left_before_by design before left number link step
    else if is_to_controller pairs link then left link.source.0 link.out_port step
    else brought design values before rate step (source.Link number)

abbrev pub read_by : DesignParts → List Pair → List PortValue → Configuration → LeftValues → ℕ → ℕ → PortSource
    → PortValue
read_by design pairs values before left rate step source.Nothing = brought design values before rate step source.Nothing
read_by design pairs values before left rate step (source.Feed feed root) =
    brought design values before rate step (source.Feed feed root)
read_by design pairs values before left rate step (source.Link number) =
    link_by design pairs values before left rate step number (slice_get design.links number)

abbrev pub vector_by : DesignParts → List Pair → List PortValue → Configuration → LeftValues → ℕ → Component → ℕ
    → List PortValue
vector_by design pairs values before left node c step =
    map (read_by design pairs values before left c.rate step) (sources_of design node c)

abbrev pub round_vector : DesignParts → List Pair → List PortValue → Configuration → Inputs → ℕ → Component → ℕ
    → List PortValue
round_vector design pairs values before vectors node c step =
    vector_by design pairs values before (left_in design before vectors) node c step

-- ---- the round
-- these are the input vectors of the round
abbrev pub IsFusedRound : DesignParts → List Pair → List PortValue → Configuration → Inputs → Type 0
IsFusedRound design pairs values before vectors =
    vectors ≡ map (λ numbered.
    map (round_vector design pairs values before vectors numbered.0 numbered.1) (upwards 0 numbered.1.rate))
    (enumerate_from 0 design.components)

-- the tuple of an out port
abbrev pub tuple_from : DesignParts → Configuration → Inputs → ℕ → ℕ → List PortValue
tuple_from design before vectors node port =
    map (left_in design before vectors node port) (upwards 0 (rate_of design node))

abbrev pub tuple_in : DesignParts → Configuration → Inputs → Link → List PortValue
tuple_in design before vectors link = tuple_from design before vectors link.source.0 link.out_port

abbrev pub message_in : DesignParts → List Pair → Configuration → Inputs → Link → List PortValue
message_in design pairs before vectors link =
    if is_to_plant pairs link then tuple_in design before vectors link
    else if is_to_controller pairs link then tuple_in design before vectors link
    else cut (sent_steps design.gamma design.period (rate_of design link.source.0))
    (tuple_in design before vectors link)

-- the configuration after it
abbrev pub after_round : DesignParts → List Pair → Configuration → Inputs → Configuration
after_round design pairs before vectors = record {
  frames =
      map (λ numbered. frame_after numbered.1.behaviour (frame_at before numbered.0) (inputs_to vectors numbered.0))
      (enumerate_from 0 design.components);
  messages = map (message_in design pairs before vectors) design.links;
}

-- the vectors of the round after the first ones
abbrev pub last_round : DesignParts → ℕ → Inputs → Inputs
last_round design rounds ins =
    map (λ numbered. drop (rounds * numbered.1.rate) (inputs_to ins numbered.0)) (enumerate_from 0 design.components)

-- configurations that follow one another through a number of rounds of these equations, from the opening on
pub record AreRounds (design : DesignParts) (pairs : List Pair) (env : Env) (rounds : ℕ) (at : ℕ → Configuration)
    (vectors : ℕ → Inputs) : Type 0 where
  pub begins : at 0 ≡ opening design
  pub reads : (round : ℕ) → round < rounds → IsFusedRound design pairs (values_at env round) (at round) (vectors round)
  pub leaves : (round : ℕ) → round < rounds → at (suc round) ≡ after_round design pairs (at round) (vectors round)
