-- That each Boolean is 0 or 1 in each run that a scenario gives: of the composition, of rounds that are voted on, of
-- fused composition, and of the bus.
use Rattle.std.specs.Prelude.{◌≡◌, ℕ, List, Some, slice_get}
use Rattle.pals_model.specs.declared.design.Component.{Component}
use Rattle.pals_model.specs.declared.design.Link.{Link}
use Rattle.pals_model.specs.declared.design.Tap.{Tap}
use Rattle.pals_model.specs.declared.design.DesignParts.{DesignParts}
use Rattle.pals_model.specs.Composition.{state, msg, part}
use Rattle.pals_model.specs.PortKindsAndRates.{out_kind}
use Rattle.pals_model.specs.proof.ValuesFitKinds.{FrameFits, TupleFits, link_kind, EnvFits}
use Rattle.pals_model.specs.proof.CompositionLaws.Kinds.{PartFits}
use Rattle.pals_runs.specs.declared.commands.Command.{Command}
use Rattle.scenario_json.specs.declared.scenario.Scenario.{Scenario}
use Rattle.analysis_texts.specs.ReplicasAndRoundFaults.{replicated_in, faults_of}
use Rattle.triple_vote.specs.VotedComposition.{voted_composition, voted_tap}
use Rattle.plant_fuse.specs.FusedComposition.{Inputs, IsFused}
use Rattle.bus_machine.specs.BusStates.{BusState}
use Rattle.bus_machine.specs.Agreement.{Agrees}
use Rattle.kind_laws.specs.proof.VotedKinds.{FaultsFit, VotedFits}
use Rattle.kind_laws.specs.proof.FusedKinds.{FusedFits}
use Rattle.kind_laws.specs.proof.BusKinds.{BusFits}
use Rattle.pals_top.specs.BundleScenarios.{run_of, HasScenario}

-- of each design and scenario that a bundle means
abbrev pub OfScenarios : (DesignParts → Scenario → Type 0) → Type 0
OfScenarios P =
    (root bundle : List ℕ) (command : Command) (design : DesignParts) (scenario : Scenario)
    → HasScenario root bundle command design scenario → P design scenario

-- the values that it gives fit the kinds of the root in ports
abbrev pub ScenariosFit : Type 0
ScenariosFit = OfScenarios (λ design scenario. EnvFits design scenario.env)

-- so do the values of each component's frame after any number of rounds
abbrev pub StatesOfScenariosFit : Type 0
StatesOfScenariosFit = OfScenarios (λ design scenario. (node rounds : ℕ) (c : Component)
    → slice_get design.components node ≡ Some c → FrameFits c.behaviour (state design scenario.env node rounds))

-- the values of each message
abbrev pub MessagesOfScenariosFit : Type 0
MessagesOfScenariosFit = OfScenarios (λ design scenario. (number round : ℕ) (link : Link)
    → slice_get design.links number ≡ Some link
    → TupleFits (link_kind design link) (msg design scenario.env number round))

-- and the values of each component's part of a round
abbrev pub PartsOfScenariosFit : Type 0
PartsOfScenariosFit = OfScenarios (λ design scenario. (node round : ℕ) (c : Component)
    → slice_get design.components node ≡ Some c → PartFits design node c (part design scenario.env node round))

-- ---- where its rounds are voted on
-- the values of its faults fit the kinds of their links
abbrev pub FaultsOfScenariosFit : Type 0
FaultsOfScenariosFit = OfScenarios (λ design scenario. FaultsFit design (faults_of scenario.faults))

-- so do the values of each replica's frame, and of every tuple that a replica receives
abbrev pub VotesOfScenariosFit : Type 0
VotesOfScenariosFit = OfScenarios (λ design scenario. (rounds : ℕ)
    → VotedFits design (voted_composition design scenario.env (replicated_in design scenario.replicas)
    (faults_of scenario.faults) rounds))

-- and the values of each root out port
abbrev pub ShownOfScenariosFit : Type 0
ShownOfScenariosFit = OfScenarios (λ design scenario. (tap : Tap) (round : ℕ)
    → TupleFits (out_kind (slice_get design.components tap.source.0) tap.out_port)
    (voted_tap design scenario.env (replicated_in design scenario.replicas) (faults_of scenario.faults) tap round))

-- ---- where its plants are fused with their controllers
abbrev pub FusedOfScenariosFit : Type 0
FusedOfScenariosFit = OfScenarios (λ design scenario. (rounds : ℕ) (ins : Inputs)
    → IsFused design scenario.plants scenario.env rounds ins → FusedFits design ins)

-- ---- in each state of the bus that agrees with the composition, as all do that steps from the opening lead to
abbrev pub BusesOfScenariosFit : Type 0
BusesOfScenariosFit = OfScenarios (λ design scenario. (s : BusState)
    → Agrees (run_of design scenario) s → BusFits (run_of design scenario) s)
