-- A scenario that was read suits its design: its events and trace are short, its events are events of its world, and
-- its pairs can be fused.
use Rattle.std.proofs.Common.{ℕ, ◌≤◌, true, false, List, [], length, codes, Ok, refl, sym, arith}
use Rattle.std.proofs.lemmas.Bool.{false≢true}
use Rattle.serde_json.specs.Find.{get}
use Rattle.pals_base.specs.declared.limits.TheConstants.{LIST_ITEMS}
use Rattle.pals_model.specs.declared.design.DesignParts.{DesignParts}
use Rattle.pals_model.specs.DesignRules.{IsDesign}
use Rattle.pals_runs.specs.declared.commands.Command.{Command}
use Rattle.scenario_json.specs.Events.{events_in}
use Rattle.scenario_json.specs.Traces.{trace_in}
use Rattle.analysis_fields.specs.Plants.{plants_in}
use Rattle.scenario_json.specs.declared.scenario.Scenario.{Scenario}
use Rattle.scenario_json.specs.proof.ScenarioValidity.{IsScenarioOf}
use Rattle.scenario_json.specs.Scenarios.{needs_events, needs_trace, Means}
use Rattle.scenario_json.proofs.ScenarioValidity.{answer_keeps}
use Rattle.plant_fuse.specs.FusedComposition.{ArePairs}
use Rattle.plant_fuse.proofs.EquationsWithoutPairs.{no_pairs}
use Rattle.scenario_laws.specs.proof.LooseEvents.{loose_world_command, AreLooseEvents}
use Rattle.scenario_laws.proofs.SuccessfulFields.{field_keeps, means_fields, means_read}
use Rattle.scenario_laws.proofs.ScenarioEvents.{events_few, events_loose}
use Rattle.scenario_laws.proofs.TraceLineLimit.{trace_few}
use Rattle.scenario_laws.proofs.FusiblePairs.{pairs_fit}

pub events_are_few : (bytes : List ℕ) (command : Command) (design : DesignParts) (s : Scenario)
    → Means bytes design command (Ok s)
    → length s.events ≤ LIST_ITEMS
events_are_few bytes command design s means =
    let read = means_read bytes design command s means in
    field_keeps (codes "events") (needs_events command) [] (events_in design command) (get (codes "events") read.0)
    (λ v. length v ≤ LIST_ITEMS)
    (λ free. omega arith) (events_few design command) s.events read.1.events

pub traces_are_few : (bytes : List ℕ) (command : Command) (design : DesignParts) (s : Scenario)
    → Means bytes design command (Ok s)
    → length s.trace ≤ LIST_ITEMS
traces_are_few bytes command design s means =
    let read = means_read bytes design command s means in
    field_keeps (codes "trace") (needs_trace command) [] trace_in (get (codes "trace") read.0)
    (λ t. length t ≤ LIST_ITEMS)
    (λ free. omega arith) trace_few s.trace read.1.trace

pub events_are_loose : (bytes root : List ℕ) (design : DesignParts) (s : Scenario)
    → Means bytes design (loose_world_command root) (Ok s)
    → AreLooseEvents design s.events
events_are_loose bytes root design s means =
    let read = means_read bytes design (loose_world_command root) s means in
    field_keeps (codes "events") true [] (events_in design (loose_world_command root)) (get (codes "events") read.0)
    (AreLooseEvents design)
    (λ free. absurd (false≢true (sym free))) (events_loose design root) s.events read.1.events

pub pairs_can_be_fused : (bytes : List ℕ) (command : Command) (design : DesignParts) (s : Scenario)
    → Means bytes design command (Ok s)
    → ArePairs design s.plants
pairs_can_be_fused bytes command design s means =
    let read = means_read bytes design command s means in
    field_keeps (codes "plants") false [] (plants_in design) (get (codes "plants") read.0) (ArePairs design)
    (λ free. no_pairs design) (pairs_fit design) s.plants read.1.plants

pub scenarios_suit : (bytes : List ℕ) (command : Command) (design : DesignParts) (s : Scenario) → IsDesign design
    → Means bytes design command (Ok s)
    → IsScenarioOf design s
scenarios_suit bytes command design s rules means =
    let fields = means_fields bytes design command s means in
    answer_keeps fields.0 design design command (Ok s) refl rules fields.1
