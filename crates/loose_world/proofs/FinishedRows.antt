-- The law of rows: the text has the rows of the rounds that the nodes of a bus have finished.
use Rattle.std.proofs.Common.{◌≡◌, inl, inr, ℕ, zero, suc, ◌<◌, ◌≤◌, Bool, List, [], ◌∷◌, length, map, slice_get}
use Rattle.std.proofs.Common.{Option, Some, None, refl, sym, ap, ◌∙◌, arith}
use Rattle.std.specs.Prelude.{fold, max, min, flat_map, slice_index_or, if◌then◌else◌}
use Rattle.std.proofs.lemmas.Bool.{lt-ltb, le-ltb, cases_lt}
use Rattle.std.proofs.lemmas.Option.{slice_get-get_or}
use Rattle.std.proofs.lemmas.List.{nil_from_length}
use Rattle.pals_base.specs.UpwardNumbers.{upwards}
use Rattle.pals_base.proofs.UpwardNumbers.{slice_get-map_upwards, map_upwards_same, flat_map_upwards_same}
use Rattle.pals_model.specs.declared.design.Component.{Component}
use Rattle.pals_model.specs.declared.part.Part.{Part}
use Rattle.pals_model.specs.Composition.{part}
use Rattle.pals_model.specs.RoundTexts.{row_lines, text_of, report, composed_lines}
use Rattle.pals_model.proofs.TextLineLaws.{same_row}
use Rattle.pals_runs.specs.declared.events_and_faults.Event.{Event}
use Rattle.bus_machine.specs.Plans.{component_at, no_component}
use Rattle.bus_machine.specs.Nodes.{NodeState}
use Rattle.bus_machine.specs.BusStates.{BusState, node_at, no_node, finished_by_all}
use Rattle.bus_machine.specs.RunParameters.{Run}
use Rattle.bus_machine.specs.Agreement.{Agrees}
use Rattle.bus_machine.specs.proof.AgreementLaws.{IsRunOf}
use Rattle.bus_machine.specs.WorldTexts.{finished_by, part_shown, rounds_shown, world_rows}
use Rattle.pals_bus.specs.BusValues.{BusValue}
use Rattle.loose_world.specs.proof.FinishedRows.{part_of_round, finished, finished_lines, common_lines}
use Rattle.loose_world.specs.proof.BusAfterEvents.{IsLeftBy}
use Rattle.loose_world.proofs.FinishedAndSentRounds.{rounds_are_finished}
use Rattle.loose_world.proofs.BusAfterEvents.{events_replay}

-- ---- numbers from one on
past_from : {X : Type 0} (f : ℕ → X) (from m k : ℕ) → m ≤ k → slice_get (map f (upwards from m)) k ≡ None
past_from f from zero k past = refl
past_from f from (suc m) zero past = absurd (omega arith)
past_from f from (suc m) (suc k) past = past_from f (suc from) m k (omega arith)

-- ---- the rounds that all nodes have finished
-- at most the rounds of the run
least_at_most : (a : ℕ) (ns : List NodeState) → fold (λ least (n : NodeState). min least (length n.parts)) a ns ≤ a
least_at_most a [] = omega arith
least_at_most a (n ∷ ns) = let rest = least_at_most (min a (length n.parts)) ns in omega arith

-- and at most the rounds of each node
least_at : (a : ℕ) (ns : List NodeState) (k : ℕ) (d : NodeState) → k < length ns
    → fold (λ least (n : NodeState). min least (length n.parts)) a ns ≤ length (slice_index_or ns k d).parts
least_at a [] k d within = absurd (omega (arith, within))
least_at a (n ∷ ns) zero d within = let rest = least_at_most (min a (length n.parts)) ns in omega arith
least_at a (n ∷ ns) (suc k) d within = least_at (min a (length n.parts)) ns k d (omega (arith, within))

pub rounds_without_nodes : (run : Run) (s : BusState) → Agrees run s → run.design.components ≡ []
    → finished_by_all run s ≡ run.rounds
rounds_without_nodes run s agree none =
    ap (fold (λ least (n : NodeState). min least (length n.parts)) run.rounds)
    (nil_from_length s.nodes (agree.node_count ∙ ap (λ (cs : List Component). length cs) none))

-- ---- parts
-- a node that agrees has the composition's part of each round that it has finished
pub part_is : (run : Run) (t : BusValue) (node round : ℕ) → Agrees run t.state → node < length run.design.components
    → round < length (node_at t.state node).parts
    → part_of_round t round node ≡ Some (part run.design run.env node round)
part_is run t node round agree within below =
    let parts =
    (agree.nodes node (component_at run.design node)
    (slice_get-get_or run.design.components node no_component within)).parts in
    ap (λ ps. slice_get ps round) parts
    ∙ slice_get-map_upwards (part run.design run.env node) (length (node_at t.state node).parts) round below

no_part : (run : Run) (t : BusValue) (node round : ℕ) → Agrees run t.state → node < length run.design.components
    → length (node_at t.state node).parts ≤ round → part_of_round t round node ≡ None
no_part run t node round agree within past =
    let parts =
    (agree.nodes node (component_at run.design node)
    (slice_get-get_or run.design.components node no_component within)).parts in
    ap (λ ps. slice_get ps round) parts
    ∙ past_from (part run.design run.env node) 0 (length (node_at t.state node).parts) round past

same_part : (run : Run) (events : List Event) (t : BusValue) (lines : List (List ℕ)) (node round : ℕ) → IsRunOf run
    → IsLeftBy run events t lines → node < length run.design.components
    → part_of_round t round node ≡ part_shown run.design run.env events round node
same_part run events t lines node round rules left within =
    let agree = (events_replay run events t lines rules left).agrees in
    let count : length (node_at t.state node).parts ≡ finished_by run.design events node =
    rounds_are_finished run events t lines rules left node within in
    let shown : Bool → Option Part = λ b. if b then Some (part run.design run.env node round) else None in
    elim (cases_lt round (finished_by run.design events node)) [
      | inl below ↦ part_is run t node round agree within (omega arith)
          ∙ ap shown (sym (lt-ltb round (finished_by run.design events node) below))
      | inr past ↦ no_part run t node round agree within (omega arith)
          ∙ ap shown (sym (le-ltb round (finished_by run.design events node) past))
    ]

-- ---- rows
pub finished_rows : (run : Run) (events : List Event) (t : BusValue) (lines : List (List ℕ)) → IsRunOf run
    → IsLeftBy run events t lines
    → finished_lines t ≡ world_rows run.design run.env events
finished_rows run events t lines rules left =
    let is_run = (events_replay run events t lines rules left).run_is in
    let counts : finished t ≡ map (finished_by run.design events) (upwards 0 (length run.design.components)) =
    ap (λ (r : Run). map (λ node. length (node_at t.state node).parts) (upwards 0 (length r.design.components))) is_run
    ∙ map_upwards_same (λ node. length (node_at t.state node).parts) (finished_by run.design events) 0
    (length run.design.components)
    (λ k above below. rounds_are_finished run events t lines rules left k (omega arith)) in
    ap (λ (r : Run). flat_map (λ round. row_lines r.design (part_of_round t round) round)
    (upwards 0 (fold max 0 (finished t)))) is_run
    ∙ ap (λ ks. flat_map (λ round. row_lines run.design (part_of_round t round) round)
    (upwards 0 (fold max 0 ks))) counts
    ∙ flat_map_upwards_same (λ round. row_lines run.design (part_of_round t round) round)
    (λ round. row_lines run.design (part_shown run.design run.env events round) round) 0
    (rounds_shown run.design events)
    (λ round above below. same_row run.design (part_of_round t round) (part_shown run.design run.env events round) round
    rules.design (λ node within. same_part run events t lines node round rules left within))

pub common_rows : (t : BusValue) → IsRunOf t.run → Agrees t.run t.state
    → text_of (common_lines t) ≡ report t.run.design t.run.env (finished_by_all t.run t.state)
common_rows t rules agree =
    let design = t.run.design in
    let env = t.run.env in
    let count = agree.node_count in
    ap text_of (flat_map_upwards_same (λ round. row_lines design (part_of_round t round) round)
    (composed_lines design env) 0 (finished_by_all t.run t.state)
    (λ round above below. same_row design (part_of_round t round) (λ node. Some (part design env node round)) round
    rules.design
    (λ node within.
    let least = least_at t.run.rounds t.state.nodes node no_node (omega (arith, count, within)) in
    part_is t.run t node round agree within (omega arith))))
