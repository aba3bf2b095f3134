-- If all nodes are done, all rounds are finished by all.
use Rattle.std.proofs.Common.{◌≡◌, ◌∙◌, ℕ, zero, suc, ◌<◌, min, List, [], ◌∷◌, length, fold, Some, slice_get, refl, sym}
use Rattle.std.proofs.Common.{ap, subst, arith}
use Rattle.std.proofs.lemmas.Option.{get_or_from_slice_get, slice_get_within, slice_get-get_or}
use Rattle.pals_runs.specs.declared.phase.Phase.TheVariants.{Done}
use Rattle.bus_machine.specs.Nodes.{NodeState}
use Rattle.bus_machine.specs.Plans.{component_at, no_component}
use Rattle.bus_machine.specs.BusStates.{BusState, node_at, no_node, finished_by_all}
use Rattle.bus_machine.specs.RunParameters.{Run}
use Rattle.bus_machine.specs.Agreement.{PhaseAgrees, Agrees}
use Rattle.run_laws.specs.Meetings.{AllDone}

has_all : (run : Run) (s : BusState) (node : ℕ) (n : NodeState) → Agrees run s → AllDone run s
    → slice_get s.nodes node ≡ Some n
    → length n.parts ≡ run.rounds
has_all run s node n agree done is =
    let within = slice_get_within s.nodes node n is in
    let count = agree.node_count in
    let here : node < length run.design.components = omega (arith, within, count) in
    let component = component_at run.design node in
    let phase = (agree.nodes node component (slice_get-get_or run.design.components node no_component here)).phase in
    let finished : PhaseAgrees run node component (node_at s node) Done =
    subst (PhaseAgrees run node component (node_at s node)) (done node here) phase in
    let same : node_at s node ≡ n = get_or_from_slice_get s.nodes node n no_node is in
    ap (λ (m : NodeState). length m.parts) (sym same) ∙ finished.0.finished ∙ finished.1

least_of : (rounds : ℕ) (ns : List NodeState)
    → ((k : ℕ) (n : NodeState) → slice_get ns k ≡ Some n → length n.parts ≡ rounds)
    → fold (λ least (n : NodeState). min least (length n.parts)) rounds ns ≡ rounds
least_of rounds [] each = refl
least_of rounds (n ∷ ns) each =
    let first = each zero n refl in
    let same : min rounds (length n.parts) ≡ rounds = omega (arith, first) in
    ap (λ least. fold (λ least (n : NodeState). min least (length n.parts)) least ns) same
    ∙ least_of rounds ns (λ k other is. each (suc k) other is)

pub done_finish_all : (run : Run) (s : BusState) → Agrees run s → AllDone run s → finished_by_all run s ≡ run.rounds
done_finish_all run s agree done = least_of run.rounds s.nodes (λ k n is. has_all run s k n agree done is)
