use Rattle.std.proofs.Common.{◌≡◌, ◌∙◌, List, length, map, sym, ap, ap₂, subst, IfOk}
use Rattle.std.specs.Arc.{arc_value}
use Rattle.step_code.specs.declared.instr.CodeParts.{CodeParts}
use Rattle.pals_model.specs.declared.design.DesignParts.{DesignParts}
use Rattle.pals_model.specs.declared.delays.Delays.{Delays}
use Rattle.pals_model.specs.Delays.{AreDelays}
use Rattle.bus_machine.specs.RunParameters.{Run}
use Rattle.pals_node.specs.proof.NodeAndJobValues.{NodeValue, opening_value}
use Rattle.pals_bus.specs.BusValues.{BusValue}
use Rattle.pals_bus.specs.proof.BusInvariant.{value_of}
use Rattle.pals_bus.specs.proof.OpeningNodes.{AreOpening, opening_bus}
use Rattle.pals_bus.specs.proof.StepCodesOfNodes.{AreCodes, codes_in}
use Rattle.pals_bus.proofs.NodeChanges.{codes_mean}
use Rattle.pals_bus.proofs.Openings.{codes_open, nodes_anew, run_anew}
use Rattle.pals_bus.proofs.bus.Bus.fresh.Goals as goal

pub open-requires-clause-delays : goal.open-requires-clause-delays
open-requires-clause-delays c =
    let f = c.self.inside.fields in
    subst (λ (d : DesignParts). AreDelays (length d.links) c.in_ok-delays.delays) (sym c.in_ok-design.ensures)
    (subst (λ (ds : Delays). AreDelays (length (arc_value f.design).links) ds) (sym c.in_ok-delays.ensures)
    c.self.invariant.delays)

pub open-requires-clause-codes : goal.open-requires-clause-codes
open-requires-clause-codes c =
    let f = c.self.inside.fields in
    let nodes = c.in_ok-nodes.nodes in
    let keeps = c.self.invariant.nodes in
    let are =
    nodes_anew (arc_value f.design) f.rounds f.nodes nodes keeps
    (c.in_ok-nodes.ensures ∙ ap (map (λ (n : NodeValue). opening_value n.program n.rounds)) c.as_slice.ensures) in
    subst (λ (d : DesignParts). AreCodes d (codes_in nodes)) (sym c.in_ok-design.ensures)
    (subst (AreCodes (arc_value f.design)) (sym (codes_open (arc_value f.design) (codes_in f.nodes) f.rounds nodes are))
    (codes_mean (arc_value f.design) f.rounds f.nodes keeps))

pub open-requires-clause-nodes : goal.open-requires-clause-nodes
open-requires-clause-nodes c =
    let f = c.self.inside.fields in
    let nodes = c.in_ok-nodes.nodes in
    let are =
    nodes_anew (arc_value f.design) f.rounds f.nodes nodes c.self.invariant.nodes
    (c.in_ok-nodes.ensures ∙ ap (map (λ (n : NodeValue). opening_value n.program n.rounds)) c.as_slice.ensures) in
    subst (λ (d : DesignParts). AreOpening d (codes_in nodes) f.rounds nodes) (sym c.in_ok-design.ensures)
    (subst (λ (cs : List CodeParts). AreOpening (arc_value f.design) cs f.rounds nodes)
    (sym (codes_open (arc_value f.design) (codes_in f.nodes) f.rounds nodes are)) are)

pub returns : goal.returns
returns c =
    let f = c.self.inside.fields in
    let nodes = c.in_ok-nodes.nodes in
    let are =
    nodes_anew (arc_value f.design) f.rounds f.nodes nodes c.self.invariant.nodes
    (c.in_ok-nodes.ensures ∙ ap (map (λ (n : NodeValue). opening_value n.program n.rounds)) c.as_slice.ensures) in
    let shows : value_of f ≡ c.args.self.now = cc in
    let run_is =
    run_anew f (arc_value c.in_ok-design.design) c.in_ok-env.env c.in_ok-delays.delays c.in_ok-design.ensures
    c.in_ok-env.ensures c.in_ok-delays.ensures in
    let codes_are = codes_open (arc_value f.design) (codes_in f.nodes) f.rounds nodes are in
    subst (λ (b : BusValue). IfOk c.open.result (λ (bus : BusValue). bus ≡ b))
    (ap₂ (λ (r : Run) (cs : List CodeParts). opening_bus r cs f.meeting) run_is codes_are
    ∙ ap (λ (b : BusValue). opening_bus b.run b.codes b.meeting) shows) c.open.ensures
