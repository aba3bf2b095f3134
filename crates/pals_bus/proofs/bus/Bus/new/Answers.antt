use Rattle.std.proofs.Common.{◌≡◌, List, sym, subst, IfOk}
use Rattle.std.specs.Arc.{arc_value}
use Rattle.step_code.specs.declared.instr.CodeParts.{CodeParts}
use Rattle.pals_model.specs.declared.design.DesignParts.{DesignParts}
use Rattle.pals_bus.specs.BusValues.{BusValue}
use Rattle.pals_bus.specs.proof.OpeningNodes.{AreOpening, opening_bus}
use Rattle.pals_bus.specs.proof.StepCodesOfNodes.{AreCodes}
use Rattle.pals_bus.proofs.Openings.{codes_open}
use Rattle.pals_bus.proofs.bus.Bus.new.Goals as goal

pub open-requires-clause-codes : goal.open-requires-clause-codes
open-requires-clause-codes c =
    let design = arc_value c.args.design in
    let are =
    subst (λ (d : DesignParts). AreOpening d c.args.codes c.args.rounds c.in_ok-nodes.nodes) c.deref.ensures
    c.in_ok-nodes.ensures in
    subst (AreCodes design) (sym (codes_open design c.args.codes c.args.rounds c.in_ok-nodes.nodes are))
    c.requires.codes

pub open-requires-clause-nodes : goal.open-requires-clause-nodes
open-requires-clause-nodes c =
    let design = arc_value c.args.design in
    let are =
    subst (λ (d : DesignParts). AreOpening d c.args.codes c.args.rounds c.in_ok-nodes.nodes) c.deref.ensures
    c.in_ok-nodes.ensures in
    subst (λ (cs : List CodeParts). AreOpening design cs c.args.rounds c.in_ok-nodes.nodes)
    (sym (codes_open design c.args.codes c.args.rounds c.in_ok-nodes.nodes are)) are

pub returns : goal.returns
returns c =
    let design = arc_value c.args.design in
    let are =
    subst (λ (d : DesignParts). AreOpening d c.args.codes c.args.rounds c.in_ok-nodes.nodes) c.deref.ensures
    c.in_ok-nodes.ensures in
    subst (λ (cs : List CodeParts).
    IfOk c.open.result (λ (bus : BusValue). bus
    ≡ opening_bus (record { design = design; env = c.args.env; rounds = c.args.rounds; delays = c.args.delays })
    cs c.args.meeting))
    (codes_open design c.args.codes c.args.rounds c.in_ok-nodes.nodes are) c.open.ensures
