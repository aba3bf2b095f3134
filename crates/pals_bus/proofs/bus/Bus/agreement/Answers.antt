use Rattle.std.proofs.Common.{◌≡◌, subst}
use Rattle.std.specs.Arc.{arc_value}
use Rattle.bus_machine.specs.Agreement.{Agrees}
use Rattle.pals_bus.specs.proof.BusInvariant.{value_of}
use Rattle.pals_bus.specs.proof.StepCodesOfNodes.{AreCodes}
use Rattle.pals_bus.specs.BusValues.{BusValue}
use Rattle.pals_bus.proofs.NodeChanges.{codes_mean}
use Rattle.pals_bus.proofs.InvariantConsequences.{agrees}
use Rattle.pals_bus.proofs.bus.Bus.agreement.Goals as goal

pub returns-clause-agrees : goal.returns-clause-agrees
returns-clause-agrees c =
    let f = c.self.inside.fields in
    let shows : value_of f ≡ c.args.self.now = cc in
    subst (λ (b : BusValue). Agrees b.run b.state) shows (agrees f c.self.invariant)

pub returns-clause-codes : goal.returns-clause-codes
returns-clause-codes c =
    let f = c.self.inside.fields in
    let shows : value_of f ≡ c.args.self.now = cc in
    subst (λ (b : BusValue). AreCodes b.run.design b.codes) shows
    (codes_mean (arc_value f.design) f.rounds f.nodes c.self.invariant.nodes)
