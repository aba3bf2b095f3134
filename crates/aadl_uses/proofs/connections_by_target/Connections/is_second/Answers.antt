use Rattle.std.proofs.Common.{ap, sym, ◌∙◌}
use Rattle.aadl_uses.specs.SecondConnections.{target_in}
use Rattle.aadl_uses.specs.proof.FirstConnections.{is_before}
use Rattle.aadl_uses.proofs.FirstConnections.{is_second-tells, no_second}
use Rattle.aadl_uses.proofs.connections_by_target.Connections.is_second.Goals as goal

pub returns-in-Some : goal.returns-in-Some
returns-in-Some c =
    is_second-tells c.args.self.now c.args.number c.in-Some.target c.is_before.result
    (sym (ap (λ l. target_in l c.args.number) c.as_slice.ensures) ∙ (sym c.target_at.ensures ∙ c.in-Some.is))
    (c.is_before.ensures ∙ ap (λ o. is_before o c.args.number) c.first_into.ensures)

pub returns-in-None : goal.returns-in-None
returns-in-None c = no_second c.args.self.now c.args.number
    (sym (ap (λ l. target_in l c.args.number) c.as_slice.ensures) ∙ (sym c.target_at.ensures ∙ c.in-None.is))
