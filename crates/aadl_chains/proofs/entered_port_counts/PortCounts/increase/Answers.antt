use Rattle.std.proofs.Common.{◌≡◌, ◌+◌, ◌∙◌, ap, min, cond, subst, Some}
use Rattle.std.specs.Map.{lookup}
use Rattle.aadl_chains.specs.proof.PortSets.{same_port}
use Rattle.aadl_chains.proofs.EnteredPortCountTables.{taken_updated}
use Rattle.aadl_chains.proofs.entered_port_counts.PortCounts.increase.Goals as goal

pub returns : goal.returns
returns c =
    let table = c.insert.new.self.entries in
    let number = c.add_up_to-number.result in
    taken_updated c.args.self.now table c.args.port number _
    (λ other. subst (λ old. lookup (same_port other) table
    ≡ cond (same_port c.args.port other) (Some number) (lookup (same_port other) old)) c.self.view_is
    (c.in_ok-insert.ensures.updates.0 other))
    (c.add_up_to-number.ensures ∙ ap (λ n. min c.args.limit (n + c.args.more)) c.at.ensures)
