use Rattle.std.proofs.Common.{◌≡◌, ◌∙◌, ap, subst, sym, Some}
use Rattle.list_lemmas.proofs.Booleans.{opposed}
use Rattle.aadl_tree.specs.proof.PackageViews.{placed}
use Rattle.aadl_names.specs.declared.numbered_port.NumberedPort.TheVariants.{Inner}
use Rattle.aadl_chains.specs.proof.LimitedCounts.{IsNumber}
use Rattle.aadl_chains.specs.proof.EnteredPortCountTables.{entered_count_by}
use Rattle.aadl_chains.specs.proof.EnteredThreadPorts.{IsEnteredThrough}
use Rattle.aadl_chains.proofs.FirstIncomingConnections.{own_no_inner, none_no_inner}
use Rattle.aadl_chains.proofs.EnteredPortCountTables.{through-number, through-second, through-none}
use Rattle.aadl_chains.proofs.entered_port_counts.PortCounts.through.Goals as goal

pub returns-then-is_second : goal.returns-then-is_second
returns-then-is_second c = λ known.
    through-second (placed c.args.wires.now.uses.names.tree.now) c.args.limit c.args.number c.args.at
    (c.is_second.ensures.0 c.if-is_second.true)

pub returns-else-is_second : goal.returns-else-is_second
returns-else-is_second c = λ known.
    let tree = placed c.args.wires.now.uses.names.tree.now in
    let target : c.args.wire.target ≡ Some (Inner c.in-Inner.sub c.in-Inner.port) = c.in-Some.is
    ∙ ap Some c.in-Inner.is in
    subst (IsNumber c.args.limit (IsEnteredThrough tree c.args.number c.args.at))
    (sym (c.below-else-is_second.ensures
    ∙ ap (λ o. entered_count_by c.args.limit c.args.self.now tree o c.in-Inner.port) c.below.ensures))
    (through-number tree c.args.limit c.args.number c.args.at c.args.wire c.in-Inner.sub c.in-Inner.port c.args.self.now
    c.requires.declared
    c.requires.wire target (λ s. opposed c.is_second.result (c.is_second.ensures.1 s) c.if-is_second.false) known)

pub returns-in-Own : goal.returns-in-Own
returns-in-Own c = λ known.
    through-none (placed c.args.wires.now.uses.names.tree.now) c.args.limit c.args.number c.args.at c.args.wire
    c.requires.wire
    (λ s p e. own_no_inner c.args.wire.target _ _ s p c.in-Some.is c.in-Own.is e)

pub returns-in-None : goal.returns-in-None
returns-in-None c = λ known.
    through-none (placed c.args.wires.now.uses.names.tree.now) c.args.limit c.args.number c.args.at c.args.wire
    c.requires.wire
    (λ s p e. none_no_inner c.args.wire.target s p c.in-None.is e)
