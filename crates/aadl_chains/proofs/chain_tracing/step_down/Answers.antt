use Rattle.std.proofs.Common.{◌∙◌, sym}
use Rattle.aadl_tree.specs.proof.PackageViews.{placed}
use Rattle.aadl_chains.proofs.FirstIncomingConnections.{inner_of}
use Rattle.aadl_chains.proofs.chain_tracing.step_down.Goals as goal

pub lower_of-requires : goal.lower_of-requires
lower_of-requires c =
    inner_of (placed c.args.wires.now.uses.names.tree.now) c.requires.declared c.args.here c.args.out c.in-Some.from.0
    c.in-Some.from.1 c.requires.out
    (sym c.connection_into.ensures ∙ c.in-Some.is)
