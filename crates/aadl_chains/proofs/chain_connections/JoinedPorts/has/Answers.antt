use Rattle.aadl_tree.specs.proof.PackageViews.{placed}
use Rattle.aadl_chains.proofs.FoundChainFaults.{no_source}
use Rattle.aadl_chains.proofs.chain_connections.JoinedPorts.has.Goals as goal

pub returns-in-None : goal.returns-in-None
returns-in-None c =
    no_source (placed c.args.wires.now.uses.names.tree.now) c.args.self.now.root c.args.number c.args.wire c.in-None.is
