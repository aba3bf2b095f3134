use Rattle.std.proofs.Common.{◌↔◌, IsTrue, subst, sym}
use Rattle.aadl_tree.specs.proof.PackageViews.{placed}
use Rattle.aadl_chains.specs.declared.ports_joined_outside.PortSearch.{PortSearch}
use Rattle.aadl_chains.specs.proof.PortsJoinedOutside.{LeadsFrom}
use Rattle.aadl_chains.specs.proof.ConnectionsOnChains.{IsOnChain}
use Rattle.aadl_chains.proofs.FoundChainFaults.{ways_tell, no_target}
use Rattle.aadl_chains.proofs.chain_connections.JoinedPorts.goes_on.Goals as goal

pub returns-in-Some : goal.returns-in-Some
returns-in-Some c =
    let tree = placed c.args.wires.now.uses.names.tree.now in
    let root = c.args.self.now.root in
    let n = c.args.number in
    let comes = c.leads-comes.result in
    let goes = c.leads-goes.result in
    subst (λ b. IsTrue b ↔ IsOnChain tree root n c.args.wire) (sym c.both.ensures)
    (ways_tell tree root n c.args.wire c.args.source c.in-Some.target comes goes c.requires.source c.in-Some.is
    (subst (λ (x : PortSearch). IsTrue comes ↔ LeadsFrom tree x.root x.direction n c.args.source)
    c.requires.ways.fed_side c.leads-comes.ensures)
    (subst (λ (x : PortSearch). IsTrue goes ↔ LeadsFrom tree x.root x.direction n c.in-Some.target)
    c.requires.ways.led_side c.leads-goes.ensures))

pub returns-in-None : goal.returns-in-None
returns-in-None c =
    no_target (placed c.args.wires.now.uses.names.tree.now) c.args.self.now.root c.args.number c.args.wire c.in-None.is
