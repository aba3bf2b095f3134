use Rattle.aadl_uses.proofs.RecursionSuspects.{leads_by}
use Rattle.aadl_uses.proofs.cycle_suspects.leads_back.Goals as goal

pub returns : goal.returns
returns c =
    leads_by c.args.graph.now c.args.number c.args.sub c.in-Some.below c.in_ok-found.found.keys c.contains.result
    c.in-Some.ensures c.in_ok-found.ensures c.contains.ensures
