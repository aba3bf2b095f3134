use Rattle.std.proofs.Common.{length, take}
use Rattle.pals_bus.specs.proof.LinksFromNodes.{AreOutgoing}
use Rattle.pals_bus.proofs.outgoing_links.Outgoing.new.Given as goal

-- the first links are in the lists
abbrev pub invariant-loop-number : goal.invariant-loop-number
invariant-loop-number l = AreOutgoing (length l.design.components) (take l.number l.links) l.lists
