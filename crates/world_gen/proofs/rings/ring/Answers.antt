use Rattle.world_gen.proofs.RingDesigns.{parts_are_design}
use Rattle.world_gen.proofs.rings.ring.Goals as goal

pub new-requires-4 : goal.new-requires-4
new-requires-4 c =
    parts_are_design c.args.n c.in_ok-components.components c.in_ok-links.links c.new.result c.new-2.result
    c.new-3.result
    c.requires.some c.requires.most c.in_ok-components.ensures c.in_ok-links.ensures c.new.ensures c.new-2.ensures
    c.new-3.ensures
