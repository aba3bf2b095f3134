use Rattle.std.proofs.Common.{◌≡◌, drop}
use Rattle.plant_fuse.specs.proof.PartnersAndPairLinks.{partner_of}
use Rattle.plant_fuse.proofs.design_tables.partner.Given as goal

-- it is in none of the first pairs
abbrev pub invariant-loop-pair : goal.invariant-loop-pair
invariant-loop-pair l = partner_of l.pairs l.node ≡ partner_of (drop l.pair-index l.pairs) l.node
