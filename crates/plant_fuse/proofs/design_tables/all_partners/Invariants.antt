use Rattle.std.proofs.Common.{◌≡◌, map}
use Rattle.pals_base.specs.UpwardNumbers.{upwards}
use Rattle.plant_fuse.specs.proof.PartnersAndPairLinks.{partner_of}
use Rattle.plant_fuse.proofs.design_tables.all_partners.Given as goal

abbrev pub invariant-loop-node : goal.invariant-loop-node
invariant-loop-node l = l.partners ≡ map (partner_of l.pairs) (upwards 0 l.node)
