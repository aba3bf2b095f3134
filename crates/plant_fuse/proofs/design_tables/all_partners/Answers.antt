use Rattle.std.proofs.Common.{◌∙◌, [], ◌∷◌, ◌++◌, ap₂, sym}
use Rattle.pals_base.proofs.UpwardNumbers.{map_upwards_more}
use Rattle.plant_fuse.specs.proof.PartnersAndPairLinks.{partner_of}
use Rattle.plant_fuse.proofs.design_tables.all_partners.Goals as goal

pub loop-node-preserved : goal.loop-node-preserved
loop-node-preserved c =
    c.in_ok-push.ensures.ok
    ∙ ap₂ (λ xs x. xs ++ x ∷ []) c.loop-node.invariant c.partner.ensures
    ∙ sym (map_upwards_more (partner_of c.args.pairs.now) c.loop-node.node)
