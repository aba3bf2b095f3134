-- The list of partners is as long as the list of components.
use Rattle.std.proofs.Common.{◌≡◌, ◌∙◌, List, length, ap}
use Rattle.std.proofs.lemmas.List.{length-map}
use Rattle.pals_base.specs.UpwardNumbers.{upwards}
use Rattle.pals_base.proofs.UpwardNumbers.{length-upwards}
use Rattle.pals_model.specs.declared.design.DesignParts.{DesignParts}
use Rattle.pals_runs.specs.declared.plant_pairs.Pair.{Pair}
use Rattle.plant_fuse.specs.declared.design_tables.Tables.{Tables}
use Rattle.plant_fuse.specs.proof.PartnersAndPairLinks.{partner_of}
use Rattle.plant_fuse.specs.proof.DesignTables.{AreTables}

pub count_of_partners : (design : DesignParts) (pairs : List Pair) (tables : Tables) → AreTables design pairs tables
    → length tables.partners ≡ length design.components
count_of_partners design pairs tables are =
    ap length are.partners_are
    ∙ length-map (upwards 0 (length design.components)) (partner_of pairs)
    ∙ length-upwards 0 (length design.components)
