-- What the tables of a design and its pairs hold: the pairs, the partner of each component, and the wiring.
use Rattle.std.specs.Prelude.{◌≡◌, List}
use Rattle.pals_model.specs.declared.design.DesignParts.{DesignParts}
use Rattle.pals_runs.specs.declared.plant_pairs.Pair.{Pair}
use Rattle.sync_product.specs.proof.ComponentWiring.{IsWiring}
use Rattle.plant_fuse.specs.declared.design_tables.Tables.{Tables}
use Rattle.plant_fuse.specs.proof.PartnersAndPairLinks.{all_partners}

pub record AreTables (design : DesignParts) (pairs : List Pair) (tables : Tables) : Type 0 where
  pub pairs_are : tables.pairs ≡ pairs
  pub partners_are : tables.partners ≡ all_partners design pairs
  pub wiring_is : IsWiring design tables.wiring
