-- What each fused product keeps: its tables are the design's, its pairs can be fused, and its components have room.
use Rattle.std.specs.Prelude.{◌≡◌, List, map}
use Rattle.pals_model.specs.declared.design.DesignParts.{DesignParts}
use Rattle.sync_product.specs.declared.component_stage.Stage.{Stage}
use Rattle.sync_product.specs.proof.ProductSizes.{stage_size, stage_sizes}
use Rattle.plant_fuse.specs.declared.design_tables.Tables.{Tables}
use Rattle.plant_fuse.specs.FusedComposition.{ArePairs}
use Rattle.plant_fuse.specs.proof.DesignTables.{AreTables}

-- the tables are the design's, its pairs can be fused, and there is room for its components
pub record IsReady (design : DesignParts) (tables : Tables) (stages : List Stage) : Type 0 where
  pub tables_are : AreTables design tables.pairs tables
  pub pairs_fit : ArePairs design tables.pairs
  pub stages_fit : map stage_size stages ≡ stage_sizes design
