-- What holds of each product between rounds: the sizes of its parts and messages, its wiring, and its stages.
use Rattle.std.specs.Prelude.{◌≡◌, List, length, map}
use Rattle.pals_base.specs.declared.basic_types.PortValue.{PortValue}
use Rattle.pals_model.specs.declared.design.DesignParts.{DesignParts}
use Rattle.pals_model.specs.declared.part.Part.{Part}
use Rattle.sync_product.specs.declared.component_stage.Stage.{Stage}
use Rattle.sync_product.specs.declared.wiring.Wiring.{Wiring}
use Rattle.sync_product.specs.proof.ProductSizes.{part_size, part_sizes, stage_size, stage_sizes, message_sizes}
use Rattle.sync_product.specs.proof.ComponentWiring.{IsWiring}

-- room for what a round leaves
pub record HasRoom (design : DesignParts) (parts : List Part) (messages : List (List PortValue)) : Type 0 where
  pub parts_fit : map part_size parts ≡ part_sizes design
  pub messages_fit : map (λ (tuple : List PortValue). length tuple) messages ≡ message_sizes design

-- the wiring is the design's, and there is room for its components
pub record IsReady (design : DesignParts) (wiring : Wiring) (stages : List Stage) : Type 0 where
  pub wiring_is : IsWiring design wiring
  pub stages_fit : map stage_size stages ≡ stage_sizes design
