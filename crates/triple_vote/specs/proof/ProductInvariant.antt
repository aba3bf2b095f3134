-- What a product of three layers keeps: its tables, and its replicas.
use Rattle.std.specs.Prelude.{◌≡◌, Bool, List, length, map}
use Rattle.pals_base.specs.declared.basic_types.PortValue.{PortValue}
use Rattle.pals_model.specs.declared.design.DesignParts.{DesignParts}
use Rattle.pals_model.specs.declared.port_sources.PortSource.{PortSource}
use Rattle.pals_model.specs.ComponentInputs.{all_sources}
use Rattle.sync_product.specs.declared.component_stage.Stage.{Stage}
use Rattle.sync_product.specs.proof.ProductSizes.{stage_size, stage_sizes}
use Rattle.triple_vote.specs.declared.replica_layer.Layer.{Layer}
use Rattle.triple_vote.specs.proof.ReplicaLayers.{lengths, tap_sizes}
use Rattle.triple_vote.specs.proof.ThreeLayers.{HasReceivedSizes, AreThree, HaveReplicas, there_in}

-- the tables are the design's
pub record HasTables (design : DesignParts) (replicated : List Bool) (sources : List (List PortSource))
    (stages : List Stage) : Type 0 where
  pub replicated_fit : length replicated ≡ length design.components
  pub sources_are : sources ≡ all_sources design
  pub stages_fit : map stage_size stages ≡ stage_sizes design

pub record HasReplicas (design : DesignParts) (replicated : List Bool) (layers : List Layer)
    (received_messages : List (List (List PortValue))) (shown : List (List PortValue)) : Type 0 where
  pub layers_fit : AreThree design layers
  pub layers_are : HaveReplicas design replicated (there_in layers)
  pub heard_fit : HasReceivedSizes design received_messages
  pub shown_fit : lengths shown ≡ tap_sizes design
