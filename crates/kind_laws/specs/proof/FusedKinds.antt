-- The law of the kinds of values in fused composition.
use Rattle.std.specs.Prelude.{◌≡◌, ℕ, List, All, Some, slice_get}
use Rattle.pals_model.specs.declared.design.Component.{Component}
use Rattle.pals_model.specs.declared.design.DesignParts.{DesignParts}
use Rattle.pals_model.specs.declared.environment.Env.{Env}
use Rattle.pals_model.specs.PortKindsAndRates.{out_kind}
use Rattle.pals_model.specs.DesignRules.{IsDesign}
use Rattle.pals_model.specs.proof.ValuesFitKinds.{PortFits, PortsFit, FrameFits, EnvFits}
use Rattle.pals_model.specs.proof.CompositionLaws.Kinds.{PartFits}
use Rattle.pals_runs.specs.declared.plant_pairs.Pair.{Pair}
use Rattle.plant_fuse.specs.FusedComposition.{ArePairs, Inputs, inputs_to, left_by, frame_before, IsFused}
use Rattle.plant_fuse.specs.FusedReport.{fused_part}

pub record FusedFits (design : DesignParts) (ins : Inputs) : Type 0 where
  -- what the in ports of a component have in each of its steps
  pub inputs : (node : ℕ) (c : Component) → slice_get design.components node ≡ Some c
      → All (PortsFit c.behaviour.ins) (inputs_to ins node)
  -- its frame before each step
  pub frames : (node step : ℕ) (c : Component) → slice_get design.components node ≡ Some c
      → FrameFits c.behaviour (frame_before ins node c step)
  -- what an out port has in each step
  pub left : (node port step : ℕ)
      → PortFits (out_kind (slice_get design.components node) port) (left_by design ins node port step)
  -- what a component leaves after each round
  pub parts : (node round : ℕ) (c : Component) → slice_get design.components node ≡ Some c
      → PartFits design node c (fused_part design ins round node c)

abbrev pub SolutionsFit : Type 0
SolutionsFit =
    (design : DesignParts) (pairs : List Pair) (env : Env) (rounds : ℕ) (ins : Inputs) → IsDesign design
    → ArePairs design pairs
    → EnvFits design env → IsFused design pairs env rounds ins → FusedFits design ins
