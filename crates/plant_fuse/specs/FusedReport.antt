-- The report of fused composition: the composition's report, from the parts of the components at the solution of the
-- equations.
use Rattle.std.specs.Prelude.{◌≡◌, ℕ, suc, ◌*◌, List, map, flat_map, slice_get}
use Rattle.std.specs.List.{enumerate_from}
use Rattle.pals_base.specs.UpwardNumbers.{upwards}
use Rattle.pals_model.specs.declared.design.Component.{Component}
use Rattle.pals_model.specs.declared.design.Tap.{Tap}
use Rattle.pals_model.specs.declared.design.DesignParts.{DesignParts}
use Rattle.pals_model.specs.declared.environment.Env.{Env}
use Rattle.pals_model.specs.declared.part.Part.{Part}
use Rattle.pals_model.specs.Composition.{taps_of}
use Rattle.pals_model.specs.RoundTexts.{text_of, row_lines}
use Rattle.pals_runs.specs.declared.plant_pairs.Pair.{Pair}
use Rattle.plant_fuse.specs.FusedComposition.{Inputs, round_tuple, frame_before, IsFused}

-- what a component leaves after the steps of a round: its frame, and the whole tuple of each of its taps
abbrev pub fused_part : DesignParts → Inputs → ℕ → ℕ → Component → Part
fused_part design ins round node c = record {
  frame = frame_before ins node c (suc round * c.rate);
  outs = map (λ (tap : Tap). round_tuple design ins node tap.out_port round) (taps_of design node);
}

-- the parts of all components
abbrev pub fused_parts : DesignParts → Inputs → ℕ → List Part
fused_parts design ins round =
    map (λ numbered. fused_part design ins round numbered.0 numbered.1) (enumerate_from 0 design.components)

-- the row of a round
abbrev pub fused_lines : DesignParts → Inputs → ℕ → List (List ℕ)
fused_lines design ins round = row_lines design (λ node. slice_get (fused_parts design ins round) node) round

-- the rows of the first rounds
abbrev pub fused_report : DesignParts → Inputs → ℕ → List ℕ
fused_report design ins rounds = text_of (flat_map (fused_lines design ins) (upwards 0 rounds))

-- a text is the report of the first rounds of fused composition: that of a solution of its equations for these rounds
pub record IsFusedReport (design : DesignParts) (pairs : List Pair) (env : Env) (rounds : ℕ)
    (text : List ℕ) : Type 0 where
  pub ins : Inputs
  pub solves : IsFused design pairs env rounds ins
  pub says : text ≡ fused_report design ins rounds
