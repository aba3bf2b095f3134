-- What contracts see of a fused product.
use Rattle.std.specs.Prelude.{◌≡◌, ℕ, suc, ◌<◌, List, map, refl}
use Rattle.std.specs.List.{enumerate_from}
use Rattle.std.specs.Coded.{Coded, code_by, coded×, coded_list}
use Rattle.pals_base.specs.contracts.frames.Frame.{the_row as frames}
use Rattle.pals_base.specs.contracts.basic_types.PortValue.{the_row as ports}
use Rattle.pals_model.specs.contracts.design.DesignParts.{the_row as design_parts}
use Rattle.pals_model.specs.contracts.part.Part.{the_row as parts}
use Rattle.pals_runs.specs.contracts.plant_pairs.Pair.{the_row as all_pairs}
use Rattle.pals_base.specs.declared.frames.Frame.{Frame}
use Rattle.pals_base.specs.declared.basic_types.PortValue.{PortValue}
use Rattle.pals_base.specs.StepSequences.{frame_after}
use Rattle.pals_model.specs.declared.design.Component.{Component}
use Rattle.pals_model.specs.declared.design.Tap.{Tap}
use Rattle.pals_model.specs.declared.design.DesignParts.{DesignParts}
use Rattle.pals_model.specs.declared.environment.Env.{Env}
use Rattle.pals_model.specs.declared.part.Part.{Part}
use Rattle.pals_model.specs.ComponentInputs.{values_at}
use Rattle.pals_model.specs.Composition.{Configuration, opening, taps_of}
use Rattle.pals_runs.specs.declared.plant_pairs.Pair.{Pair}
use Rattle.sync_product.specs.proof.ProductStates.{opening_parts}
use Rattle.plant_fuse.specs.FusedComposition.{Inputs, inputs_to}
use Rattle.plant_fuse.specs.proof.RoundEquations.{frame_at, tuple_from, IsFusedRound, after_round}

-- a design and its pairs, the configuration after some rounds, and what the components left in the last of them
pub record FuseState : Type 0 where
  pub design : DesignParts
  pub pairs : List Pair
  pub configuration : Configuration
  pub parts : List Part

-- a state is stored as its parts
abbrev pub state_code : Coded FuseState
state_code =
    code_by (DesignParts × (List Pair × (List Frame × (List (List PortValue) × List Part))))
    (coded× design_parts.coded
    (coded× (coded_list all_pairs.coded)
    (coded× (coded_list frames.coded) (coded× (coded_list (coded_list ports.coded)) (coded_list parts.coded)))))
    (λ s. (s.design, (s.pairs, (s.configuration.frames, (s.configuration.messages, s.parts)))))
    (λ p. record {
      design = p.0;
      pairs = p.1.0;
      configuration = record { frames = p.1.1.0; messages = p.1.1.1.0 };
      parts = p.1.1.1.1;
    })
    (λ _. refl)

-- before the first round: as the composition begins
abbrev pub begun : DesignParts → List Pair → FuseState
begun design pairs =
    record { design = design; pairs = pairs; configuration = opening design; parts = opening_parts design }

-- ---- one round further
-- what a component leaves in a round with these input vectors: its frame, and the whole tuple of each of its taps
abbrev pub part_after : DesignParts → Configuration → Inputs → ℕ → Component → Part
part_after design before vectors node c = record {
  frame = frame_after c.behaviour (frame_at before node) (inputs_to vectors node);
  outs = map (λ (tap : Tap). tuple_from design before vectors node tap.out_port) (taps_of design node);
}

abbrev pub parts_after : DesignParts → Configuration → Inputs → List Part
parts_after design before vectors =
    map (λ numbered. part_after design before vectors numbered.0 numbered.1) (enumerate_from 0 design.components)

abbrev pub advanced : FuseState → Inputs → FuseState
advanced state vectors = record {
  design = state.design;
  pairs = state.pairs;
  configuration = after_round state.design state.pairs state.configuration vectors;
  parts = parts_after state.design state.configuration vectors;
}

-- with these values of the root in ports: the steps read what they are to read, and the state is what they leave
pub record IsAdvanced (old : FuseState) (values : List PortValue) (new : FuseState) : Type 0 where
  pub vectors : Inputs
  pub reads : IsFusedRound old.design old.pairs values old.configuration vectors
  pub leaves : new ≡ advanced old vectors

-- states that follow one another through the first rounds of an environment
pub record AreStates (design : DesignParts) (pairs : List Pair) (env : Env) (rounds : ℕ)
    (at : ℕ → FuseState) : Type 0 where
  pub begins : at 0 ≡ begun design pairs
  pub goes_on : (round : ℕ) → round < rounds → IsAdvanced (at round) (values_at env round) (at (suc round))
