-- The frames and messages after the rounds of a solution, the outputs of each of its steps, and its inputs cut to
-- fewer rounds.
use Rattle.std.specs.Prelude.{ℕ, ◌*◌, List, map, take}
use Rattle.std.specs.List.{enumerate_from}
use Rattle.pals_base.specs.declared.frames.Frame.{Frame}
use Rattle.pals_base.specs.SingleStep.{Fired, fire, initial}
use Rattle.pals_base.specs.StepSequences.{frame_after}
use Rattle.pals_runs.specs.declared.plant_pairs.Pair.{Pair}
use Rattle.pals_model.specs.declared.design.Component.{Component}
use Rattle.pals_model.specs.declared.design.DesignParts.{DesignParts}
use Rattle.pals_model.specs.declared.environment.Env.{Env}
use Rattle.pals_model.specs.Composition.{Configuration}
use Rattle.plant_fuse.specs.FusedComposition.{Inputs, frame_before, vector_of, inputs_to, messages_before}

abbrev pub made_at : DesignParts → List Pair → Env → Inputs → ℕ → Component → ℕ → Fired
made_at design pairs env ins node c step =
    fire c.behaviour (frame_before ins node c step) (vector_of design pairs env ins node c step)

-- the inputs of fewer rounds
abbrev pub first_rounds : DesignParts → ℕ → Inputs → Inputs
first_rounds design rounds ins =
    map (λ numbered. take (rounds * numbered.1.rate) (inputs_to ins numbered.0)) (enumerate_from 0 design.components)

-- ---- the configuration after these rounds
abbrev pub frame_of : Inputs → ℕ → Component → Frame
frame_of ins node c = frame_after c.behaviour (initial c.behaviour) (inputs_to ins node)

unfoldable pub fused : DesignParts → List Pair → ℕ → Inputs → Configuration
fused design pairs rounds ins = record {
  frames = map (λ numbered. frame_of ins numbered.0 numbered.1) (enumerate_from 0 design.components);
  messages = messages_before design pairs ins rounds;
}
