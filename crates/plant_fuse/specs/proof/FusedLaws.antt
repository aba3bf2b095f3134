-- The claims on fused composition: its equations have exactly one solution, which is computed round by round, and it
-- has one report.
use Rattle.std.specs.Prelude.{◌≡◌, ℕ, suc, ◌*◌, ◌<◌, [], List, Some, slice_get, slice_index_or}
use Rattle.pals_base.specs.declared.basic_types.PortValue.{PortValue}
use Rattle.pals_base.specs.declared.basic_types.PortValue.TheVariants.{Absent}
use Rattle.pals_model.specs.declared.design.Component.{Component}
use Rattle.pals_model.specs.declared.design.DesignParts.{DesignParts}
use Rattle.pals_model.specs.declared.environment.Env.{Env}
use Rattle.pals_model.specs.DesignRules.{IsDesign}
use Rattle.pals_model.specs.Composition.{Configuration, comp}
use Rattle.pals_model.specs.ComponentInputs.{values_at}
use Rattle.plant_fuse.specs.proof.RoundEquations.{IsFusedRound, after_round, last_round, AreRounds}
use Rattle.pals_runs.specs.declared.plant_pairs.Pair.{Pair}
use Rattle.pals_model.specs.RoundTexts.{report}
use Rattle.plant_fuse.specs.FusedComposition.{ArePairs, Inputs, left_by, frame_before, IsFused}
use Rattle.plant_fuse.specs.proof.SolutionConfiguration.{made_at, first_rounds, fused}
use Rattle.plant_fuse.specs.proof.FuseState.{FuseState, AreStates}
use Rattle.plant_fuse.specs.FusedReport.{fused_parts, IsFusedReport}

-- the equations have a solution for each number of rounds
abbrev pub SolutionExists : Type 0
SolutionExists =
    (design : DesignParts) (pairs : List Pair) (env : Env) (rounds : ℕ) → IsDesign design → ArePairs design pairs →
    (ins : Inputs) × IsFused design pairs env rounds ins

-- and no two
abbrev pub SolutionIsOne : Type 0
SolutionIsOne =
    (design : DesignParts) (pairs : List Pair) (env : Env) (rounds : ℕ) (ins other : Inputs) → IsDesign design
    → ArePairs design pairs →
    IsFused design pairs env rounds ins → IsFused design pairs env rounds other → ins ≡ other

-- and the solution for one round more begins with it
abbrev pub SolutionGoesOn : Type 0
SolutionGoesOn =
    (design : DesignParts) (pairs : List Pair) (env : Env) (rounds : ℕ) (ins : Inputs) → IsDesign design
    → ArePairs design pairs →
    IsFused design pairs env (suc rounds) ins → IsFused design pairs env rounds (first_rounds design rounds ins)

-- each step continues from the frame before it, at the vector that it reads, and has the outputs of that step: so the
-- steps can run one after the other
abbrev pub StepsAreMade : Type 0
StepsAreMade =
    (design : DesignParts) (pairs : List Pair) (env : Env) (rounds : ℕ) (ins : Inputs) (node : ℕ) (c : Component)
    (step : ℕ) → IsDesign design → ArePairs design pairs →
    IsFused design pairs env rounds ins → slice_get design.components node ≡ Some c → step < rounds * c.rate →
    (frame_before ins node c (suc step) ≡ (made_at design pairs env ins node c step).frame)
    × ((port : ℕ) → left_by design ins node port step
    ≡ slice_index_or (made_at design pairs env ins node c step).outs port Absent)

-- the configuration after one more round follows from the configuration before it by one round of these equations
abbrev pub RoundsGoOn : Type 0
RoundsGoOn =
    (design : DesignParts) (pairs : List Pair) (env : Env) (rounds : ℕ) (ins : Inputs) → IsDesign design
    → ArePairs design pairs →
    IsFused design pairs env (suc rounds) ins →
    IsFusedRound design pairs (values_at env rounds) (fused design pairs rounds (first_rounds design rounds ins))
    (last_round design rounds ins)
    × (fused design pairs (suc rounds) ins
    ≡ after_round design pairs (fused design pairs rounds (first_rounds design rounds ins))
    (last_round design rounds ins))

-- and no two inputs of a round meet these
abbrev pub RoundIsOne : Type 0
RoundIsOne =
    (design : DesignParts) (pairs : List Pair) (values : List PortValue) (before : Configuration)
    (vectors other : Inputs) → ArePairs design pairs →
    IsFusedRound design pairs values before vectors → IsFusedRound design pairs values before other → vectors ≡ other

-- so computing one round after another gives, after any number of rounds, the configuration of the solution
abbrev pub RoundsFollow : Type 0
RoundsFollow =
    (design : DesignParts) (pairs : List Pair) (env : Env) (at : ℕ → Configuration) (vectors : ℕ → Inputs) (rounds : ℕ)
    (ins : Inputs) → IsDesign design → ArePairs design pairs →
    AreRounds design pairs env rounds at vectors → IsFused design pairs env rounds ins
    → at rounds ≡ fused design pairs rounds ins

-- without pairs it is the composition
abbrev pub WithoutPairs : Type 0
WithoutPairs = (design : DesignParts) (env : Env) (rounds : ℕ) (ins : Inputs) → IsDesign design →
    IsFused design [] env rounds ins → fused design [] rounds ins ≡ comp design env rounds

-- states that follow one another agree with the solution, and their parts are the parts of the components in each
-- round
abbrev pub StatesFollow : Type 0
StatesFollow =
    (design : DesignParts) (pairs : List Pair) (env : Env) (at : ℕ → FuseState) (rounds : ℕ) (ins : Inputs)
    → IsDesign design → ArePairs design pairs →
    AreStates design pairs env rounds at → IsFused design pairs env rounds ins →
    ((at rounds).configuration ≡ fused design pairs rounds ins)
    × ((round : ℕ) → round < rounds → (at (suc round)).parts ≡ fused_parts design ins round)

-- ---- the report
-- there is one
abbrev pub ReportExists : Type 0
ReportExists =
    (design : DesignParts) (pairs : List Pair) (env : Env) (rounds : ℕ) → IsDesign design → ArePairs design pairs →
    (text : List ℕ) × IsFusedReport design pairs env rounds text

-- and no two
abbrev pub ReportIsOne : Type 0
ReportIsOne =
    (design : DesignParts) (pairs : List Pair) (env : Env) (rounds : ℕ) (text other : List ℕ) → IsDesign design
    → ArePairs design pairs →
    IsFusedReport design pairs env rounds text → IsFusedReport design pairs env rounds other → text ≡ other

-- without pairs it is that of the composition
abbrev pub ReportWithoutPairs : Type 0
ReportWithoutPairs = (design : DesignParts) (env : Env) (rounds : ℕ) (text : List ℕ) → IsDesign design →
    IsFusedReport design [] env rounds text → text ≡ report design env rounds
