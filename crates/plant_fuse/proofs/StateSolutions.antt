-- States that follow one another, one round each, agree with the solution: the claim StatesFollow.
use Rattle.std.proofs.Common.{◌≡◌, ◌∙◌, inl, inr, ℕ, zero, suc, ◌<◌, List, sym, ap, ap₂, subst, arith}
use Rattle.std.proofs.lemmas.Bool.{cases_lt}
use Rattle.pals_model.specs.declared.design.DesignParts.{DesignParts}
use Rattle.pals_model.specs.declared.environment.Env.{Env}
use Rattle.pals_model.specs.ComponentInputs.{values_at}
use Rattle.pals_model.specs.Composition.{Configuration}
use Rattle.pals_model.specs.DesignRules.{IsDesign}
use Rattle.pals_runs.specs.declared.plant_pairs.Pair.{Pair}
use Rattle.plant_fuse.specs.FusedComposition.{ArePairs, Inputs, IsFused}
use Rattle.plant_fuse.specs.proof.SolutionConfiguration.{first_rounds, fused}
use Rattle.plant_fuse.specs.proof.RoundEquations.{IsFusedRound, after_round, last_round}
use Rattle.plant_fuse.specs.proof.FuseState.{FuseState, begun, parts_after, IsAdvanced, AreStates}
use Rattle.plant_fuse.specs.FusedReport.{fused_parts}
use Rattle.plant_fuse.specs.proof.FusedLaws.{StatesFollow}
use Rattle.plant_fuse.proofs.ExactlyOneSolution.{solution_is_one}
use Rattle.plant_fuse.proofs.SolutionPrefixes.{solution_goes_on}
use Rattle.plant_fuse.proofs.LastRoundOfSolution.{rounds_go_on}
use Rattle.plant_fuse.proofs.RoundUniqueness.{round_is_one}
use Rattle.plant_fuse.proofs.IteratedRounds.{opens}
use Rattle.plant_fuse.proofs.SolutionParts.{last_parts, earlier_parts}

-- a state of a design and its pairs agrees with a solution
pub record StandsAt (design : DesignParts) (pairs : List Pair) (rounds : ℕ) (ins : Inputs)
    (state : FuseState) : Type 0 where
  pub design_is : state.design ≡ design
  pub pairs_are : state.pairs ≡ pairs
  pub stands : state.configuration ≡ fused design pairs rounds ins

-- the first state
pub begins : (design : DesignParts) (pairs : List Pair) (env : Env) (ins : Inputs) (state : FuseState) → IsDesign design
    → ArePairs design pairs → IsFused design pairs env 0 ins → state ≡ begun design pairs
    → StandsAt design pairs 0 ins state
begins design pairs env ins state sound are solves is = record {
  design_is = ap (λ (s : FuseState). s.design) is;
  pairs_are = ap (λ (s : FuseState). s.pairs) is;
  stands = ap (λ (s : FuseState). s.configuration) is ∙ sym (opens design pairs env ins sound are solves);
}

-- ---- one round further
module _ (design : DesignParts) (pairs : List Pair) (env : Env) (rounds : ℕ) (sound : IsDesign design)
    (are : ArePairs design pairs)
    (before ins : Inputs) (solves_before : IsFused design pairs env rounds before)
    (solves : IsFused design pairs env (suc rounds) ins)
    (old new : FuseState) (at : StandsAt design pairs rounds before old)
    (step : IsAdvanced old (values_at env rounds) new) where
  abbrev first : Inputs
  first = first_rounds design rounds ins

  abbrev stood : Configuration
  stood = fused design pairs rounds first

  stands : old.configuration ≡ stood
  stands =
      at.stands ∙ ap (fused design pairs rounds)
      (solution_is_one design pairs env rounds before first sound are solves_before
      (solution_goes_on design pairs env rounds ins sound are solves))

  reads : IsFusedRound design pairs (values_at env rounds) stood step.vectors
  reads =
      subst (λ (d : DesignParts). IsFusedRound d pairs (values_at env rounds) stood step.vectors) at.design_is
      (subst (λ (ps : List Pair). IsFusedRound old.design ps (values_at env rounds) stood step.vectors) at.pairs_are
      (subst (λ (k : Configuration). IsFusedRound old.design old.pairs (values_at env rounds) k step.vectors) stands
      step.reads))

  vectors_are : step.vectors ≡ last_round design rounds ins
  vectors_are =
      round_is_one design pairs (values_at env rounds) stood step.vectors (last_round design rounds ins) are reads
      (rounds_go_on design pairs env rounds ins sound are solves).0

  pub stands_next : StandsAt design pairs (suc rounds) ins new
  stands_next = record {
    design_is = ap (λ (s : FuseState). s.design) step.leaves ∙ at.design_is;
    pairs_are = ap (λ (s : FuseState). s.pairs) step.leaves ∙ at.pairs_are;
    stands =
        ap (λ (s : FuseState). s.configuration) step.leaves
        ∙ ap₂ (λ (d : DesignParts) (ps : List Pair). after_round d ps old.configuration step.vectors) at.design_is
        at.pairs_are
        ∙ ap₂ (after_round design pairs) stands vectors_are
        ∙ sym (rounds_go_on design pairs env rounds ins sound are solves).1;
  }

  pub leaves_parts : new.parts ≡ fused_parts design ins rounds
  leaves_parts =
      ap (λ (s : FuseState). s.parts) step.leaves
      ∙ ap (λ (d : DesignParts). parts_after d old.configuration step.vectors) at.design_is
      ∙ ap₂ (parts_after design) stands vectors_are
      ∙ last_parts design pairs env rounds ins sound are solves

-- ---- any number of rounds
module _ (design : DesignParts) (pairs : List Pair) (env : Env) (sound : IsDesign design) (are : ArePairs design pairs)
    (at : ℕ → FuseState) where
  fewer : (rounds : ℕ) → AreStates design pairs env (suc rounds) at → AreStates design pairs env rounds at
  fewer rounds states =
      record { begins = states.begins; goes_on = λ round below. states.goes_on round (omega (arith, below)) }

  stand : (rounds : ℕ) (ins : Inputs) → AreStates design pairs env rounds at → IsFused design pairs env rounds ins
      → StandsAt design pairs rounds ins (at rounds)
  stand zero ins states solves = begins design pairs env ins (at 0) sound are solves states.begins
  stand (suc rounds) ins states solves =
      let first = first_rounds design rounds ins in
      let fits = solution_goes_on design pairs env rounds ins sound are solves in
      stands_next design pairs env rounds sound are first ins fits solves (at rounds) (at (suc rounds))
      (stand rounds first (fewer rounds states) fits) (states.goes_on rounds (omega arith))

  leave : (rounds : ℕ) (ins : Inputs) → AreStates design pairs env rounds at → IsFused design pairs env rounds ins
      → (round : ℕ) → round < rounds → (at (suc round)).parts ≡ fused_parts design ins round
  leave zero ins states solves round below = absurd (omega (arith, below))
  leave (suc rounds) ins states solves round below =
      let first = first_rounds design rounds ins in
      let fits = solution_goes_on design pairs env rounds ins sound are solves in
      elim (cases_lt round rounds) [
        | inl earlier ↦
            leave rounds first (fewer rounds states) fits round earlier
            ∙ earlier_parts design pairs env rounds ins sound are solves round earlier
        | inr late ↦ (
            let last : round ≡ rounds = omega (arith, below, late) in
            ap (λ n. (at (suc n)).parts) last
            ∙ leaves_parts design pairs env rounds sound are first ins fits solves (at rounds) (at (suc rounds))
            (stand rounds first (fewer rounds states) fits) (states.goes_on rounds (omega arith))
            ∙ sym (ap (fused_parts design ins) last))
      ]

pub states_follow : StatesFollow
states_follow design pairs env at rounds ins sound are states solves = (
  (stand design pairs env sound are at rounds ins states solves).stands,
  leave design pairs env sound are at rounds ins states solves,
)
