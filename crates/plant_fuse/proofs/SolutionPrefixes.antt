-- The solution for one round more begins with the solution for the rounds before it: the claim SolutionGoesOn.
use Rattle.std.proofs.Common.{◌≡◌, ◌∙◌, ℕ, zero, suc, ◌*◌, ◌<◌, ◌≤◌, List, [], ◌∷◌, map, take, Option, Some, None}
use Rattle.std.proofs.Common.{slice_get, refl, sym, ap, subst, arith}
use Rattle.std.proofs.lemmas.Nat.{mul-le}
use Rattle.list_lemmas.proofs.ElementPositions.{slice_get-take}
use Rattle.pals_base.specs.declared.basic_types.PortValue.{PortValue}
use Rattle.pals_base.specs.UpwardNumbers.{upwards}
use Rattle.pals_model.specs.declared.design.Component.{Component}
use Rattle.pals_model.specs.declared.design.DesignParts.{DesignParts}
use Rattle.pals_model.specs.declared.environment.Env.{Env}
use Rattle.pals_model.specs.PortKindsAndRates.{rate_of, rate_in}
use Rattle.pals_model.specs.DesignRules.{IsDesign}
use Rattle.pals_runs.specs.declared.plant_pairs.Pair.{Pair}
use Rattle.plant_fuse.specs.FusedComposition.{ArePairs, Inputs, inputs_to, vector_of, reads, IsFused}
use Rattle.plant_fuse.specs.proof.SolutionConfiguration.{first_rounds}
use Rattle.plant_fuse.specs.proof.FusedLaws.{SolutionGoesOn}
use Rattle.plant_fuse.proofs.FunctionTables.{table_at, table_past, table_same}
use Rattle.plant_fuse.proofs.StepRanks.{rank, rounds_of_rank}
use Rattle.plant_fuse.proofs.StepDependencies.{Agree, same_reads, read_at, read_past}

pub take_upwards : {X : Type 0} (f : ℕ → X) (from n m : ℕ) → n ≤ m
    → take n (map f (upwards from m)) ≡ map f (upwards from n)
take_upwards f from zero m less = refl
take_upwards f from (suc n) zero less = absurd (omega arith)
take_upwards f from (suc n) (suc m) less = ap (λ xs. f from ∷ xs) (take_upwards f (suc from) n m (omega arith))

module _ (design : DesignParts) (pairs : List Pair) (env : Env) (rounds : ℕ) (ins : Inputs) (sound : IsDesign design)
    (are : ArePairs design pairs) (is : IsFused design pairs env (suc rounds) ins) where
  abbrev pub fewer : Inputs
  fewer = first_rounds design rounds ins

  abbrev pub begun : ℕ → Component → List (List PortValue)
  begun node c = take (rounds * c.rate) (inputs_to ins node)

  agree_by : (node step : ℕ) → rank design pairs node step < rounds * 128 → (o : Option Component)
      → slice_get design.components node ≡ o
      → slice_get (inputs_to fewer node) step ≡ slice_get (inputs_to ins node) step
  agree_by node step low None is_c =
      ap (λ (xs : List (List PortValue)). slice_get xs step)
      (table_past begun 0 design.components node [] is_c
      ∙ sym (ap (λ (v : Inputs). inputs_to v node) is
      ∙ read_past design pairs sound are env (suc rounds) ins node is_c))
  agree_by node step low (Some c) is_c =
      let rate : rate_of design node ≡ c.rate = ap rate_in is_c in
      let inside : step < rounds * c.rate =
      subst (λ k. step < rounds * k) rate (rounds_of_rank design pairs sound node rounds step low) in
      ap (λ (xs : List (List PortValue)). slice_get xs step)
      (table_at begun 0 design.components node node c [] (omega arith) is_c)
      ∙ slice_get-take (rounds * c.rate) (inputs_to ins node) step inside

  pub agree : Agree design pairs (rounds * 128) fewer ins
  agree = record { same = λ node step low. agree_by node step low (slice_get design.components node) refl }

  begins : fewer ≡ reads design pairs env rounds ins
  unfolding reads
  begins =
      table_same begun (λ node c. map (vector_of design pairs env ins node c) (upwards 0 (rounds * c.rate)))
      design.components
      (λ node c is_c.
      let more : rounds * c.rate ≤ suc rounds * c.rate =
      mul-le rounds c.rate (suc rounds) c.rate (omega arith) (omega arith) in
      ap (take (rounds * c.rate))
      (ap (λ (v : Inputs). inputs_to v node) is ∙ read_at design pairs sound are env (suc rounds) ins node c is_c)
      ∙ take_upwards (vector_of design pairs env ins node c) 0 (rounds * c.rate) (suc rounds * c.rate) more)

  pub goes_on : IsFused design pairs env rounds fewer
  goes_on = begins ∙ sym (same_reads design pairs sound are env (rounds * 128) fewer ins agree rounds (omega arith))

pub solution_goes_on : SolutionGoesOn
solution_goes_on design pairs env rounds ins sound are is = goes_on design pairs env rounds ins sound are is
