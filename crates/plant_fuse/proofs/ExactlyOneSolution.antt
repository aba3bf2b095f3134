-- The equations have exactly one solution: the claims SolutionExists and SolutionIsOne.
use Rattle.std.proofs.Common.{◌≡◌, ◌∙◌, ℕ, zero, suc, ◌*◌, List, [], sym, subst₂, arith}
use Rattle.pals_model.specs.declared.design.DesignParts.{DesignParts}
use Rattle.pals_model.specs.declared.environment.Env.{Env}
use Rattle.pals_model.specs.DesignRules.{IsDesign}
use Rattle.pals_runs.specs.declared.plant_pairs.Pair.{Pair}
use Rattle.plant_fuse.specs.FusedComposition.{ArePairs, Inputs, reads, IsFused}
use Rattle.plant_fuse.specs.proof.FusedLaws.{SolutionExists, SolutionIsOne}
use Rattle.plant_fuse.proofs.StepDependencies.{Agree, same_reads, next_agree}

module _ (design : DesignParts) (pairs : List Pair) (env : Env) (rounds : ℕ) (sound : IsDesign design)
    (are : ArePairs design pairs) where
  -- ---- existence: the inputs, read again and again
  again : ℕ → Inputs
  again zero = reads design pairs env rounds []
  again (suc m) = reads design pairs env rounds (again m)

  settles : (m : ℕ) → Agree design pairs m (again m) (again (suc m))
  unfolding again
  settles zero = record {
    same = λ node step low. absurd (omega (arith, low));
  }
  settles (suc m) = next_agree design pairs sound are env rounds m (again m) (again (suc m)) (settles m)

  pub solution : (ins : Inputs) × IsFused design pairs env rounds ins
  unfolding again
  solution = (
    again (suc (rounds * 128)),
    same_reads design pairs sound are env (rounds * 128) (again (rounds * 128)) (again (suc (rounds * 128)))
        (settles (rounds * 128)) rounds (omega arith),
  )

  -- ---- and no two
  module _ (v w : Inputs) (is_v : IsFused design pairs env rounds v) (is_w : IsFused design pairs env rounds w) where
    agree_below : (m : ℕ) → Agree design pairs m v w
    agree_below zero = record {
      same = λ node step low. absurd (omega (arith, low));
    }
    agree_below (suc m) =
        subst₂ (Agree design pairs (suc m)) (sym is_v) (sym is_w)
        (next_agree design pairs sound are env rounds m v w (agree_below m))

    pub one : v ≡ w
    one =
        is_v ∙ same_reads design pairs sound are env (rounds * 128) v w (agree_below (rounds * 128)) rounds
        (omega arith) ∙ sym is_w

pub solution_exists : SolutionExists
solution_exists design pairs env rounds sound are = solution design pairs env rounds sound are

pub solution_is_one : SolutionIsOne
solution_is_one design pairs env rounds ins other sound are is_ins is_other =
    one design pairs env rounds sound are ins other is_ins is_other
