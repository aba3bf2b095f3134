-- The rows of fused composition, one after the other.
use Rattle.std.proofs.Common.{◌≡◌, ◌∙◌, ◌++◌, ℕ, suc, ◌+◌, List, [], sym, ap, subst, slice_get, add-one}
use Rattle.pals_base.specs.declared.basic_types.PortValue.{PortValue}
use Rattle.pals_model.specs.declared.design.DesignParts.{DesignParts}
use Rattle.pals_model.specs.declared.environment.Env.{Env}
use Rattle.pals_model.specs.ComponentInputs.{values_at}
use Rattle.pals_model.specs.DesignRules.{IsDesign}
use Rattle.pals_model.specs.RoundTexts.{text_of, row_lines}
use Rattle.pals_runs.specs.declared.plant_pairs.Pair.{Pair}
use Rattle.plant_fuse.specs.proof.Fusibility.{IsFirstBad}
use Rattle.plant_fuse.specs.FusedComposition.{ArePairs, Inputs, IsFused}
use Rattle.plant_fuse.specs.proof.FuseState.{FuseState, begun, IsAdvanced}
use Rattle.plant_fuse.specs.FusedReport.{fused_report, IsFusedReport}
use Rattle.plant_fuse.proofs.ExactlyOneSolution.{solution_exists}
use Rattle.plant_fuse.proofs.StateSolutions.{StandsAt, begins, stands_next, leaves_parts}
use Rattle.plant_fuse.proofs.PartnersAndPairLinks.{pair_at, others_apart}
use Rattle.plant_fuse.proofs.Reports.{reported_more}

-- the product is at the round, and the text has the rows before it
pub record HasRows (design : DesignParts) (pairs : List Pair) (env : Env) (round : ℕ) (product : FuseState)
    (text : List ℕ) : Type 0 where
  pub ins : Inputs
  pub solves : IsFused design pairs env round ins
  pub stands : StandsAt design pairs round ins product
  pub says : text ≡ fused_report design ins round

pub rows_begin : (design : DesignParts) (pairs : List Pair) (env : Env) (product : FuseState) (text : List ℕ)
    → IsDesign design → ArePairs design pairs → product ≡ begun design pairs → text ≡ []
    → HasRows design pairs env 0 product text
rows_begin design pairs env product text sound are is none =
    let solution = solution_exists design pairs env 0 sound are in
    record {
      ins = solution.0;
      solves = solution.1;
      stands = begins design pairs env solution.0 product sound are solution.1 is;
      says = none;
    }

pub rows_next : (design : DesignParts) (pairs : List Pair) (env : Env) (round : ℕ) (values : List PortValue)
    (old new : FuseState) (text written : List ℕ) → IsDesign design → ArePairs design pairs
    → HasRows design pairs env round old text → values ≡ values_at env round → IsAdvanced old values new
    → written ≡ text ++ text_of (row_lines new.design (λ node. slice_get new.parts node) round)
    → HasRows design pairs env (round + 1) new written
rows_next design pairs env round values old new text written sound are has here step added =
    let solution = solution_exists design pairs env (suc round) sound are in
    let moved = subst (λ vs. IsAdvanced old vs new) here step in
    let stands =
    stands_next design pairs env round sound are has.ins solution.0 has.solves solution.1 old new
    has.stands moved in
    let parts =
    leaves_parts design pairs env round sound are has.ins solution.0 has.solves solution.1 old new
    has.stands moved in
    let next : HasRows design pairs env (suc round) new written = record {
      ins = solution.0;
      solves = solution.1;
      stands = stands;
      says =
          reported_more design pairs env round has.ins solution.0 text written new.parts sound are has.solves solution.1
          has.says parts
          (added ∙ ap (λ (d : DesignParts). text ++ text_of (row_lines d (λ node. slice_get new.parts node) round))
          stands.design_is);
    } in
    subst (λ n. HasRows design pairs env n new written) (sym (add-one round)) next

pub rows_are : (design : DesignParts) (pairs : List Pair) (env : Env) (round rounds : ℕ) (product : FuseState)
    (text : List ℕ) → HasRows design pairs env round product text → round ≡ rounds
    → IsFusedReport design pairs env rounds text
rows_are design pairs env round rounds product text has all =
    subst (λ n. IsFusedReport design pairs env n text) all
    (record { ins = has.ins; solves = has.solves; says = has.says })

-- if all pairs can be fused, there is no first bad pair
pub none_bad : (design : DesignParts) (pairs : List Pair) (index : ℕ) → ArePairs design pairs
    → IsFirstBad design pairs index → ⊥
none_bad design pairs index are first =
    first.bad (record {
      pair = λ a is. pair_at design pairs are index a is;
      apart =
          record {
            others = λ other a b differ is_a is_b.
                others_apart design pairs are index other a b (λ same. differ (sym same)) is_a is_b;
          };
    })
