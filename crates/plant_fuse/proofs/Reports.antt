-- The report of fused composition, row by row.
use Rattle.std.proofs.Common.{◌≡◌, ◌∙◌, ◌++◌, ℕ, suc, ◌+◌, List, [], ◌∷◌, refl, sym, ap, ap₂, slice_get, arith}
use Rattle.std.proofs.Common.{append-nil, zero-add}
use Rattle.std.specs.Prelude.{flat_map}
use Rattle.std.proofs.lemmas.Grind.{flat_map-append}
use Rattle.pals_base.specs.UpwardNumbers.{upwards}
use Rattle.pals_base.proofs.UpwardNumbers.{upwards-more, flat_map_upwards_same}
use Rattle.pals_model.specs.declared.design.DesignParts.{DesignParts}
use Rattle.pals_model.specs.declared.environment.Env.{Env}
use Rattle.pals_model.specs.declared.part.Part.{Part}
use Rattle.pals_model.specs.RoundTexts.{line_end, text_of, row_lines}
use Rattle.pals_model.specs.DesignRules.{IsDesign}
use Rattle.pals_runs.specs.declared.plant_pairs.Pair.{Pair}
use Rattle.plant_fuse.specs.FusedComposition.{ArePairs, Inputs, IsFused}
use Rattle.plant_fuse.specs.proof.SolutionConfiguration.{first_rounds}
use Rattle.plant_fuse.specs.FusedReport.{fused_parts, fused_lines, fused_report}
use Rattle.plant_fuse.specs.proof.FusedLaws.{ReportExists, ReportIsOne}
use Rattle.plant_fuse.proofs.ExactlyOneSolution.{solution_exists, solution_is_one}
use Rattle.plant_fuse.proofs.SolutionPrefixes.{solution_goes_on}
use Rattle.plant_fuse.proofs.SolutionParts.{earlier_parts}

-- one row more
more : (f : ℕ → List (List ℕ)) (rounds : ℕ)
    → text_of (flat_map f (upwards 0 (suc rounds))) ≡ text_of (flat_map f (upwards 0 rounds)) ++ text_of (f rounds)
more f rounds =
    ap (λ rs. text_of (flat_map f rs)) (upwards-more 0 rounds)
    ∙ ap text_of (flat_map-append f (upwards 0 rounds) ((0 + rounds) ∷ []))
    ∙ flat_map-append (λ line. line ++ line_end) (flat_map f (upwards 0 rounds)) (flat_map f ((0 + rounds) ∷ []))
    ∙ ap (λ lines. text_of (flat_map f (upwards 0 rounds)) ++ text_of lines)
    (append-nil (f (0 + rounds)) ∙ ap f (zero-add rounds))

module _ (design : DesignParts) (pairs : List Pair) (env : Env) (rounds : ℕ) (ins : Inputs) (sound : IsDesign design)
    (are : ArePairs design pairs) (solves : IsFused design pairs env (suc rounds) ins) where
  abbrev first : Inputs
  first = first_rounds design rounds ins

  -- the rows of fewer rounds are the rows of the solution for these rounds
  earlier_rows : fused_report design first rounds ≡ fused_report design ins rounds
  earlier_rows =
      ap text_of
      (flat_map_upwards_same (fused_lines design first) (fused_lines design ins) 0 rounds
      (λ round above below. ap (λ (parts : List Part). row_lines design (λ node. slice_get parts node) round)
      (earlier_parts design pairs env rounds ins sound are solves round (omega (arith, below)))))

  pub report_goes_on : fused_report design ins (suc rounds)
      ≡ fused_report design first rounds ++ text_of (fused_lines design ins rounds)
  report_goes_on =
      more (fused_lines design ins) rounds ∙ ap (λ t. t ++ text_of (fused_lines design ins rounds)) (sym earlier_rows)

-- the report of one round more
pub reported_more : (design : DesignParts) (pairs : List Pair) (env : Env) (rounds : ℕ) (before ins : Inputs)
    (text new : List ℕ) (parts : List Part) → IsDesign design → ArePairs design pairs
    → IsFused design pairs env rounds before → IsFused design pairs env (suc rounds) ins
    → text ≡ fused_report design before rounds → parts ≡ fused_parts design ins rounds
    → new ≡ text ++ text_of (row_lines design (λ node. slice_get parts node) rounds)
    → new ≡ fused_report design ins (suc rounds)
reported_more design pairs env rounds before ins text new parts sound are solves_before solves says left added =
    let first = first_rounds design rounds ins in
    let same : before ≡ first =
    solution_is_one design pairs env rounds before first sound are solves_before
    (solution_goes_on design pairs env rounds ins sound are solves) in
    added
    ∙ ap₂ (λ (t : List ℕ) (ps : List Part). t ++ text_of (row_lines design (λ node. slice_get ps node) rounds))
    (says ∙ ap (λ (v : Inputs). fused_report design v rounds) same) left
    ∙ sym (report_goes_on design pairs env rounds ins sound are solves)

-- ---- there is one report
pub report_exists : ReportExists
report_exists design pairs env rounds sound are =
    let solution = solution_exists design pairs env rounds sound are in
    (fused_report design solution.0 rounds, record { ins = solution.0; solves = solution.1; says = refl })

pub report_is_one : ReportIsOne
report_is_one design pairs env rounds text other sound are is_text is_other =
    is_text.says
    ∙ ap (λ (v : Inputs). fused_report design v rounds)
    (solution_is_one design pairs env rounds is_text.ins is_other.ins sound are is_text.solves is_other.solves)
    ∙ sym is_other.says
