-- The codes of the first components of a design.
use Rattle.std.proofs.Common.{◌≡◌, inl, inr, ℕ, ◌<◌, ◌≤◌, List, [], ◌∷◌, ◌++◌, length, sym, subst, arith, length-append}
use Rattle.std.proofs.lemmas.Bool.{cases_lt}
use Rattle.std.proofs.lemmas.List.{get_or_append_left, get_or_push}
use Rattle.pals_base.specs.declared.limits.TheConstants.{INSTRUCTIONS}
use Rattle.pals_model.specs.declared.design.DesignParts.{DesignParts}
use Rattle.step_code.specs.declared.instr.CodeParts.{CodeParts}
use Rattle.step_code.specs.proof.CodeMatchesBehaviour.{Means}
use Rattle.step_compiler.specs.LaidOutCode.{IsLaidOut}
use Rattle.bus_machine.specs.Plans.{component_at}
use Rattle.pals_bus.specs.proof.StepCodesOfNodes.{code_at, no_code}
use Rattle.design_codes.specs.OverlongCodes.{length_of}

-- each is laid out for its component's behaviour, means what that does, and is no longer than a code may be
pub record AreFirst (design : DesignParts) (codes : List CodeParts) : Type 0 where
  pub laid : (k : ℕ) → k < length codes → IsLaidOut (component_at design k).behaviour (code_at codes k)
  pub mean : (k : ℕ) → k < length codes → Means (code_at codes k) (component_at design k).behaviour
  pub short : (k : ℕ) → k < length codes → length_of design k ≤ INSTRUCTIONS

pub first_none : (design : DesignParts) → AreFirst design []
first_none design =
    record {
      laid = λ k lt. absurd (omega (arith, lt));
      mean = λ k lt. absurd (omega (arith, lt));
      short = λ k lt. absurd (omega (arith, lt));
    }

pub first_more : (design : DesignParts) (codes : List CodeParts) (code : CodeParts) → AreFirst design codes
    → IsLaidOut (component_at design (length codes)).behaviour code
    → Means code (component_at design (length codes)).behaviour → length_of design (length codes) ≤ INSTRUCTIONS
    → AreFirst design (codes ++ code ∷ [])
first_more design codes code are laid means size =
    let many = length-append codes (code ∷ []) in
    record {
      laid = λ k lt. elim (cases_lt k (length codes)) [
        | inl before ↦ subst (IsLaidOut (component_at design k).behaviour)
            (sym (get_or_append_left codes (code ∷ []) no_code k before)) (are.laid k before)
        | inr at ↦
            let here : length codes ≡ k = omega (arith, many, lt, at) in
            subst (IsLaidOut (component_at design k).behaviour) (sym (get_or_push codes code no_code k here))
            (subst (λ (j : ℕ). IsLaidOut (component_at design j).behaviour code) here laid)
      ];
      mean = λ k lt. elim (cases_lt k (length codes)) [
        | inl before ↦ subst (λ (c : CodeParts). Means c (component_at design k).behaviour)
            (sym (get_or_append_left codes (code ∷ []) no_code k before)) (are.mean k before)
        | inr at ↦
            let here : length codes ≡ k = omega (arith, many, lt, at) in
            subst (λ (c : CodeParts). Means c (component_at design k).behaviour)
            (sym (get_or_push codes code no_code k here))
            (subst (λ (j : ℕ). Means code (component_at design j).behaviour) here means)
      ];
      short = λ k lt. elim (cases_lt k (length codes)) [
        | inl before ↦ are.short k before
        | inr at ↦ let here : length codes ≡ k = omega (arith, many, lt, at) in
            subst (λ (j : ℕ). length_of design j ≤ INSTRUCTIONS) here size
      ];
    }
