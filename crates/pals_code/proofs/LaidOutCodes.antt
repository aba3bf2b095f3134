-- For the law that one listing means one design: the codes laid out for a design's behaviours are codes of its
-- components.
use Rattle.std.proofs.Common.{◌≡◌, ℕ, suc, List, [], ◌∷◌, length, map, zip, Some, slice_get, All, refl, ap, ◌∙◌}
use Rattle.std.proofs.lemmas.List.{length-map}
use Rattle.std.proofs.lemmas.List.Elements.{All-nil, All-cons}
use Rattle.pals_base.specs.declared.behaviour.BehaviourParts.{BehaviourParts}
use Rattle.pals_base.proofs.UpwardNumbers.{length-upwards}
use Rattle.pals_model.specs.declared.design.Component.{Component}
use Rattle.pals_model.specs.declared.design.DesignParts.{DesignParts}
use Rattle.pals_model.specs.DesignRules.{IsDesign}
use Rattle.step_code.specs.declared.instr.CodeParts.{CodeParts}
use Rattle.step_compiler.specs.BlockInstructions.{start_of, entry_of}
use Rattle.step_compiler.specs.LaidOutCode.{states_of, IsLaidOut, AreLaidOut}
use Rattle.design_codes.specs.DesignBehaviours.{behaviours}
use Rattle.code_listing.specs.NumberRanges.{AllFit}
use Rattle.code_listing.specs.proof.ListingInjectivity.{IsCodeOf, AreListed}

code_of : (b : BehaviourParts) (code : CodeParts) → IsLaidOut b code → IsCodeOf b code
code_of b code laid_out = record {
  vars = laid_out.vars;
  ins = laid_out.ins;
  outs = laid_out.outs;
  states =
      ap length laid_out.entries ∙ length-map (states_of b) (entry_of b (start_of b laid_out.order))
      ∙ length-upwards 0 (length b.states);
}

codes_of : (cs : List Component) (programs : List CodeParts)
    → ((k : ℕ) (b : BehaviourParts) (code : CodeParts) → slice_get (map (λ (c : Component). c.behaviour) cs) k ≡ Some b
    → slice_get programs k ≡ Some code → IsLaidOut b code)
    → All (λ p. IsCodeOf p.0.behaviour p.1) (zip cs programs)
codes_of [] programs each = All-nil (λ p. IsCodeOf p.0.behaviour p.1)
codes_of (c ∷ cs) [] each = All-nil (λ p. IsCodeOf p.0.behaviour p.1)
codes_of (c ∷ cs) (code ∷ programs) each =
    All-cons (λ p. IsCodeOf p.0.behaviour p.1) (c, code) (zip cs programs)
    (code_of c.behaviour code (each 0 c.behaviour code refl refl))
    (codes_of cs programs (λ k b program is_b is_program. each (suc k) b program is_b is_program))

pub listed : (design : DesignParts) (programs : List CodeParts) → IsDesign design
    → AreLaidOut (behaviours design) programs → AllFit design.components programs → AreListed design programs
listed design programs rules laid_out fit = record {
  rules = rules;
  count = laid_out.count ∙ length-map design.components (λ (c : Component). c.behaviour);
  each = codes_of design.components programs laid_out.each;
  fit = fit;
}
