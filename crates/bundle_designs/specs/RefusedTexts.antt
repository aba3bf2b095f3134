-- The output for a bundle with a rejected design text: it has no dividing line, or its text has a first fault.
use Rattle.std.specs.Prelude.{◌≡◌, ◌≢◌, ℕ, List, ◌++◌, ◌⊎◌}
use Rattle.aadl_parse.specs.declared.text_fault.TextFault.{TextFault}
use Rattle.aadl_parse.specs.declared.text_fault.TextFault.TheVariants.{Memory}
use Rattle.aadl_parse.specs.ParseResults.{IsFaultOfText}
use Rattle.pals_model.specs.RoundTexts.{line_end}
use Rattle.bundle_designs.specs.TextFaultLines.{text_fault_line, no_divider_line}
use Rattle.bundle_designs.specs.Bundles.{IsSplit, HasNoDivider}

-- The bundle has no dividing line, and the output states this.
pub record IsUndivided (bundle text : List ℕ) : Type 0 where
  pub undivided : HasNoDivider bundle
  pub text_is : text ≡ no_divider_line bundle ++ line_end

-- The design text has no tree of the grammar, and the output names its first fault and its position.
pub record IsUnread (bundle text : List ℕ) : Type 0 where
  pub design : List ℕ
  pub scenario : List ℕ
  pub split : IsSplit bundle design scenario
  pub fault : TextFault
  pub faulty : IsFaultOfText design fault
  pub named : fault ≢ Memory
  pub text_is : text ≡ text_fault_line design fault ++ line_end

-- The bundle has no valid design text, and the output states why.
abbrev pub IsTextRefused : List ℕ → List ℕ → Type 0
IsTextRefused bundle text = IsUndivided bundle text ⊎ IsUnread bundle text
