-- What the program answers to a bundle.
use Rattle.std.specs.Prelude.{◌≡◌, ℕ, List, [], ◌∷◌, ◌++◌, codes, decimal, ◌⊎◌}
use Rattle.pals_base.specs.declared.basic_types.NodeNo.{NodeNo}
use Rattle.pals_model.specs.declared.design.DesignParts.{DesignParts}
use Rattle.pals_model.specs.RoundTexts.{line_end}
use Rattle.pals_runs.specs.JournalLines.{node_word, spaced}
use Rattle.step_code.specs.declared.instr.CodeParts.{CodeParts}
use Rattle.step_compiler.specs.LaidOutCode.{AreLaidOut}
use Rattle.design_codes.specs.DesignBehaviours.{behaviours}
use Rattle.design_codes.specs.OverlongCodes.{AreShort, IsFirstTooLong}
use Rattle.bundle_designs.specs.RefusedTexts.{IsTextRefused}
use Rattle.bundle_designs.specs.AcceptedAndRefusedPackages.{IsAccepted, IsPackageRefused}
use Rattle.code_listing.specs.Listings.{listing}
use Rattle.code_listing.specs.NumberRanges.{AllFit}
use Rattle.pals_code.specs.declared.status.TheConstants.{DONE, TEXT_REFUSED, DESIGN_REFUSED, CODE_TOO_LONG}

-- The bundle means a design, no code of it is too long, and the text is the listing of the design and of the compiled
-- codes of its behaviours. Each behaviour has one such code. The numbers of both are within the ranges of their types.
pub record IsListed (root bundle : List ℕ) (status : ℕ) (text : List ℕ) : Type 0 where
  pub status_is : status ≡ DONE
  pub design : DesignParts
  pub scenario : List ℕ
  pub accepted : IsAccepted root bundle design scenario
  pub short : AreShort design
  pub programs : List CodeParts
  pub laid_out : AreLaidOut (behaviours design) programs
  pub fit : AllFit design.components programs
  pub text_is : text ≡ listing design programs

-- the line of a component whose code would have `size` instructions
abbrev pub overlong_code_line : DesignParts → ℕ → ℕ → List ℕ
overlong_code_line design node size = spaced (codes "code" ∷ node_word design node ∷ decimal size ∷ [])

-- The bundle means a design, and the code of this component, and of none before it, is too long.
pub record IsCodeTooLong (root bundle : List ℕ) (status : ℕ) (text : List ℕ) : Type 0 where
  pub status_is : status ≡ CODE_TOO_LONG
  pub design : DesignParts
  pub scenario : List ℕ
  pub accepted : IsAccepted root bundle design scenario
  pub node : NodeNo
  pub size : ℕ
  pub too_long : IsFirstTooLong design node.0 size
  pub text_is : text ≡ overlong_code_line design node.0 size ++ line_end

-- The design text is refused, or the design is.
abbrev pub IsRefused : List ℕ → List ℕ → ℕ → List ℕ → Type 0
IsRefused root bundle status text =
    ((status ≡ TEXT_REFUSED) × IsTextRefused bundle text)
    ⊎ ((status ≡ DESIGN_REFUSED) × IsPackageRefused root bundle text)

abbrev pub IsListingAnswer : List ℕ → List ℕ → ℕ → List ℕ → Type 0
IsListingAnswer root bundle status text =
    IsRefused root bundle status text ⊎ IsCodeTooLong root bundle status text ⊎ IsListed root bundle status text
