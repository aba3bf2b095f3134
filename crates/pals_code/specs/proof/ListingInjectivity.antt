-- What two bundles have in common whose listings are one.
use Rattle.std.specs.Prelude.{◌≡◌, ℕ, List}
use Rattle.code_listing.specs.proof.ListingInjectivity.{told_design}
use Rattle.pals_code.specs.BundleAnswers.{IsListed}

-- their designs and codes have the same parts
abbrev pub OneListingOneDesign : Type 0
OneListingOneDesign = (root other_root bundle other_bundle : List ℕ) (status other_status : ℕ) (text : List ℕ)
    → (one : IsListed root bundle status text) (other : IsListed other_root other_bundle other_status text)
    → told_design one.design one.programs ≡ told_design other.design other.programs
