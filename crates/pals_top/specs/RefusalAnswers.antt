-- Answers to bundles that have no design.
use Rattle.std.specs.Prelude.{◌≡◌, ℕ, List, ◌⊎◌}
use Rattle.bundle_designs.specs.RefusedTexts.{IsTextRefused}
use Rattle.bundle_designs.specs.AcceptedAndRefusedPackages.{IsPackageRefused}
use Rattle.pals_top.specs.declared.status.TheConstants.{TEXT_REFUSED, DESIGN_REFUSED}

-- The design text is refused, or the design is.
abbrev pub IsBundleRefused : List ℕ → List ℕ → ℕ → List ℕ → Type 0
IsBundleRefused root bundle status text =
    ((status ≡ TEXT_REFUSED) × IsTextRefused bundle text)
    ⊎ ((status ≡ DESIGN_REFUSED) × IsPackageRefused root bundle text)
