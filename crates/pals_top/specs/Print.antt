-- What `print` answers to a bundle.
use Rattle.std.specs.Prelude.{◌≡◌, ℕ, List, ◌⊎◌}
use Rattle.bundle_designs.specs.CanonicalTexts.{IsPrinted}
use Rattle.bundle_designs.specs.RefusedTexts.{IsTextRefused}
use Rattle.pals_top.specs.declared.status.TheConstants.{DONE, TEXT_REFUSED}

-- the canonical text of the design, or why the design text is refused
abbrev pub IsPrintAnswer : List ℕ → ℕ → List ℕ → Type 0
IsPrintAnswer bundle status text =
    ((status ≡ DONE) × IsPrinted bundle text) ⊎ ((status ≡ TEXT_REFUSED) × IsTextRefused bundle text)
