-- The output of the code for a rejected bundle or package. On an allocation failure there is no output.
use Rattle.std.specs.Prelude.{ℕ, List}
use Rattle.aadl_tree.specs.Declarations.{PackageTree}
use Rattle.bundle_designs.specs.declared.refusal.Refusal.{Refusal}
use Rattle.bundle_designs.specs.declared.refusal.Refusal.TheVariants.{Text, Design, Memory}
use Rattle.bundle_designs.specs.RefusedTexts.{IsTextRefused}
use Rattle.bundle_designs.specs.AcceptedAndRefusedPackages.{IsRefusedIn, IsPackageRefused}

-- of the text of a bundle
abbrev pub IsTextRefusal : List ℕ → Refusal → Type 0
IsTextRefusal bundle (Text text) = IsTextRefused bundle text.items
IsTextRefusal bundle (Design text) = ⊥
IsTextRefusal bundle Memory = Unit {0}

-- of the package of a text
abbrev pub IsPackageRefusal : List ℕ → PackageTree ℕ → List ℕ → Refusal → Type 0
IsPackageRefusal text tree root (Text written) = ⊥
IsPackageRefusal text tree root (Design written) = IsRefusedIn text tree root written.items
IsPackageRefusal text tree root Memory = Unit {0}

-- of a bundle, for a root
abbrev pub IsRefusal : List ℕ → List ℕ → Refusal → Type 0
IsRefusal root bundle (Text text) = IsTextRefused bundle text.items
IsRefusal root bundle (Design text) = IsPackageRefused root bundle text.items
IsRefusal root bundle Memory = Unit {0}
