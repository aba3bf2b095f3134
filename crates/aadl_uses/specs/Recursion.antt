-- A subcomponent that closes a cycle, and packages with implementations that contain themselves.
use Rattle.std.specs.Prelude.{◌≡◌, ℕ, List, [], ◌∷◌, ◌++◌, Some}
use Rattle.aadl_tree.specs.Declarations.{Subcomponent, PackageTree}
use Rattle.aadl_names.specs.declared.fault.PackageFault.{PackageFault}
use Rattle.aadl_names.specs.declared.fault.PackageFault.TheVariants.{Recursive}
use Rattle.aadl_uses.specs.ContainmentAndUse.{number_at_path, sub_at}

-- a subcomponent that leads back to the implementation that contains it
pub record ClosesCycle (tree : PackageTree ℕ) (sub : Subcomponent ℕ) : Type 0 where
  pub within : ℕ
  pub number : ℕ
  pub path : List ℕ
  pub is_sub : sub_at tree within number ≡ Some sub
  pub returns : number_at_path tree within (path ++ number ∷ []) ≡ Some within

abbrev pub IsRecursive : PackageTree ℕ → PackageFault → Type 0
IsRecursive tree fault =
    (sub : Subcomponent ℕ) × ClosesCycle tree sub × (fault ≡ Recursive sub.name.spelling sub.name.at)
