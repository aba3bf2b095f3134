-- The declarations in use below the root.
use Rattle.std.specs.Prelude.{◌≡◌, ◌↔◌, ℕ, nat_eq, Bool, true, ◌&&◌, List, Option, Some}
use Rattle.std.specs.List.{list_any, enumerate_from}
use Rattle.std.specs.Option.{option_and_then}
use Rattle.aadl_tree.specs.Declarations.{Declaration, PackageTree}
use Rattle.aadl_names.specs.NameResolution.{implementation_in, type_number}
use Rattle.aadl_uses.specs.ContainmentAndUse.{IsInUse}
use Rattle.model_violations.specs.IgnoredProperties.{is_number}

-- whether a list has a number
abbrev pub has : List ℕ → ℕ → Bool
has numbers n = list_any (nat_eq n) numbers

-- the predicate for the implementations that the root contains, including its own
abbrev pub IsUse : PackageTree ℕ → ℕ → (ℕ → Bool) → Type 0
IsUse tree root used = (n : ℕ) → (used n ≡ true) ↔ IsInUse tree root n

-- ---- a type is in use if one of its implementations is
abbrev pub own_type : PackageTree ℕ → Declaration ℕ → Option ℕ
own_type tree d = option_and_then (type_number tree) (implementation_in (Some d))

abbrev pub uses_type : PackageTree ℕ → (ℕ → Bool) → ℕ → ℕ × Declaration ℕ → Bool
uses_type tree used n (m, d) = used m && is_number n (own_type tree d)

abbrev pub type_used : PackageTree ℕ → (ℕ → Bool) → ℕ → Bool
type_used tree used n = list_any (uses_type tree used n) (enumerate_from 0 tree.declarations)
