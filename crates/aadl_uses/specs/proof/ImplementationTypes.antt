-- The types of implementations, by numbers.
use Rattle.std.specs.Prelude.{ℕ, Option, Some}
use Rattle.std.specs.Option.{option_and_then}
use Rattle.aadl_tree.specs.Declarations.{Implementation, Declaration, PackageTree}
use Rattle.aadl_names.specs.NameResolution.{implementation_in, implementation_at, type_number}

abbrev pub type_number_by : PackageTree ℕ → Option (Implementation ℕ) → Option ℕ
type_number_by tree x = option_and_then (type_number tree) x

-- the number of the type of a declaration, if it is an implementation
abbrev pub type_in : PackageTree ℕ → Declaration ℕ → Option ℕ
type_in tree d = type_number_by tree (implementation_in (Some d))

-- the number of the type of a declaration
abbrev pub type_number_at : PackageTree ℕ → ℕ → Option ℕ
type_number_at tree n = type_number_by tree (implementation_at tree n)
