-- Which declarations are threads, and the number of threads below an implementation.
use Rattle.std.specs.Prelude.{◌≡◌, ℕ, Bool, false, List, length, map, min, Option, Some, None}
use Rattle.aadl_tree.specs.Declarations.{Implementation, Declaration, PackageTree}
use Rattle.aadl_names.specs.NameResolution.{implementation_in, is_thread}
use Rattle.aadl_uses.specs.ThreadsBelow.{IsThreadAt, Lists, PathBefore}

-- which declarations are implementations of threads
abbrev pub is_thread_in : Option (Implementation ℕ) → Bool
is_thread_in None = false
is_thread_in (Some x) = is_thread x.category

abbrev pub is_thread_declaration : Declaration ℕ → Bool
is_thread_declaration d = is_thread_in (implementation_in (Some d))

abbrev pub thread_marks : PackageTree ℕ → List Bool
thread_marks tree = map is_thread_declaration tree.declarations

-- the number of threads below an implementation, up to the limit
pub record AreCounted (tree : PackageTree ℕ) (limit n count : ℕ) : Type 0 where
  pub paths : List (List ℕ)
  pub listed : Lists (IsThreadAt tree n) PathBefore paths
  pub count_is : count ≡ min limit (length paths)
