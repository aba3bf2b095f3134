-- Threads below an implementation, each by the path of subcomponents that leads to it, and their number.
use Rattle.std.specs.Prelude.{◌≡◌, ℕ, ◌<◌, true, List, length, reverse, Some, All, AllPairs, Contains, Bool, false}
use Rattle.std.specs.Prelude.{◌&&◌, ◌||◌, nat_eq, nat_lt, [], ◌∷◌}
use Rattle.aadl_tree.specs.Declarations.{Implementation, PackageTree}
use Rattle.aadl_names.specs.NameResolution.{is_thread}
use Rattle.aadl_uses.specs.ContainmentAndUse.{component_at}

-- a list of all elements that satisfy P, each once, in the given order
pub record Lists {X : Type 0} (P : X → Type 0) (Before : X → X → Type 0) (xs : List X) : Type 0 where
  pub each : All P xs
  pub in_order : AllPairs Before xs
  pub complete : (x : X) → P x → Contains xs x

-- more than n elements satisfy P
pub record MoreThan {X : Type 0} (n : ℕ) (P : X → Type 0) (Before : X → X → Type 0) : Type 0 where
  pub some : List X
  pub each : All P some
  pub in_order : AllPairs Before some
  pub many : n < length some

-- the implementation at the end of a path is a thread's
abbrev pub IsThreadOf : PackageTree ℕ → ℕ → List ℕ → Implementation ℕ → Type 0
IsThreadOf tree root path x = (component_at tree root path ≡ Some x) × (is_thread x.category ≡ true)

abbrev pub IsThreadAt : PackageTree ℕ → ℕ → List ℕ → Type 0
IsThreadAt tree root path = (x : Implementation ℕ) × IsThreadOf tree root path x

-- in depth-first order of declaration
abbrev pub path_before : List ℕ → List ℕ → Bool
path_before [] [] = false
path_before [] (y ∷ ys) = true
path_before (x ∷ xs) [] = false
path_before (x ∷ xs) (y ∷ ys) = nat_lt x y || (nat_eq x y && path_before xs ys)

-- depth-first, in order of declaration
abbrev pub PathBefore : List ℕ → List ℕ → Type 0
PathBefore a b = path_before (reverse a) (reverse b) ≡ true
