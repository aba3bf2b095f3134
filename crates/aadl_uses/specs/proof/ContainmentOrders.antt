-- Orders of declarations in which each follows the declarations that it contains.
use Rattle.std.specs.Prelude.{◌≡◌, ◌⊎◌, ℕ, ◌<◌, Bool, true, List, ◌++◌, length, Option, Some, None, nat_eq, slice_get}
use Rattle.std.specs.Prelude.{Contains}
use Rattle.std.specs.List.{IsDistinct, list_any}
use Rattle.aadl_uses.specs.proof.ContainmentGraphs.{Graph, below_in}

-- the target of a subcomponent, if it has one, is in the list
abbrev pub is_there : List ℕ → Option ℕ → Bool
is_there xs None = true
is_there xs (Some m) = list_any (nat_eq m) xs

-- distinct declarations, each after the declarations that its subcomponents name
pub record IsSequence (g : Graph) (xs : List ℕ) : Type 0 where
  pub distinct : IsDistinct nat_eq xs
  pub declared : (n : ℕ) → Contains xs n → n < length g
  pub behind : (k n s m : ℕ) → slice_get xs k ≡ Some n → below_in g n s ≡ Some m
      → (j : ℕ) × (j < k) × (slice_get xs j ≡ Some m)

-- and they are all declarations
pub record IsOrder (g : Graph) (xs : List ℕ) : Type 0 where
  pub sequence : IsSequence g xs
  pub all : (n : ℕ) → n < length g → Contains xs n

-- the target of a subcomponent is not in the list
pub record Misses (g : Graph) (n : ℕ) (xs : List ℕ) : Type 0 where
  pub sub : ℕ
  pub target : ℕ
  pub names : below_in g n sub ≡ Some target
  pub absent : Contains xs target → ⊥

-- a longer sequence, with the declaration unless one of its targets is missing
pub record IsPlaced (g : Graph) (number : ℕ) (old new : List ℕ) : Type 0 where
  pub more : List ℕ
  pub grown : new ≡ old ++ more
  pub sequence : IsSequence g old → IsSequence g new
  pub tried : number < length g → Contains new number ⊎ Misses g number old

-- a longer sequence, with each of the first `at` declarations whose targets are all in it
pub record ArePlaced (g : Graph) (at : ℕ) (old new : List ℕ) : Type 0 where
  pub more : List ℕ
  pub grown : new ≡ old ++ more
  pub sequence : IsSequence g old → IsSequence g new
  pub tried : (n : ℕ) → n < at → n < length g → Contains new n ⊎ Misses g n old
