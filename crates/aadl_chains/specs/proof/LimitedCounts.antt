-- The number of elements with a property, up to a limit.
use Rattle.std.specs.Prelude.{◌≡◌, ℕ, min, List, [], ◌∷◌, length}
use Rattle.std.specs.List.{AllByRecursion}
use Rattle.aadl_uses.specs.proof.OrderedLists.{Among}

abbrev pub Distinct : {X : Type 0} → List X → Type 0
Distinct [] = Unit {0}
Distinct (x ∷ xs) = AllByRecursion (λ y. x ≡ y → ⊥) xs × Distinct xs

-- all elements with P, each once
pub record AreAll {X : Type 0} (P : X → Type 0) (xs : List X) : Type 0 where
  pub each : AllByRecursion P xs
  pub distinct : Distinct xs
  pub complete : (x : X) → P x → Among xs x

-- the number of elements with P; the limit if there are more
pub record IsNumber {X : Type 0} (limit : ℕ) (P : X → Type 0) (number : ℕ) : Type 0 where
  pub all : List X
  pub are : AreAll P all
  pub number_is : number ≡ min limit (length all)
