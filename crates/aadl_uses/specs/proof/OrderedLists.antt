-- Sorted lists of numbers, and their members.
use Rattle.std.specs.Prelude.{◌≡◌, ◌⊎◌, Bool, true, List, [], ◌∷◌}
use Rattle.std.specs.List.{AllByRecursion}

abbrev pub Among : {X : Type 0} → List X → X → Type 0
Among [] x = ⊥
Among (y ∷ ys) x = (x ≡ y) ⊎ Among ys x

abbrev pub Ordered : {X : Type 0} → (X → X → Bool) → List X → Type 0
Ordered before [] = Unit {0}
Ordered before (x ∷ xs) = AllByRecursion (λ y. before x y ≡ true) xs × Ordered before xs

-- a list of all elements that satisfy P, each once, in order
pub record AreListed {X : Type 0} (P : X → Type 0) (before : X → X → Bool) (xs : List X) : Type 0 where
  pub each : AllByRecursion P xs
  pub ordered : Ordered before xs
  pub complete : (x : X) → P x → Among xs x
