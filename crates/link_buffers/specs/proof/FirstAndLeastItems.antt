-- The first item of a list that passes a test, and the minimum of a list.
use Rattle.std.specs.Prelude.{◌≡◌, ℕ, min, Bool, true, false, List, ◌∷◌, ◌++◌, All, Option}
use Rattle.std.specs.List.{reduce}

-- this item is the first of a list that passes a test, and these are the others in their order
pub record IsFirst {X : Type 0} (passes : X → Bool) (list : List X) (first : X) (others : List X) : Type 0 where
  pub before : List X
  pub after : List X
  pub all : list ≡ before ++ first ∷ after
  pub rest : others ≡ before ++ after
  pub here : passes first ≡ true
  pub none_before : All (λ x. passes x ≡ false) before

-- the minimum of a list, if the list has an item
abbrev pub least : List ℕ → Option ℕ
least numbers = reduce min numbers
