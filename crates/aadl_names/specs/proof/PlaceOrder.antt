-- Which places precede which in the parts of a tree.
use Rattle.std.specs.Prelude.{◌≡◌, ℕ, List, [], ◌++◌, flat_map, Contains}
use Rattle.aadl_tree.specs.SpellingParts.{SpellingPart, token, may}

-- the places that the tree keeps of a part
abbrev pub places_in : SpellingPart ℕ → List ℕ
places_in (token kind places) = places
places_in (may extra) = []

abbrev pub places_of : List (SpellingPart ℕ) → List ℕ
places_of parts = flat_map places_in parts

-- one place is stored before some part, and the other after it
pub record StandsBefore (parts : List (SpellingPart ℕ)) (p q : ℕ) : Type 0 where
  pub front : List (SpellingPart ℕ)
  pub back : List (SpellingPart ℕ)
  pub split : parts ≡ front ++ back
  pub first : Contains (places_of front) p
  pub second : Contains (places_of back) q
