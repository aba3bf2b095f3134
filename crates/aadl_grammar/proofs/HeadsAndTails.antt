-- Lists that are equal and not empty have equal heads and equal tails.
use Rattle.std.proofs.Common.{◌≡◌, List, ◌∷◌}

pub heads : {A : Type 0} (a b : A) (x y : List A) → a ∷ x ≡ b ∷ y → a ≡ b
heads a b x y e = cc

pub tails : {A : Type 0} (a b : A) (x y : List A) → a ∷ x ≡ b ∷ y → x ≡ y
tails a b x y e = cc
