-- The image of an optional value exists if and only if the value does.
use Rattle.std.proofs.Common.{◌≡◌, ◌∙◌, Option, Some, None, refl, sym, ap}
use Rattle.std.specs.Option.{is_some}
use Rattle.std.specs.Prelude.{option_map}

pub has_mapped : {A B : Type 0} (f : A → B) (o : Option A) → is_some (option_map f o) ≡ is_some o
has_mapped f None = refl
has_mapped f (Some x) = refl

pub of_mapped : {A B : Type 0} (f : A → B) (o : Option A) (x : A) (y : B) → Some x ≡ o
    → Some y ≡ option_map f o → y ≡ f x
of_mapped f o x y is made = let same : Some y ≡ Some (f x) = made ∙ ap (option_map f) (sym is) in cc
