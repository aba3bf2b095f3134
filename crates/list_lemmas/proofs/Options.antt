-- Options that are mapped, chained, combined and tested.
use Rattle.std.proofs.Common.{◌≡◌, Bool, true, false, cond, Option, Some, None, refl, sym}
use Rattle.std.specs.Prelude.{option_map, is_some, is_none}
use Rattle.std.specs.Option.{option_and_then, option_or}
use Rattle.std.proofs.lemmas.Bool.{false≢true}

pub option_map-parts : {X Y : Type 0} (f : X → Y) (o : Option X) (y : Y) → option_map f o ≡ Some y
    → (x : X) × (o ≡ Some x) × (f x ≡ y)
option_map-parts f None y is = absurd (cc)
option_map-parts f (Some x) y is = (x, refl, cc)

pub option_map-none : {X Y : Type 0} (f : X → Y) (o : Option X) → option_map f o ≡ None → o ≡ None
option_map-none f None none = refl
option_map-none f (Some x) none = absurd (cc)

pub option_and_then_assoc : {A B C : Type 0} (f : A → Option B) (g : B → Option C) (o : Option A)
    → option_and_then g (option_and_then f o) ≡ option_and_then (λ a. option_and_then g (f a)) o
option_and_then_assoc f g None = refl
option_and_then_assoc f g (Some a) = refl

pub option_or-none : {A : Type 0} (x : Option A) → option_or x None ≡ x
option_or-none None = refl
option_or-none (Some x) = refl

pub option_or_assoc : {A : Type 0} (x y z : Option A) → option_or (option_or x y) z ≡ option_or x (option_or y z)
option_or_assoc None y z = refl
option_or_assoc (Some x) y z = refl

pub option_or-cond : {X : Type 0} (b : Bool) (n : X) (old new more : Option X) → new ≡ option_or old more
    → cond b (Some n) new ≡ option_or (cond b (Some n) old) more
option_or-cond true n old new more is = refl
option_or-cond false n old new more is = is

-- ---- consequences of a test
pub some_by_test : {X : Type 0} (o : Option X) → is_some o ≡ true → (x : X) × (o ≡ Some x)
some_by_test None is = absurd (false≢true is)
some_by_test (Some x) is = (x, refl)

pub none_by_test : {X : Type 0} (o : Option X) → is_none o ≡ true → o ≡ None
none_by_test None is = refl
none_by_test (Some x) is = absurd (false≢true is)

pub none_unless_some : {X : Type 0} (o : Option X) → is_some o ≡ false → o ≡ None
none_unless_some None fails = refl
none_unless_some (Some x) fails = absurd (false≢true (sym fails))
