-- Names at distinct places are distinct if none of them is declared twice.
use Rattle.std.proofs.Common.{◌≡◌, ◌≢◌, ℕ, nat_lt, Bool, true, false, cond, ◌&&◌, List, [], ◌∷◌, refl, sym, subst, ◌∙◌}
use Rattle.std.proofs.Common.{arith}
use Rattle.aadl_tree.specs.Names.{same_name}
use Rattle.std.specs.Prelude.{flat_map}
use Rattle.std.specs.List.{list_any, AllByRecursion}
use Rattle.std.specs.Str.{str_to_ascii_lowercase}
use Rattle.std.proofs.lemmas.Bool.{false≢true}
use Rattle.std.proofs.lemmas.Bool.Decides.{nat_tests}
use Rattle.std.proofs.lemmas.Slice.Eq.{bytes_eq-Decides}
use Rattle.list_lemmas.proofs.Elements.{AllByRecursion-weaker}
use Rattle.list_lemmas.proofs.Booleans.{or_false_left, or_false_right}
use Rattle.list_lemmas.proofs.ListOperations.{append_is_nil_left, append_is_nil_right}
use Rattle.list_lemmas.proofs.PairwiseProperties.{Pairs}
use Rattle.aadl_names.specs.declared.fault.PackageFault.{PackageFault}
use Rattle.aadl_names.specs.declared.fault.PackageFault.TheVariants.{Twice}
use Rattle.aadl_names.specs.declared.declared_name.SpelledName.{SpelledName}
use Rattle.aadl_names.specs.DuplicateNames.{again, twice}
use Rattle.aadl_names.proofs.DuplicatesBesidePorts.{same_name-swapped}

-- ---- equality of names is symmetric
pub same_itself : (a : List ℕ) → same_name a a ≡ true
same_itself a = (bytes_eq-Decides (str_to_ascii_lowercase a) (str_to_ascii_lowercase a)).1 refl

-- ---- no findings

pub all_none : {X Y : Type 0} (f : X → List Y) (xs : List X) → flat_map f xs ≡ [] → AllByRecursion (λ x. f x ≡ []) xs
all_none f [] e = tt
all_none f (x ∷ xs) e =
    (append_is_nil_left (f x) (flat_map f xs) e, all_none f xs (append_is_nil_right (f x) (flat_map f xs) e))

pub all_false : {X : Type 0} (p : X → Bool) (xs : List X) → list_any p xs ≡ false → AllByRecursion (λ x. p x ≡ false) xs
all_false p [] e = tt
all_false p (x ∷ xs) e =
    (or_false_left (p x) (list_any p xs) e, all_false p xs (or_false_right (p x) (list_any p xs) e))

-- the list under a true test
pub where_true : {Y : Type 0} (b : Bool) (xs : List Y) → b ≡ true → cond b xs [] ≡ [] → xs ≡ []
where_true true xs is e = e
where_true false xs is e = absurd (false≢true is)

-- ---- all pairs
abbrev clash : SpelledName → SpelledName → Bool
clash x y = same_name x.name y.name && nat_lt y.at x.at

none_by : (b : Bool) (fault : PackageFault) → cond b (fault ∷ []) [] ≡ [] → b ≡ false
none_by true fault e = absurd (cc e)
none_by false fault e = refl

none_clashes : (xs : List SpelledName) → twice xs ≡ []
    → AllByRecursion (λ x. AllByRecursion (λ y. clash x y ≡ false) xs) xs
none_clashes xs e =
    AllByRecursion-weaker (λ x. again xs x ≡ []) (λ x. AllByRecursion (λ y. clash x y ≡ false) xs)
    (λ x none. all_false (clash x) xs (none_by (list_any (clash x) xs) (Twice x.name x.at) none)) xs
    (all_none (again xs) xs e)

-- each of two, in both orders
module _ {X : Type 0} (S : X → X → Type 0) where
  both_ways : (x : X) (ys : List X) → AllByRecursion (S x) ys → AllByRecursion (λ y. S y x) ys
      → AllByRecursion (λ y. S x y × S y x) ys
  both_ways x [] a b = tt
  both_ways x (y ∷ ys) a b = ((a.0, b.0), both_ways x ys a.1 b.1)

  pub square : (xs : List X) → AllByRecursion (λ x. AllByRecursion (S x) xs) xs → Pairs (λ x y. S x y × S y x) xs
  square [] a = tt
  square (x ∷ xs) a = (
    both_ways x xs a.0.1 (AllByRecursion-weaker (λ y. AllByRecursion (S y) (x ∷ xs)) (λ y. S y x) (λ y h. h.0) xs a.1),
    square xs (AllByRecursion-weaker (λ y. AllByRecursion (S y) (x ∷ xs)) (λ y. AllByRecursion (S y) xs)
        (λ y h. h.1) xs a.1),
  )

module _ {X : Type 0} (R S T : X → X → Type 0) (f : (x y : X) → R x y → S x y → T x y) where
  all_joined : (x : X) (ys : List X) → AllByRecursion (R x) ys → AllByRecursion (S x) ys → AllByRecursion (T x) ys
  all_joined x [] a b = tt
  all_joined x (y ∷ ys) a b = (f x y a.0 b.0, all_joined x ys a.1 b.1)

  pub pairs_joined : (xs : List X) → Pairs R xs → Pairs S xs → Pairs T xs
  pairs_joined [] a b = tt
  pairs_joined (x ∷ xs) a b = (all_joined x xs a.0 b.0, pairs_joined xs a.1 b.1)

-- ---- two equal names at two places clash
earlier : (p q : ℕ) → nat_lt q p ≡ false → nat_lt p q ≡ false → p ≡ q
earlier p q a b = grind (arith, nat_tests)

differ_by : (p q : ℕ) (a b : Bool) → (a ≡ true → b ≡ true) → (a && nat_lt q p) ≡ false → (b && nat_lt p q) ≡ false
    → p ≢ q → a ≡ false
differ_by p q true true turned f g apart = absurd (apart (earlier p q f g))
differ_by p q true false turned f g apart = absurd (false≢true (turned refl))
differ_by p q false b turned f g apart = refl

abbrev pub Apart : SpelledName → SpelledName → Type 0
Apart x y = x.at ≢ y.at

abbrev pub Differs : SpelledName → SpelledName → Type 0
Differs x y = same_name x.name y.name ≡ false

pub names_differ : (xs : List SpelledName) → twice xs ≡ [] → Pairs Apart xs → Pairs Differs xs
names_differ xs none apart =
    pairs_joined (λ x y. (clash x y ≡ false) × (clash y x ≡ false)) Apart Differs
    (λ x y no away. differ_by x.at y.at (same_name x.name y.name) (same_name y.name x.name)
    (same_name-swapped x.name y.name) no.0 no.1 away)
    xs (square (λ x y. clash x y ≡ false) xs (none_clashes xs none)) apart

-- no name is distinct from itself
pub one_name : (a b : List ℕ) → a ≡ b → same_name a b ≡ false → ⊥
one_name a b e differs = let same : same_name a b ≡ true = subst (λ c. same_name a c ≡ true) e (same_itself a) in
    false≢true (sym differs ∙ same)
