-- The earliest of the declarations of a name.
use Rattle.std.proofs.Common.{◌≡◌, ℕ, ◌+◌, ◌<◌, ◌≤◌, Bool, true, false, cond, ◌&&◌, ◌||◌, nat_lt, List, [], ◌∷◌, length}
use Rattle.std.proofs.Common.{drop, get_or, Option, Some, None, refl, sym, ap, ◌∙◌, arith}
use Rattle.aadl_tree.specs.Names.{same_name}
use Rattle.std.specs.List.{list_any}
use Rattle.std.proofs.lemmas.Bool.{true≢false}
use Rattle.std.proofs.lemmas.Bool.Decides.{nat_tests}
use Rattle.std.proofs.Math.Bool.{or-false}
use Rattle.std.proofs.lemmas.List.{drop_all}
use Rattle.list_lemmas.proofs.ListOperations.{drop-next}
use Rattle.aadl_names.specs.declared.fault.PackageFault.TheVariants.{Twice}
use Rattle.aadl_names.specs.declared.declared_name.SpelledName.{SpelledName}
use Rattle.aadl_names.specs.declared.numbered_place.NumberedPlace.{NumberedPlace}
use Rattle.aadl_names.specs.proof.NameTables.{value_of}
use Rattle.aadl_names.specs.DuplicateNames.{again}
use Rattle.aadl_names.specs.proof.EarliestDeclarations.{sooner, is_sooner, earliest, is_before, again_by}
use Rattle.aadl_names.proofs.NameTables.{value-same}

-- ---- of two and of three
below_chain : (a b c : ℕ) → nat_lt c b ≡ true → nat_lt b a ≡ true → nat_lt c a ≡ true
below_chain a b c x y = grind (arith, nat_tests)

above_chain : (a b c : ℕ) → nat_lt c b ≡ false → nat_lt b a ≡ false → nat_lt c a ≡ false
above_chain a b c x y = grind (arith, nat_tests)

pub sooner-none : (a : Option NumberedPlace) → sooner a None ≡ a
sooner-none None = refl
sooner-none (Some a) = refl

none_last : (b : Bool) (x y : Option NumberedPlace) → sooner (cond b x y) None ≡ cond b x y
none_last true x y = sooner-none x
none_last false x y = sooner-none y

assoc_by : (a b c : NumberedPlace) (x y : Bool) → nat_lt b.at a.at ≡ x → nat_lt c.at b.at ≡ y
    → sooner (cond x (Some b) (Some a)) (Some c) ≡ sooner (Some a) (cond y (Some c) (Some b))
assoc_by a b c true true e i =
    ap (λ t. cond t (Some c) (Some b)) i ∙ sym (ap (λ t. cond t (Some c) (Some a)) (below_chain a.at b.at c.at i e))
assoc_by a b c true false e i = ap (λ t. cond t (Some c) (Some b)) i ∙ sym (ap (λ t. cond t (Some b) (Some a)) e)
assoc_by a b c false true e i = refl
assoc_by a b c false false e i =
    ap (λ t. cond t (Some c) (Some a)) (above_chain a.at b.at c.at i e) ∙ sym (ap (λ t. cond t (Some b) (Some a)) e)

sooner-assoc : (a b c : Option NumberedPlace) → sooner (sooner a b) c ≡ sooner a (sooner b c)
sooner-assoc None b c = refl
sooner-assoc (Some a) None c = refl
sooner-assoc (Some a) (Some b) None = none_last (nat_lt b.at a.at) (Some b) (Some a)
sooner-assoc (Some a) (Some b) (Some c) = assoc_by a b c (nat_lt b.at a.at) (nat_lt c.at b.at) refl refl

-- ---- one more declaration in a table
sooner_new : (old : Option NumberedPlace) (spot : NumberedPlace) → is_sooner spot old ≡ true
    → sooner old (Some spot) ≡ Some spot
sooner_new None spot e = refl
sooner_new (Some old) spot e = ap (λ t. cond t (Some spot) (Some old)) e

sooner_old : (old : Option NumberedPlace) (spot : NumberedPlace) → is_sooner spot old ≡ false
    → sooner old (Some spot) ≡ old
sooner_old None spot e = absurd (true≢false e)
sooner_old (Some old) spot e = ap (λ t. cond t (Some spot) (Some old)) e

set_by : (b : Bool) (spot : NumberedPlace) (old : Option NumberedPlace) → (b ≡ true → is_sooner spot old ≡ true)
    → cond b (Some spot) old ≡ sooner old (cond b (Some spot) None)
set_by true spot old h = sym (sooner_new old spot (h refl))
set_by false spot old h = sym (sooner-none old)

kept_by : (b : Bool) (spot : NumberedPlace) (old : Option NumberedPlace) → (b ≡ true → is_sooner spot old ≡ false)
    → old ≡ sooner old (cond b (Some spot) None)
kept_by true spot old h = sym (sooner_old old spot (h refl))
kept_by false spot old h = sym (sooner-none old)

pub spot_set : (table new : List (List ℕ × NumberedPlace)) (name : List ℕ) (spot : NumberedPlace)
    → is_sooner spot (value_of table name) ≡ true
    → ((other : List ℕ) → value_of new other ≡ cond (same_name other name) (Some spot) (value_of table other))
    → (other : List ℕ) → value_of new other
    ≡ sooner (value_of table other) (cond (same_name other name) (Some spot) None)
spot_set table new name spot first is other =
    is other ∙ set_by (same_name other name) spot (value_of table other)
    (λ s. ap (is_sooner spot) (value-same table other name s) ∙ first)

pub spot_kept : (table : List (List ℕ × NumberedPlace)) (name : List ℕ) (spot : NumberedPlace)
    → is_sooner spot (value_of table name) ≡ false
    → (other : List ℕ) → value_of table other
    ≡ sooner (value_of table other) (cond (same_name other name) (Some spot) None)
spot_kept table name spot last other =
    kept_by (same_name other name) spot (value_of table other)
    (λ s. ap (is_sooner spot) (value-same table other name s) ∙ last)

-- ---- the loop over declarations
pub next_earliest : (name : List ℕ) (xs : List SpelledName) (i : ℕ) (x : SpelledName)
    (old new whole : (Option NumberedPlace)) → i < length xs → x ≡ get_or xs i x
    → new ≡ sooner old (cond (same_name name x.name) (Some (record { number = i; at = x.at })) None)
    → sooner old (earliest name i (drop i xs)) ≡ whole → sooner new (earliest name (i + 1) (drop (i + 1) xs)) ≡ whole
next_earliest name xs i x old new whole within is more so_far =
    ap (λ (o : Option NumberedPlace). sooner o (earliest name (i + 1) (drop (i + 1) xs))) more
    ∙ (sooner-assoc old (cond (same_name name x.name) (Some (record { number = i; at = x.at })) None)
    (earliest name (i + 1) (drop (i + 1) xs))
    ∙ (ap (λ l. sooner old (earliest name i l)) (sym (drop-next xs i x within is)) ∙ so_far))

pub last_earliest : (name : List ℕ) (xs : List SpelledName) (i : ℕ) (now whole : (Option NumberedPlace)) → length xs ≤ i
    → sooner now (earliest name i (drop i xs)) ≡ whole
    → now ≡ whole
last_earliest name xs i now whole past so_far =
    sym (sooner-none now) ∙ (sym (ap (λ l. sooner now (earliest name i l)) (drop_all i xs past)) ∙ so_far)

-- ---- what the earliest one decides

before_two : (a b at : ℕ) → nat_lt (cond (nat_lt b a) b a) at ≡ (nat_lt a at || nat_lt b at)
before_two a b at = by (nat_lt b a) refl
  where
    by : (t : Bool) → nat_lt b a ≡ t → nat_lt (cond t b a) at ≡ (nat_lt a at || nat_lt b at)
    by true e = grind (arith, nat_tests)
    by false e = grind (arith, nat_tests)

before_if : (t : Bool) (a b : NumberedPlace) (at : ℕ)
    → is_before (cond t (Some b) (Some a)) at ≡ nat_lt (cond t b.at a.at) at
before_if true a b at = refl
before_if false a b at = refl

before-sooner : (a b : Option NumberedPlace) (at : ℕ) → is_before (sooner a b) at ≡ (is_before a at || is_before b at)
before-sooner None b at = refl
before-sooner (Some a) None at = sym (or-false (nat_lt a.at at))
before-sooner (Some a) (Some b) at = before_if (nat_lt b.at a.at) a b at ∙ before_two a.at b.at at

before_here : (t : Bool) (spot : NumberedPlace) (at : ℕ)
    → is_before (cond t (Some spot) None) at ≡ (t && nat_lt spot.at at)
before_here true spot at = refl
before_here false spot at = refl

-- a declaration of the name precedes a place if the earliest one does
pub any_before : (name : List ℕ) (at n : ℕ) (xs : List SpelledName)
    → list_any (λ y. same_name name y.name && nat_lt y.at at) xs ≡ is_before (earliest name n xs) at
any_before name at n [] = refl
any_before name at n (x ∷ xs) =
    ap (λ b. (same_name name x.name && nat_lt x.at at) || b) (any_before name at (n + 1) xs)
    ∙ (ap (λ b. b || is_before (earliest name (n + 1) xs) at)
    (sym (before_here (same_name name x.name) (record { number = n; at = x.at }) at))
    ∙ sym (before-sooner (cond (same_name name x.name) (Some (record { number = n; at = x.at })) None)
    (earliest name (n + 1) xs) at))

pub again-earliest : (xs : List SpelledName) (x : SpelledName) → again xs x ≡ again_by (earliest x.name 0 xs) x
again-earliest xs x = ap (λ b. cond b (Twice x.name x.at ∷ []) []) (any_before x.name x.at 0 xs)
