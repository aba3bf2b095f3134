-- For the laws of types: properties of all elements of lists that are changed, cut or joined, and of the values of
-- results.
use Rattle.std.proofs.Common.{◌≡◌, ℕ, zero, suc, Bool, true, false, cond, List, [], ◌∷◌, map, All, Some, refl, ap}
use Rattle.std.specs.Prelude.{Result, Ok, Err, IfOk, slice_index_or, slice_set, flat_map, find}
use Rattle.std.proofs.lemmas.List.Elements.{All-nil, All-cons, All-head, All-tail, All-append}
use Rattle.list_lemmas.proofs.Elements.{found_either}
use Rattle.pals_base.specs.declared.basic_types.Trap.{Trap}
use Rattle.pals_base.specs.ExpressionValues.{on_value}

-- ---- at a place
pub index_fits : {X : Type 0} (P : X → Type 0) (xs : List X) (k : ℕ) (d : X) → All P xs → P d
    → P (slice_index_or xs k d)
index_fits P [] k d all none = none
index_fits P (x ∷ xs) zero d all none = All-head P x xs all
index_fits P (x ∷ xs) (suc k) d all none = index_fits P xs k d (All-tail P x xs all) none

pub set_keeps : {X : Type 0} (P : X → Type 0) (xs : List X) (x y : ℕ) (v d : X) → (y ≡ x → P v)
    → P (slice_index_or xs y d) → P (slice_index_or (slice_set xs x v) y d)
set_keeps P [] x y v d new old = old
set_keeps P (z ∷ xs) zero zero v d new old = new refl
set_keeps P (z ∷ xs) zero (suc y) v d new old = old
set_keeps P (z ∷ xs) (suc x) zero v d new old = old
set_keeps P (z ∷ xs) (suc x) (suc y) v d new old = set_keeps P xs x y v d (λ same. new (ap suc same)) old

pub set_all : {X : Type 0} (P : X → Type 0) (xs : List X) (k : ℕ) (v : X) → All P xs → P v → All P (slice_set xs k v)
set_all P [] k v all new = all
set_all P (x ∷ xs) zero v all new = All-cons P v xs new (All-tail P x xs all)
set_all P (x ∷ xs) (suc k) v all new =
    All-cons P x (slice_set xs k v) (All-head P x xs all) (set_all P xs k v (All-tail P x xs all) new)

pub map_all : {X Y : Type 0} (P : X → Type 0) (Q : Y → Type 0) (f : X → Y) (xs : List X) → ((x : X) → P x → Q (f x))
    → All P xs → All Q (map f xs)
map_all P Q f [] each all = All-nil Q
map_all P Q f (x ∷ xs) each all =
    All-cons Q (f x) (map f xs) (each x (All-head P x xs all)) (map_all P Q f xs each (All-tail P x xs all))

pub flat_all : {X Y : Type 0} (P : X → Type 0) (Q : Y → Type 0) (f : X → List Y) (xs : List X)
    → ((x : X) → P x → All Q (f x)) → All P xs → All Q (flat_map f xs)
flat_all P Q f [] each all = All-nil Q
flat_all P Q f (x ∷ xs) each all =
    All-append Q (f x) (flat_map f xs) (each x (All-head P x xs all)) (flat_all P Q f xs each (All-tail P x xs all))

pub every : {X : Type 0} (P : X → Type 0) (xs : List X) → ((x : X) → P x) → All P xs
every P [] each = All-nil P
every P (x ∷ xs) each = All-cons P x xs (each x) (every P xs each)

pub find_fits : {X : Type 0} (P : X → Type 0) (test : X → Bool) (xs : List X) (found : X) → All P xs
    → find test xs ≡ Some found → P found
find_fits P test [] found all is = absurd (cc)
find_fits P test (x ∷ xs) found all is =
    found_either P (test x) x found (find test xs) (All-head P x xs all)
    (λ later. find_fits P test xs found (All-tail P x xs all) later) is

-- ---- results
pub any_ok : {A : Type 0} (P : A → Type 0) (r : Result A Trap) → ((x : A) → P x) → IfOk r P
any_ok P (Ok x) each = each x
any_ok P (Err trap) each = tt

pub on_ok : {A B : Type 0} (Q : B → Type 0) (r : Result A Trap) (go : A → Result B Trap) → ((x : A) → IfOk (go x) Q)
    → IfOk (on_value r go) Q
on_ok Q (Ok x) go keeps = keeps x
on_ok Q (Err trap) go keeps = tt

pub if_ok : {A : Type 0} (P : A → Type 0) (b : Bool) (x y : Result A Trap) → IfOk x P → IfOk y P → IfOk (cond b x y) P
if_ok P true x y here there = here
if_ok P false x y here there = there
