-- Runs of lines of one form, one after the other.
use Rattle.std.proofs.Common.{◌≡◌, ℕ, nat_eq, Bool, true, false, ◌&&◌, List, [], ◌∷◌, ◌++◌, map, All, refl, sym, ap}
use Rattle.std.proofs.Common.{ap₂, ◌∙◌}
use Rattle.std.specs.List.{list_all}
use Rattle.std.proofs.lemmas.Bool.{and_parts, true≢false}
use Rattle.std.proofs.lemmas.List.{map-id}
use Rattle.std.proofs.lemmas.List.Elements.{All-head, All-tail}

-- whether a line begins with these bytes
abbrev pub begins : List ℕ → List ℕ → Bool
begins [] line = true
begins (byte ∷ bytes) [] = false
begins (byte ∷ bytes) (first ∷ line) = nat_eq byte first && begins bytes line

-- there is no line, or the first one does not begin so
abbrev pub EndsAt : List ℕ → List (List ℕ) → Type 0
EndsAt front [] = Unit {0}
EndsAt front (line ∷ lines) = begins front line ≡ false

pub no_end : {A : Type 0} (front line : List ℕ) (lines rest : List (List ℕ)) → begins front line ≡ true
    → EndsAt front rest → line ∷ lines ≡ rest → A
no_end front line lines [] passes ends same = absurd (cc)
no_end front line lines (other ∷ rest) passes ends same =
    let head : line ≡ other = cc in absurd (true≢false (sym passes ∙ ap (begins front) head ∙ ends))

-- a run of lines that begin so ends where the next one does not
pub parted : (front : List ℕ) (run other rest behind : List (List ℕ)) → list_all (begins front) run ≡ true
    → list_all (begins front) other ≡ true
    → EndsAt front rest → EndsAt front behind → run ++ rest ≡ other ++ behind → (run ≡ other) × (rest ≡ behind)
parted front [] [] rest behind each each_other ends ends_other same = (refl, same)
parted front [] (line ∷ other) rest behind each each_other ends ends_other same =
    no_end front line (other ++ behind) rest
    (and_parts (begins front line) (list_all (begins front) other) each_other).0 ends (sym same)
parted front (line ∷ run) [] rest behind each each_other ends ends_other same =
    no_end front line (run ++ rest) behind (and_parts (begins front line) (list_all (begins front) run) each).0
    ends_other same
parted front (line ∷ run) (next ∷ other) rest behind each each_other ends ends_other same =
    let head : line ≡ next = cc in
    let tail : run ++ rest ≡ other ++ behind = cc in
    let parts = parted front run other rest behind (and_parts (begins front line) (list_all (begins front) run) each).1
    (and_parts (begins front next) (list_all (begins front) other) each_other).1 ends ends_other tail in
    (ap₂ (λ x xs. x ∷ xs) head parts.0, parts.1)

-- ---- the lines of the items of a list
pub all_begin : {X : Type 0} (front : List ℕ) (f : X → List ℕ) → ((x : X) → begins front (f x) ≡ true) → (xs : List X)
    → list_all (begins front) (map f xs) ≡ true
all_begin front f each [] = refl
all_begin front f each (x ∷ xs) = ap₂ (λ a b. a && b) (each x) (all_begin front f each xs)

pub none_begins : {X : Type 0} (front : List ℕ) (f : X → List ℕ) → ((x : X) → begins front (f x) ≡ false)
    → (xs : List X) (rest : List (List ℕ)) → EndsAt front rest → EndsAt front (map f xs ++ rest)
none_begins front f each [] rest ends = ends
none_begins front f each (x ∷ xs) rest ends = each x

pub run_parted : {X Y : Type 0} (front : List ℕ) (f : X → List ℕ) (g : Y → List ℕ)
    → ((x : X) → begins front (f x) ≡ true) → ((y : Y) → begins front (g y) ≡ true)
    → (xs : List X) (ys : List Y) (rest behind : List (List ℕ)) → EndsAt front rest → EndsAt front behind
    → map f xs ++ rest ≡ map g ys ++ behind
    → (map f xs ≡ map g ys) × (rest ≡ behind)
run_parted front f g each each_other xs ys rest behind ends ends_other same =
    parted front (map f xs) (map g ys) rest behind (all_begin front f each xs) (all_begin front g each_other ys) ends
    ends_other same

-- items whose lines determine a part of them
pub map_told : {X T : Type 0} (f g : X → List ℕ) (t : X → T) (P Q : X → Type 0)
    → ((x y : X) → P x → Q y → f x ≡ g y → t x ≡ t y)
    → (xs ys : List X) → All P xs → All Q ys → map f xs ≡ map g ys → map t xs ≡ map t ys
map_told f g t P Q tells [] [] each each_other same = refl
map_told f g t P Q tells [] (y ∷ ys) each each_other same = absurd (cc)
map_told f g t P Q tells (x ∷ xs) [] each each_other same = absurd (cc)
map_told f g t P Q tells (x ∷ xs) (y ∷ ys) each each_other same =
    let head : f x ≡ g y = cc in
    let tail : map f xs ≡ map g ys = cc in
    ap₂ (λ s ss. s ∷ ss) (tells x y (All-head P x xs each) (All-head Q y ys each_other) head)
    (map_told f g t P Q tells xs ys (All-tail P x xs each) (All-tail Q y ys each_other) tail)

-- items whose lines determine them
pub items_told : {X : Type 0} (f g : X → List ℕ) (P Q : X → Type 0) → ((x y : X) → P x → Q y → f x ≡ g y → x ≡ y)
    → (xs ys : List X) → All P xs → All Q ys → map f xs ≡ map g ys → xs ≡ ys
items_told f g P Q tells xs ys each each_other same =
    sym (map-id xs) ∙ map_told f g (λ x. x) P Q tells xs ys each each_other same ∙ map-id ys

pub cons_told : {X : Type 0} (x y : X) (xs ys : List X) → x ∷ xs ≡ y ∷ ys → (x ≡ y) × (xs ≡ ys)
cons_told x y xs ys same = (cc, cc)
