-- Marked declarations are counted subcomponent by subcomponent: a path from a declaration begins with one of its
-- first subcomponents or with one of the next.
use Rattle.std.proofs.Common.{◌≡◌, ℕ, ◌+◌, ◌<◌, ◌≤◌, Bool, true, false, ◌&&◌, ◌||◌, nat_eq, nat_lt, min, List, [], ◌∷◌}
use Rattle.std.proofs.Common.{◌++◌, length, map, Option, Some, None, get_or, slice_get, refl, sym, ap, ◌∙◌, subst}
use Rattle.std.proofs.Common.{arith, inl, inr, ◌⊎◌}
use Rattle.std.specs.List.{AllByRecursion}
use Rattle.std.specs.Option.{option_and_then}
use Rattle.std.proofs.lemmas.List.{length-append, length-map}
use Rattle.std.proofs.lemmas.Bool.{cases_order, true≢false}
use Rattle.std.proofs.lemmas.Bool.Decides.{nat_tests}
use Rattle.std.proofs.lemmas.Option.{slice_get_within, slice_get-get_or, option_and_then_some, none-some, same_Some}
use Rattle.list_lemmas.proofs.Numbers.{nat_eq-self, min-add_capped}
use Rattle.list_lemmas.proofs.Elements.{AllByRecursion-append, AllByRecursion-map, AllByRecursion-weaker}
use Rattle.aadl_uses.specs.proof.ContainmentGraphs.{Graph, targets_in, below_in}
use Rattle.aadl_uses.specs.proof.MarkedPathCounts.{stands_at, IsMarkedAt, Counted, own_count, own_paths, count_of}
use Rattle.aadl_uses.specs.proof.OrderedLists.{Among, Ordered, AreListed}
use Rattle.aadl_uses.specs.ThreadsBelow.{path_before}

-- ---- lists

pub among_left : {X : Type 0} (xs ys : List X) (x : X) → Among xs x → Among (xs ++ ys) x
among_left [] ys x a = absurd a
among_left (y ∷ xs) ys x (inl e) = inl e
among_left (y ∷ xs) ys x (inr a) = inr (among_left xs ys x a)

pub among_right : {X : Type 0} (xs ys : List X) (x : X) → Among ys x → Among (xs ++ ys) x
among_right [] ys x a = a
among_right (y ∷ xs) ys x a = inr (among_right xs ys x a)

pub among_map : {X Y : Type 0} (f : X → Y) (xs : List X) (x : X) → Among xs x → Among (map f xs) (f x)
among_map f [] x a = absurd a
among_map f (y ∷ xs) x (inl e) = inl (ap f e)
among_map f (y ∷ xs) x (inr a) = inr (among_map f xs x a)

ordered_append : {X : Type 0} (before : X → X → Bool) (xs ys : List X) → Ordered before xs → Ordered before ys
    → AllByRecursion (λ x. AllByRecursion (λ y. before x y ≡ true) ys) xs → Ordered before (xs ++ ys)
ordered_append before [] ys a b c = b
ordered_append before (x ∷ xs) ys a b c =
    (AllByRecursion-append (λ y. before x y ≡ true) xs ys a.0 c.0, ordered_append before xs ys a.1 b c.1)

-- ---- paths
-- the empty path, and the paths that begin with one of the first subcomponents
abbrev pub starts : ℕ → List ℕ → Type 0
starts i [] = Unit {0}
starts i (s ∷ path) = s < i

pub record Begun (g : Graph) (marks : List Bool) (n i : ℕ) (path : List ℕ) : Type 0 where
  pub marked : IsMarkedAt g marks n path
  pub first : starts i path

by_tests : (a b c : Bool) → b ≡ true → c ≡ true → (a || (b && c)) ≡ true
by_tests true b c e f = refl
by_tests false true true e f = refl
by_tests false true false e f = f
by_tests false false c e f = absurd (cc e)

behind_same : (i : ℕ) (p q : List ℕ) → path_before p q ≡ true → path_before (i ∷ p) (i ∷ q) ≡ true
behind_same i p q e = by_tests (nat_lt i i) (nat_eq i i) (path_before p q) (nat_eq-self i) e

less_first : (i s : ℕ) (p q : List ℕ) → s < i → path_before (s ∷ p) (i ∷ q) ≡ true
less_first i s p q h = let e : nat_lt s i ≡ true = grind (arith, nat_tests) in
    ap (λ b. b || (nat_eq s i && path_before p q)) e

ordered_map : (i : ℕ) (xs : List (List ℕ)) → Ordered path_before xs → Ordered path_before (map (λ p. i ∷ p) xs)
ordered_map i [] a = tt
ordered_map i (x ∷ xs) a = (
  AllByRecursion-map (λ y. path_before (i ∷ x) y ≡ true) (λ p. i ∷ p) xs
      (AllByRecursion-weaker (λ y. path_before x y ≡ true) (λ y. path_before (i ∷ x) (i ∷ y) ≡ true)
      (λ y e. behind_same i x y e) xs a.0),
  ordered_map i xs a.1,
)

all_later : (i : ℕ) (x : List ℕ) (ys : List (List ℕ)) → starts i x
    → AllByRecursion (λ y. path_before x y ≡ true) (map (λ p. i ∷ p) ys)
all_later i [] [] h = tt
all_later i [] (y ∷ ys) h = (refl, all_later i [] ys h)
all_later i (s ∷ p) [] h = tt
all_later i (s ∷ p) (y ∷ ys) h = (less_first i s p y h, all_later i (s ∷ p) ys h)

module _ (g : Graph) (marks : List Bool) (n i : ℕ) where
  -- a path from a subcomponent's target is a path from the declaration, one level deeper
  pub deeper : (k : ℕ) (p : List ℕ) → below_in g n i ≡ Some k → IsMarkedAt g marks k p → Begun g marks n (i + 1) (i ∷ p)
  deeper k p e t = record {
    marked =
        record {
          number = t.number;
          stands = ap (option_and_then (λ m. stands_at g m p)) e ∙ t.stands;
          is_marked = t.is_marked;
        };
    first = omega arith;
  }

  pub shallower : (k : ℕ) (p : List ℕ) → below_in g n i ≡ Some k → IsMarkedAt g marks n (i ∷ p) → IsMarkedAt g marks k p
  shallower k p e t =
      record {
        number = t.number;
        stands = sym (ap (option_and_then (λ m. stands_at g m p)) e) ∙ t.stands;
        is_marked = t.is_marked;
      }

  pub more_begun : (p : List ℕ) → Begun g marks n i p → Begun g marks n (i + 1) p
  more_begun [] b = record { marked = b.marked; first = tt }
  more_begun (s ∷ p) b = let h = b.first in record { marked = b.marked; first = omega (arith, h) }

  complete_by : (k : ℕ) (xs ys : List (List ℕ)) → below_in g n i ≡ Some k → AreListed (Begun g marks n i) path_before xs
      → AreListed (IsMarkedAt g marks k) path_before ys → (s : ℕ) (p : List ℕ)
      → Begun g marks n (i + 1) (s ∷ p) → (s ≡ i) ⊎ ((s < i) ⊎ (i < s)) → Among (xs ++ map (λ q. i ∷ q) ys) (s ∷ p)
  complete_by k xs ys e a b s p h (inl same) =
      let t : IsMarkedAt g marks n (i ∷ p) = subst (λ m. IsMarkedAt g marks n (m ∷ p)) same h.marked in
      among_right xs (map (λ q. i ∷ q) ys) (s ∷ p)
      (subst (λ m. Among (map (λ q. i ∷ q) ys) (m ∷ p)) (sym same)
      (among_map (λ q. i ∷ q) ys p (b.complete p (shallower k p e t))))
  complete_by k xs ys e a b s p h (inr (inl less)) =
      among_left xs (map (λ q. i ∷ q) ys) (s ∷ p) (a.complete (s ∷ p) (record { marked = h.marked; first = less }))
  complete_by k xs ys e a b s p h (inr (inr more)) = let f = h.first in absurd (omega (arith, f, more))

  complete_at : (k : ℕ) (xs ys : List (List ℕ)) → below_in g n i ≡ Some k → AreListed (Begun g marks n i) path_before xs
      → AreListed (IsMarkedAt g marks k) path_before ys → (p : List ℕ)
      → Begun g marks n (i + 1) p → Among (xs ++ map (λ q. i ∷ q) ys) p
  complete_at k xs ys e a b [] h =
      among_left xs (map (λ q. i ∷ q) ys) [] (a.complete [] (record { marked = h.marked; first = tt }))
  complete_at k xs ys e a b (s ∷ p) h = complete_by k xs ys e a b s p h (cases_order s i)

  -- one more subcomponent
  pub listed_more : (k : ℕ) (xs ys : List (List ℕ)) → below_in g n i ≡ Some k
      → AreListed (Begun g marks n i) path_before xs → AreListed (IsMarkedAt g marks k) path_before ys
      → AreListed (Begun g marks n (i + 1)) path_before (xs ++ map (λ q. i ∷ q) ys)
  listed_more k xs ys e a b = record {
    each =
        AllByRecursion-append (Begun g marks n (i + 1)) xs (map (λ q. i ∷ q) ys)
        (AllByRecursion-weaker (Begun g marks n i) (Begun g marks n (i + 1)) more_begun xs a.each)
        (AllByRecursion-map (Begun g marks n (i + 1)) (λ q. i ∷ q) ys
        (AllByRecursion-weaker (IsMarkedAt g marks k) (λ q. Begun g marks n (i + 1) (i ∷ q)) (λ q t. deeper k q e t)
        ys b.each));
    ordered =
        ordered_append path_before xs (map (λ q. i ∷ q) ys) a.ordered (ordered_map i ys b.ordered)
        (AllByRecursion-weaker (Begun g marks n i)
        (λ x. AllByRecursion (λ y. path_before x y ≡ true) (map (λ q. i ∷ q) ys))
        (λ x h. all_later i x ys h.first) xs a.each);
    complete = λ p h. complete_at k xs ys e a b p h;
  }

  -- a subcomponent without a target
  nothing_at : (s : ℕ) (p : List ℕ) → below_in g n i ≡ None → Begun g marks n (i + 1) (s ∷ p)
      → (s ≡ i) ⊎ ((s < i) ⊎ (i < s)) → Begun g marks n i (s ∷ p)
  nothing_at s p e h (inl same) =
      option_and_then_some (λ k. stands_at g k p) (below_in g n s) h.marked.number h.marked.stands
      (λ k a b. absurd (none-some k (sym e ∙ (ap (below_in g n) (sym same) ∙ a))))
  nothing_at s p e h (inr (inl less)) = record { marked = h.marked; first = less }
  nothing_at s p e h (inr (inr more)) = let f = h.first in absurd (omega (arith, f, more))

  pub fewer_begun : (p : List ℕ) → below_in g n i ≡ None → Begun g marks n (i + 1) p → Begun g marks n i p
  fewer_begun [] e h = record { marked = h.marked; first = tt }
  fewer_begun (s ∷ p) e h = nothing_at s p e h (cases_order s i)

  pub listed_same : (xs : List (List ℕ)) → below_in g n i ≡ None → AreListed (Begun g marks n i) path_before xs
      → AreListed (Begun g marks n (i + 1)) path_before xs
  listed_same xs e a = record {
    each = AllByRecursion-weaker (Begun g marks n i) (Begun g marks n (i + 1)) more_begun xs a.each;
    ordered = a.ordered;
    complete = λ p h. a.complete p (fewer_begun p e h);
  }

-- ---- counts
-- The count so far: the declaration itself, and the paths that begin with the first subcomponents.
pub record CountedSome (limit : ℕ) (g : Graph) (marks : List Bool) (n i count : ℕ) : Type 0 where
  pub paths : List (List ℕ)
  pub listed : AreListed (Begun g marks n i) path_before paths
  pub count_is : count ≡ min limit (length paths)

capped_same : (limit a x : ℕ) → a ≡ min limit x → min limit (a + 0) ≡ min limit x
capped_same limit a x e = omega arith

module _ (limit : ℕ) (g : Graph) (marks : List Bool) (n i : ℕ) where
  -- by the target of the next subcomponent
  pub counted_more : (counts : List ℕ) (target : Option ℕ) (a b : ℕ) → below_in g n i ≡ target
      → ((m : ℕ) → below_in g n i ≡ Some m → Counted limit g marks m (get_or counts m 0))
      → CountedSome limit g marks n i a → b ≡ min limit (a + count_of counts target)
      → CountedSome limit g marks n (i + 1) b
  counted_more counts None a b e known x is = record {
    paths = x.paths;
    listed = listed_same g marks n i x.paths e x.listed;
    count_is = is ∙ capped_same limit a (length x.paths) x.count_is;
  }
  counted_more counts (Some m) a b e known x is =
      let y = known m e in
      record {
        paths = x.paths ++ map (λ q. i ∷ q) y.paths;
        listed = listed_more g marks n i m x.paths y.paths e x.listed y.listed;
        count_is =
            is ∙ (min-add_capped limit a (get_or counts m 0) (length x.paths) (length y.paths) x.count_is y.count_is
            ∙ ap (min limit) (sym (simp (length-append, length-map) refl)));
      }

-- ---- the declaration itself
pub none_begun : (g : Graph) (marks : List Bool) (n : ℕ) (p : List ℕ) → get_or marks n false ≡ false
    → Begun g marks n 0 p → ⊥
none_begun g marks n [] e h =
    true≢false (sym h.marked.is_marked
    ∙ (ap (λ k. get_or marks k false) (sym (same_Some n h.marked.number h.marked.stands)) ∙ e))
none_begun g marks n (s ∷ p) e h = let f = h.first in omega (arith, f)

own_begun : (g : Graph) (marks : List Bool) (n : ℕ) (p : List ℕ) → Begun g marks n 0 p → Among ([] ∷ []) p
own_begun g marks n [] h = inl refl
own_begun g marks n (s ∷ p) h = let f = h.first in absurd (omega (arith, f))

pub own_listed : (g : Graph) (marks : List Bool) (n : ℕ)
    → AreListed (Begun g marks n 0) path_before (own_paths (get_or marks n false))
own_listed g marks n = by (get_or marks n false) refl
  where
    by : (b : Bool) → get_or marks n false ≡ b → AreListed (Begun g marks n 0) path_before (own_paths b)
    by true e = record {
      each = (record { marked = record { number = n; stands = refl; is_marked = e }; first = tt }, tt);
      ordered = (tt, tt);
      complete = λ p h. own_begun g marks n p h;
    }
    by false e = record { each = tt; ordered = tt; complete = λ p h. absurd (none_begun g marks n p e h) }

own_size : (limit : ℕ) (b : Bool) → own_count limit b ≡ min limit (length (own_paths b))
own_size limit true = refl
own_size limit false = omega arith

pub counted_own : (limit : ℕ) (g : Graph) (marks : List Bool) (n count : ℕ)
    → count ≡ own_count limit (get_or marks n false) → CountedSome limit g marks n 0 count
counted_own limit g marks n count is =
    record {
      paths = own_paths (get_or marks n false);
      listed = own_listed g marks n;
      count_is = is ∙ own_size limit (get_or marks n false);
    }

-- ---- the first subcomponents are all
pub all_begun : (g : Graph) (marks : List Bool) (n i : ℕ) (p : List ℕ) → length (targets_in g n) ≤ i
    → IsMarkedAt g marks n p → Begun g marks n i p
all_begun g marks n i [] past t = record { marked = t; first = tt }
all_begun g marks n i (s ∷ p) past t =
    option_and_then_some (λ k. stands_at g k p) (below_in g n s) t.number t.stands
    (λ k a b. option_and_then_some (λ o. o) (slice_get (targets_in g n) s) k a
    (λ o c d. let least = slice_get_within (targets_in g n) s o c in record { marked = t; first = omega arith }))

pub all_listed : (g : Graph) (marks : List Bool) (n i : ℕ) (paths : List (List ℕ)) → length (targets_in g n) ≤ i
    → AreListed (Begun g marks n i) path_before paths
    → AreListed (IsMarkedAt g marks n) path_before paths
all_listed g marks n i paths past x = record {
  each = AllByRecursion-weaker (Begun g marks n i) (IsMarkedAt g marks n) (λ p h. h.marked) paths x.each;
  ordered = x.ordered;
  complete = λ p t. x.complete p (all_begun g marks n i p past t);
}

pub counted_all : (limit : ℕ) (g : Graph) (marks : List Bool) (n i count : ℕ) → length (targets_in g n) ≤ i
    → CountedSome limit g marks n i count → Counted limit g marks n count
counted_all limit g marks n i count past x =
    record { paths = x.paths; listed = all_listed g marks n i x.paths past x.listed; count_is = x.count_is }

-- ---- by the tables that the code reads
pub below_is : (g : Graph) (n i : ℕ) (ts : List (Option ℕ)) → ts ≡ targets_in g n → i < length ts
    → below_in g n i ≡ get_or ts i None
below_is g n i ts e lt =
    ap (λ (l : List (Option ℕ)). option_and_then (λ t. t) (slice_get l i)) (sym e)
    ∙ ap (option_and_then (λ t. t)) (slice_get-get_or ts i None lt)
