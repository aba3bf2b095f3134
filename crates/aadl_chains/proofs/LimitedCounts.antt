-- Counts of elements with a property, up to a limit: of none, of one, of a disjoint union, and under renaming.
use Rattle.std.proofs.Common.{◌≡◌, ◌⊎◌, inl, inr, ℕ, ◌+◌, ◌≤◌, min, List, [], ◌∷◌, ◌++◌, map, length, refl, sym, ap}
use Rattle.std.proofs.Common.{subst, ◌∙◌, arith}
use Rattle.std.specs.List.{AllByRecursion}
use Rattle.std.proofs.lemmas.List.{length-append, length-map}
use Rattle.list_lemmas.proofs.Numbers.{min-add_capped}
use Rattle.list_lemmas.proofs.Elements.{AllByRecursion-append, AllByRecursion-map, AllByRecursion-weaker}
use Rattle.aadl_uses.specs.proof.OrderedLists.{Among}
use Rattle.aadl_uses.proofs.MarkedPathCounts.{among_left, among_right, among_map}
use Rattle.aadl_chains.specs.proof.LimitedCounts.{Distinct, IsNumber}

-- ---- lists
distinct_append : {X : Type 0} (xs ys : List X) → Distinct xs → Distinct ys
    → AllByRecursion (λ x. AllByRecursion (λ y. x ≡ y → ⊥) ys) xs → Distinct (xs ++ ys)
distinct_append [] ys a b c = b
distinct_append (x ∷ xs) ys a b c =
    (AllByRecursion-append (λ y. x ≡ y → ⊥) xs ys a.0 c.0, distinct_append xs ys a.1 b c.1)

distinct_map : {X Y : Type 0} (f : X → Y) → ((x y : X) → f x ≡ f y → x ≡ y) → (xs : List X) → Distinct xs
    → Distinct (map f xs)
distinct_map f one [] a = tt
distinct_map f one (x ∷ xs) a = (
  AllByRecursion-map (λ y. f x ≡ y → ⊥) f xs
      (AllByRecursion-weaker (λ y. x ≡ y → ⊥) (λ y. f x ≡ f y → ⊥) (λ y apart e. apart (one x y e)) xs a.0),
  distinct_map f one xs a.1,
)

-- ---- counts

module _ {X : Type 0} (limit : ℕ) where
  pub no_number : (P : X → Type 0) → ((x : X) → P x → ⊥) → IsNumber limit P 0
  no_number P none =
      record {
        all = [];
        are = record { each = tt; distinct = tt; complete = λ x p. none x p };
        number_is = omega arith;
      }

  pub one_number : (P : X → Type 0) (x : X) → P x → ((y : X) → P y → y ≡ x) → IsNumber limit P (min limit 1)
  one_number P x p only = record {
    all = x ∷ [];
    are = record { each = (p, tt); distinct = (tt, tt); complete = λ y q. inl (only y q) };
    number_is = refl;
  }

  pub same_number : (P Q : X → Type 0) (n : ℕ) → ((x : X) → P x → Q x) → ((x : X) → Q x → P x) → IsNumber limit P n
      → IsNumber limit Q n
  same_number P Q n to from a = record {
    all = a.all;
    are =
        record {
          each = AllByRecursion-weaker P Q to a.all a.are.each;
          distinct = a.are.distinct;
          complete = λ x q. a.are.complete x (from x q);
        };
    number_is = a.number_is;
  }

  pub both_numbers : (P Q R : X → Type 0) (a b n : ℕ) → ((x : X) → P x → Q x → ⊥) → ((x : X) → P x → R x)
      → ((x : X) → Q x → R x)
      → ((x : X) → R x → P x ⊎ Q x) → IsNumber limit P a → IsNumber limit Q b → n ≡ min limit (a + b)
      → IsNumber limit R n
  both_numbers P Q R a b n apart left right either x y is = record {
    all = x.all ++ y.all;
    are = record {
      each =
          AllByRecursion-append R x.all y.all (AllByRecursion-weaker P R left x.all x.are.each)
          (AllByRecursion-weaker Q R right y.all y.are.each);
      distinct =
          distinct_append x.all y.all x.are.distinct y.are.distinct
          (AllByRecursion-weaker P (λ z. AllByRecursion (λ w. z ≡ w → ⊥) y.all) others x.all x.are.each);
      complete = λ z r. among (either z r);
    };
    number_is =
        is ∙ (min-add_capped limit a b (length x.all) (length y.all) x.number_is y.number_is
        ∙ ap (min limit) (sym (length-append x.all y.all)));
  }
    where
      others : (z : X) → P z → AllByRecursion (λ w. z ≡ w → ⊥) y.all
      others z p = AllByRecursion-weaker Q (λ w. z ≡ w → ⊥) (λ w q e. apart z p (subst Q (sym e) q)) y.all y.are.each

      among : {z : X} → P z ⊎ Q z → Among (x.all ++ y.all) z
      among (inl p) = among_left x.all y.all _ (x.are.complete _ p)
      among (inr q) = among_right x.all y.all _ (y.are.complete _ q)

-- the same elements under another name
pub image_number : {X Y : Type 0} (limit : ℕ) (f : X → Y) (P : X → Type 0) (Q : Y → Type 0) (n : ℕ)
    → ((x y : X) → f x ≡ f y → x ≡ y)
    → ((x : X) → P x → Q (f x)) → ((y : Y) → Q y → (x : X) × P x × (y ≡ f x)) → IsNumber limit P n → IsNumber limit Q n
image_number limit f P Q n one to from a = record {
  all = map f a.all;
  are = record {
    each = AllByRecursion-map Q f a.all (AllByRecursion-weaker P (λ x. Q (f x)) to a.all a.are.each);
    distinct = distinct_map f one a.all a.are.distinct;
    complete = λ y q. let x = from y q in
        subst (Among (map f a.all)) (sym x.2) (among_map f a.all x.0 (a.are.complete x.0 x.1));
  };
  number_is = a.number_is ∙ ap (min limit) (sym (length-map a.all f));
}

-- ---- a part has at most as many elements as the whole
module _ {X : Type 0} where
  without : (xs : List X) (x : X) → Among xs x → List X
  without [] x a = absurd a
  without (y ∷ xs) x (inl e) = xs
  without (y ∷ xs) x (inr a) = y ∷ without xs x a

  one_less : (xs : List X) (x : X) (a : Among xs x) → length (without xs x a) + 1 ≡ length xs
  unfolding without
  one_less [] x a = absurd a
  one_less (y ∷ xs) x (inl e) = omega arith
  one_less (y ∷ xs) x (inr a) = let less = one_less xs x a in omega arith

  still_among : (xs : List X) (x z : X) (a : Among xs x) → (x ≡ z → ⊥) → Among xs z → Among (without xs x a) z
  unfolding without
  still_among [] x z a apart h = absurd a
  still_among (y ∷ xs) x z (inl e) apart (inl f) = absurd (apart (e ∙ sym f))
  still_among (y ∷ xs) x z (inl e) apart (inr h) = h
  still_among (y ∷ xs) x z (inr a) apart (inl f) = inl f
  still_among (y ∷ xs) x z (inr a) apart (inr h) = inr (still_among xs x z a apart h)

  pub no_more : (ys xs : List X) → Distinct ys → AllByRecursion (Among xs) ys → length ys ≤ length xs
  no_more [] xs d a = omega arith
  no_more (y ∷ ys) xs d a =
      let rest : AllByRecursion (Among (without xs y a.0)) ys = rest_of ys d.0 a.1 in
      let shorter = no_more ys (without xs y a.0) d.1 rest in
      let less = one_less xs y a.0 in
      omega arith
    where
      rest_of : (zs : List X) → AllByRecursion (λ z. y ≡ z → ⊥) zs → AllByRecursion (Among xs) zs
          → AllByRecursion (Among (without xs y a.0)) zs
      rest_of [] b c = tt
      rest_of (z ∷ zs) b c = (still_among xs y z a.0 b.0 c.0, rest_of zs b.1 c.1)
