-- The position of the first `**}` in bytes.
use Rattle.std.proofs.Common.{◌≡◌, ℕ, zero, suc, ◌+◌, ◌≤◌, Bool, true, false, cond, ◌&&◌, ◌==◌, ◌∙◌, sym, ap, subst}
use Rattle.std.proofs.Common.{refl, List, [], ◌∷◌, ◌++◌, length, take, drop, arith, Option, Some, None, nat_eq}
use Rattle.std.specs.Prelude.{codes}
use Rattle.std.specs.List.{starts_with}
use Rattle.std.proofs.lemmas.Bool.{eqb-true}
use Rattle.std.proofs.Math.Bool.{and-false}
use Rattle.std.specs.Cmp.{first_so, second_so}
use Rattle.std.proofs.lemmas.Option.{same_Some}
use Rattle.aadl_lex.specs.Rules.{close_from}
use Rattle.aadl_lex.specs.proof.TokenSpellings.{IsUnread}

pub none_parts : (b : Bool) (x : ℕ) (y : Option ℕ) → cond b (Some x) y ≡ None → (b ≡ false) × (y ≡ None)
none_parts true x y e = absurd cc
none_parts false x y e = (refl, e)

-- three bytes determine whether a `**}` begins
starts_take : (c : ℕ) (s : List ℕ) (i : ℕ) → starts_with nat_eq (c ∷ s) (codes "**}") ≡ false
    → starts_with nat_eq (c ∷ take i s) (codes "**}") ≡ false
starts_take c s zero e = and-false (42 == c)
starts_take c [] (suc i) e = e
starts_take c (d ∷ s) (suc zero) e = ap (λ b. (42 == c) && b) (and-false (42 == d)) ∙ and-false (42 == c)
starts_take c (d ∷ []) (suc (suc i)) e = e
starts_take c (d ∷ (f ∷ s)) (suc (suc i)) e = e

none_by : (b : Bool) (m : ℕ) (y : Option ℕ) → b ≡ false → y ≡ None → cond b (Some m) y ≡ None
none_by false m y e f = f
none_by true m y e f = absurd cc

none_any : (s : List ℕ) (n m : ℕ) → close_from n s ≡ None → close_from m s ≡ None
none_any [] n m e = refl
none_any (c ∷ s) n m e =
    let p = none_parts (starts_with nat_eq (c ∷ s) (codes "**}")) n (close_from (n + 1) s) e in
    none_by (starts_with nat_eq (c ∷ s) (codes "**}")) m (close_from (m + 1) s) p.0 (none_any s (n + 1) (m + 1) p.1)

none_step : (c : ℕ) (s : List ℕ) (n m : ℕ) → close_from n (c ∷ s) ≡ None → close_from m s ≡ None
none_step c s n m e =
    none_any s (n + 1) m (none_parts (starts_with nat_eq (c ∷ s) (codes "**}")) n (close_from (n + 1) s) e).1

pub none_drop : (s : List ℕ) (i n : ℕ) → close_from n s ≡ None → close_from n (drop i s) ≡ None
none_drop s zero n e = e
none_drop [] (suc i) n e = e
none_drop (c ∷ s) (suc i) n e = none_drop s i n (none_step c s n n e)

pub none_take : (s : List ℕ) (i n : ℕ) → close_from n s ≡ None → close_from n (take i s) ≡ None
none_take s zero n e = refl
none_take [] (suc i) n e = e
none_take (c ∷ s) (suc i) n e =
    let p = none_parts (starts_with nat_eq (c ∷ s) (codes "**}")) n (close_from (n + 1) s) e in
    none_by (starts_with nat_eq (c ∷ take i s) (codes "**}")) n (close_from (n + 1) (take i s)) (starts_take c s i p.0)
    (none_take s i (n + 1) p.1)

-- the first `**}` is after n bytes
pub data Closes : List ℕ → ℕ → Type 0 where
  here : (s : List ℕ) → Closes (42 ∷ 42 ∷ 125 ∷ s) 0
  later : (c : ℕ) (s : List ℕ) (n : ℕ) → starts_with nat_eq (c ∷ s) (codes "**}") ≡ false → Closes s n
      → Closes (c ∷ s) (suc n)

pub starts_exact : (x y z : ℕ) (s : List ℕ) → starts_with nat_eq s (x ∷ (y ∷ (z ∷ []))) ≡ true
    → (t : List ℕ) × (s ≡ x ∷ y ∷ z ∷ t)
starts_exact x y z [] e = absurd cc
starts_exact x y z (c ∷ []) e = absurd (let f = second_so (x == c) false e in cc)
starts_exact x y z (c ∷ (d ∷ [])) e = absurd (let f = second_so (y == d) false (second_so (x == c) _ e) in cc)
starts_exact x y z (c ∷ (d ∷ (f ∷ t))) e =
    let rest = second_so (x == c) _ e in
    let a = eqb-true x c (first_so (x == c) _ e) in
    let b = eqb-true y d (first_so (y == d) _ rest) in
    let g = eqb-true z f (first_so (z == f) _ (second_so (y == d) _ rest)) in
    (t, cc)

record Found (s : List ℕ) (j k : ℕ) : Type 0 where
  size : ℕ
  is : k ≡ j + size
  closes : Closes s size

found_by : (c : ℕ) (s : List ℕ) (j k : ℕ) (b : Bool) → starts_with nat_eq (c ∷ s) (codes "**}") ≡ b
    → (close_from (j + 1) s ≡ Some k → Found s (j + 1) k) → cond b (Some j) (close_from (j + 1) s) ≡ Some k
    → Found (c ∷ s) j k
found_by c s j k true h go e =
    let exact = starts_exact 42 42 125 (c ∷ s) h in
    let same = same_Some j k e in
    record { size = 0; is = omega arith; closes = subst (λ (l : List ℕ). Closes l 0) (sym exact.1) (here exact.0) }
found_by c s j k false h go e =
    let more = go e in let is = more.is in
    record { size = suc more.size; is = omega arith; closes = later c s more.size h more.closes }

found : (s : List ℕ) (j k : ℕ) → close_from j s ≡ Some k → Found s j k
found [] j k e = absurd cc
found (c ∷ s) j k e = found_by c s j k (starts_with nat_eq (c ∷ s) (codes "**}")) refl (λ f. found s (j + 1) k f) e

pub closes_of : (s : List ℕ) (n : ℕ) → close_from 0 s ≡ Some n → Closes s n
closes_of s n e = let f = found s 0 n e in let is = f.is in
    subst (λ (m : ℕ). Closes s m) (let g : f.size ≡ n = omega arith in g) f.closes

closed_from : (s : List ℕ) (j n : ℕ) → Closes s n → close_from j s ≡ Some (j + n)
closed_from _ j _ (here s) = ap Some (let e : j ≡ j + 0 = omega arith in e)
closed_from _ j _ (later c s n h more) =
    ap (λ b. cond b (Some j) (close_from (j + 1) s)) h ∙ closed_from s (j + 1) n more
    ∙ ap Some (let e : j + 1 + n ≡ j + suc n = omega arith in e)

pub close_at : (s : List ℕ) (n : ℕ) → Closes s n → close_from 0 s ≡ Some n
close_at s n h = closed_from s 0 n h ∙ ap Some (let g : 0 + n ≡ n = omega arith in g)

pub closes_size : (s : List ℕ) (n : ℕ) → Closes s n → n + 3 ≤ length s
closes_size _ _ (here s) = omega arith
closes_size _ _ (later c s n h more) = let e = closes_size s n more in omega arith

-- the bytes at that position
pub closes_bytes : (s : List ℕ) (n : ℕ) → Closes s n → take 3 (drop n s) ≡ codes "**}"
closes_bytes _ _ (here s) = refl
closes_bytes _ _ (later c s n h more) = closes_bytes s n more

take_three : (n : ℕ) (s : List ℕ) → take (suc n + 3) s ≡ take (suc (n + 3)) s
take_three n s = ap (λ m. take m s) (let e : suc n + 3 ≡ suc (n + 3) = omega arith in e)

pub closes_front : (s : List ℕ) (n : ℕ) → Closes s n → take (n + 3) s ≡ take n s ++ codes "**}"
closes_front _ _ (here s) = refl
closes_front _ _ (later c s n h more) = take_three n (c ∷ s) ∙ ap (λ l. c ∷ l) (closes_front s n more)

-- there is no `**}` before the first one
closes_before : (s : List ℕ) (j n : ℕ) → Closes s n → close_from j (take n s) ≡ None
closes_before _ j _ (here s) = refl
closes_before _ j _ (later c s n h more) =
    none_by (starts_with nat_eq (c ∷ take n s) (codes "**}")) j (close_from (j + 1) (take n s)) (starts_take c s n h)
    (closes_before s (j + 1) n more)

pub none_before : (s : List ℕ) (n : ℕ) → close_from 0 s ≡ Some n → close_from 0 (take n s) ≡ None
none_before s n e = closes_before s 0 n (closes_of s n e)

-- The position of the first `**}` does not depend on the bytes after it.

starts_kept : (c : ℕ) (s rest : List ℕ) (n : ℕ) → Closes s n → starts_with nat_eq (c ∷ s) (codes "**}") ≡ false
    → starts_with nat_eq (c ∷ (s ++ rest)) (codes "**}") ≡ false
starts_kept c _ rest _ (here s) e = e
starts_kept c _ rest _ (later d _ _ h (here s)) e = e
starts_kept c _ rest _ (later d _ _ h (later f s n g more)) e = e

closes_kept : (s rest : List ℕ) (n : ℕ) → Closes s n → Closes (s ++ rest) n
closes_kept _ rest _ (here s) = here (s ++ rest)
closes_kept _ rest _ (later c s n h more) =
    later c (s ++ rest) n (starts_kept c s rest n more h) (closes_kept s rest n more)

starts_cut : (c : ℕ) (s : List ℕ) (n : ℕ) → Closes s n → starts_with nat_eq (c ∷ s) (codes "**}") ≡ false
    → starts_with nat_eq (c ∷ (take n s ++ codes "**}")) (codes "**}") ≡ false
starts_cut c _ _ (here s) e = e
starts_cut c _ _ (later d _ _ h (here s)) e = e
starts_cut c _ _ (later d _ _ h (later f s n g more)) e = e

pub closes_cut : (s : List ℕ) (n : ℕ) → Closes s n → Closes (take n s ++ codes "**}") n
closes_cut _ _ (here s) = here []
closes_cut _ _ (later c s n h more) =
    later c (take n s ++ codes "**}") n (starts_cut c s n more h) (closes_cut s n more)

-- the end of an annex that is not read does not depend on the bytes after it
pub unread_ends : (b rest : List ℕ) (h : IsUnread b)
    → close_from 0 ((h.inner ++ codes "**}") ++ rest) ≡ Some (length h.inner)
unread_ends b rest h =
    close_at ((h.inner ++ codes "**}") ++ rest) (length h.inner)
    (closes_kept (h.inner ++ codes "**}") rest (length h.inner)
    (closes_of (h.inner ++ codes "**}") (length h.inner) h.ends))
