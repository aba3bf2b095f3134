-- The loop over declarations that searches for the root.
use Rattle.std.proofs.Common.{◌≡◌, ℕ, ◌+◌, ◌<◌, ◌≤◌, Bool, true, false, ◌&&◌, cond, List, [], length, map, drop, get_or}
use Rattle.std.proofs.Common.{add-one, drop-cons, Some, None, refl, sym, ap, ◌∙◌, arith}
use Rattle.std.proofs.lemmas.Bool.{true≢false}
use Rattle.std.specs.List.{position_from}
use Rattle.std.proofs.lemmas.Grind.{common_steps}
use Rattle.std.proofs.lemmas.List.{length-map, get_or-map}
use Rattle.aadl_instance.proofs.Roots.{and_true}

pub system_spelled : (a b c : Bool) → a ≡ true → c ≡ b → c ≡ (a && b)
system_spelled a b c e f = f ∙ and_true a b e

pub no_system : (a b : Bool) → a ≡ false → false ≡ (a && b)
no_system true b e = absurd (true≢false e)
no_system false b e = refl

module _ {X : Type 0} (test : X → Bool) (xs : List X) (i : ℕ) where
  here_or_next : (x : X) → i < length xs
      → position_from test i (drop i xs)
      ≡ cond (test (get_or xs i x)) (Some i) (position_from test (i + 1) (drop (i + 1) xs))
  here_or_next x lt = ap (position_from test i) (drop-cons xs i x lt)
      ∙ ap (λ n. cond (test (get_or xs i x)) (Some i) (position_from test (i + 1) (drop n xs))) (sym (add-one i))

  pub first_here : (x : X) → i < length xs → test (get_or xs i x) ≡ true → position_from test i (drop i xs) ≡ Some i
  first_here x lt e = here_or_next x lt ∙ ap (λ b. cond b (Some i) (position_from test (i + 1) (drop (i + 1) xs))) e

  pub first_next : (x : X) → i < length xs → test (get_or xs i x) ≡ false
      → position_from test i (drop i xs) ≡ position_from test (i + 1) (drop (i + 1) xs)
  first_next x lt e = here_or_next x lt ∙ ap (λ b. cond b (Some i) (position_from test (i + 1) (drop (i + 1) xs))) e

  pub first_none : length xs ≤ i → position_from test i (drop i xs) ≡ None
  first_none past = ap (position_from test i) (drop_all xs i past)
    where
      drop_all : (xs : List X) (i : ℕ) → length xs ≤ i → drop i xs ≡ []
      drop_all xs i past = grind (arith, common_steps)

module _ {X Y : Type 0} (f : X → Y) (test : Y → Bool) (xs : List X) (i : ℕ) (x : X) (lt : i < length xs)
    (is : x ≡ get_or xs i x) where
  read : get_or (map f xs) i (f x) ≡ f x
  read = get_or-map f xs i x (f x) lt ∙ ap f (sym is)

  within : i < length (map f xs)
  within = let size = length-map xs f in omega arith

  pub mapped_here : test (f x) ≡ true → position_from test i (drop i (map f xs)) ≡ Some i
  mapped_here e = first_here test (map f xs) i (f x) within (ap test read ∙ e)

  pub mapped_next : test (f x) ≡ false
      → position_from test i (drop i (map f xs)) ≡ position_from test (i + 1) (drop (i + 1) (map f xs))
  mapped_next e = first_next test (map f xs) i (f x) within (ap test read ∙ e)

pub mapped_none : {X Y : Type 0} (f : X → Y) (test : Y → Bool) (xs : List X) (i : ℕ) → length xs ≤ i
    → position_from test i (drop i (map f xs)) ≡ None
mapped_none f test xs i past = first_none test (map f xs) i (let size = length-map xs f in omega arith)
