-- Two lists of faults have the same first fault if one has enough of the other. For the claim `first_of_all`.
use Rattle.std.proofs.Common.{◌≡◌, ◌⊎◌, ℕ, Bool, true, false, cond, ◌&&◌, ◌||◌, nat_eq, nat_lt, List, [], ◌∷◌, ◌++◌}
use Rattle.std.proofs.Common.{Contains, Option, Some, None, refl, sym, ap, ◌∙◌, subst, inl, inr, arith}
use Rattle.std.specs.List.{flat_map}
use Rattle.std.proofs.lemmas.List.Elements.{Contains-append_left, Contains-append_right, Contains-append_cases}
use Rattle.std.proofs.lemmas.Bool.Decides.{nat_tests}
use Rattle.list_lemmas.proofs.Elements.{Contains-nil}
use Rattle.list_lemmas.proofs.Numbers.{pair_ge-transitive, pair_lt-asymmetric}
use Rattle.aadl_names.specs.declared.fault.PackageFault.{PackageFault}
use Rattle.aadl_names.specs.FirstFaults.{place_of, number_of, precedes, FirstOf}
use Rattle.aadl_names.specs.proof.FirstFaultSoFar.{earlier, found, as_list}
use Rattle.aadl_names.proofs.ListMembers.{is_here, only_here}

-- ---- the order of findings

not_itself_by : (p m : ℕ) → (nat_lt p p || (nat_eq p p && nat_lt m m)) ≡ false
not_itself_by p m = grind (arith, nat_tests)

pub no_earlier : (a b c : PackageFault) → precedes a b ≡ false → precedes b c ≡ false → precedes a c ≡ false
no_earlier a b c x y =
    pair_ge-transitive (place_of a) (place_of b) (place_of c) (number_of a) (number_of b) (number_of c) x y

not_both : (a b : PackageFault) → precedes a b ≡ true → precedes b a ≡ false
not_both a b x = pair_lt-asymmetric (place_of a) (place_of b) (number_of a) (number_of b) x

pub not_itself : (a : PackageFault) → precedes a a ≡ false
not_itself a = not_itself_by (place_of a) (number_of a)

-- ---- a list that has enough of another one for its first finding
pub record NotBehind (xs : List PackageFault) (f : PackageFault) : Type 0 where
  pub item : PackageFault
  pub there : Contains xs item
  pub not_behind : precedes f item ≡ false

pub record Covers (xs ys : List PackageFault) : Type 0 where
  pub among : (f : PackageFault) → Contains xs f → Contains ys f
  pub enough : (f : PackageFault) → Contains ys f → NotBehind xs f

itself : (xs : List PackageFault) (f : PackageFault) → Contains xs f → NotBehind xs f
itself xs f h = record { item = f; there = h; not_behind = not_itself f }

pub covers_itself : (xs : List PackageFault) → Covers xs xs
covers_itself xs = record { among = λ f h. h; enough = itself xs }

pub covers_append : (a b c d : List PackageFault) → Covers a b → Covers c d → Covers (a ++ c) (b ++ d)
covers_append a b c d x y =
    record {
      among = λ f h. among_by f (Contains-append_cases a c f h);
      enough = λ f h. enough_by f (Contains-append_cases b d f h);
    }
  where
    among_by : (f : PackageFault) → Contains a f ⊎ Contains c f → Contains (b ++ d) f
    among_by f (inl h) = Contains-append_left b d f (x.among f h)
    among_by f (inr h) = Contains-append_right b d f (y.among f h)

    enough_by : (f : PackageFault) → Contains b f ⊎ Contains d f → NotBehind (a ++ c) f
    enough_by f (inl h) = let s = x.enough f h in
        record { item = s.item; there = Contains-append_left a c s.item s.there; not_behind = s.not_behind }
    enough_by f (inr h) = let s = y.enough f h in
        record { item = s.item; there = Contains-append_right a c s.item s.there; not_behind = s.not_behind }

pub covers_all : {X : Type 0} (f g : X → List PackageFault) → ((x : X) → Covers (f x) (g x)) → (xs : List X)
    → Covers (flat_map f xs) (flat_map g xs)
covers_all f g each [] = covers_itself []
covers_all f g each (x ∷ xs) =
    covers_append (f x) (g x) (flat_map f xs) (flat_map g xs) (each x) (covers_all f g each xs)

nothing_by : (ys : List PackageFault) → ((f : PackageFault) → Contains ys f → NotBehind [] f) → ys ≡ []
nothing_by [] h = refl
nothing_by (y ∷ ys) h = let s = h y (Contains-append_left (y ∷ []) ys y (is_here y)) in
    absurd (Contains-nil s.item s.there)

pub first_of_more : (xs ys : List PackageFault) → Covers xs ys → (o : Option PackageFault) → FirstOf xs o → FirstOf ys o
first_of_more xs ys c None h =
    nothing_by ys (subst (λ zs. (f : PackageFault) → Contains ys f → NotBehind zs f) h c.enough)
first_of_more xs ys c (Some f) h = record {
  found = c.among f h.found;
  first = λ other there. let s = c.enough other there in
      no_earlier other s.item f s.not_behind (h.first s.item s.there);
}

-- ---- what a walk over a list of findings keeps is its first one
only_one : (f : PackageFault) → FirstOf (f ∷ []) (Some f)
only_one f =
    record {
      found = is_here f;
      first = λ other there. ap (λ g. precedes g f) (sym (only_here f other there)) ∙ not_itself f;
    }

-- the one of two that is retained
kept_covers : (f x : PackageFault) (b : Bool) → precedes x f ≡ b
    → Covers (as_list (cond b (Some x) (Some f))) (f ∷ x ∷ [])
kept_covers f x true e = record {
  among = λ g h. Contains-append_right (f ∷ []) (x ∷ []) g h;
  enough = λ g h. sooner g (Contains-append_cases (f ∷ []) (x ∷ []) g h);
}
  where
    sooner : (g : PackageFault) → Contains (f ∷ []) g ⊎ Contains (x ∷ []) g → NotBehind (x ∷ []) g
    sooner g (inl h) =
        record {
          item = x;
          there = is_here x;
          not_behind = ap (λ k. precedes k x) (sym (only_here f g h)) ∙ not_both x f e;
        }
    sooner g (inr h) = itself (x ∷ []) g h
kept_covers f x false e = record {
  among = λ g h. Contains-append_left (f ∷ []) (x ∷ []) g h;
  enough = λ g h. later g (Contains-append_cases (f ∷ []) (x ∷ []) g h);
}
  where
    later : (g : PackageFault) → Contains (f ∷ []) g ⊎ Contains (x ∷ []) g → NotBehind (f ∷ []) g
    later g (inl h) = itself (f ∷ []) g h
    later g (inr h) =
        record { item = f; there = is_here f; not_behind = ap (λ k. precedes k f) (sym (only_here x g h)) ∙ e }

turn_covers : (first : Option PackageFault) (x : PackageFault) (xs : List PackageFault)
    → Covers (as_list (earlier first x) ++ xs) (as_list first ++ (x ∷ xs))
turn_covers None x xs = covers_itself (x ∷ xs)
turn_covers (Some f) x xs =
    covers_append (as_list (cond (precedes x f) (Some x) (Some f))) (f ∷ x ∷ []) xs xs
    (kept_covers f x (precedes x f) refl)
    (covers_itself xs)

first_of_found : (first : Option PackageFault) (xs : List PackageFault) → FirstOf (as_list first ++ xs) (found first xs)
first_of_found None [] = refl
first_of_found (Some f) [] = only_one f
first_of_found first (x ∷ xs) =
    first_of_more (as_list (earlier first x) ++ xs) (as_list first ++ (x ∷ xs)) (turn_covers first x xs)
    (found (earlier first x) xs) (first_of_found (earlier first x) xs)

pub found_is_first : (xs : List PackageFault) → FirstOf xs (found None xs)
found_is_first xs = first_of_found None xs

-- the first finding is enough
pub first_covers : (xs : List PackageFault) (o : Option PackageFault) → FirstOf xs o → Covers (as_list o) xs
first_covers xs None h = subst (Covers []) (sym h) (covers_itself [])
first_covers xs (Some f) h = record {
  among = λ g there. subst (Contains xs) (only_here f g there) h.found;
  enough = λ g there. record { item = f; there = is_here f; not_behind = h.first g there };
}
