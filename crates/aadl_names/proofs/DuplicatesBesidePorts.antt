-- The comparisons of names that are declared twice among ports and other declarations find the first fault of all of
-- them. For the claim `first_of_all`.
use Rattle.std.proofs.Common.{◌≡◌, ◌⊎◌, ℕ, ◌+◌, Bool, true, false, cond, ◌&&◌, ◌||◌, nat_eq, nat_lt, List, [], ◌∷◌}
use Rattle.std.proofs.Common.{◌++◌, Contains, Option, Some, None, refl, sym, ap, ◌∙◌, subst, inl, inr, suc, add-zero}
use Rattle.std.proofs.Common.{arith}
use Rattle.aadl_tree.specs.Names.{same_name}
use Rattle.std.specs.List.{list_any, flat_map}
use Rattle.std.specs.Prelude.{slice_get}
use Rattle.std.proofs.lemmas.Bool.{true≢false, and_from, or_left, or_right}
use Rattle.std.proofs.lemmas.Bool.Decides.{nat_tests}
use Rattle.std.proofs.lemmas.Grind.{flat_map-append}
use Rattle.std.proofs.lemmas.List.Folds.{list_any-append}
use Rattle.std.proofs.lemmas.List.Elements.{Contains-append_left, Contains-append_right, Contains-append_cases}
use Rattle.std.proofs.lemmas.Slice.Eq.{bytes_eq-Decides}
use Rattle.std.specs.Str.{bytes_eq}
use Rattle.std.specs.Cmp.{first_so, second_so}
use Rattle.list_lemmas.proofs.ElementPositions.{Contains-from_slice_get}
use Rattle.list_lemmas.proofs.Elements.{list_any_by_element, Contains-nil}
use Rattle.list_lemmas.proofs.Booleans.{or_second}
use Rattle.aadl_names.specs.declared.fault.PackageFault.{PackageFault}
use Rattle.aadl_names.specs.declared.fault.PackageFault.TheVariants.{Twice}
use Rattle.aadl_names.specs.declared.declared_name.SpelledName.{SpelledName}
use Rattle.aadl_names.specs.declared.numbered_place.NumberedPlace.{NumberedPlace}
use Rattle.aadl_names.specs.proof.FirstFaultSoFar.{found, as_list}
use Rattle.aadl_names.specs.proof.NameTables.{folded}
use Rattle.aadl_names.specs.DuplicateNames.{again, twice}
use Rattle.aadl_names.specs.proof.EarliestDeclarations.{sooner, earliest, is_before}
use Rattle.aadl_names.proofs.EarliestDeclarations.{any_before}
use Rattle.aadl_names.specs.proof.DuplicatesBesidePorts.{entry_again, again_beside, port_again, beside_each, beside}
use Rattle.aadl_names.proofs.ListMembers.{from_all, among_all, passing, is_here, only_here}
use Rattle.aadl_names.proofs.SameFirstFaults.{Covers, NotBehind, found_is_first, first_covers, not_itself}

-- ---- names
same_from : (a b : List ℕ) → same_name a b ≡ true → folded a ≡ folded b
same_from a b s = (bytes_eq-Decides (folded a) (folded b)).0 s

same_by : (a b : List ℕ) → folded a ≡ folded b → same_name a b ≡ true
same_by a b e = (bytes_eq-Decides (folded a) (folded b)).1 e

pub same_name-swapped : (a b : List ℕ) → same_name a b ≡ true → same_name b a ≡ true
same_name-swapped a b s = same_by b a (sym (same_from a b s))

same_step : (a b c : List ℕ) → same_name a b ≡ true → same_name b c ≡ true → same_name a c ≡ true
same_step a b c s t = same_by a c (same_from a b s ∙ same_from b c t)

-- ---- a finding that is there where a test is passed
there_if : (b : Bool) (f : PackageFault) → b ≡ true → Contains (cond b (f ∷ []) []) f
there_if b f e = subst (λ c. Contains (cond c (f ∷ []) []) f) (sym e) (is_here f)

is_if : (b : Bool) (f g : PackageFault) → Contains (cond b (f ∷ []) []) g → f ≡ g
is_if true f g h = only_here f g h
is_if false f g h = absurd (Contains-nil g h)

passed_if : (b : Bool) (f g : PackageFault) → Contains (cond b (f ∷ []) []) g → b ≡ true
passed_if true f g h = refl
passed_if false f g h = absurd (Contains-nil g h)

-- another declaration of the name precedes it
abbrev stands_before : SpelledName → SpelledName → Bool
stands_before x y = same_name x.name y.name && nat_lt y.at x.at

-- ---- the earliest one of a name is one of them
record IsSpot (name : List ℕ) (n : ℕ) (xs : List SpelledName) (s : NumberedPlace) : Type 0 where
  pub place : ℕ
  pub item : SpelledName
  pub number : s.number ≡ n + place
  pub is_item : slice_get xs place ≡ Some item
  pub at : item.at ≡ s.at
  pub same : same_name name item.name ≡ true

abbrev spot_at : ℕ → SpelledName → NumberedPlace
spot_at n x = record { number = n; at = x.at }

some_spot : (s t : NumberedPlace) → Some s ≡ Some t → s ≡ t
some_spot s t e = cc e

spot_here : (name : List ℕ) (n : ℕ) (x : SpelledName) (xs : List SpelledName) (s : NumberedPlace)
    → same_name name x.name ≡ true → spot_at n x ≡ s → IsSpot name n (x ∷ xs) s
spot_here name n x xs s same e =
    record {
      place = 0;
      item = x;
      number = sym (ap (λ (t : NumberedPlace). t.number) e) ∙ sym (add-zero n);
      is_item = refl;
      at = ap (λ (t : NumberedPlace). t.at) e;
      same = same;
    }

spot_behind : (name : List ℕ) (n : ℕ) (x : SpelledName) (xs : List SpelledName) (s : NumberedPlace)
    → IsSpot name (n + 1) xs s → IsSpot name n (x ∷ xs) s
spot_behind name n x xs s h =
    let number : s.number ≡ n + suc h.place = let e = h.number in omega arith in
    record { place = suc h.place; item = h.item; number = number; is_item = h.is_item; at = h.at; same = h.same }

spot_of_two : (name : List ℕ) (n : ℕ) (x : SpelledName) (xs : List SpelledName) (s t : NumberedPlace)
    → same_name name x.name ≡ true → IsSpot name (n + 1) xs t
    → (c : Bool) → cond c (Some t) (Some (spot_at n x)) ≡ Some s → IsSpot name n (x ∷ xs) s
spot_of_two name n x xs s t same rest true h =
    spot_behind name n x xs s (subst (IsSpot name (n + 1) xs) (some_spot t s h) rest)
spot_of_two name n x xs s t same rest false h = spot_here name n x xs s same (some_spot (spot_at n x) s h)

spot_by : (name : List ℕ) (n : ℕ) (x : SpelledName) (xs : List SpelledName) (s : NumberedPlace) (b : Bool)
    → same_name name x.name ≡ b
    → (o : Option NumberedPlace) → ((t : NumberedPlace) → o ≡ Some t → IsSpot name (n + 1) xs t)
    → sooner (cond b (Some (spot_at n x)) None) o ≡ Some s → IsSpot name n (x ∷ xs) s
spot_by name n x xs s false same o rest h = spot_behind name n x xs s (rest s h)
spot_by name n x xs s true same None rest h = spot_here name n x xs s same (some_spot (spot_at n x) s h)
spot_by name n x xs s true same (Some t) rest h = spot_of_two name n x xs s t same (rest t refl) (nat_lt t.at x.at) h

earliest_is : (name : List ℕ) (n : ℕ) (xs : List SpelledName) (s : NumberedPlace) → earliest name n xs ≡ Some s
    → IsSpot name n xs s
earliest_is name n [] s e = absurd (cc e)
earliest_is name n (x ∷ xs) s e =
    spot_by name n x xs s (same_name name x.name) refl (earliest name (n + 1) xs)
    (λ t h. earliest_is name (n + 1) xs t h) e

spot_number : (a b : ℕ) → a ≡ 0 + b → a ≡ b
spot_number a b e = omega arith

-- two spellings of one name
earliest_same : (a b : List ℕ) (n : ℕ) (xs : List SpelledName) → folded a ≡ folded b → earliest a n xs ≡ earliest b n xs
earliest_same a b n [] e = refl
earliest_same a b n (x ∷ xs) e =
    ap (λ o. sooner (cond (same_name a x.name) (Some (spot_at n x)) None) o) (earliest_same a b (n + 1) xs e)
    ∙ ap (λ (bs : List ℕ). sooner (cond (bytes_eq bs (folded x.name)) (Some (spot_at n x)) None)
    (earliest b (n + 1) xs)) e

-- ---- a declaration other than a port
again_both : (ports others : List SpelledName) (x : SpelledName)
    → again (ports ++ others) x ≡ again_beside (earliest x.name 0 ports) (earliest x.name 0 others) x
again_both ports others x =
    ap (λ b. cond b (Twice x.name x.at ∷ []) [])
    (list_any-append (stands_before x) ports others
    ∙ (ap (λ b. b || list_any (stands_before x) others) (any_before x.name x.at 0 ports)
    ∙ ap (λ b. is_before (earliest x.name 0 ports) x.at || b) (any_before x.name x.at 0 others)))

-- a finding for a declaration of one of the two lists is among all
whole_left : (ports others : List SpelledName) (x : SpelledName) (f : PackageFault) → Contains ports x
    → Contains (again (ports ++ others) x) f
    → Contains (twice (ports ++ others)) f
whole_left ports others x f there here =
    among_all (again (ports ++ others)) (ports ++ others) x f (Contains-append_left ports others x there) here

whole_right : (ports others : List SpelledName) (x : SpelledName) (f : PackageFault) → Contains others x
    → Contains (again (ports ++ others) x) f
    → Contains (twice (ports ++ others)) f
whole_right ports others x f there here =
    among_all (again (ports ++ others)) (ports ++ others) x f (Contains-append_right ports others x there) here

-- a port with one of its name before it among the ports
more_again : (ports others : List SpelledName) (x : SpelledName) (f : PackageFault) → Contains (again ports x) f
    → Contains (again (ports ++ others) x) f
more_again ports others x f h =
    let passed = passed_if (list_any (stands_before x) ports) (Twice x.name x.at) f h in
    let all : list_any (stands_before x) (ports ++ others) ≡ true = list_any-append (stands_before x) ports others
    ∙ or_left (list_any (stands_before x) ports) (list_any (stands_before x) others) passed in
    subst (Contains (again (ports ++ others) x)) (is_if (list_any (stands_before x) ports) (Twice x.name x.at) f h)
    (there_if (list_any (stands_before x) (ports ++ others)) (Twice x.name x.at) all)

-- a port that an earlier declaration other than a port has the name of
port_again_in : (ports others : List SpelledName) (x y : SpelledName) → Contains others x
    → same_name x.name y.name ≡ true → nat_lt x.at y.at ≡ true
    → Contains (again (ports ++ others) y) (Twice y.name y.at)
port_again_in ports others x y there same before =
    let one =
    list_any_by_element (stands_before y) others x there
    (and_from (same_name y.name x.name) (nat_lt x.at y.at) (same_name-swapped x.name y.name same) before) in
    there_if (list_any (stands_before y) (ports ++ others)) (Twice y.name y.at)
    (list_any-append (stands_before y) ports others
    ∙ or_right (list_any (stands_before y) ports) (list_any (stands_before y) others) one)

-- ---- the comparisons are among all
port_among : (ports others : List SpelledName) (x : SpelledName) (f : PackageFault) → Contains others x
    → (o : Option NumberedPlace) → earliest x.name 0 ports ≡ o
    → Contains (port_again ports o x) f → Contains (twice (ports ++ others)) f
port_among ports others x f there None e h = absurd (Contains-nil f h)
port_among ports others x f there (Some s) e h = by (nat_lt x.at s.at) refl h
  where
    spot : IsSpot x.name 0 ports s
    spot = earliest_is x.name 0 ports s e

    numbered : slice_get ports s.number ≡ Some spot.item
    numbered = ap (slice_get ports) (spot_number s.number spot.place spot.number) ∙ spot.is_item

    by : (b : Bool) → nat_lt x.at s.at ≡ b → Contains (cond b (entry_again (slice_get ports s.number)) []) f
        → Contains (twice (ports ++ others)) f
    by false before h = absurd (Contains-nil f h)
    by true before h =
        let is = only_here (Twice spot.item.name spot.item.at) f (subst (λ o. Contains (entry_again o) f) numbered h) in
        whole_left ports others spot.item f (Contains-from_slice_get ports spot.place spot.item spot.is_item)
        (subst (Contains (again (ports ++ others) spot.item)) is
        (port_again_in ports others x spot.item there spot.same (ap (nat_lt x.at) spot.at ∙ before)))

each_among : (ports others : List SpelledName) (x : SpelledName) (f : PackageFault) → Contains others x
    → Contains (beside_each ports others x) f
    → Contains (twice (ports ++ others)) f
each_among ports others x f there h =
    by (Contains-append_cases (again_beside (earliest x.name 0 ports) (earliest x.name 0 others) x)
    (port_again ports (earliest x.name 0 ports) x) f h)
  where
    by : Contains (again_beside (earliest x.name 0 ports) (earliest x.name 0 others) x) f
        ⊎ Contains (port_again ports (earliest x.name 0 ports) x) f
        → Contains (twice (ports ++ others)) f
    by (inl a) = whole_right ports others x f there (subst (λ fs. Contains fs f) (sym (again_both ports others x)) a)
    by (inr b) = port_among ports others x f there (earliest x.name 0 ports) refl b

abbrev of_ports : List SpelledName → List PackageFault
of_ports ports = as_list (found None (twice ports))

abbrev asked : List SpelledName → List SpelledName → List PackageFault
asked ports others = of_ports ports ++ flat_map (beside_each ports others) others

ports_cover : (ports : List SpelledName) → Covers (of_ports ports) (twice ports)
ports_cover ports = first_covers (twice ports) (found None (twice ports)) (found_is_first (twice ports))

all_among : (ports others : List SpelledName) (f : PackageFault) → Contains (asked ports others) f
    → Contains (twice (ports ++ others)) f
all_among ports others f h =
    by (Contains-append_cases (of_ports ports) (flat_map (beside_each ports others) others) f h)
  where
    by : Contains (of_ports ports) f ⊎ Contains (flat_map (beside_each ports others) others) f
        → Contains (twice (ports ++ others)) f
    by (inl a) =
        let s = from_all (again ports) ports f ((ports_cover ports).among f a) in
        whole_left ports others s.item f s.there (more_again ports others s.item f s.here)
    by (inr b) =
        let s = from_all (beside_each ports others) others f b in
        each_among ports others s.item f s.there s.here

-- ---- and is enough
in_asked : (ports others : List SpelledName) (x : SpelledName) (f : PackageFault) → Contains others x
    → Contains (beside_each ports others x) f
    → Contains (asked ports others) f
in_asked ports others x f there here =
    Contains-append_right (of_ports ports) (flat_map (beside_each ports others) others) f
    (among_all (beside_each ports others) others x f there here)

-- a declaration other than a port
other_enough : (ports others : List SpelledName) (x : SpelledName) (f : PackageFault) → Contains others x
    → Contains (again (ports ++ others) x) f
    → NotBehind (asked ports others) f
other_enough ports others x f there here = record {
  item = f;
  there = in_asked ports others x f there
      (Contains-append_left (again_beside (earliest x.name 0 ports) (earliest x.name 0 others) x)
      (port_again ports (earliest x.name 0 ports) x) f
      (subst (λ fs. Contains fs f) (again_both ports others x) here));
  not_behind = not_itself f;
}

lt_next : (a : ℕ) → nat_lt a (a + 1) ≡ true
lt_next a = grind (arith, nat_tests)

level_at : (a b c : ℕ) → nat_lt c (a + 1) ≡ true → nat_lt c a ≡ false → c ≡ a
level_at a b c x y = grind (arith, nat_tests)

same_place : (a c : ℕ) → c ≡ a → (nat_lt a c || (nat_eq a c && nat_lt 3 3)) ≡ false
same_place a c e = grind (arith, nat_tests)

-- a port that only an earlier declaration other than a port has the name of: it is the earliest port of its name
cross_enough : (ports others : List SpelledName) (x y : SpelledName) → Contains ports x
    → list_any (stands_before x) ports ≡ false
    → Contains others y → same_name x.name y.name ≡ true → nat_lt y.at x.at ≡ true → (o : Option NumberedPlace)
    → earliest y.name 0 ports ≡ o
    → NotBehind (asked ports others) (Twice x.name x.at)
cross_enough ports others x y there none beside_it same before None e =
    let one = list_any_by_element (λ z. same_name y.name z.name && nat_lt z.at (x.at + 1)) ports x there
    (and_from (same_name y.name x.name) (nat_lt x.at (x.at + 1)) (same_name-swapped x.name y.name same)
    (lt_next x.at)) in
    absurd (true≢false (sym one ∙ (any_before y.name (x.at + 1) 0 ports ∙ ap (λ o. is_before o (x.at + 1)) e)))
cross_enough ports others x y there none beside_it same before (Some s) e =
    let one = list_any_by_element (λ z. same_name y.name z.name && nat_lt z.at (x.at + 1)) ports x there
    (and_from (same_name y.name x.name) (nat_lt x.at (x.at + 1)) (same_name-swapped x.name y.name same)
    (lt_next x.at)) in
    let near : nat_lt s.at (x.at + 1) ≡ true = ap (λ o. is_before o (x.at + 1)) (sym e)
    ∙ (sym (any_before y.name (x.at + 1) 0 ports) ∙ one) in
    let names : earliest x.name 0 ports ≡ Some s =
    earliest_same x.name y.name 0 ports (same_from x.name y.name same) ∙ e in
    let far : nat_lt s.at x.at ≡ false = ap (λ o. is_before o x.at) (sym names)
    ∙ (sym (any_before x.name x.at 0 ports) ∙ none) in
    let level : s.at ≡ x.at = level_at x.at 0 s.at near far in
    let spot : IsSpot y.name 0 ports s = earliest_is y.name 0 ports s e in
    let numbered : slice_get ports s.number ≡ Some spot.item =
    ap (slice_get ports) (spot_number s.number spot.place spot.number) ∙ spot.is_item in
    let found_it : port_again ports (Some s) y ≡ Twice spot.item.name spot.item.at ∷ [] =
    ap (λ b. cond b (entry_again (slice_get ports s.number)) []) (ap (nat_lt y.at) level ∙ before)
    ∙ ap entry_again numbered in
    record {
      item = Twice spot.item.name spot.item.at;
      there = in_asked ports others y (Twice spot.item.name spot.item.at) beside_it
          (Contains-append_right (again_beside (earliest y.name 0 ports) (earliest y.name 0 others) y)
          (port_again ports (earliest y.name 0 ports) y)
          (Twice spot.item.name spot.item.at)
          (subst (λ fs. Contains fs (Twice spot.item.name spot.item.at))
          (sym (ap (λ o. port_again ports o y) e ∙ found_it))
          (is_here (Twice spot.item.name spot.item.at))));
      not_behind = same_place x.at spot.item.at (spot.at ∙ level);
    }

port_enough : (ports others : List SpelledName) (x : SpelledName) (f : PackageFault) → Contains ports x
    → Contains (again (ports ++ others) x) f
    → NotBehind (asked ports others) f
port_enough ports others x f there here = by (list_any (stands_before x) ports) refl
  where
    is : Twice x.name x.at ≡ f
    is = is_if (list_any (stands_before x) (ports ++ others)) (Twice x.name x.at) f here

    by : (b : Bool) → list_any (stands_before x) ports ≡ b → NotBehind (asked ports others) f
    by true e =
        let s = (ports_cover ports).enough f (among_all (again ports) ports x f there
        (subst (Contains (again ports x)) is (there_if (list_any (stands_before x) ports) (Twice x.name x.at) e))) in
        record {
          item = s.item;
          there = Contains-append_left (of_ports ports) (flat_map (beside_each ports others) others) s.item s.there;
          not_behind = s.not_behind;
        }
    by false e =
        let any = or_second (list_any (stands_before x) ports) (list_any (stands_before x) others) e
        (sym (list_any-append (stands_before x) ports others)
        ∙ passed_if (list_any (stands_before x) (ports ++ others)) (Twice x.name x.at) f here) in
        let y = passing (stands_before x) others any in
        subst (NotBehind (asked ports others)) is
        (cross_enough ports others x y.item there e y.there
        (first_so (same_name x.name y.item.name) (nat_lt y.item.at x.at) y.passes)
        (second_so (same_name x.name y.item.name) (nat_lt y.item.at x.at) y.passes)
        (earliest y.item.name 0 ports) refl)

all_enough : (ports others : List SpelledName) (f : PackageFault) → Contains (twice (ports ++ others)) f
    → NotBehind (asked ports others) f
all_enough ports others f h =
    by (Contains-append_cases (flat_map (again (ports ++ others)) ports) (flat_map (again (ports ++ others)) others) f
    (subst (λ fs. Contains fs f) (flat_map-append (again (ports ++ others)) ports others) h))
  where
    by : Contains (flat_map (again (ports ++ others)) ports) f ⊎ Contains (flat_map (again (ports ++ others)) others) f
        → NotBehind (asked ports others) f
    by (inl a) = let s = from_all (again (ports ++ others)) ports f a in
        port_enough ports others s.item f s.there s.here
    by (inr b) = let s = from_all (again (ports ++ others)) others f b in
        other_enough ports others s.item f s.there s.here

pub beside_covers : (ports others : List SpelledName) → Covers (beside ports others) (twice (ports ++ others))
unfolding beside
beside_covers ports others = record { among = all_among ports others; enough = all_enough ports others }
