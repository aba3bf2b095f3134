-- The names of a package without duplicate declarations are distinct.
use Rattle.std.proofs.Common.{◌≡◌, ◌≢◌, ◌∙◌, ◌⊎◌, inl, inr, ℕ, zero, suc, ◌<◌, true, List, [], ◌∷◌, ◌++◌, map, Option}
use Rattle.std.proofs.Common.{Some, None, Contains, refl, ap, subst, arith}
use Rattle.std.specs.Prelude.{flat_map, slice_get}
use Rattle.std.specs.List.{AllByRecursion, filter_map}
use Rattle.std.proofs.lemmas.Bool.{cases_order}
use Rattle.std.proofs.lemmas.List.{map-append}
use Rattle.list_lemmas.proofs.Elements.{AllByRecursion-weaker}
use Rattle.list_lemmas.proofs.ListOperations.{append_is_nil_right, append_is_nil_left}
use Rattle.list_lemmas.proofs.ElementPositions.{flat_map-nil_at}
use Rattle.list_lemmas.proofs.Numbers.{ne_from_lt}
use Rattle.list_lemmas.proofs.PairwiseProperties.{Pairs, pairs_append, pairs_weaker, all_pairs_from}
use Rattle.aadl_tree.specs.SpellingParts.{SpellingPart}
use Rattle.aadl_tree.specs.Names.{Identifier}
use Rattle.aadl_tree.specs.Annexes.{AnnexTree}
use Rattle.aadl_tree.specs.Declarations.{Feature, Subcomponent, Connection, TypeDeclaration, Implementation}
use Rattle.aadl_tree.specs.Declarations.{Declaration, type, implementation, PackageTree, declaration_parts}
use Rattle.aadl_tree.specs.Declarations.{package_parts}
use Rattle.aadl_tree.specs.proof.TreesOfSomeText.{IsGiven}
use Rattle.aadl_names.specs.declared.declared_name.SpelledName.{SpelledName}
use Rattle.aadl_names.specs.DuplicateNames.{entry_of, twice}
use Rattle.aadl_names.specs.BehaviourAnnexes.{behaviours, variables_of, states_of}
use Rattle.aadl_names.specs.NameResolution.{is_thread, type_in, type_numbered, type_number, features_of, ports_of}
use Rattle.aadl_names.specs.DuplicatesByNamespace.{port_entries, variable_entries, state_entries, twice_in_behaviour}
use Rattle.aadl_names.specs.DuplicatesByNamespace.{twice_in_first, member_entries, twice_in, type_entry}
use Rattle.aadl_names.specs.DuplicatesByNamespace.{implementation_entry, twice_names}
use Rattle.aadl_names.specs.PackageNameFaults.{wrong_names, package_faults}
use Rattle.aadl_names.specs.proof.PlaceOrder.{places_of}
use Rattle.aadl_names.proofs.RisingPlaces.{places_rise}
use Rattle.design_laws.specs.proof.PackageNames.{NamesDiffer}
use Rattle.design_laws.proofs.PlacedNames.{Rise, rise_back, in_front, in_back, IsIn, Placed}
use Rattle.design_laws.proofs.PairwiseDistinctNames.{where_true, Apart, Differs, names_differ}
use Rattle.design_laws.proofs.DeclaredNameOrder.{type_names, member_names, first_variables, first_states}
use Rattle.design_laws.proofs.DeclaredNameOrder.{rise_declarations, rise_one}

-- ---- entries in the order of their names
abbrev Earlier : SpelledName → SpelledName → Type 0
Earlier x y = x.at < y.at

abbrev Within : List (SpellingPart ℕ) → SpelledName → Type 0
Within parts x = Contains (places_of parts) x.at

record Entered (parts : List (SpellingPart ℕ)) (xs : List SpelledName) : Type 0 where
  rising : Pairs Earlier xs
  inside : AllByRecursion (Within parts) xs

module _ (R : Identifier ℕ → Identifier ℕ → Type 0) (S : SpelledName → SpelledName → Type 0)
    (f : (x y : Identifier ℕ) → R x y
    → S (entry_of x) (entry_of y)) where
  all_entries : (x : Identifier ℕ) (ys : List (Identifier ℕ)) → AllByRecursion (R x) ys
      → AllByRecursion (S (entry_of x)) (map entry_of ys)
  all_entries x [] h = tt
  all_entries x (y ∷ ys) h = (f x y h.0, all_entries x ys h.1)

  pairs_entries : (xs : List (Identifier ℕ)) → Pairs R xs → Pairs S (map entry_of xs)
  pairs_entries [] h = tt
  pairs_entries (x ∷ xs) h = (all_entries x xs h.0, pairs_entries xs h.1)

inside_entries : (parts : List (SpellingPart ℕ)) (xs : List (Identifier ℕ)) → AllByRecursion (IsIn parts) xs
    → AllByRecursion (Within parts) (map entry_of xs)
inside_entries parts [] h = tt
inside_entries parts (x ∷ xs) h = (h.0, inside_entries parts xs h.1)

entered : (parts : List (SpellingPart ℕ)) (xs : List (Identifier ℕ)) → Placed parts xs → Entered parts (map entry_of xs)
entered parts xs h = record {
  rising = pairs_entries (λ x y. x.at < y.at) Earlier
      (λ x y lt. lt) xs h.rising;
  inside = inside_entries parts xs h.inside;
}

entries_of : {A : Type 0} (n : A → Identifier ℕ) (xs : List A)
    → map entry_of (flat_map (λ x. n x ∷ []) xs) ≡ map (λ x. entry_of (n x)) xs
entries_of n [] = refl
entries_of n (x ∷ xs) = ap (λ l. entry_of (n x) ∷ l) (entries_of n xs)

-- ---- two declarations
in_one : (ds : List (Declaration ℕ)) (n : ℕ) (d : Declaration ℕ) (q : ℕ) → slice_get ds n ≡ Some d
    → Contains (places_of (declaration_parts d)) q → Contains (places_of (flat_map declaration_parts ds)) q
in_one [] n d q is h = absurd (cc is)
in_one (c ∷ ds) zero d q is h = let e : d ≡ c = cc is in
    in_front (declaration_parts c) (flat_map declaration_parts ds) q
    (subst (λ x. Contains (places_of (declaration_parts x)) q) e h)
in_one (c ∷ ds) (suc n) d q is h =
    in_back (declaration_parts c) (flat_map declaration_parts ds) q (in_one ds n d q is h)

before : (ds : List (Declaration ℕ)) (m n : ℕ) (c d : Declaration ℕ) (p q : ℕ)
    → Rise (flat_map declaration_parts ds) → m < n
    → slice_get ds m ≡ Some c → slice_get ds n ≡ Some d
    → Contains (places_of (declaration_parts c)) p → Contains (places_of (declaration_parts d)) q → p < q
before [] m n c d p q r lt first second here there = absurd (cc first)
before (e ∷ ds) m zero c d p q r lt first second here there = absurd (omega arith)
before (e ∷ ds) zero (suc n) c d p q r lt first second here there =
    let same : c ≡ e = cc first in
    r.each p q (record {
      front = declaration_parts e;
      back = flat_map declaration_parts ds;
      split = refl;
      first = subst (λ x. Contains (places_of (declaration_parts x)) p) same here;
      second = in_one ds n d q second there;
    })
before (e ∷ ds) (suc m) (suc n) c d p q r lt first second here there =
    before ds m n c d p q (rise_back (declaration_parts e) (flat_map declaration_parts ds) r) (omega arith) first
    second here there

more_apart : (p q : ℕ) → q < p → p ≢ q
more_apart p q lt = λ e. absurd (omega (arith, lt, e))

module _ (ds : List (Declaration ℕ)) (r : Rise (flat_map declaration_parts ds)) where
  places_apart : (m n : ℕ) (c d : Declaration ℕ) (p q : ℕ) → (m ≡ n) ⊎ ((m < n) ⊎ (n < m)) → m ≢ n
      → slice_get ds m ≡ Some c → slice_get ds n ≡ Some d
      → Contains (places_of (declaration_parts c)) p → Contains (places_of (declaration_parts d)) q → p ≢ q
  places_apart m n c d p q (inl e) other first second here there = absurd (other e)
  places_apart m n c d p q (inr (inl lt)) other first second here there =
      ne_from_lt p q (before ds m n c d p q r lt first second here there)
  places_apart m n c d p q (inr (inr lt)) other first second here there =
      more_apart p q (before ds n m d c q p r lt second first there here)

  both_apart : (m n : ℕ) (c d : Declaration ℕ) (xs ys : List SpelledName) → m ≢ n → slice_get ds m ≡ Some c
      → slice_get ds n ≡ Some d
      → Entered (declaration_parts c) xs → Entered (declaration_parts d) ys → Pairs Apart (xs ++ ys)
  both_apart m n c d xs ys other first second a b =
      pairs_append Apart xs ys (pairs_weaker Earlier Apart (λ x y. ne_from_lt x.at y.at) xs a.rising)
      (pairs_weaker Earlier Apart (λ x y. ne_from_lt x.at y.at) ys b.rising)
      (AllByRecursion-weaker (Within (declaration_parts c)) (λ x. AllByRecursion (Apart x) ys)
      (λ x here. AllByRecursion-weaker (Within (declaration_parts d)) (Apart x)
      (λ y there. places_apart m n c d x.at y.at
      (cases_order m n) other first second here there) ys b.inside) xs a.inside)

  types_entered : (x : TypeDeclaration ℕ) → Rise (declaration_parts (type x))
      → Entered (declaration_parts (type x)) (port_entries x.features)
  types_entered x rise =
      subst (Entered (declaration_parts (type x))) (entries_of (λ (f : Feature ℕ). f.name) x.features)
      (entered (declaration_parts (type x)) (flat_map (λ (f : Feature ℕ). f.name ∷ []) x.features) (type_names x rise))

  other_kind : (m n : ℕ) (t : TypeDeclaration ℕ) (x : Implementation ℕ) → slice_get ds m ≡ Some (type t)
      → slice_get ds n ≡ Some (implementation x) → m ≢ n
  other_kind m n t x first second e = let same : slice_get ds m ≡ Some (implementation x) = ap (slice_get ds) e
      ∙ second in absurd (cc (first, same))

  -- the ports of a type, and the declarations of an implementation
  ports_by : (m n : ℕ) (d : Option (Declaration ℕ)) (x : Implementation ℕ) (ys : List SpelledName) → slice_get ds m ≡ d
      → slice_get ds n ≡ Some (implementation x)
      → Entered (declaration_parts (implementation x)) ys → Pairs Apart (port_entries (features_of (type_in d)) ++ ys)
  ports_by m n None x ys first second b = pairs_weaker Earlier Apart (λ y z. ne_from_lt y.at z.at) ys b.rising
  ports_by m n (Some (implementation y)) x ys first second b =
      pairs_weaker Earlier Apart (λ y z. ne_from_lt y.at z.at) ys b.rising
  ports_by m n (Some (type t)) x ys first second b =
      both_apart m n (type t) (implementation x) (port_entries t.features) ys (other_kind m n t x first second)
      first second
      (types_entered t (rise_one ds m (type t) first r)) b

module _ (tree : PackageTree ℕ) (rise : Rise (package_parts tree)) (n : ℕ) (x : Implementation ℕ)
    (is : slice_get tree.declarations n ≡ Some (implementation x)) where
  inner : Rise (declaration_parts (implementation x))
  inner = rise_one tree.declarations n (implementation x) is (rise_declarations tree rise)

  ports_with : (number : Option ℕ) (ys : List SpelledName) → Entered (declaration_parts (implementation x)) ys
      → Pairs Apart (port_entries (features_of (type_numbered tree number)) ++ ys)
  ports_with None ys b = pairs_weaker Earlier Apart (λ y z. ne_from_lt y.at z.at) ys b.rising
  ports_with (Some m) ys b =
      ports_by tree.declarations (rise_declarations tree rise) m n (slice_get tree.declarations m) x ys refl is b

  members_entered : Entered (declaration_parts (implementation x)) (member_entries x)
  members_entered =
      let subs = flat_map (λ (s : Subcomponent ℕ). s.name ∷ []) x.subcomponents in
      let connections = flat_map (λ (c : Connection ℕ). c.name ∷ []) x.connections in
      let same : map entry_of (subs ++ connections) ≡ member_entries x =
      map-append entry_of subs connections
      ∙ (ap (λ l. l ++ map entry_of connections) (entries_of (λ (s : Subcomponent ℕ). s.name) x.subcomponents)
      ∙ ap (λ l. map (λ (s : Subcomponent ℕ). entry_of s.name) x.subcomponents ++ l)
      (entries_of (λ (c : Connection ℕ). c.name) x.connections)) in
      subst (Entered (declaration_parts (implementation x))) same
      (entered (declaration_parts (implementation x)) (subs ++ connections)
      (member_names x inner))

  variables_entered : (b : ℕ × AnnexTree ℕ) → slice_get (behaviours x.annexes) 0 ≡ Some b
      → Entered (declaration_parts (implementation x)) (variable_entries b.1)
  variables_entered b first =
      entered (declaration_parts (implementation x)) (variables_of b.1) (first_variables x b first inner)

  states_entered : (b : ℕ × AnnexTree ℕ) → slice_get (behaviours x.annexes) 0 ≡ Some b
      → Entered (declaration_parts (implementation x)) (state_entries b.1)
  states_entered b first = entered (declaration_parts (implementation x)) (states_of b.1) (first_states x b first inner)

-- ---- nothing is declared twice

none_twice : (tree : PackageTree ℕ) (root : ℕ) → package_faults tree root ≡ []
    → flat_map (twice_in tree) tree.declarations ≡ []
unfolding twice_names
none_twice tree root none =
    append_is_nil_right (twice (filter_map type_entry tree.declarations)
    ++ twice (filter_map implementation_entry tree.declarations))
    (flat_map (twice_in tree) tree.declarations) (append_is_nil_right (wrong_names tree root) (twice_names tree) none)

first_twice : (tree : PackageTree ℕ) (x : Implementation ℕ) (bs : List (ℕ × AnnexTree ℕ)) (b : ℕ × AnnexTree ℕ)
    → slice_get bs 0 ≡ Some b
    → is_thread x.category ≡ true → twice_in_first tree x bs ≡ []
    → twice_in_behaviour tree x b.1 ≡ []
first_twice tree x [] b is thread none = absurd (cc is)
first_twice tree x (c ∷ bs) b is thread none =
    let same : c ≡ b = cc is in
    subst (λ (d : ℕ × AnnexTree ℕ). twice_in_behaviour tree x d.1 ≡ []) same
    (where_true (is_thread x.category) (twice_in_behaviour tree x c.1) thread none)

pub differ : (tree : PackageTree ℕ) (root n : ℕ) (x : Implementation ℕ) → Rise (package_parts tree)
    → package_faults tree root ≡ []
    → slice_get tree.declarations n ≡ Some (implementation x) → NamesDiffer tree x
differ tree root n x rise none is =
    let here = flat_map-nil_at (twice_in tree) tree.declarations n (implementation x) (none_twice tree root none) is in
    let members =
    append_is_nil_left (twice (port_entries (ports_of tree x) ++ member_entries x))
    (twice_in_first tree x (behaviours x.annexes)) here in
    let first =
    append_is_nil_right (twice (port_entries (ports_of tree x) ++ member_entries x))
    (twice_in_first tree x (behaviours x.annexes)) here in
    record {
      members =
          all_pairs_from Differs _ (names_differ _ members
          (ports_with tree rise n x is (type_number tree x) (member_entries x)
          (members_entered tree rise n x is)));
      values = λ b first_is thread.
          let both = first_twice tree x (behaviours x.annexes) b first_is thread first in
          all_pairs_from Differs _ (names_differ _
          (append_is_nil_left (twice (port_entries (ports_of tree x) ++ variable_entries b.1))
          (twice (state_entries b.1)) both)
          (ports_with tree rise n x is (type_number tree x) (variable_entries b.1)
          (variables_entered tree rise n x is b first_is)));
      states = λ b first_is thread.
          let both = first_twice tree x (behaviours x.annexes) b first_is thread first in
          all_pairs_from Differs _ (names_differ _
          (append_is_nil_right (twice (port_entries (ports_of tree x) ++ variable_entries b.1))
          (twice (state_entries b.1)) both)
          (pairs_weaker Earlier Apart (λ y z. ne_from_lt y.at z.at) (state_entries b.1)
          (states_entered tree rise n x is b first_is).rising));
    }

pub differ_given : (tree : PackageTree ℕ) (root n : ℕ) (x : Implementation ℕ) → IsGiven tree
    → package_faults tree root ≡ []
    → slice_get tree.declarations n ≡ Some (implementation x) → NamesDiffer tree x
differ_given tree root n x given none is =
    differ tree root n x (record { each = λ p q s. places_rise given.0 tree given.1 p q s }) none is
