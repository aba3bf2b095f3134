-- Each finding of a duplicate declaration is one of the possible name faults of the package.
use Rattle.std.proofs.Common.{◌≡◌, ℕ, List, [], ◌∷◌, ◌++◌, Option, Some, None, Contains, refl, subst}
use Rattle.std.specs.Prelude.{flat_map, slice_get}
use Rattle.std.specs.List.{filter_map}
use Rattle.std.proofs.lemmas.Option.{same_Some}
use Rattle.std.proofs.lemmas.List.Elements.{Contains-append_left, Contains-append_right}
use Rattle.list_lemmas.proofs.Elements.{Contains-nil}
use Rattle.list_lemmas.proofs.ElementPositions.{Contains-from_slice_get}
use Rattle.aadl_tree.specs.Names.{Identifier, identifiers, listed_in}
use Rattle.aadl_tree.specs.Annexes.{VariableDeclaration, StateDeclaration, AnnexTree}
use Rattle.aadl_tree.specs.Declarations.{Feature, Subcomponent, Connection, TypeDeclaration, Implementation}
use Rattle.aadl_tree.specs.Declarations.{Declaration, type, implementation, PackageTree}
use Rattle.aadl_names.specs.declared.fault.PackageFault.{PackageFault}
use Rattle.aadl_names.specs.declared.fault.PackageFault.TheVariants.{Twice}
use Rattle.aadl_names.specs.declared.declared_name.SpelledName.{SpelledName}
use Rattle.aadl_names.specs.QualifiedNameSpellings.{spelled_implementation}
use Rattle.aadl_names.specs.DuplicateNames.{entry_of}
use Rattle.aadl_names.specs.BehaviourAnnexes.{behaviours, variables_of, states_of}
use Rattle.aadl_names.specs.NameResolution.{is_thread, type_in, type_numbered, type_number, features_of, ports_of}
use Rattle.aadl_names.specs.DuplicatesByNamespace.{port_entries, variable_entries, state_entries, twice_in_behaviour}
use Rattle.aadl_names.specs.DuplicatesByNamespace.{twice_in_first, member_entries, twice_in, type_entry}
use Rattle.aadl_names.specs.DuplicatesByNamespace.{implementation_entry, twice_names}
use Rattle.aadl_names.specs.PackageNameFaults.{behaviour_faults, unknown_reference, unknown_end}
use Rattle.aadl_names.proofs.ListMembers.{is_here, among_all, from_all}
use Rattle.design_laws.proofs.FaultCoverageRules.{Covered, covered_none, covered_append, covered_if, covered_each}
use Rattle.design_laws.proofs.FaultCoverageRules.{Named}
use Rattle.design_laws.proofs.FaultCoverageRules.{named_append, named_map, named_filter_map, covered_twice}
use Rattle.design_laws.proofs.CoveredNameFaults.{behaviour_has}
use Rattle.design_laws.proofs.PossibleNameFaults.{of_identifier, of_identifiers, of_associations, of_variable, of_state}
use Rattle.design_laws.proofs.PossibleNameFaults.{of_tree, of_annex, of_feature, of_subcomponent, of_connection}
use Rattle.design_laws.proofs.PossibleNameFaults.{none_of, of_type, of_implementation, of_declaration, possible}

abbrev pub again_of : Identifier ℕ → PackageFault
again_of x = Twice x.spelling x.at

-- ---- declarations in an annex
variable_has : (v : VariableDeclaration ℕ) (y : Identifier ℕ) → Contains (identifiers v.names) y
    → Contains (of_variable v) (again_of y)
variable_has v y there = Contains-append_left (of_identifiers v.names) (of_associations v.properties) (again_of y)
    (among_all of_identifier (identifiers v.names) y (again_of y) there (is_here (again_of y)))

state_has : (s : StateDeclaration ℕ) (y : Identifier ℕ) → Contains (identifiers s.names) y
    → Contains (of_state s) (again_of y)
state_has s y there = among_all of_identifier (identifiers s.names) y (again_of y) there (is_here (again_of y))

module _ (transitions : AnnexTree ℕ → List PackageFault) (x : AnnexTree ℕ) where
  variables_have : (y : Identifier ℕ) → Contains (variables_of x) y → Contains (of_tree transitions x) (again_of y)
  variables_have y there =
      let from = from_all (λ (v : VariableDeclaration ℕ). identifiers v.names) (listed_in x.variables) y there in
      Contains-append_left (flat_map of_variable (listed_in x.variables))
      (flat_map of_state (listed_in x.states) ++ transitions x) (again_of y)
      (among_all of_variable (listed_in x.variables) from.item (again_of y) from.there
      (variable_has from.item y from.here))

  states_have : (y : Identifier ℕ) → Contains (states_of x) y → Contains (of_tree transitions x) (again_of y)
  states_have y there =
      let from = from_all (λ (s : StateDeclaration ℕ). identifiers s.names) (listed_in x.states) y there in
      Contains-append_right (flat_map of_variable (listed_in x.variables))
      (flat_map of_state (listed_in x.states) ++ transitions x) (again_of y)
      (Contains-append_left (flat_map of_state (listed_in x.states)) (transitions x) (again_of y)
      (among_all of_state (listed_in x.states) from.item (again_of y) from.there (state_has from.item y from.here)))

-- ---- the members of a declaration
feature_has : (x : TypeDeclaration ℕ) (y : Feature ℕ) → Contains x.features y → Contains (of_type x) (again_of y.name)
feature_has x y there = Contains-append_right (Twice x.name.spelling x.at ∷ []) _ (again_of y.name)
    (Contains-append_left (flat_map of_feature x.features)
    (of_associations x.properties ++ flat_map (of_annex none_of) x.annexes) (again_of y.name)
    (among_all of_feature x.features y (again_of y.name) there
    (Contains-append_left (of_identifier y.name) (of_associations y.properties) (again_of y.name)
    (is_here (again_of y.name)))))

module _ (tree : PackageTree ℕ) (x : Implementation ℕ) where
  heading : List PackageFault
  heading = Twice (spelled_implementation x.name) x.at ∷ []

  subs : List PackageFault
  subs = flat_map of_subcomponent x.subcomponents

  connections : List PackageFault
  connections = flat_map of_connection x.connections

  properties : List PackageFault
  properties = of_associations x.properties

  annexes : List PackageFault
  annexes = flat_map (of_annex (behaviour_faults tree x)) x.annexes

  pub subcomponent_has : (s : Subcomponent ℕ) → Contains x.subcomponents s
      → Contains (of_implementation tree x) (again_of s.name)
  unfolding heading subs connections properties annexes
  subcomponent_has s there =
      Contains-append_right heading (subs ++ (connections ++ (properties ++ annexes))) (again_of s.name)
      (Contains-append_left subs (connections ++ (properties ++ annexes)) (again_of s.name)
      (among_all of_subcomponent x.subcomponents s (again_of s.name) there
      (Contains-append_left (of_identifier s.name) (unknown_reference s.classifier ++ of_associations s.properties)
      (again_of s.name)
      (is_here (again_of s.name)))))

  pub connection_has : (c : Connection ℕ) → Contains x.connections c
      → Contains (of_implementation tree x) (again_of c.name)
  unfolding heading subs connections properties annexes
  connection_has c there =
      Contains-append_right heading (subs ++ (connections ++ (properties ++ annexes))) (again_of c.name)
      (Contains-append_right subs (connections ++ (properties ++ annexes)) (again_of c.name)
      (Contains-append_left connections (properties ++ annexes) (again_of c.name)
      (among_all of_connection x.connections c (again_of c.name) there
      (Contains-append_left (of_identifier c.name)
      (unknown_end c.source ++ (unknown_end c.target ++ of_associations c.properties)) (again_of c.name)
      (is_here (again_of c.name))))))

  annex_has : (b : ℕ × AnnexTree ℕ) (f : PackageFault) → Contains (behaviours x.annexes) b
      → Contains (of_tree (behaviour_faults tree x) b.1) f
      → Contains (of_implementation tree x) f
  unfolding heading subs connections properties annexes
  annex_has b f there here = Contains-append_right heading (subs ++ (connections ++ (properties ++ annexes))) f
      (Contains-append_right subs (connections ++ (properties ++ annexes)) f
      (Contains-append_right connections (properties ++ annexes) f
      (Contains-append_right properties annexes f (behaviour_has (behaviour_faults tree x) x.annexes b f there here))))

-- ---- in a package
module _ (tree : PackageTree ℕ) where
  pub in_package : (d : Declaration ℕ) (f : PackageFault) → Contains tree.declarations d
      → Contains (of_declaration tree d) f → Contains (possible tree) f
  in_package d f there here = among_all (of_declaration tree) tree.declarations d f there here

  ports_by : (n : ℕ) (o : Option (Declaration ℕ)) → slice_get tree.declarations n ≡ o → (y : Feature ℕ)
      → Contains (features_of (type_in o)) y
      → Contains (possible tree) (again_of y.name)
  ports_by n None e y there = absurd (Contains-nil y there)
  ports_by n (Some (implementation x)) e y there = absurd (Contains-nil y there)
  ports_by n (Some (type x)) e y there =
      in_package (type x) (again_of y.name) (Contains-from_slice_get tree.declarations n (type x) e)
      (feature_has x y there)

  ports_of_number : (number : Option ℕ) (y : Feature ℕ) → Contains (features_of (type_numbered tree number)) y
      → Contains (possible tree) (again_of y.name)
  ports_of_number None y there = absurd (Contains-nil y there)
  ports_of_number (Some n) y there = ports_by n (slice_get tree.declarations n) refl y there

  module _ (x : Implementation ℕ) (declared : Contains tree.declarations (implementation x)) where
    ports_named : Named (port_entries (ports_of tree x)) (possible tree)
    ports_named =
        named_map (λ (y : Feature ℕ). entry_of y.name) (ports_of tree x) (possible tree)
        (ports_of_number (type_number tree x))

    members_named : Named (member_entries x) (possible tree)
    members_named = named_append
        (named_map (λ (s : Subcomponent ℕ). entry_of s.name) x.subcomponents (possible tree)
        (λ s there. in_package (implementation x) (again_of s.name) declared (subcomponent_has tree x s there)))
        (named_map (λ (c : Connection ℕ). entry_of c.name) x.connections (possible tree)
        (λ c there. in_package (implementation x) (again_of c.name) declared (connection_has tree x c there)))

    module _ (b : ℕ × AnnexTree ℕ) (first : Contains (behaviours x.annexes) b) where
      variables_named : Named (variable_entries b.1) (possible tree)
      variables_named =
          named_map entry_of (variables_of b.1) (possible tree)
          (λ y there. in_package (implementation x) (again_of y) declared
          (annex_has tree x b (again_of y) first (variables_have (behaviour_faults tree x) b.1 y there)))

      states_named : Named (state_entries b.1) (possible tree)
      states_named =
          named_map entry_of (states_of b.1) (possible tree)
          (λ y there. in_package (implementation x) (again_of y) declared
          (annex_has tree x b (again_of y) first (states_have (behaviour_faults tree x) b.1 y there)))

      behaviour_covered : Covered (twice_in_behaviour tree x b.1) (possible tree)
      behaviour_covered = covered_append
          (covered_twice (port_entries (ports_of tree x) ++ variable_entries b.1) (possible tree)
          (named_append ports_named variables_named))
          (covered_twice (state_entries b.1) (possible tree) states_named)

    first_covered : (bs : List (ℕ × AnnexTree ℕ))
        → ((b : ℕ × AnnexTree ℕ) → Contains bs b → Contains (behaviours x.annexes) b)
        → Covered (twice_in_first tree x bs) (possible tree)
    first_covered [] within = covered_none (possible tree)
    first_covered (b ∷ bs) within =
        covered_if (is_thread x.category)
        (behaviour_covered b (within b (Contains-append_left (b ∷ []) bs b (is_here b))))
        (covered_none (possible tree))

  declaration_covered : (d : Declaration ℕ) → Contains tree.declarations d → Covered (twice_in tree d) (possible tree)
  declaration_covered (type x) declared = covered_none (possible tree)
  declaration_covered (implementation x) declared = covered_append
      (covered_twice (port_entries (ports_of tree x) ++ member_entries x) (possible tree)
      (named_append (ports_named x declared) (members_named x declared)))
      (first_covered x declared (behaviours x.annexes) (λ b there. there))

  -- ---- types and implementations
  type_named : (d : Declaration ℕ) (e : SpelledName) → Contains tree.declarations d → type_entry d ≡ Some e
      → Contains (possible tree) (Twice e.name e.at)
  type_named (type x) e declared is =
      let here : SpelledName = record { name = x.name.spelling; at = x.at } in
      subst (λ (z : SpelledName). Contains (possible tree) (Twice z.name z.at)) (same_Some here e is)
      (in_package (type x) (Twice x.name.spelling x.at) declared
      (Contains-append_left (Twice x.name.spelling x.at ∷ []) _ (Twice x.name.spelling x.at)
      (is_here (Twice x.name.spelling x.at))))
  type_named (implementation x) e declared is = absurd (cc is)

  implementation_named : (d : Declaration ℕ) (e : SpelledName) → Contains tree.declarations d
      → implementation_entry d ≡ Some e
      → Contains (possible tree) (Twice e.name e.at)
  implementation_named (type x) e declared is = absurd (cc is)
  implementation_named (implementation x) e declared is =
      let here : SpelledName = record { name = spelled_implementation x.name; at = x.at } in
      let found = Twice (spelled_implementation x.name) x.at in
      subst (λ (z : SpelledName). Contains (possible tree) (Twice z.name z.at)) (same_Some here e is)
      (in_package (implementation x) found declared (Contains-append_left (found ∷ []) _ found (is_here found)))

  pub twice_covered : Covered (twice_names tree) (possible tree)
  unfolding twice_names
  twice_covered = covered_append (covered_append
      (covered_twice (filter_map type_entry tree.declarations) (possible tree)
      (named_filter_map type_entry tree.declarations (possible tree) type_named))
      (covered_twice (filter_map implementation_entry tree.declarations) (possible tree)
      (named_filter_map implementation_entry tree.declarations (possible tree) implementation_named)))
      (covered_each (twice_in tree) tree.declarations (possible tree) declaration_covered)
