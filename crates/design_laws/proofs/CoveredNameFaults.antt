-- Each finding in the names of a package is one of the possible name faults, or has another kind.
use Rattle.std.proofs.Common.{◌≡◌, ℕ, ◌+◌, Bool, not, ◌&&◌, List, [], ◌∷◌, ◌++◌, Option, Some, None, Contains, sym}
use Rattle.std.proofs.Common.{subst}
use Rattle.std.specs.Prelude.{flat_map}
use Rattle.std.specs.List.{enumerate_from}
use Rattle.std.proofs.lemmas.Option.{same_Some}
use Rattle.std.proofs.lemmas.List.Elements.{Contains-append_left, Contains-append_right}
use Rattle.aadl_tree.specs.declared.declarations.Category.{Category}
use Rattle.aadl_tree.specs.declared.declarations.Direction.{Direction}
use Rattle.aadl_tree.specs.Names.{Identifier, listed_in}
use Rattle.aadl_tree.specs.Values.{Associations}
use Rattle.aadl_tree.specs.Annexes.{VariableDeclaration, AnnexTree, AnnexContent, foreign, behaviour, Annex}
use Rattle.aadl_tree.specs.Declarations.{Feature, Subcomponent, ConnectionEnd, Connection, TypeDeclaration}
use Rattle.aadl_tree.specs.Declarations.{Implementation, Declaration, type, implementation, PackageTree}
use Rattle.aadl_names.specs.declared.fault.PackageFault.{PackageFault}
use Rattle.aadl_names.specs.declared.fault.PackageFault.TheVariants.{Twice}
use Rattle.aadl_names.specs.declared.recognised_properties.PropertyHolder.{PropertyHolder}
use Rattle.aadl_names.specs.declared.recognised_properties.PropertyHolder.TheVariants as holders
use Rattle.aadl_names.specs.declared.numbered_port.NumberedPort.{NumberedPort}
use Rattle.aadl_names.specs.BehaviourAnnexes.{behaviour_in, behaviours}
use Rattle.aadl_names.specs.NameResolution.{target_of, is_thread}
use Rattle.aadl_names.specs.RecognisedProperties.{listed, association_name, association_at, counts, counted, misshapen}
use Rattle.aadl_names.specs.RecognisedProperties.{association_entry, shape_fault, property_entries, list_faults}
use Rattle.aadl_names.specs.PackageNameFaults as p
use Rattle.aadl_names.proofs.ListMembers.{is_here, among_all}
use Rattle.design_laws.proofs.FaultCoverageRules.{from_filter, from_filter_map, Covered, covered_among, covered_none}
use Rattle.design_laws.proofs.FaultCoverageRules.{covered_itself, covered_kind, covered_wrong, covered_kinds}
use Rattle.design_laws.proofs.FaultCoverageRules.{covered_append, covered_front, covered_back, covered_if, covered_each}
use Rattle.design_laws.proofs.FaultCoverageRules.{covered_flat, named_map, covered_twice}
use Rattle.design_laws.proofs.PossibleNameFaults.{of_identifier, of_identifiers, of_association, of_associations}
use Rattle.design_laws.proofs.PossibleNameFaults.{of_variable, of_state, of_tree, of_content, of_annex, of_feature}
use Rattle.design_laws.proofs.PossibleNameFaults.{of_subcomponent, of_connection, none_of, of_type, of_implementation}
use Rattle.design_laws.proofs.PossibleNameFaults.{of_declaration, possible}

-- ---- properties
list_covered : (holder : PropertyHolder) (xs : Associations ℕ) → Covered (list_faults holder xs) (of_associations xs)
list_covered holder xs =
    covered_append (covered_each (shape_fault holder) (listed xs) (of_associations xs) (λ x there. covered_if (counts x)
    (covered_wrong (misshapen holder x) (association_at x) (of_associations xs)) (covered_none (of_associations xs))))
    (covered_twice (property_entries xs) (of_associations xs)
    (named_map association_entry (counted xs) (of_associations xs)
    (λ x there. among_all of_association (listed xs) x (Twice (association_name x) (association_at x))
    (from_filter counts (listed xs) x there)
    (is_here (Twice (association_name x) (association_at x))))))

-- ---- subcomponents and connections
target_covered : (sub : Subcomponent ℕ) (target : Option (Implementation ℕ))
    → Covered (p.target_faults sub target) (p.unknown_reference sub.classifier)
target_covered sub None = covered_itself (p.unknown_reference sub.classifier)
target_covered sub (Some target) =
    covered_wrong (not (p.same_category target.category sub.category)) sub.name.at (p.unknown_reference sub.classifier)

names_covered : (tree : PackageTree ℕ) (sub : Subcomponent ℕ) (named : Option (Identifier ℕ))
    → Covered (p.names_faults tree sub named) (p.unknown_reference sub.classifier)
names_covered tree sub None = covered_kind sub.name.at (p.unknown_reference sub.classifier)
names_covered tree sub (Some i) = target_covered sub (target_of tree sub)

subcomponent_covered : (tree : PackageTree ℕ) (outer : Category) (sub : Subcomponent ℕ)
    → Covered (p.subcomponent_faults tree outer sub) (of_subcomponent sub)
subcomponent_covered tree outer sub =
    covered_append (covered_append
    (covered_wrong (not (p.may_contain outer sub.category)) sub.name.at (of_subcomponent sub))
    (covered_back (of_identifier sub.name)
    (covered_front (of_associations sub.properties) (names_covered tree sub sub.classifier.implementation))))
    (covered_back (of_identifier sub.name) (covered_back (p.unknown_reference sub.classifier)
    (list_covered (holders.Subcomponent sub.category) sub.properties)))

end_covered : (may : NumberedPort × Option Direction → Bool) (end : ConnectionEnd ℕ) (at : ℕ)
    (port : Option (NumberedPort × Option Direction))
    → Covered (p.end_faults may end at port) (p.unknown_end end)
end_covered may end at None = covered_itself (p.unknown_end end)
end_covered may end at (Some port) = covered_wrong (not (may port)) at (p.unknown_end end)

connection_covered : (tree : PackageTree ℕ) (x : Implementation ℕ) (c : Connection ℕ)
    → Covered (p.connection_faults tree x c) (of_connection c)
connection_covered tree x c =
    let name = of_identifier c.name in
    let source = p.unknown_end c.source in
    let target = p.unknown_end c.target in
    let properties = of_associations c.properties in
    covered_append (covered_append (covered_append
    (covered_back name (covered_front (target ++ properties)
    (end_covered p.may_leave c.source c.name.at (p.directed_end_port tree x c.source))))
    (covered_back name (covered_back source
    (covered_front properties (end_covered p.may_enter c.target c.name.at (p.directed_end_port tree x c.target))))))
    (covered_wrong (p.is_own (p.directed_end_port tree x c.source) && p.is_own (p.directed_end_port tree x c.target))
    c.name.at
    (of_connection c)))
    (covered_back name (covered_back source (covered_back target (list_covered holders.Connection c.properties))))

-- ---- annexes
variable_covered : (x : VariableDeclaration ℕ) → Covered (p.variable_faults x) (of_variable x)
variable_covered x = covered_back (of_identifiers x.names) (list_covered holders.Variable x.properties)

module _ (transitions : AnnexTree ℕ → List PackageFault) where
  variables_by : (at : ℕ) (language : Identifier ℕ) (content : AnnexContent ℕ)
      → Covered (p.variables_faults (record { at = at; language = language; content = content }))
      (of_content transitions content)
  variables_by at language (foreign bytes) = covered_none []
  variables_by at language (behaviour x) = covered_front (flat_map of_state (listed_in x.states) ++ transitions x)
      (covered_flat p.variable_faults of_variable variable_covered (listed_in x.variables))

  variables_covered : (x : Annex ℕ) → Covered (p.variables_faults x) (of_annex transitions x)
  variables_covered x = variables_by x.at x.language x.content

  content_has : (at : ℕ) (language : Identifier ℕ) (content : AnnexContent ℕ) (b : ℕ × AnnexTree ℕ) (f : PackageFault)
      → behaviour_in (record { at = at; language = language; content = content }) ≡ Some b
      → Contains (of_tree transitions b.1) f
      → Contains (of_content transitions content) f
  content_has at language (foreign bytes) b f e h = absurd (cc e)
  content_has at language (behaviour x) b f e h =
      let same : (at, x) ≡ b = same_Some (at, x) b e in
      subst (λ (c : ℕ × AnnexTree ℕ). Contains (of_tree transitions c.1) f) (sym same) h

  pub behaviour_has : (xs : List (Annex ℕ)) (b : ℕ × AnnexTree ℕ) (f : PackageFault) → Contains (behaviours xs) b
      → Contains (of_tree transitions b.1) f
      → Contains (flat_map (of_annex transitions) xs) f
  behaviour_has xs b f there h =
      let from = from_filter_map behaviour_in xs b there in
      among_all (of_annex transitions) xs from.0 f from.1
      (content_has from.0.at from.0.language from.0.content b f from.2 h)

stray_by : (at : ℕ) (language : Identifier ℕ) (content : AnnexContent ℕ) (ps : List PackageFault)
    → Covered (p.stray_faults (record { at = at; language = language; content = content })) ps
stray_by at language (foreign bytes) ps = covered_none ps
stray_by at language (behaviour x) ps = covered_kind at ps

module _ (tree : PackageTree ℕ) (x : Implementation ℕ) where
  annexes : List PackageFault
  annexes = flat_map (of_annex (p.behaviour_faults tree x)) x.annexes

  first_covered : (b : ℕ × AnnexTree ℕ) → Contains (behaviours x.annexes) b
      → Covered (p.behaviour_faults tree x b.1) annexes
  unfolding annexes
  first_covered b there = covered_among (λ f h. behaviour_has (p.behaviour_faults tree x) x.annexes b f there
      (Contains-append_right (flat_map of_variable (listed_in b.1.variables))
      (flat_map of_state (listed_in b.1.states) ++ p.behaviour_faults tree x b.1) f
      (Contains-append_right (flat_map of_state (listed_in b.1.states)) (p.behaviour_faults tree x b.1) f h)))

  annexes_by : (bs : List (ℕ × AnnexTree ℕ))
      → ((b : ℕ × AnnexTree ℕ) → Contains bs b → Contains (behaviours x.annexes) b)
      → Covered (p.annex_faults tree x bs) annexes
  annexes_by [] within = covered_none annexes
  annexes_by (b ∷ bs) within =
      covered_if (is_thread x.category)
      (covered_append (first_covered b (within b (Contains-append_left (b ∷ []) bs b (is_here b))))
      (covered_kinds (λ (c : ℕ × AnnexTree ℕ). c.0) bs annexes))
      (covered_kinds (λ (c : ℕ × AnnexTree ℕ). c.0) (b ∷ bs) annexes)

  -- ---- an implementation
  implementation_covered : (of_root : Bool)
      → Covered (p.implementation_faults tree of_root x) (of_implementation tree x)
  unfolding annexes
  implementation_covered of_root =
      let here = of_implementation tree x in
      let heading = Twice _ x.at ∷ [] in
      let subs = flat_map of_subcomponent x.subcomponents in
      let connections = flat_map of_connection x.connections in
      let properties = of_associations x.properties in
      covered_append (covered_append (covered_append (covered_append (covered_append
      (covered_append (covered_wrong _ x.end_name.component_type.at here) (covered_wrong _ x.at here))
      (covered_back heading (covered_front (connections ++ (properties ++ annexes))
      (covered_flat (p.subcomponent_faults tree x.category) of_subcomponent (subcomponent_covered tree x.category)
      x.subcomponents))))
      (covered_back heading (covered_back subs (covered_front (properties ++ annexes)
      (covered_flat (p.connection_faults tree x) of_connection (connection_covered tree x) x.connections)))))
      (covered_back heading (covered_back subs (covered_back connections (covered_front annexes
      (list_covered (holders.Declaration x.category of_root) x.properties))))))
      (covered_back heading (covered_back subs (covered_back connections (covered_back properties
      (covered_flat p.variables_faults (of_annex (p.behaviour_faults tree x))
      (variables_covered (p.behaviour_faults tree x)) x.annexes))))))
      (covered_back heading (covered_back subs (covered_back connections (covered_back properties
      (annexes_by (behaviours x.annexes) (λ b there. there))))))

-- ---- a type
port_covered : (x : Feature ℕ) → Covered (p.port_faults x) (of_feature x)
port_covered x = covered_back (of_identifier x.name) (list_covered holders.Port x.properties)

type_covered : (of_root : Bool) (x : TypeDeclaration ℕ) → Covered (p.type_faults of_root x) (of_type x)
type_covered of_root x =
    let here = of_type x in
    let heading = Twice x.name.spelling x.at ∷ [] in
    let features = flat_map of_feature x.features in
    let properties = of_associations x.properties in
    let annexes = flat_map (of_annex none_of) x.annexes in
    covered_append (covered_append (covered_append (covered_append (covered_wrong _ x.end_name.at here)
    (covered_back heading (covered_front (properties ++ annexes)
    (covered_flat p.port_faults of_feature port_covered x.features))))
    (covered_back heading (covered_back features
    (covered_front annexes (list_covered (holders.Declaration x.category of_root) x.properties)))))
    (covered_each p.stray_faults x.annexes here (λ a there. stray_by a.at a.language a.content here)))
    (covered_back heading (covered_back features (covered_back properties
    (covered_flat p.variables_faults (of_annex none_of) (variables_covered none_of) x.annexes))))

-- ---- all declarations
declaration_covered : (tree : PackageTree ℕ) (root n : ℕ) (d : Declaration ℕ)
    → Covered (p.declaration_faults tree root (n, d)) (of_declaration tree d)
declaration_covered tree root n (type x) = type_covered _ x
declaration_covered tree root n (implementation x) = implementation_covered tree x _

declarations_covered : (tree : PackageTree ℕ) (root n : ℕ) (ds : List (Declaration ℕ))
    → Covered (flat_map (p.declaration_faults tree root) (enumerate_from n ds)) (flat_map (of_declaration tree) ds)
declarations_covered tree root n [] = covered_none []
declarations_covered tree root n (d ∷ ds) =
    covered_append (covered_front (flat_map (of_declaration tree) ds) (declaration_covered tree root n d))
    (covered_back (of_declaration tree d) (declarations_covered tree root (n + 1) ds))

pub wrong_covered : (tree : PackageTree ℕ) (root : ℕ) → Covered (p.wrong_names tree root) (possible tree)
unfolding p.wrong_names
wrong_covered tree root =
    covered_append (covered_wrong _ tree.end_name.first.at (possible tree))
    (declarations_covered tree root 0 tree.declarations)
