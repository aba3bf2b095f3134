-- The names that a package declares, in the order of its text.
use Rattle.std.proofs.Common.{◌≡◌, ℕ, zero, suc, List, [], ◌∷◌, ◌++◌, Option, Some, None, refl, ap, subst}
use Rattle.std.specs.Prelude.{flat_map, slice_get}
use Rattle.std.proofs.lemmas.Option.{same_Some}
use Rattle.aadl_tree.specs.declared.mark.Mark.TheVariants as k
use Rattle.aadl_tree.specs.Terminals.{mark}
use Rattle.aadl_tree.specs.SpellingParts.{SpellingPart, token, plain, parts_if, feature_section, subcomponent_section}
use Rattle.aadl_tree.specs.SpellingParts.{connection_section, property_section}
use Rattle.aadl_tree.specs.Names.{Identifier, identifier_parts, identifiers_parts, name_parts, identifiers, listed_in}
use Rattle.aadl_tree.specs.Values.{associations_parts}
use Rattle.aadl_tree.specs.Annexes.{VariableDeclaration, StateDeclaration, AnnexTree, AnnexContent, foreign, behaviour}
use Rattle.aadl_tree.specs.Annexes.{Annex, variable_parts, state_parts, declared_parts, annex_tree_parts, content_parts}
use Rattle.aadl_tree.specs.Annexes.{annex_parts}
use Rattle.aadl_tree.specs.Declarations.{Feature, Subcomponent, Connection, TypeDeclaration, Implementation}
use Rattle.aadl_tree.specs.Declarations.{Declaration, PackageTree, category_mark, section_parts, feature_parts}
use Rattle.aadl_tree.specs.Declarations.{subcomponent_parts, connection_parts, ending_parts, type_parts}
use Rattle.aadl_tree.specs.Declarations.{implementation_name_parts, implementation_parts, declaration_parts, with_parts}
use Rattle.aadl_tree.specs.Declarations.{package_parts}
use Rattle.aadl_names.specs.BehaviourAnnexes.{behaviours, variables_of, states_of}
use Rattle.design_laws.proofs.PlacedNames.{Rise, rise_front, rise_back, rise_tail, rise_section, Placed, placed_front}
use Rattle.design_laws.proofs.PlacedNames.{placed_back, placed_tail, placed_section, placed_append, placed_flat}
use Rattle.design_laws.proofs.PlacedNames.{placed_identifier, placed_identifiers, listed, placed_declared}

-- ---- the ports of a type
feature_names : (f : Feature ℕ) → Placed (feature_parts f) (f.name ∷ [])
feature_names f = placed_front (identifier_parts f.name) _ (f.name ∷ []) (placed_identifier f.name)

module _ (x : TypeDeclaration ℕ) where
  ports : List (SpellingPart ℕ)
  ports = flat_map feature_parts x.features

  pub type_names : Rise (type_parts x) → Placed (type_parts x) (flat_map (λ (f : Feature ℕ). f.name ∷ []) x.features)
  unfolding ports
  type_names r =
      let names = flat_map (λ (f : Feature ℕ). f.name ∷ []) x.features in
      let behind_name =
      rise_back (identifier_parts x.name) _ (rise_tail (token (mark (category_mark x.category)) (x.at ∷ [])) _ r) in
      let inside =
      rise_section feature_section ports (rise_front (section_parts feature_section ports) _ behind_name) in
      let here =
      placed_flat feature_parts (λ (f : Feature ℕ). f.name ∷ []) (λ f _. feature_names f) x.features inside in
      placed_tail _ _ names (placed_back (identifier_parts x.name) _ names
      (placed_front (section_parts feature_section ports) _ names (placed_section feature_section ports names here)))

-- ---- the subcomponents and connections of an implementation
sub_names : (s : Subcomponent ℕ) → Placed (subcomponent_parts s) (s.name ∷ [])
sub_names s = placed_front (identifier_parts s.name) _ (s.name ∷ []) (placed_identifier s.name)

connection_names : (c : Connection ℕ) → Placed (connection_parts c) (c.name ∷ [])
connection_names c = placed_front (identifier_parts c.name) _ (c.name ∷ []) (placed_identifier c.name)

-- ---- the variables and states of an annex
variable_names : (v : VariableDeclaration ℕ) → Rise (variable_parts v) → Placed (variable_parts v) (identifiers v.names)
variable_names v r = placed_front (identifiers_parts v.names) _ (identifiers v.names)
    (placed_identifiers v.names (rise_front (identifiers_parts v.names) _ r))

state_names : (s : StateDeclaration ℕ) → Rise (state_parts s) → Placed (state_parts s) (identifiers s.names)
state_names s r = placed_front (identifiers_parts s.names) _ (identifiers s.names)
    (placed_identifiers s.names (rise_front (identifiers_parts s.names) _ r))

same_list : {V : Type 0} (o : Option (List V)) → listed o ≡ listed_in o
same_list None = refl
same_list (Some vs) = refl

module _ (x : AnnexTree ℕ) where
  variables : List (SpellingPart ℕ)
  variables = parts_if (declared_parts k.Variables variable_parts) x.variables

  states : List (SpellingPart ℕ)
  states = parts_if (declared_parts k.States state_parts) x.states

  tree_variables : Rise (annex_tree_parts x) → Placed (annex_tree_parts x) (variables_of x)
  unfolding variables states
  tree_variables r =
      let here =
      placed_declared k.Variables variable_parts (λ v. identifiers v.names) variable_names x.variables
      (rise_front variables _ r) in
      placed_front variables _ (variables_of x)
      (subst (λ l. Placed variables (flat_map (λ (v : VariableDeclaration ℕ). identifiers v.names) l))
      (same_list x.variables) here)

  tree_states : Rise (annex_tree_parts x) → Placed (annex_tree_parts x) (states_of x)
  unfolding variables states
  tree_states r =
      let rest = rise_back variables _ r in
      let here =
      placed_declared k.States state_parts (λ s. identifiers s.names) state_names x.states
      (rise_front states _ rest) in
      placed_back variables _ (states_of x) (placed_front states _ (states_of x)
      (subst (λ l. Placed states (flat_map (λ (s : StateDeclaration ℕ). identifiers s.names) l))
      (same_list x.states) here))

-- names that are at places of each behaviour annex are at places of the first one
module _ (names : AnnexTree ℕ → List (Identifier ℕ)) (each : (x : AnnexTree ℕ) → Rise (annex_tree_parts x)
    → Placed (annex_tree_parts x) (names x)) where
  in_content : (at : ℕ) (language : Identifier ℕ) (x : AnnexTree ℕ) (content : AnnexContent ℕ) → content ≡ behaviour x
      → Rise (annex_parts (record { at = at; language = language; content = content }))
      → Placed (annex_parts (record { at = at; language = language; content = content })) (names x)
  in_content at language x (foreign bytes) e r = absurd (cc e)
  in_content at language x (behaviour y) e r =
      let same : y ≡ x = cc e in
      let content = rise_front (content_parts (behaviour y)) _ (rise_back (identifier_parts language) _
      (rise_tail (token (mark k.Annex) (at ∷ [])) _ r)) in
      let tree = rise_front (annex_tree_parts y) (plain k.AnnexClose ∷ []) (rise_tail (plain k.AnnexOpen) _ content) in
      subst (λ z. Placed (annex_parts (record { at = at; language = language; content = behaviour y })) (names z)) same
      (placed_tail (token (mark k.Annex) (at ∷ [])) _ (names y) (placed_back (identifier_parts language) _ (names y)
      (placed_front (content_parts (behaviour y)) _ (names y) (placed_tail (plain k.AnnexOpen) _ (names y)
      (placed_front (annex_tree_parts y) _ (names y) (each y tree))))))

  first_of : (at : ℕ) (language : Identifier ℕ) (content : AnnexContent ℕ) (xs : List (Annex ℕ)) (b : ℕ × AnnexTree ℕ)
      → (slice_get (behaviours xs) 0 ≡ Some b → Rise (flat_map annex_parts xs)
      → Placed (flat_map annex_parts xs) (names b.1))
      → slice_get (behaviours (record { at = at; language = language; content = content } ∷ xs)) 0 ≡ Some b
      → Rise (flat_map annex_parts (record { at = at; language = language; content = content } ∷ xs))
      → Placed (flat_map annex_parts (record { at = at; language = language; content = content } ∷ xs)) (names b.1)
  first_of at language (foreign bytes) xs b later is r =
      let a : List (SpellingPart ℕ) = annex_parts (record { at = at; language = language; content = foreign bytes }) in
      placed_back a (flat_map annex_parts xs) (names b.1) (later is (rise_back a (flat_map annex_parts xs) r))
  first_of at language (behaviour x) xs b later is r =
      let a : List (SpellingPart ℕ) = annex_parts (record { at = at; language = language; content = behaviour x }) in
      let same : x ≡ b.1 = ap (λ (o : ℕ × AnnexTree ℕ). o.1) (same_Some (at, x) b is) in
      placed_front a (flat_map annex_parts xs) (names b.1) (in_content at language b.1 (behaviour x) (ap behaviour same)
      (rise_front a (flat_map annex_parts xs) r))

  pub in_first : (xs : List (Annex ℕ)) (b : ℕ × AnnexTree ℕ) → slice_get (behaviours xs) 0 ≡ Some b
      → Rise (flat_map annex_parts xs)
      → Placed (flat_map annex_parts xs) (names b.1)
  in_first [] b is r = absurd (cc is)
  in_first (x ∷ xs) b is r = first_of x.at x.language x.content xs b (in_first xs b) is r

-- ---- an implementation
module _ (x : Implementation ℕ) where
  subs : List (SpellingPart ℕ)
  subs = section_parts subcomponent_section (flat_map subcomponent_parts x.subcomponents)

  connections : List (SpellingPart ℕ)
  connections = section_parts connection_section (flat_map connection_parts x.connections)

  properties : List (SpellingPart ℕ)
  properties = section_parts property_section (associations_parts x.properties)

  annexes : List (SpellingPart ℕ)
  annexes = flat_map annex_parts x.annexes

  behind_name : Rise (implementation_parts x) → Rise (subs ++ (connections ++
      (properties ++ (annexes ++ ending_parts (implementation_name_parts x.end_name)))))
  unfolding subs connections properties annexes
  behind_name r = rise_back (implementation_name_parts x.name) _ (rise_tail (plain k.Implementation) _
      (rise_tail (token (mark (category_mark x.category)) (x.at ∷ [])) _ r))

  whole : (names : List (Identifier ℕ)) → Placed (subs ++ (connections ++
      (properties ++ (annexes ++ ending_parts (implementation_name_parts x.end_name))))) names
      → Placed (implementation_parts x) names
  unfolding subs connections properties annexes
  whole names h = placed_tail (token (mark (category_mark x.category)) (x.at ∷ [])) _ names
      (placed_tail (plain k.Implementation) _ names (placed_back (implementation_name_parts x.name) _ names h))

  sub_list : Rise subs → Placed subs (flat_map (λ (s : Subcomponent ℕ). s.name ∷ []) x.subcomponents)
  unfolding subs
  sub_list r =
      placed_section subcomponent_section _ _ (placed_flat subcomponent_parts (λ (s : Subcomponent ℕ). s.name ∷ [])
      (λ s _. sub_names s) x.subcomponents (rise_section subcomponent_section _ r))

  connection_list : Rise connections → Placed connections (flat_map (λ (c : Connection ℕ). c.name ∷ []) x.connections)
  unfolding connections
  connection_list r =
      placed_section connection_section _ _ (placed_flat connection_parts (λ (c : Connection ℕ). c.name ∷ [])
      (λ c _. connection_names c) x.connections (rise_section connection_section _ r))

  pub member_names : Rise (implementation_parts x)
      → Placed (implementation_parts x) (flat_map (λ (s : Subcomponent ℕ). s.name ∷ []) x.subcomponents ++ flat_map
      (λ (c : Connection ℕ). c.name ∷ []) x.connections)
  member_names r =
      let all = behind_name r in
      let back = rise_back subs _ all in
      whole _ (placed_append subs _ _ _ all (sub_list (rise_front subs _ all))
      (placed_front connections _ _ (connection_list (rise_front connections _ back))))

  pub annex_names : (names : AnnexTree ℕ → List (Identifier ℕ)) → ((t : AnnexTree ℕ) → Rise (annex_tree_parts t)
      → Placed (annex_tree_parts t) (names t))
      → (b : ℕ × AnnexTree ℕ) → slice_get (behaviours x.annexes) 0 ≡ Some b → Rise (implementation_parts x)
      → Placed (implementation_parts x) (names b.1)
  unfolding annexes
  annex_names names each b is r =
      let inside =
      rise_front annexes _ (rise_back properties _ (rise_back connections _ (rise_back subs _ (behind_name r)))) in
      let here = in_first names each x.annexes b is inside in
      whole (names b.1) (placed_back subs _ (names b.1) (placed_back connections _ (names b.1)
      (placed_back properties _ (names b.1) (placed_front annexes _ (names b.1) here))))

pub first_variables : (x : Implementation ℕ) (b : ℕ × AnnexTree ℕ) → slice_get (behaviours x.annexes) 0 ≡ Some b
    → Rise (implementation_parts x)
    → Placed (implementation_parts x) (variables_of b.1)
first_variables x b is r = annex_names x variables_of tree_variables b is r

pub first_states : (x : Implementation ℕ) (b : ℕ × AnnexTree ℕ) → slice_get (behaviours x.annexes) 0 ≡ Some b
    → Rise (implementation_parts x)
    → Placed (implementation_parts x) (states_of b.1)
first_states x b is r = annex_names x states_of tree_states b is r

-- ---- declarations of a package
pub rise_declarations : (tree : PackageTree ℕ) → Rise (package_parts tree)
    → Rise (flat_map declaration_parts tree.declarations)
rise_declarations tree r =
    rise_front (flat_map declaration_parts tree.declarations) _
    (rise_back (flat_map with_parts tree.withs) _ (rise_tail (plain k.Public) _
    (rise_back (name_parts tree.name) _ (rise_tail (plain k.Package) _ r))))

pub rise_one : (ds : List (Declaration ℕ)) (n : ℕ) (d : Declaration ℕ) → slice_get ds n ≡ Some d
    → Rise (flat_map declaration_parts ds)
    → Rise (declaration_parts d)
rise_one [] n d is r = absurd (cc is)
rise_one (c ∷ ds) zero d is r = let e : c ≡ d = cc is in subst (λ x. Rise (declaration_parts x)) e
    (rise_front (declaration_parts c) (flat_map declaration_parts ds) r)
rise_one (c ∷ ds) (suc n) d is r =
    rise_one ds n d is (rise_back (declaration_parts c) (flat_map declaration_parts ds) r)
