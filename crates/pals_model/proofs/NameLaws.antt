-- Why the laws of names hold.
use Rattle.std.proofs.Common.{◌≡◌, ◌≢◌, append_assoc, ℕ, ◌<◌, true, [], ◌∷◌, ◌++◌, length, map, Some, slice_get}
use Rattle.std.proofs.Common.{IsSomeAnd, refl, sym, ap, ap₂, ◌∙◌, subst, ne_of_lt}
use Rattle.std.specs.Prelude.{bytes_eq, codes}
use Rattle.std.specs.Option.{option_map}
use Rattle.std.proofs.lemmas.Slice.Eq.{bytes_eq-Decides}
use Rattle.std.proofs.lemmas.Option.{slice_get-map}
use Rattle.list_lemmas.proofs.ElementPositions.{slice_get-append_left, slice_get-some}
use Rattle.list_lemmas.proofs.PairwiseProperties.{same_place, AllPairs-slice_get}
use Rattle.pals_base.specs.declared.behaviour.PortDecl.{PortDecl}
use Rattle.pals_base.specs.declared.behaviour.VarDecl.{VarDecl}
use Rattle.pals_base.specs.declared.behaviour.BehaviourParts.{BehaviourParts}
use Rattle.pals_base.specs.Names.{is_word}
use Rattle.pals_base.specs.BehaviourRules.{IsBehaviour, value_names}
use Rattle.pals_model.specs.declared.design.Component.{Component}
use Rattle.pals_model.specs.declared.design.Link.{Link}
use Rattle.pals_model.specs.declared.design.DesignParts.{DesignParts}
use Rattle.pals_model.specs.ComponentAndLinkNames.{port_name, in_port_name, target_name, link_name}
use Rattle.pals_model.specs.PortKindsAndRates.{ins_in}
use Rattle.pals_model.specs.DesignRules.{IsDesign, IsTarget, IsLink, LinkPrecedes, port_place}
use Rattle.pals_model.specs.proof.CompositionLaws.Names.{NodeIsFound, FoundNodeHasPath, TargetNamesDiffer, LinkIsFound}
use Rattle.pals_model.specs.proof.CompositionLaws.Names.{FoundLinkHasName}
use Rattle.pals_model.proofs.FirstMatches.{at_element, first_at, found_at}
use Rattle.pals_model.proofs.ShapeLaws.{component_at, is_behaviour}
use Rattle.pals_model.proofs.WordBytes.{IsWithout, all_pass, word_without, same_bytes, other_bytes, splits_at_last}

-- ---- components
pub node_is_found : NodeIsFound
node_is_found design node c rules is_c =
    first_at (λ (d : Component). bytes_eq c.path d.path) design.components node c is_c (same_bytes c.path)
    (λ k d below is_d. other_bytes c.path d.path
    (λ same. AllPairs-slice_get (λ (a b : Component). a.path ≢ b.path) design.components k node d c
    rules.components.paths_differ below is_d is_c (sym same)))

some_and : {X : Type 0} (o : _) (P : X → Type 0) (x : X) → o ≡ Some x → P x → IsSomeAnd o P
some_and o P x is holds = subst (λ e. IsSomeAnd e P) (sym is) holds

pub found_node_has_path : FoundNodeHasPath
found_node_has_path design node path found =
    let at = found_at (λ (d : Component). bytes_eq path d.path) design.components node found in
    some_and (slice_get design.components node) (λ (d : Component). d.path ≡ path) at.0 at.1
    (sym ((bytes_eq-Decides path at.0.path).0 at.2))

-- ---- in ports
-- the name of an in port, among the names of a behaviour's values
name_at : (b : BehaviourParts) (port : ℕ) (p : PortDecl) → slice_get b.ins port ≡ Some p
    → slice_get (value_names b) port ≡ Some p.name
name_at b port p is =
    slice_get-append_left (map (λ (q : PortDecl). q.name) b.ins ++ map (λ (q : PortDecl). q.name) b.outs)
    (map (λ (v : VarDecl). v.name) b.vars) port p.name
    (slice_get-append_left (map (λ (q : PortDecl). q.name) b.ins) (map (λ (q : PortDecl). q.name) b.outs) port p.name
    (slice_get-map (λ (q : PortDecl). q.name) b.ins port ∙ ap (option_map (λ (q : PortDecl). q.name)) is))

port_without_dot : (b : BehaviourParts) (port : ℕ) (p : PortDecl) → IsBehaviour b → slice_get b.ins port ≡ Some p
    → IsWithout 46 p.name
port_without_dot b port p rules is =
    word_without 46 p.name refl
    (at_element (λ name. is_word name ≡ true) (value_names b) port p.name
    (all_pass is_word (value_names b) rules.names.values) (name_at b port p is))

-- what an in port's name is made of
abbrev NamedBy : DesignParts → ℕ → ℕ → Type 0
NamedBy design node port =
    (c : Component) × (p : PortDecl) × (slice_get design.components node ≡ Some c)
    × (slice_get c.behaviour.ins port ≡ Some p) × (target_name design node port ≡ c.path ++ 46 ∷ p.name)
    × IsWithout 46 p.name

in_port_name-is : (c : Component) (port : ℕ) (p : PortDecl) → slice_get c.behaviour.ins port ≡ Some p
    → in_port_name (Some c) port ≡ c.path ++ 46 ∷ p.name
in_port_name-is c port p is = ap (λ o. c.path ++ codes "." ++ port_name o) is ∙ append_assoc c.path (46 ∷ []) p.name

named_by : (design : DesignParts) (node port : ℕ) → IsDesign design → IsTarget design node port
    → NamedBy design node port
named_by design node port rules target =
    let c = component_at design node target.node_is in
    let within : port < length c.0.behaviour.ins = subst (λ o. port < ins_in o) c.1 target.port_is in
    let p = slice_get-some c.0.behaviour.ins port within in (
      c.0,
      p.0,
      c.1,
      p.1,
      (ap (λ o. in_port_name o port) c.1 ∙ in_port_name-is c.0 port p.0 p.1),
      port_without_dot c.0.behaviour port p.0 (is_behaviour design node c.0 rules c.1) p.1,
    )

pub target_names_differ : TargetNamesDiffer
target_names_differ design node port other_node other_port rules target other_target same =
    let a = named_by design node port rules target in
    let b = named_by design other_node other_port rules other_target in
    let parts = splits_at_last 46 a.0.path a.1.name b.0.path b.1.name a.5 b.5 (sym a.4 ∙ same ∙ b.4) in
    let node_same =
    same_place (λ (c : Component). c.path) design.components node other_node a.0 b.0 rules.components.paths_differ
    a.2 b.2 parts.0 in
    let both : Some a.0 ≡ Some b.0 = sym a.2 ∙ ap (slice_get design.components) node_same ∙ b.2 in
    let one : a.0 ≡ b.0 = cc in
    let behaviour = is_behaviour design node a.0 rules a.2 in
    let in_b : slice_get a.0.behaviour.ins other_port ≡ Some b.1 =
    ap (λ (c : Component). slice_get c.behaviour.ins other_port) one ∙ b.3 in (
      node_same,
      same_place (λ name. name) (value_names a.0.behaviour) port other_port a.1.name b.1.name
          behaviour.names.values_differ (name_at a.0.behaviour port a.1 a.3)
          (name_at a.0.behaviour other_port b.1 in_b) parts.1,
    )

-- ---- links
pub link_is_found : LinkIsFound
link_is_found design number link rules is_link =
    first_at (λ (other : Link). bytes_eq (link_name design link) (link_name design other)) design.links number link
    is_link (same_bytes (link_name design link))
    (λ k other below is_other.
    other_bytes (link_name design link) (link_name design other)
    (λ same.
    let here = at_element (IsLink design) design.links number link rules.links.each is_link in
    let there = at_element (IsLink design) design.links k other rules.links.each is_other in
    let ports =
    target_names_differ design link.target.0 link.in_port other.target.0 other.in_port rules here.target
    there.target same in
    ne_of_lt (AllPairs-slice_get LinkPrecedes design.links k number other link rules.links.order below is_other is_link)
    (sym (ap₂ port_place ports.0 ports.1))))

pub found_link_has_name : FoundLinkHasName
found_link_has_name design number name found =
    let at = found_at (λ (link : Link). bytes_eq name (link_name design link)) design.links number found in
    some_and (slice_get design.links number) (λ (link : Link). link_name design link ≡ name) at.0 at.1
    (sym ((bytes_eq-Decides name (link_name design at.0)).0 at.2))
