-- The full names of ports determine their components and numbers.
use Rattle.std.proofs.Common.{◌≡◌, ℕ, suc, ◌+◌, ◌<◌, true, List, [], ◌∷◌, ◌++◌, length, map, Option, Some, None}
use Rattle.std.proofs.Common.{slice_get, refl, sym, ap, ◌∙◌, subst, arith, append_assoc, inl, inr}
use Rattle.std.specs.Prelude.{codes}
use Rattle.std.specs.Option.{option_map}
use Rattle.std.specs.List.{list_all}
use Rattle.std.proofs.lemmas.Bool.{and_parts}
use Rattle.std.proofs.lemmas.List.Folds.{list_all-append}
use Rattle.std.proofs.lemmas.Option.{slice_get-map, slice_get_cases}
use Rattle.list_lemmas.proofs.ElementPositions.{slice_get-append_left, slice_get-map_parts}
use Rattle.list_lemmas.proofs.PairwiseProperties.{same_place}
use Rattle.pals_base.specs.declared.behaviour.PortDecl.{PortDecl}
use Rattle.pals_base.specs.declared.behaviour.VarDecl.{VarDecl}
use Rattle.pals_base.specs.declared.behaviour.BehaviourParts.{BehaviourParts}
use Rattle.pals_base.specs.Names.{is_word, AreDistinct}
use Rattle.pals_base.specs.BehaviourRules.{IsBehaviour, value_names}
use Rattle.pals_model.specs.declared.design.Component.{Component}
use Rattle.pals_model.specs.declared.design.DesignParts.{DesignParts}
use Rattle.pals_model.specs.ComponentAndLinkNames.{port_name, in_port_name, target_name}
use Rattle.pals_model.specs.PortKindsAndRates.{ins_in, outs_in}
use Rattle.pals_model.specs.DesignRules.{IsDesign, IsSource, IsTarget}
use Rattle.pals_model.proofs.FirstMatches.{at_element}
use Rattle.pals_model.proofs.ShapeLaws.{component_at, is_behaviour}
use Rattle.pals_model.proofs.WordBytes.{IsWithout, all_pass, word_without, splits_at_last}
use Rattle.pals_report.specs.CheckReports.{out_port_name, source_name}

-- ---- lists in which no name occurs twice

abbrev pub StandOnce : List (List ℕ) → Type 0
StandOnce names = (i j : ℕ) (name : List ℕ) → slice_get names i ≡ Some name → slice_get names j ≡ Some name → i ≡ j

stand_once : (names : List (List ℕ)) → AreDistinct names → StandOnce names
stand_once names apart i j name at_i at_j = same_place (λ n. n) names i j name name apart at_i at_j refl

get_behind : {X : Type 0} (xs ys : List X) (k : ℕ) (x : X) → slice_get ys k ≡ Some x
    → slice_get (xs ++ ys) (length xs + k) ≡ Some x
get_behind [] ys k x is = let same : 0 + k ≡ k = omega arith in ap (slice_get ys) same ∙ is
get_behind (z ∷ xs) ys k x is =
    let same : suc (length xs) + k ≡ suc (length xs + k) = omega arith in
    ap (slice_get (z ∷ xs ++ ys)) same ∙ get_behind xs ys k x is

front_once : (xs ys : List (List ℕ)) → StandOnce (xs ++ ys) → StandOnce xs
front_once xs ys once i j name at_i at_j =
    once i j name (slice_get-append_left xs ys i name at_i) (slice_get-append_left xs ys j name at_j)

rest_once : (xs ys : List (List ℕ)) → StandOnce (xs ++ ys) → StandOnce ys
rest_once xs ys once i j name at_i at_j =
    let same : length xs + i ≡ length xs + j =
    once (length xs + i) (length xs + j) name (get_behind xs ys i name at_i) (get_behind xs ys j name at_j) in
    omega arith

-- ---- components by their ports of one direction
pub record Ported : Type 0 where
  pub path : List ℕ
  pub names : List (List ℕ)

abbrev pub names_of : List PortDecl → List (List ℕ)
names_of ports = map (λ (p : PortDecl). p.name) ports

abbrev pub ported : (BehaviourParts → List PortDecl) → Component → Ported
ported ports c = record { path = c.path; names = names_of (ports c.behaviour) }

abbrev pub outs_of : BehaviourParts → List PortDecl
outs_of b = b.outs

abbrev pub ins_of : BehaviourParts → List PortDecl
ins_of b = b.ins

abbrev name_in : Option (List ℕ) → List ℕ
name_in None = []
name_in (Some name) = name

abbrev pub full_name : Option Ported → ℕ → List ℕ
full_name None port = []
full_name (Some c) port = c.path ++ codes "." ++ name_in (slice_get c.names port)

named_or_not : (o : Option PortDecl) → port_name o ≡ name_in (option_map (λ (p : PortDecl). p.name) o)
named_or_not None = refl
named_or_not (Some p) = refl

named : (ports : List PortDecl) (port : ℕ)
    → port_name (slice_get ports port) ≡ name_in (slice_get (names_of ports) port)
named ports port =
    named_or_not (slice_get ports port) ∙ ap name_in (sym (slice_get-map (λ (p : PortDecl). p.name) ports port))

source_or_not : (o : Option Component) (port : ℕ)
    → out_port_name o port ≡ full_name (option_map (ported outs_of) o) port
source_or_not None port = refl
source_or_not (Some c) port = ap (λ name. c.path ++ codes "." ++ name) (named c.behaviour.outs port)

pub source_named : (design : DesignParts) (node port : ℕ)
    → source_name design node port ≡ full_name (slice_get (map (ported outs_of) design.components) node) port
source_named design node port =
    source_or_not (slice_get design.components node) port
    ∙ ap (λ o. full_name o port) (sym (slice_get-map (ported outs_of) design.components node))

target_or_not : (o : Option Component) (port : ℕ) → in_port_name o port ≡ full_name (option_map (ported ins_of) o) port
target_or_not None port = refl
target_or_not (Some c) port = ap (λ name. c.path ++ codes "." ++ name) (named c.behaviour.ins port)

pub target_named : (design : DesignParts) (node port : ℕ)
    → target_name design node port ≡ full_name (slice_get (map (ported ins_of) design.components) node) port
target_named design node port =
    target_or_not (slice_get design.components node) port
    ∙ ap (λ o. full_name o port) (sym (slice_get-map (ported ins_of) design.components node))

-- ---- the names differ
pub record AreApart (cs : List Ported) : Type 0 where
  pub paths : (i j : ℕ) (c d : Ported) → slice_get cs i ≡ Some c → slice_get cs j ≡ Some d → c.path ≡ d.path → i ≡ j
  pub names : (i : ℕ) (c : Ported) → slice_get cs i ≡ Some c → StandOnce c.names
  pub words : (i : ℕ) (c : Ported) → slice_get cs i ≡ Some c → list_all is_word c.names ≡ true

abbrev HaveNames : (BehaviourParts → List PortDecl) → Type 0
HaveNames ports =
    (b : BehaviourParts) → IsBehaviour b
    → StandOnce (names_of (ports b)) × (list_all is_word (names_of (ports b)) ≡ true)

outs_have_names : HaveNames outs_of
outs_have_names b rules =
    let ins = names_of b.ins in
    let outs = names_of b.outs in
    let vars = map (λ (v : VarDecl). v.name) b.vars in
    let words =
    (and_parts (list_all is_word (ins ++ outs)) (list_all is_word vars)
    (sym (list_all-append is_word (ins ++ outs) vars) ∙ rules.names.values)).0 in (
      rest_once ins outs (front_once (ins ++ outs) vars (stand_once (value_names b) rules.names.values_differ)),
      (and_parts (list_all is_word ins) (list_all is_word outs) (sym (list_all-append is_word ins outs) ∙ words)).1,
    )

ins_have_names : HaveNames ins_of
ins_have_names b rules =
    let ins = names_of b.ins in
    let outs = names_of b.outs in
    let vars = map (λ (v : VarDecl). v.name) b.vars in
    let words =
    (and_parts (list_all is_word (ins ++ outs)) (list_all is_word vars)
    (sym (list_all-append is_word (ins ++ outs) vars) ∙ rules.names.values)).0 in (
      front_once ins outs (front_once (ins ++ outs) vars (stand_once (value_names b) rules.names.values_differ)),
      (and_parts (list_all is_word ins) (list_all is_word outs) (sym (list_all-append is_word ins outs) ∙ words)).0,
    )

apart : (ports : BehaviourParts → List PortDecl) → HaveNames ports → (design : DesignParts) → IsDesign design
    → AreApart (map (ported ports) design.components)
apart ports have design rules = record {
  paths = λ i j c d is_c is_d same.
      let a = slice_get-map_parts (ported ports) design.components i c is_c in
      let b = slice_get-map_parts (ported ports) design.components j d is_d in
      same_place (λ (x : Component). x.path) design.components i j a.0 b.0 rules.components.paths_differ a.1 b.1
      (ap (λ (x : Ported). x.path) a.2 ∙ same ∙ sym (ap (λ (x : Ported). x.path) b.2));
  names = λ i c is.
      let a = slice_get-map_parts (ported ports) design.components i c is in
      subst (λ (x : Ported). StandOnce x.names) a.2 (have a.0.behaviour (is_behaviour design i a.0 rules a.1)).0;
  words = λ i c is.
      let a = slice_get-map_parts (ported ports) design.components i c is in
      subst (λ (x : Ported). list_all is_word x.names ≡ true) a.2
      (have a.0.behaviour (is_behaviour design i a.0 rules a.1)).1;
}

pub outs_apart : (design : DesignParts) → IsDesign design → AreApart (map (ported outs_of) design.components)
outs_apart design rules = apart outs_of outs_have_names design rules

pub ins_apart : (design : DesignParts) → IsDesign design → AreApart (map (ported ins_of) design.components)
ins_apart design rules = apart ins_of ins_have_names design rules

-- ---- ports that are there
pub record IsThere (cs : List Ported) (node port : ℕ) : Type 0 where
  pub component : Ported
  pub name : List ℕ
  pub at : slice_get cs node ≡ Some component
  pub named : slice_get component.names port ≡ Some name

named_at : (ports : List PortDecl) (port : ℕ) → port < length ports
    → (name : List ℕ) × (slice_get (names_of ports) port ≡ Some name)
named_at ports port within =
    elim (slice_get_cases ports port).1 [
      | inl there ↦ (
        there.0.name,
        slice_get-map (λ (p : PortDecl). p.name) ports port ∙ ap (option_map (λ (p : PortDecl). p.name)) there.2,
      )
      | inr past ↦ absurd (omega (arith, past.0))
    ]

there : (ports : BehaviourParts → List PortDecl) (design : DesignParts) (node port : ℕ) (c : Component)
    → slice_get design.components node ≡ Some c → port < length (ports c.behaviour)
    → IsThere (map (ported ports) design.components) node port
there ports design node port c is within =
    let name = named_at (ports c.behaviour) port within in record {
      component = ported ports c;
      name = name.0;
      at = slice_get-map (ported ports) design.components node ∙ ap (option_map (ported ports)) is;
      named = name.1;
    }

pub source_there : (design : DesignParts) (node port : ℕ) → IsSource design node port
    → IsThere (map (ported outs_of) design.components) node port
source_there design node port source =
    let c = component_at design node source.node_is in
    there outs_of design node port c.0 c.1 (subst (λ o. port < outs_in o) c.1 source.port_is)

pub target_there : (design : DesignParts) (node port : ℕ) → IsTarget design node port
    → IsThere (map (ported ins_of) design.components) node port
target_there design node port target =
    let c = component_at design node target.node_is in
    there ins_of design node port c.0 c.1 (subst (λ o. port < ins_in o) c.1 target.port_is)

-- ---- the law
full_name-is : (cs : List Ported) (node port : ℕ) (t : IsThere cs node port)
    → full_name (slice_get cs node) port ≡ t.component.path ++ 46 ∷ t.name
full_name-is cs node port t =
    ap (λ o. full_name o port) t.at ∙ ap (λ o. t.component.path ++ codes "." ++ name_in o) t.named
    ∙ append_assoc t.component.path (46 ∷ []) t.name

without_dot : (cs : List Ported) (node port : ℕ) → AreApart cs → (t : IsThere cs node port) → IsWithout 46 t.name
without_dot cs node port differ t =
    word_without 46 t.name refl
    (at_element (λ w. is_word w ≡ true) t.component.names port t.name
    (all_pass is_word t.component.names (differ.words node t.component t.at)) t.named)

pub ports_told : (cs : List Ported) (node port other_node other_port : ℕ) → AreApart cs → IsThere cs node port
    → IsThere cs other_node other_port
    → full_name (slice_get cs node) port ≡ full_name (slice_get cs other_node) other_port
    → (node ≡ other_node) × (port ≡ other_port)
ports_told cs node port other_node other_port differ a b same =
    let parts =
    splits_at_last 46 a.component.path a.name b.component.path b.name (without_dot cs node port differ a)
    (without_dot cs other_node other_port differ b)
    (sym (full_name-is cs node port a) ∙ same ∙ full_name-is cs other_node other_port b) in
    let node_same = differ.paths node other_node a.component b.component a.at b.at parts.0 in
    let both : Some a.component ≡ Some b.component = sym a.at ∙ ap (slice_get cs) node_same ∙ b.at in
    let one : a.component ≡ b.component = cc in
    let named_b : slice_get a.component.names other_port ≡ Some a.name =
    ap (λ (c : Ported). slice_get c.names other_port) one ∙ b.named ∙ ap Some (sym parts.1) in
    (node_same, differ.names node a.component a.at port other_port a.name a.named named_b)
