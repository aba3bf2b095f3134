-- The names of components and links are plain words, and are found again.
use Rattle.std.proofs.Common.{◌≡◌, map, ℕ, ◌<◌, true, ◌&&◌, List, [], ◌∷◌, ◌++◌, length, Some, slice_get, All, sym, ap}
use Rattle.std.proofs.Common.{ap₂, ◌∙◌, subst, append_assoc}
use Rattle.std.specs.Prelude.{codes}
use Rattle.std.specs.List.{list_all}
use Rattle.std.proofs.lemmas.Bool.{false≢true, and_parts}
use Rattle.std.proofs.lemmas.List.Folds.{list_all-append, list_all-map}
use Rattle.std.proofs.lemmas.Option.{slice_get-get_or}
use Rattle.list_lemmas.proofs.ElementPositions.{slice_get-some}
use Rattle.pals_base.specs.declared.behaviour.PortDecl.{PortDecl}
use Rattle.pals_base.specs.declared.behaviour.VarDecl.{VarDecl}
use Rattle.pals_base.specs.declared.behaviour.BehaviourParts.{BehaviourParts}
use Rattle.pals_base.specs.Names.{is_word, is_path}
use Rattle.pals_base.specs.BehaviourRules.{IsBehaviour}
use Rattle.pals_model.specs.declared.design.Link.{Link}
use Rattle.pals_model.specs.declared.design.Component.{Component}
use Rattle.pals_model.specs.declared.design.DesignParts.{DesignParts}
use Rattle.pals_model.specs.ComponentAndLinkNames.{link_name, in_port_name, port_name, node_named, link_named}
use Rattle.pals_model.specs.PortKindsAndRates.{ins_in}
use Rattle.pals_model.specs.DesignRules.{IsDesign, IsComponent, IsLink}
use Rattle.pals_model.proofs.FirstMatches.{at_element}
use Rattle.pals_model.proofs.NameLaws.{node_is_found, link_is_found}
use Rattle.pals_model.proofs.ShapeLaws.{component_at, is_behaviour}
use Rattle.pals_model.proofs.WordBytes.{all_pass, is_inner, word_inner, path_inner}
use Rattle.pals_runs.specs.JournalLines.{node_word, link_word, path_in, name_in}
use Rattle.bus_machine.specs.Plans.{link_at, no_link}
use Rattle.run_laws.specs.LineForms.{is_there}
use Rattle.run_laws.proofs.PlainWords.{is_plain, there_cons}

-- ---- words and paths
path_there : (path : List ℕ) → is_path path ≡ true → is_there path ≡ true
path_there [] is = absurd (false≢true is)
path_there (byte ∷ path) is = there_cons byte path

longer_there : (front : List ℕ) (byte : ℕ) (back : List ℕ) → is_there (front ++ byte ∷ back) ≡ true
longer_there [] byte back = there_cons byte back
longer_there (first ∷ front) byte back = there_cons first (front ++ byte ∷ back)

-- ---- components
path_of : (design : DesignParts) (node : ℕ) (c : Component) → IsDesign design
    → slice_get design.components node ≡ Some c → is_path c.path ≡ true
path_of design node c rules is =
    (at_element (IsComponent design.period) design.components node c rules.components.each is).path

pub node_plain : (design : DesignParts) (node : ℕ) → IsDesign design → node < length design.components
    → is_plain (node_word design node) ≡ true
node_plain design node rules within =
    let c = component_at design node within in
    let path = path_of design node c.0 rules c.1 in
    ap (λ o. is_plain (path_in o)) c.1 ∙ ap₂ (λ a b. a && b) (path_inner c.0.path path) (path_there c.0.path path)

pub node_found : (design : DesignParts) (node : ℕ) → IsDesign design → node < length design.components
    → node_named design (node_word design node) ≡ Some node
node_found design node rules within =
    let c = component_at design node within in
    ap (λ o. node_named design (path_in o)) c.1 ∙ node_is_found design node c.0 rules c.1

-- ---- links: a path, a `.`, and a word
ins_are_words : (b : BehaviourParts) → IsBehaviour b → All (λ (p : PortDecl). is_word p.name ≡ true) b.ins
ins_are_words b rules =
    let ins = map (λ (p : PortDecl). p.name) b.ins in
    let outs = map (λ (p : PortDecl). p.name) b.outs in
    let vars = map (λ (v : VarDecl). v.name) b.vars in
    let ports =
    (and_parts (list_all is_word (ins ++ outs)) (list_all is_word vars)
    (sym (list_all-append is_word (ins ++ outs) vars) ∙ rules.names.values)).0 in
    let words =
    (and_parts (list_all is_word ins) (list_all is_word outs) (sym (list_all-append is_word ins outs) ∙ ports)).0 in
    all_pass (λ (p : PortDecl). is_word p.name) b.ins
    (sym (list_all-map is_word (λ (p : PortDecl). p.name) b.ins) ∙ words)

abbrev MadeOf : DesignParts → Link → Type 0
MadeOf design link =
    (path word : List ℕ) × (link_name design link ≡ path ++ 46 ∷ word) × (is_path path ≡ true) × (is_word word ≡ true)

made_of : (design : DesignParts) (link : Link) → IsDesign design → IsLink design link → MadeOf design link
made_of design link rules rule =
    let node = link.target.0 in
    let c = component_at design node rule.target.node_is in
    let within : link.in_port < length c.0.behaviour.ins =
    subst (λ o. link.in_port < ins_in o) c.1 rule.target.port_is in
    let p = slice_get-some c.0.behaviour.ins link.in_port within in (
      c.0.path,
      p.0.name,
      ap (λ o. in_port_name o link.in_port) c.1 ∙ ap (λ o. c.0.path ++ codes "." ++ port_name o) p.1
          ∙ append_assoc c.0.path (46 ∷ []) p.0.name,
      path_of design node c.0 rules c.1,
      at_element (λ (q : PortDecl). is_word q.name ≡ true) c.0.behaviour.ins link.in_port p.0
          (ins_are_words c.0.behaviour (is_behaviour design node c.0 rules c.1)) p.1,
    )

link_there : (design : DesignParts) (link : ℕ) → link < length design.links
    → slice_get design.links link ≡ Some (link_at design link)
link_there design link within = slice_get-get_or design.links link no_link within

pub link_plain : (design : DesignParts) (link : ℕ) → IsDesign design → link < length design.links
    → is_plain (link_word design link) ≡ true
link_plain design link rules within =
    let is = link_there design link within in
    let made =
    made_of design (link_at design link) rules
    (at_element (IsLink design) design.links link (link_at design link) rules.links.each is) in
    ap (λ o. is_plain (name_in design o)) is
    ∙ ap is_plain made.2
    ∙ ap₂ (λ a b. a && b)
    (list_all-append is_inner made.0 (46 ∷ made.1)
    ∙ ap₂ (λ a b. a && b) (path_inner made.0 made.3) (word_inner made.1 made.4))
    (longer_there made.0 46 made.1)

pub link_found : (design : DesignParts) (link : ℕ) → IsDesign design → link < length design.links
    → link_named design (link_word design link) ≡ Some link
link_found design link rules within =
    let is = link_there design link within in
    ap (λ o. link_named design (name_in design o)) is ∙ link_is_found design link (link_at design link) rules is
