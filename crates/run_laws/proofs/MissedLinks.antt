-- The link whose message a start misses.
use Rattle.std.proofs.Common.{◌≡◌, ◌≢◌, ℕ, ◌+◌, ◌<◌, ◌≤◌, nat_eq, Bool, true, false, List, length, map, slice_get}
use Rattle.std.proofs.Common.{Option, Some, None, refl, sym, ap, ◌∙◌, subst, arith}
use Rattle.std.specs.Prelude.{position, zip, is_none, is_some, if◌then◌else◌}
use Rattle.std.specs.Option.{option_map, unwrap_or}
use Rattle.std.proofs.lemmas.Bool.{and_parts, eqb-true, eqb-false, false≢true}
use Rattle.std.proofs.lemmas.Option.{slice_get-map, get_or_from_slice_get, slice_get-get_or}
use Rattle.list_lemmas.proofs.ElementPositions.{slice_get-zip}
use Rattle.list_lemmas.proofs.Options.{option_map-parts, option_map-none, none_by_test}
use Rattle.run_laws.proofs.Lists.{zipped_at}
use Rattle.pals_base.specs.declared.basic_types.PortValue.{PortValue}
use Rattle.pals_base.specs.UpwardNumbers.{upwards}
use Rattle.pals_base.proofs.UpwardNumbers.{upwards_is, slice_get-upwards}
use Rattle.pals_model.specs.declared.design.Link.{Link}
use Rattle.pals_model.specs.declared.design.Feed.{Feed}
use Rattle.pals_model.specs.declared.design.DesignParts.{DesignParts}
use Rattle.pals_model.specs.declared.port_sources.PortSource.{PortSource}
use Rattle.pals_model.specs.declared.port_sources.PortSource.TheVariants as source
use Rattle.pals_model.specs.ComponentInputs.{source_of, sources_of, link_goes_to, feed_goes_to}
use Rattle.pals_model.specs.PortKindsAndRates.{ins_in}
use Rattle.pals_model.specs.DesignRules.{IsLink}
use Rattle.pals_model.proofs.FirstMatches.{found_at, at_element}
use Rattle.pals_model.proofs.SourceLaws.{link_is_source, from_link_is}
use Rattle.bus_machine.specs.declared.plan.Input.{Input}
use Rattle.bus_machine.specs.Plans.{plan_of, component_at, no_component, input_of, input_from_feed, input_from_link}
use Rattle.bus_machine.specs.NodeEvents.{lacks, missing, slot_at}
use Rattle.bus_machine.specs.BusStates.{BusState, node_at}
use Rattle.bus_machine.specs.RunParameters.{Run}
use Rattle.bus_machine.specs.MissedMessages.{link_into, missing_link}
use Rattle.bus_machine.specs.Agreement.{Agrees}
use Rattle.bus_machine.specs.proof.AgreementLaws.{IsRunOf}
use Rattle.bus_machine.proofs.ListsAndOldestCopies.{none_found}

-- ---- an in port that lacks a message
feed_lacks : (root : ℕ) (feed : Option Feed) (slot : Option (List PortValue))
    → lacks (input_from_feed root feed) slot ≡ true → ⊥
feed_lacks root None slot is = false≢true is
feed_lacks root (Some feed) slot is = false≢true is

link_lacks : (design : DesignParts) (l : Option Link) (slot : Option (List PortValue))
    → lacks (input_from_link design l) slot ≡ true → (link : Link) × (l ≡ Some link) × (slot ≡ None)
link_lacks design None slot is = absurd (false≢true is)
link_lacks design (Some link) slot is = (link, refl, none_by_test slot is)

abbrev Lacking : DesignParts → PortSource → Option (List PortValue) → Type 0
Lacking design src slot =
    (number : ℕ) × (link : Link) × (src ≡ source.Link number) × (slice_get design.links number ≡ Some link)
    × (slot ≡ None)

port_lacks : (design : DesignParts) (src : PortSource) (slot : Option (List PortValue))
    → lacks (input_of design src) slot ≡ true → Lacking design src slot
port_lacks design source.Nothing slot is = absurd (false≢true is)
port_lacks design (source.Feed feed root) slot is = absurd (feed_lacks root (slice_get design.feeds feed) slot is)
port_lacks design (source.Link number) slot is = let l = link_lacks design (slice_get design.links number) slot is in
    (number, l.0, refl, l.1, l.2)

-- ---- the link that is missing
pub record IsMissed (run : Run) (s : BusState) (node link : ℕ) : Type 0 where
  pub the_link : Link
  pub is_link : slice_get run.design.links link ≡ Some the_link
  pub to_node : the_link.target.0 ≡ node
  pub empty : slot_at (node_at s node) the_link.in_port ≡ None
  pub begun : 1 ≤ (node_at s node).count

port_by : (count : ℕ) (o : Option ℕ) (port : ℕ) (b : Bool) → nat_eq count 0 ≡ b → (if b then None else o) ≡ Some port
    → (1 ≤ count) × (o ≡ Some port)
port_by count o port true is found = absurd (cc)
port_by count o port false is found = ((let other : count ≢ 0 = eqb-false count 0 is in omega arith), found)

pub missed_link : (run : Run) (s : BusState) (node link : ℕ) → missing_link run s node ≡ Some link
    → IsMissed run s node link
missed_link run s node link is =
    let n = node_at s node in
    let c = component_at run.design node in
    let port = option_map-parts (link_into run.design node) (missing (plan_of run.design node) n) link is in
    let sources = sources_of run.design node c in
    let inputs = map (input_of run.design) sources in
    let found' =
    port_by n.count (position (λ (p : Input × Option (List PortValue)). lacks p.0 p.1) (zip inputs n.slots)) port.0
    (nat_eq n.count 0) refl port.1 in
    let at = found_at (λ (p : Input × Option (List PortValue)). lacks p.0 p.1) (zip inputs n.slots) port.0 found'.1 in
    let parts = zipped_at inputs n.slots port.0 at.0 at.1 in
    let src =
    option_map-parts (input_of run.design) (slice_get sources port.0) at.0.0
    (sym (slice_get-map (input_of run.design) sources port.0) ∙ parts.0) in
    let lacking = port_lacks run.design src.0 at.0.1 (ap (λ i. lacks i at.0.1) src.2 ∙ at.2) in
    let ports = upwards 0 (length c.behaviour.ins) in
    let own =
    option_map-parts (λ p. source_of run.design node p) (slice_get ports port.0) src.0
    (sym (slice_get-map (λ p. source_of run.design node p) ports port.0) ∙ src.1) in
    let this : own.0 ≡ port.0 = let place : own.0 ≡ 0 + port.0 =
    (upwards_is 0 (length c.behaviour.ins) port.0 own.0 own.1).0 in omega arith in
    let reads : source_of run.design node port.0 ≡ source.Link lacking.0 = ap (source_of run.design node) (sym this)
    ∙ own.2 ∙ lacking.2 in
    let number : position (link_goes_to node port.0) run.design.links ≡ Some lacking.0 =
    from_link_is run.design (position (link_goes_to node port.0) run.design.links)
    (position (feed_goes_to node port.0) run.design.feeds) lacking.0 reads in
    let same : lacking.0 ≡ link = sym (ap (λ o. unwrap_or o 0) number) ∙ port.2 in
    let goes = found_at (link_goes_to node port.0) run.design.links lacking.0 number in
    let both = and_parts (nat_eq goes.0.target.0 node) (nat_eq goes.0.in_port port.0) goes.2 in
    record {
      the_link = goes.0;
      is_link = ap (slice_get run.design.links) (sym same) ∙ goes.1;
      to_node = eqb-true goes.0.target.0 node both.0;
      empty =
          ap (slot_at n) (eqb-true goes.0.in_port port.0 both.1)
          ∙ get_or_from_slice_get n.slots port.0 at.0.1 None parts.1 ∙ lacking.4;
      begun = found'.0;
    }

-- ---- if no input is missing, each slot is full
none_by : (count : ℕ) (o : Option ℕ) (b : Bool) → nat_eq count 0 ≡ b → 1 ≤ count
    → (if b then None else o) ≡ None → o ≡ None
none_by count o true is some none = absurd (let zero' = eqb-true count 0 is in omega arith)
none_by count o false is some none = none

full_by : (slot : Option (List PortValue)) → is_none slot ≡ false → is_some slot ≡ true
full_by None is = absurd (false≢true (sym is))
full_by (Some tuple) is = refl

pub full_slot : (run : Run) (s : BusState) (number : ℕ) (link : Link) → IsRunOf run → Agrees run s
    → slice_get run.design.links number ≡ Some link → missing_link run s link.target.0 ≡ None
    → 1 ≤ (node_at s link.target.0).count
    → is_some (slot_at (node_at s link.target.0) link.in_port) ≡ true
full_slot run s number link rules agree is none some =
    let node = link.target.0 in
    let n = node_at s node in
    let rule = at_element (IsLink run.design) run.design.links number link rules.design.links.each is in
    let c = component_at run.design node in
    let is_c : slice_get run.design.components node ≡ Some c =
    slice_get-get_or run.design.components node no_component rule.target.node_is in
    let port : link.in_port < length c.behaviour.ins = subst (λ o. link.in_port < ins_in o) is_c rule.target.port_is in
    let size = (agree.nodes node c is_c).slots in
    let ports = upwards 0 (length c.behaviour.ins) in
    let sources = sources_of run.design node c in
    let inputs = map (input_of run.design) sources in
    let is_src : slice_get sources link.in_port ≡ Some (source.Link number) =
    slice_get-map (λ p. source_of run.design node p) ports link.in_port
    ∙ ap (option_map (λ p. source_of run.design node p)) (slice_get-upwards (length c.behaviour.ins) link.in_port port)
    ∙ ap Some (link_is_source run.design number link rules.design is) in
    let is_input : slice_get inputs link.in_port ≡ Some (input_from_link run.design (Some link)) =
    slice_get-map (input_of run.design) sources link.in_port ∙ ap (option_map (input_of run.design)) is_src
    ∙ ap (λ l. Some (input_from_link run.design l)) is in
    let is_slot : slice_get n.slots link.in_port ≡ Some (slot_at n link.in_port) =
    slice_get-get_or n.slots link.in_port None (omega arith) in
    let all : position (λ (p : Input × Option (List PortValue)). lacks p.0 p.1) (zip inputs n.slots)
    ≡ None = none_by n.count _ (nat_eq n.count 0) refl some
    (option_map-none (link_into run.design node) (missing (plan_of run.design node) n) none) in
    full_by (slot_at n link.in_port)
    (none_found (λ (p : Input × Option (List PortValue)). lacks p.0 p.1) (zip inputs n.slots) link.in_port
    (input_from_link run.design (Some link), slot_at n link.in_port) all
    (slice_get-zip inputs n.slots link.in_port _ _ is_input is_slot))
