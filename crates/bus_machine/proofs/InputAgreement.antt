-- What a round's start reads is what the composition feeds to the component.
use Rattle.std.proofs.Common.{◌≡◌, ℕ, zero, suc, ◌<◌, nat_eq, true, false, List, [], ◌∷◌, length, map, replicate}
use Rattle.std.proofs.Common.{slice_get, Option, Some, None, refl, sym, ap, ap₂, ◌∙◌, subst, arith}
use Rattle.std.specs.Prelude.{position, zip, slice_index_or, if◌then◌else◌, option_map}
use Rattle.std.proofs.lemmas.List.{length-map}
use Rattle.std.proofs.lemmas.Bool.{ne_eqb, false≢true}
use Rattle.std.proofs.lemmas.Option.{slice_get-map, get_or_from_slice_get, slice_get_within, slice_get-get_or}
use Rattle.list_lemmas.proofs.ElementPositions.{slice_get-zip}
use Rattle.pals_base.specs.declared.basic_types.PortValue.{PortValue}
use Rattle.pals_base.specs.declared.basic_types.PortValue.TheVariants.{Absent}
use Rattle.pals_base.specs.Adaptors.{adapt}
use Rattle.pals_base.specs.Tuples.{columns}
use Rattle.pals_base.specs.UpwardNumbers.{upwards}
use Rattle.pals_base.proofs.UpwardNumbers.{length-upwards}
use Rattle.pals_model.specs.declared.design.Component.{Component}
use Rattle.pals_model.specs.declared.design.Link.{Link}
use Rattle.pals_model.specs.declared.design.Feed.{Feed}
use Rattle.pals_model.specs.declared.design.DesignParts.{DesignParts}
use Rattle.pals_model.specs.declared.port_sources.PortSource.{PortSource}
use Rattle.pals_model.specs.declared.port_sources.PortSource.TheVariants as source
use Rattle.pals_model.specs.ComponentInputs.{values_at, input_vectors, inputs_in, source_of, sources_of, brought_tuple}
use Rattle.pals_model.specs.ComponentInputs.{read_feed}
use Rattle.pals_model.specs.ComponentInputs.{read_link}
use Rattle.pals_model.specs.PortKindsAndRates.{rate_of}
use Rattle.pals_model.specs.Composition.{comp, msg}
use Rattle.pals_model.proofs.SourceLaws.{source_at, reads_link}
use Rattle.bus_machine.specs.declared.plan.Input.{Input}
use Rattle.bus_machine.specs.Plans.{plan_for, input_of, input_from_feed, input_from_link}
use Rattle.bus_machine.specs.declared.plan.Plan.{Plan}
use Rattle.bus_machine.specs.Nodes.{NodeState, message_in, brought, vectors_of}
use Rattle.bus_machine.specs.NodeEvents.{lacks, missing, slot_at}
use Rattle.bus_machine.specs.RunParameters.{Run}
use Rattle.bus_machine.specs.Agreement.{SlotAgrees}
use Rattle.bus_machine.proofs.ListsAndOldestCopies.{none_found}

-- ---- one in port
feed_brings : (rate root : ℕ) (values : List PortValue) (slot : Option (List PortValue)) (f : Option Feed)
    → brought rate values (input_from_feed root f) slot ≡ read_feed (slice_index_or values root Absent) rate f
feed_brings rate root values slot None = refl
feed_brings rate root values slot (Some f) = refl

link_brings : (design : DesignParts) (rate : ℕ) (values message : List PortValue) (slot : Option (List PortValue))
    (l : Option Link) → ((link : Link) → l ≡ Some link → message_in (rate_of design link.source.0) slot ≡ message)
    → brought rate values (input_from_link design l) slot ≡ read_link design rate message l
link_brings design rate values message slot None same = refl
link_brings design rate values message slot (Some link) same =
    ap (adapt link.adaptor (rate_of design link.source.0) rate) (same link refl)

-- the slot of an in port has the message of the link that it reads, or stands for it
abbrev pub Stands : DesignParts → List (List PortValue) → PortSource → Option (List PortValue) → Type 0
Stands design messages src slot =
    (number : ℕ) (link : Link) → src ≡ source.Link number → slice_get design.links number ≡ Some link
    → message_in (rate_of design link.source.0) slot ≡ slice_index_or messages number []

port_brings : (design : DesignParts) (rate : ℕ) (values : List PortValue) (messages : List (List PortValue))
    (src : PortSource) (slot : Option (List PortValue)) → Stands design messages src slot
    → brought rate values (input_of design src) slot ≡ brought_tuple design values messages rate src
port_brings design rate values messages source.Nothing slot stands = refl
port_brings design rate values messages (source.Feed f root) slot stands =
    feed_brings rate root values slot (slice_get design.feeds f)
port_brings design rate values messages (source.Link number) slot stands =
    link_brings design rate values (slice_index_or messages number []) slot (slice_get design.links number)
    (λ link is. stands number link refl is)

-- ---- all in ports
ports_bring : (design : DesignParts) (rate : ℕ) (values : List PortValue) (messages : List (List PortValue))
    (sources : List PortSource) (slots : List (Option (List PortValue))) → length slots ≡ length sources
    → ((k : ℕ) (src : PortSource) → slice_get sources k ≡ Some src
    → Stands design messages src (slice_index_or slots k None))
    → map (λ p. brought rate values p.0 p.1) (zip (map (input_of design) sources) slots)
    ≡ map (brought_tuple design values messages rate) sources
ports_bring design rate values messages [] slots same stands = refl
ports_bring design rate values messages (src ∷ sources) [] same stands = absurd (omega arith)
ports_bring design rate values messages (src ∷ sources) (slot ∷ slots) same stands =
    ap₂ (λ p ps. p ∷ ps) (port_brings design rate values messages src slot (stands 0 src refl))
    (ports_bring design rate values messages sources slots (omega arith) (λ k s is. stands (suc k) s is))

-- ---- the source of a port
pub length_sources : (design : DesignParts) (node : ℕ) (c : Component)
    → length (sources_of design node c) ≡ length c.behaviour.ins
length_sources design node c =
    length-map (upwards 0 (length c.behaviour.ins)) (λ port. source_of design node port)
    ∙ length-upwards 0 (length c.behaviour.ins)

-- ---- what waits in the slots
message_stands : (run : Run) (number count : ℕ) (link : Link) (slot : Option (List PortValue))
    → slice_get run.design.links number ≡ Some link → SlotAgrees run number count slot → (slot ≡ None → count ≡ 0)
    → message_in (rate_of run.design link.source.0) slot
    ≡ slice_index_or (comp run.design run.env count).messages number []
unfolding comp msg
message_stands run number count link None is agrees empty =
    let opened =
    slice_get-map (λ (l : Link). replicate (rate_of run.design l.source.0) Absent) run.design.links number
    ∙ ap (option_map (λ (l : Link). replicate (rate_of run.design l.source.0) Absent)) is in
    sym (get_or_from_slice_get (map (λ (l : Link). replicate (rate_of run.design l.source.0) Absent) run.design.links)
    number (replicate (rate_of run.design link.source.0) Absent) [] opened)
    ∙ ap (λ m. slice_index_or (comp run.design run.env m).messages number []) (sym (empty refl))
message_stands run number count link (Some tuple) is agrees empty =
    agrees.2 ∙ ap (λ m. slice_index_or (comp run.design run.env m).messages number []) (sym agrees.1)

lacks_none : (design : DesignParts) (number : ℕ) (link : Link) (slot : Option (List PortValue))
    → slice_get design.links number ≡ Some link → slot ≡ None → lacks (input_of design (source.Link number)) slot ≡ true
lacks_none design number link slot is empty = ap₂ (λ l s. lacks (input_from_link design l) s) is empty

none_missing : (plan : Plan) (n : NodeState) (m : ℕ) → n.count ≡ suc m → missing plan n ≡ None
    → position (λ (p : Input × Option (List PortValue)). lacks p.0 p.1) (zip plan.inputs n.slots) ≡ None
none_missing plan n m counted none =
    let later : nat_eq n.count 0 ≡ false = ne_eqb n.count 0 (λ first. omega arith) in
    sym (ap (λ b. if b then None else position (λ (p : Input × Option (List PortValue)). lacks p.0 p.1)
    (zip plan.inputs n.slots)) later) ∙ none

-- where a start misses nothing, only round 0 finds an empty slot at a link
empty_at_first : (run : Run) (node k number : ℕ) (c : Component) (n : NodeState) (link : Link) (m : ℕ)
    → length n.slots ≡ length c.behaviour.ins → slice_get (sources_of run.design node c) k ≡ Some (source.Link number)
    → slice_get run.design.links number ≡ Some link → missing (plan_for run.design node c) n ≡ None → slot_at n k ≡ None
    → n.count ≡ m → m ≡ 0
empty_at_first run node k number c n link zero size is_src is none empty counted = refl
empty_at_first run node k number c n link (suc m) size is_src is none empty counted =
    let sources = sources_of run.design node c in
    let inputs = map (input_of run.design) sources in
    let is_input : slice_get inputs k ≡ Some (input_of run.design (source.Link number)) =
    slice_get-map (input_of run.design) sources k ∙ ap (option_map (input_of run.design)) is_src in
    let count : length sources ≡ length c.behaviour.ins = length_sources run.design node c in
    let within : k < length n.slots = let below = slice_get_within sources k (source.Link number) is_src in
    omega arith in
    let is_slot : slice_get n.slots k ≡ Some (slot_at n k) = slice_get-get_or n.slots k None within in
    let fails =
    none_found (λ (p : Input × Option (List PortValue)). lacks p.0 p.1) (zip inputs n.slots) k
    (input_of run.design (source.Link number), slot_at n k)
    (none_missing (plan_for run.design node c) n m counted none)
    (slice_get-zip inputs n.slots k _ _ is_input is_slot) in
    let passes = lacks_none run.design number link (slot_at n k) is empty in
    absurd (false≢true (sym fails ∙ passes))

-- ---- the round that starts
-- the slots of a node agree with the composition
abbrev pub SlotsAgree : Run → ℕ → NodeState → Type 0
SlotsAgree run node n =
    (number : ℕ) (link : Link) → slice_get run.design.links number ≡ Some link → link.target.0 ≡ node
    → SlotAgrees run number n.count (slot_at n link.in_port)

slots_stand : (run : Run) (node k : ℕ) (c : Component) (n : NodeState) (src : PortSource) → SlotsAgree run node n
    → length n.slots ≡ length c.behaviour.ins → missing (plan_for run.design node c) n ≡ None
    → slice_get (sources_of run.design node c) k ≡ Some src
    → Stands run.design (comp run.design run.env n.count).messages src (slot_at n k)
slots_stand run node k c n src agree size none is_src number link is_link is =
    let goes = reads_link run.design node k number link (source_at run.design node k c src is_src ∙ is_link) is in
    let here : SlotAgrees run number n.count (slot_at n k) =
    subst (λ port. SlotAgrees run number n.count (slot_at n port)) goes.1 (agree number link is goes.0) in
    message_stands run number n.count link (slot_at n k) is here
    (λ empty. empty_at_first run node k number c n link n.count size (is_src ∙ ap Some is_link) is none empty refl)

pub vectors_agree : (run : Run) (node : ℕ) (c : Component) (n : NodeState)
    → slice_get run.design.components node ≡ Some c → SlotsAgree run node n → length n.slots ≡ length c.behaviour.ins
    → missing (plan_for run.design node c) n ≡ None
    → vectors_of (plan_for run.design node c) (values_at run.env n.count) n.slots
    ≡ input_vectors run.design run.env (comp run.design run.env n.count).messages node n.count
unfolding input_vectors
vectors_agree run node c n is_c agree size none =
    let messages = (comp run.design run.env n.count).messages in
    let same : length n.slots ≡ length (sources_of run.design node c) = size ∙ sym (length_sources run.design node c) in
    ap (columns c.rate) (ports_bring run.design c.rate (values_at run.env n.count) messages
    (sources_of run.design node c) n.slots same
    (λ k src is_src. slots_stand run node k c n src agree size none is_src))
    ∙ ap (inputs_in run.design (values_at run.env n.count) messages node) (sym is_c)
