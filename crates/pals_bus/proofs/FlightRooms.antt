-- Room in flights, and the remaining room after one of them changes.
use Rattle.std.proofs.Common.{◌≡◌, ◌≢◌, ◌∙◌, inl, inr, ℕ, ◌<◌, ◌≤◌, false, List, [], length, Some, sym, ap, subst}
use Rattle.std.proofs.Common.{arith}
use Rattle.std.specs.Prelude.{slice_set, slice_index_or, slice_get}
use Rattle.std.proofs.lemmas.Bool.{cases_eq, cases_lt}
use Rattle.std.proofs.lemmas.List.{map-set, length-map, get_or-map, get_or-set_other, get_or_past, get_or_default}
use Rattle.std.proofs.lemmas.Grind.{get_or-set_at}
use Rattle.std.proofs.lemmas.Option.{slice_get_within}
use Rattle.pals_model.specs.declared.design.Link.{Link}
use Rattle.link_buffers.specs.proof.Flights.{FlightState}
use Rattle.pals_node.specs.proof.NodeAndJobValues.{NodeValue}
use Rattle.pals_bus.specs.proof.BusInvariant.{HasRooms, copies_in}
use Rattle.pals_bus.specs.proof.OutOfRangeDefaults.{no_flight, no_node_value}
use Rattle.pals_bus.specs.proof.RoundMessages.{HasRoomFor, NoLessRoom}

-- ---- copies
pub copies-set : (flights : List FlightState) (at : ℕ) (flight : FlightState)
    → copies_in (slice_set flights at flight) ≡ slice_set (copies_in flights) at flight.copies
copies-set flights at flight = map-set (λ (k : FlightState). k.copies) flights at flight

pub flight_is : (flights : List FlightState) (at : ℕ)
    → slice_index_or (copies_in flights) at [] ≡ (slice_index_or flights at no_flight).copies
flight_is flights at = elim (cases_lt at (length flights)) [
  | inl within ↦ get_or-map (λ (k : FlightState). k.copies) flights at no_flight [] within
  | inr past ↦ get_or_past (copies_in flights) at []
      (let size = length-map flights (λ (k : FlightState). k.copies) in omega (arith, size, past))
      ∙ sym (ap (λ (k : FlightState). k.copies) (get_or_past flights at no_flight past))
]

pub flight_here : (flights : List FlightState) (at : ℕ) (flight : FlightState) → at < length flights
    → flight ≡ slice_index_or flights at flight → slice_index_or (copies_in flights) at [] ≡ flight.copies
flight_here flights at flight within is =
    flight_is flights at ∙ ap (λ (k : FlightState). k.copies)
    (sym (is ∙ get_or_default flights at flight no_flight within))

-- ---- room
pub no_less-set : (flights : List FlightState) (at : ℕ) (flight : FlightState) → at < length flights
    → (slice_index_or flights at no_flight).spare ≤ flight.spare → NoLessRoom flights (slice_set flights at flight)
no_less-set flights at flight within more number = elim (cases_eq number at) [
  | inl e ↦
      let new : (slice_index_or (slice_set flights at flight) number no_flight).spare ≡ flight.spare =
      ap (λ (k : FlightState). k.spare) (get_or-set_at flights at number flight no_flight e within) in
      let old : (slice_index_or flights number no_flight).spare ≡ (slice_index_or flights at no_flight).spare =
      ap (λ k. (slice_index_or flights k no_flight).spare) e in
      omega (arith, new, old, more)
  | inr other ↦
      let new : (slice_index_or (slice_set flights at flight) number no_flight).spare
      ≡ (slice_index_or flights number no_flight).spare =
      ap (λ (k : FlightState). k.spare) (get_or-set_other flights at number flight no_flight other) in
      omega (arith, new)
]

pub rooms_kept : (links : List Link) (nodes : List NodeValue) (old new : List FlightState) → HasRooms links nodes old
    → NoLessRoom old new → HasRooms links nodes new
rooms_kept links nodes old new rooms less number link is unsent =
    let before = rooms number link is unsent in
    let more = less number in
    omega (arith, before, more)

-- the room of a node that has not sent
pub room_of : (links : List Link) (nodes : List NodeValue) (flights : List FlightState) (node first : ℕ)
    → HasRooms links nodes flights → (slice_index_or nodes node no_node_value).state.sent ≡ false
    → HasRoomFor node first links flights
room_of links nodes flights node first rooms unsent number link lt is from =
    rooms number link is (subst (λ k. (slice_index_or nodes k no_node_value).state.sent ≡ false) (sym from) unsent)

-- no other link has less room
abbrev pub NoLessElsewhere : ℕ → List Link → List FlightState → List FlightState → Type 0
NoLessElsewhere node links old new =
    (number : ℕ) (link : Link) → slice_get links number ≡ Some link → link.source.0 ≢ node
    → (slice_index_or old number no_flight).spare ≤ (slice_index_or new number no_flight).spare

pub rooms-set : (links : List Link) (nodes : List NodeValue) (old new : List FlightState) (node : ℕ) (m : NodeValue)
    → node < length nodes → HasRooms links nodes old → NoLessElsewhere node links old new
    → (m.state.sent ≡ false → HasRoomFor node (length links) links new) → HasRooms links (slice_set nodes node m) new
rooms-set links nodes old new node m within rooms less own number link is unsent = elim (cases_eq link.source.0 node) [
  | inl from ↦
      let here : slice_index_or (slice_set nodes node m) link.source.0 no_node_value ≡ m =
      get_or-set_at nodes node link.source.0 m no_node_value from within in
      own (sym (ap (λ (n : NodeValue). n.state.sent) here) ∙ unsent) number link
      (slice_get_within links number link is) is from
  | inr other ↦
      let here : slice_index_or (slice_set nodes node m) link.source.0 no_node_value
      ≡ slice_index_or nodes link.source.0 no_node_value =
      get_or-set_other nodes node link.source.0 m no_node_value other in
      let before = rooms number link is (sym (ap (λ (n : NodeValue). n.state.sent) here) ∙ unsent) in
      let more = less number link is other in
      omega (arith, before, more)
]
