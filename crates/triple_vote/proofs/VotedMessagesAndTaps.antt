-- The votes on the sent and shown values of three layers, gathered by link and by root out port.
use Rattle.std.proofs.Common.{◌≡◌, ◌∙◌, ℕ, zero, suc, ◌+◌, ◌<◌, inl, inr, nat_eq, ◌&&◌, Bool, true, false, List, []}
use Rattle.std.proofs.Common.{◌∷◌, length, map, set, All, find, Option, Some, None, slice_get, slice_index_or, refl}
use Rattle.std.proofs.Common.{sym, ap, ap₂, arith, add-one}
use Rattle.std.proofs.lemmas.Bool.{eqb-true, and_parts}
use Rattle.std.proofs.lemmas.List.{get_or-map}
use Rattle.std.proofs.lemmas.List.Elements.{All-contains}
use Rattle.std.proofs.lemmas.Option.{slice_get_cases, slice_get-get_or, get_or_from_slice_get}
use Rattle.list_lemmas.proofs.ElementPositions.{slice_get-map_some}
use Rattle.pals_base.specs.declared.basic_types.PortValue.{PortValue}
use Rattle.pals_model.specs.declared.design.Link.{Link}
use Rattle.pals_model.specs.declared.design.Tap.{Tap}
use Rattle.pals_model.specs.declared.design.DesignParts.{DesignParts}
use Rattle.pals_model.specs.PortKindsAndRates.{rate_of}
use Rattle.pals_model.proofs.FirstMatches.{at_element}
use Rattle.pals_runs.specs.declared.replica_faults.VoteFault.{VoteFault}
use Rattle.sync_product.specs.proof.ProductSizes.{message_sizes}
use Rattle.sync_product.proofs.ComponentLists.{item_at}
use Rattle.triple_vote.specs.declared.replica_layer.Layer.{Layer}
use Rattle.triple_vote.specs.Votes.{votes}
use Rattle.triple_vote.specs.VotedComposition.{source_in, is_replicated, is_fault, fault_or, vote_of}
use Rattle.triple_vote.specs.proof.VoteLaws.{IsFault}
use Rattle.triple_vote.specs.proof.ReplicaLayers.{lengths, tap_sizes, HasRoom, has_replica}
use Rattle.triple_vote.specs.proof.ThreeLayers.{there_in, sent_in, shown_in, tuple_of, received_of, shown_of, AreOfSize}
use Rattle.triple_vote.specs.proof.ThreeLayers.{FaultsFit, AreThree}
use Rattle.triple_vote.proofs.ListTablesAndSearches.{found}
use Rattle.triple_vote.proofs.TupleVotes.{length-votes}
use Rattle.triple_vote.proofs.SelectiveListWrites.{Filled, filled_put}
use Rattle.triple_vote.proofs.TupleLengths.{tuple_within, tuple_size, sizes_stay}

-- ---- sizes
-- a tuple in a place of a layer
layer_tuple : {L : Type 0} (field : Layer → List (List PortValue)) (size : L → ℕ) (items : List L) (layers : List Layer)
    (replica at : ℕ) (item : L)
    → ((layer : Layer) → slice_get layers replica ≡ Some layer → lengths (field layer) ≡ map size items)
    → replica < length layers → slice_get items at ≡ Some item
    → length (tuple_of (map field layers) replica at) ≡ size item
layer_tuple field size items layers replica at item fit within is =
    elim (slice_get_cases layers replica).1 [
      | inl got ↦
          let layer : Layer = got.0 in
          let tuples = field layer in
          ap (λ ts. length (slice_index_or ts at []))
          (get_or_from_slice_get (map field layers) replica tuples []
          (slice_get-map_some field layers replica layer got.2))
          ∙ tuple_size size items tuples (fit layer got.2) at item (slice_index_or tuples at []) is
          (sym (read_again tuples at []))
      | inr past ↦ absurd (omega (arith, past.0, within))
    ]
  where
    read_again : (ts : List (List PortValue)) (k : ℕ) (d : List PortValue)
        → slice_index_or ts k (slice_index_or ts k d) ≡ slice_index_or ts k d
    read_again [] k d = refl
    read_again (t ∷ ts) zero d = refl
    read_again (t ∷ ts) (suc k) d = read_again ts k d

pub sent_sizes : (design : DesignParts) (layers : List Layer) (number : ℕ) (link : Link) → AreThree design layers
    → slice_get design.links number ≡ Some link
    → AreOfSize (sent_in layers) number (rate_of design link.source.0)
sent_sizes design layers number link are is replica below =
    layer_tuple (λ (l : Layer). l.sent) (λ (x : Link). rate_of design x.source.0) design.links layers
    replica number link
    (λ layer is_layer. (let room = at_element (HasRoom design) layers replica layer are.rooms is_layer in
    room.sent_fit))
    (let three = are.three in omega (arith, three, below)) is

pub shown_sizes : (design : DesignParts) (layers : List Layer) (number : ℕ) (tap : Tap) → AreThree design layers
    → slice_get design.taps number ≡ Some tap
    → AreOfSize (shown_in layers) number (rate_of design tap.source.0)
shown_sizes design layers number tap are is replica below =
    layer_tuple (λ (l : Layer). l.shown) (λ (x : Tap). rate_of design x.source.0) design.taps layers replica number tap
    (λ layer is_layer. (let room = at_element (HasRoom design) layers replica layer are.rooms is_layer in
    room.shown_fit))
    (let three = are.three in omega (arith, three, below)) is

-- the faults of a link have its source's rate
pub faults_fit : (design : DesignParts) (faults : List VoteFault) (number : ℕ) (link : Link)
    → All (IsFault design) faults → slice_get design.links number ≡ Some link
    → FaultsFit faults number (rate_of design link.source.0)
faults_fit design faults number link are is k d within goes =
    let fault = are k d within in
    fault.values
    ∙ ap (rate_of design) (sym fault.source ∙ ap source_in (ap (slice_get design.links) goes ∙ is))

-- ---- the received messages
-- a message of a replica has the size
fault_size : (faults : List VoteFault) (l replica target : ℕ) (own : List PortValue) (size : ℕ) (o : Option VoteFault)
    → find (is_fault l replica target) faults ≡ o
    → FaultsFit faults l size → length own ≡ size → length (fault_or o own) ≡ size
fault_size faults l replica target own size None is fit same = same
fault_size faults l replica target own size (Some f) is fit same =
    let at = found (is_fault l replica target) faults f is in
    All-contains (λ (x : VoteFault). x.link.0 ≡ l → length x.values ≡ size) faults f fit at.0
    (link_of l replica target f at.1)
  where
    link_of : (l replica target : ℕ) (f : VoteFault) → is_fault l replica target f ≡ true → f.link.0 ≡ l
    link_of l replica target f passes =
        let halves =
        and_parts (nat_eq f.link.0 l) (nat_eq f.replica replica && nat_eq f.target_replica target) passes in
        eqb-true f.link.0 l halves.0

pub sends_size : (faults : List VoteFault) (sent : List (List (List PortValue))) (l replica number target size : ℕ)
    → AreOfSize sent l size → FaultsFit faults l size → replica < 3
    → length (fault_or (find (is_fault l number target) faults) (tuple_of sent replica l)) ≡ size
sends_size faults sent l replica number target size sizes fit below =
    fault_size faults l number target (tuple_of sent replica l) size (find (is_fault l number target) faults) refl fit
    (sizes replica below)

pub received_size : (three : Bool) (faults : List VoteFault) (sent : List (List (List PortValue))) (l target size : ℕ)
    → AreOfSize sent l size → FaultsFit faults l size
    → length (received_of three faults sent l target) ≡ size
received_size true faults sent l target size sizes fit =
    let one = sends_size faults sent l 0 1 (suc target) size sizes fit (omega arith) in
    let two = sends_size faults sent l 1 2 (suc target) size sizes fit (omega arith) in
    let three = sends_size faults sent l 2 3 (suc target) size sizes fit (omega arith) in
    length-votes (fault_or (find (is_fault l 1 (suc target)) faults) (tuple_of sent 0 l))
    (fault_or (find (is_fault l 2 (suc target)) faults) (tuple_of sent 1 l))
    (fault_or (find (is_fault l 3 (suc target)) faults) (tuple_of sent 2 l)) (two ∙ sym one) (three ∙ sym one)
    ∙ one
received_size false faults sent l target size sizes fit = sizes 0 (omega arith)

pub shown_size : (three : Bool) (shown : List (List (List PortValue))) (n size : ℕ) → AreOfSize shown n size
    → length (shown_of three shown n) ≡ size
shown_size true shown n size sizes =
    let one = sizes 0 (omega arith) in
    length-votes (tuple_of shown 0 n) (tuple_of shown 1 n) (tuple_of shown 2 n) (sizes 1 (omega arith) ∙ sym one)
    (sizes 2 (omega arith) ∙ sym one) ∙ one
shown_size false shown n size sizes = sizes 0 (omega arith)

-- the message for a reader, from the slices that are voted on
module _ (faults : List VoteFault) (sent : List (List (List PortValue))) (l at target size : ℕ) (next : target ≡ at + 1)
    (sizes : AreOfSize sent l size) (fit : FaultsFit faults l size) where
  abbrev sends : ℕ → List PortValue → List PortValue
  sends number own = fault_or (find (is_fault l number target) faults) own

  pub sent_size : (replica number : ℕ) (own x : List PortValue) → own ≡ tuple_of sent replica l → x ≡ sends number own
      → replica < 3 → length x ≡ size
  sent_size replica number own x own_is is below =
      ap length is ∙ ap (λ o. length (sends number o)) own_is
      ∙ sends_size faults sent l replica number target size sizes fit below

  pub received_three : (a b c x y z to : List PortValue) → a ≡ tuple_of sent 0 l → b ≡ tuple_of sent 1 l
      → c ≡ tuple_of sent 2 l
      → x ≡ sends 1 a → y ≡ sends 2 b → z ≡ sends 3 c → to ≡ votes x y z → to ≡ received_of true faults sent l at
  received_three a b c x y z to a_is b_is c_is x_is y_is z_is is =
      is
      ∙ ap₂ (λ p q. votes p q z) (x_is ∙ ap (sends 1) a_is) (y_is ∙ ap (sends 2) b_is)
      ∙ ap (votes (sends 1 (tuple_of sent 0 l)) (sends 2 (tuple_of sent 1 l))) (z_is ∙ ap (sends 3) c_is)
      ∙ ap (λ t. vote_of (λ replica. fault_or (find (is_fault l (suc replica) t) faults) (tuple_of sent replica l)))
      (next ∙ add-one at)

-- ---- one more link
abbrev pub no_link : Link
no_link = record { source = record { 0 = 0 }; out_port = 0; target = record { 0 = 0 }; in_port = 0; adaptor = None }

-- the components that have replicas in a layer
pub there_read : (layers : List Layer) (at : ℕ) (layer : Layer) → at < length layers
    → layer ≡ slice_index_or layers at layer
    → slice_index_or (there_in layers) at [] ≡ layer.there
there_read layers at layer within is =
    get_or-map (λ (l : Layer). l.there) layers at layer [] within ∙ ap (λ (l : Layer). l.there) (sym is)

module _ (design : DesignParts) (replicated : List Bool) (faults : List VoteFault) (layers : List Layer) (target : ℕ)
    (are : AreThree design layers) (sound : All (IsFault design) faults)
    (received_messages : List (List PortValue)) (sizes : lengths received_messages ≡ message_sizes design)
    (items : List Link) (number : ℕ)
    (d : Link) (tuple : List PortValue)
    (same : items ≡ design.links) (within : number < length items)
    (tuple_is : tuple ≡ slice_index_or received_messages number tuple) where
  abbrev link : Link
  link = slice_index_or items number d

  abbrev link_size : Link → ℕ
  link_size x = rate_of design x.source.0

  abbrev wanted : ℕ → Link → List PortValue
  wanted at x = received_of (is_replicated replicated x.source.0) faults (sent_in layers) at target

  abbrev has_target : Link → Bool
  has_target x = has_replica (slice_index_or (there_in layers) target []) x.target.0

  link_is : slice_get design.links number ≡ Some link
  link_is = ap (λ l. slice_get l number) (sym same) ∙ slice_get-get_or items number d within

  link_within : number < length design.links
  link_within = omega (arith, ap length same, within)

  room_is : length tuple ≡ rate_of design link.source.0
  room_is = tuple_size link_size design.links received_messages sizes number link tuple link_is tuple_is

  -- the tuples that are voted on have the size of the result
  pub sent_fit : AreOfSize (sent_in layers) number (length tuple)
  sent_fit replica below = sent_sizes design layers number link are link_is replica below ∙ sym room_is

  pub faults_are_fit : FaultsFit faults number (length tuple)
  faults_are_fit k e inside goes = faults_fit design faults number link sound link_is k e inside goes ∙ sym room_is

  pub heard_sizes_stay : (written : List PortValue) → written ≡ wanted number link
      → lengths (set received_messages number written) ≡ message_sizes design
  heard_sizes_stay written is =
      sizes_stay link_size design.links received_messages sizes number tuple written link_within tuple_is
      (ap length is ∙ received_size (is_replicated replicated link.source.0) faults (sent_in layers) number target
      (length tuple) sent_fit faults_are_fit)

  pub heard_more : (written : List PortValue) → written ≡ wanted number link
      → Filled design.links has_target wanted received_messages number
      → Filled design.links has_target wanted (set received_messages number written) (number + 1)
  heard_more written is =
      filled_put design.links has_target wanted received_messages number link written link_is
      (tuple_within link_size design.links received_messages sizes number link_within) is

-- ---- one more root out port
module _ (design : DesignParts) (replicated : List Bool) (layers : List Layer) (are : AreThree design layers)
    (shown : List (List PortValue)) (sizes : lengths shown ≡ tap_sizes design) (items : List Tap) (number : ℕ)
    (tap : Tap) (tuple : List PortValue)
    (same : items ≡ design.taps) (within : number < length items) (item_is : tap ≡ slice_index_or items number tap)
    (tuple_is : tuple ≡ slice_index_or shown number tuple) where
  abbrev tap_size : Tap → ℕ
  tap_size x = rate_of design x.source.0

  abbrev shows : ℕ → Tap → List PortValue
  shows at x = shown_of (is_replicated replicated x.source.0) (shown_in layers) at

  abbrev each_tap : Tap → Bool
  each_tap x = true

  tap_is : slice_get design.taps number ≡ Some tap
  tap_is = item_at design.taps items number tap same within item_is

  tap_within : number < length design.taps
  tap_within = omega (arith, ap length same, within)

  pub shown_fit : AreOfSize (shown_in layers) number (length tuple)
  shown_fit replica below =
      shown_sizes design layers number tap are tap_is replica below
      ∙ sym (tuple_size tap_size design.taps shown sizes number tap tuple tap_is tuple_is)

  pub shown_sizes_stay : (written : List PortValue) → written ≡ shows number tap
      → lengths (set shown number written) ≡ tap_sizes design
  shown_sizes_stay written is =
      sizes_stay tap_size design.taps shown sizes number tuple written tap_within tuple_is
      (ap length is ∙ shown_size (is_replicated replicated tap.source.0) (shown_in layers) number
      (length tuple) shown_fit)

  pub shown_more : (written : List PortValue) → written ≡ shows number tap
      → Filled design.taps each_tap shows shown number
      → Filled design.taps each_tap shows (set shown number written) (number + 1)
  shown_more written is =
      filled_put design.taps each_tap shows shown number tap written tap_is
      (tuple_within tap_size design.taps shown sizes number tap_within) is
