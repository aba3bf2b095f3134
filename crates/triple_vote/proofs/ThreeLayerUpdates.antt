-- The invariant of the three layers and of their received messages, when the next layer replaces one of them.
use Rattle.std.proofs.Common.{◌≡◌, ◌∙◌, ℕ, suc, ◌+◌, ◌<◌, ◌≤◌, inl, inr, Bool, List, [], ◌∷◌, length, map, set}
use Rattle.std.proofs.Common.{slice_get, slice_index_or, Some, refl, sym, ap, ap₂, subst, arith, eq-or-lt_of_le}
use Rattle.std.proofs.lemmas.List.{get_or-set_other, get_or_default, length-set}
use Rattle.std.proofs.Math.Seq.{map-set_same}
use Rattle.std.proofs.lemmas.List.Elements.{All-set}
use Rattle.std.proofs.lemmas.Grind.{get_or-set_at}
use Rattle.pals_base.specs.declared.basic_types.PortValue.{PortValue}
use Rattle.pals_model.specs.declared.design.DesignParts.{DesignParts}
use Rattle.pals_runs.specs.declared.replica_faults.VoteFault.{VoteFault}
use Rattle.sync_product.proofs.ComponentLists.{slice_get-set_same, slice_get-set_other}
use Rattle.triple_vote.specs.declared.replica_layer.Layer.{Layer}
use Rattle.sync_product.specs.proof.ProductSizes.{part_size, message_sizes}
use Rattle.triple_vote.specs.proof.ReplicaLayers.{lengths, HasRoom, StaysPut, IsMade, IsSwapped}
use Rattle.triple_vote.specs.proof.ThreeLayers.{AreThree, StayPut, AreReceived, AreSwapped, HasReceivedSizes}

-- an element, where it is written over
put-at : {X : Type 0} (xs : List X) (at k : ℕ) (y x : X) → k ≡ at → at < length xs
    → slice_get (set xs at y) k ≡ Some x → y ≡ x
put-at xs at k y x here within is =
    let both : Some y ≡ Some x = sym (slice_get-set_same xs at y within)
    ∙ ap (slice_get (set xs at y)) (sym here) ∙ is in
    cc

-- ---- rounds
abbrev pub MadeTo : DesignParts → List PortValue → List (List (List PortValue)) → List Layer → ℕ → Type 0
MadeTo design values received_messages layers at =
    (replica : ℕ) (layer : Layer) → replica < at → slice_get layers replica ≡ Some layer
    → IsMade design values (slice_index_or received_messages replica []) layer

pub made_more : (design : DesignParts) (values : List PortValue) (received_messages : List (List (List PortValue)))
    (layers : List Layer) (at : ℕ) (new : Layer) → at < length layers
    → IsMade design values (slice_index_or received_messages at []) new
    → MadeTo design values received_messages layers at
    → MadeTo design values received_messages (set layers at new) (at + 1)
made_more design values received_messages layers at new within made so_far replica layer below is =
    let upto : replica ≤ at = omega (arith, below) in
    elim (eq-or-lt_of_le upto) [
      | inl here ↦
          subst (IsMade design values (slice_index_or received_messages replica []))
          (put-at layers at replica new layer here within is)
          (subst (λ k. IsMade design values (slice_index_or received_messages k []) new) (sym here) made)
      | inr before ↦ so_far replica layer before (sym (slice_get-set_other layers at replica new before) ∙ is)
    ]

-- a layer that is replaced by a layer in the same state
pub stay_more : (old layers : List Layer) (at : ℕ) (was new : Layer) → was ≡ slice_index_or layers at was
    → StaysPut was new
    → StayPut old layers → StayPut old (set layers at new)
stay_more old layers at was new item stays stay = record {
  there =
      map-set_same (λ (l : Layer). l.there) layers at new was (stays.there ∙ ap (λ (l : Layer). l.there) item)
      ∙ stay.there;
  parts =
      map-set_same (λ (l : Layer). l.parts) layers at new was (stays.parts ∙ ap (λ (l : Layer). l.parts) item)
      ∙ stay.parts;
}

pub three_more : (design : DesignParts) (layers : List Layer) (at : ℕ) (new : Layer) → AreThree design layers
    → HasRoom design new → AreThree design (set layers at new)
three_more design layers at new are room = record {
  three = length-set layers at new ∙ are.three;
  rooms = All-set (HasRoom design) layers at new room are.rooms;
}

-- the room of a layer
pub room_at : (design : DesignParts) (layers : List Layer) (at : ℕ) (layer : Layer) → AreThree design layers
    → at < length layers → layer ≡ slice_index_or layers at layer
    → HasRoom design layer
room_at design layers at layer are within is = subst (HasRoom design) (sym is) (are.rooms at layer within)

-- ---- the received messages
abbrev HasMessages : DesignParts → List (List PortValue) → Type 0
HasMessages design tuples = lengths tuples ≡ message_sizes design

pub received_sizes : (design : DesignParts) (received_messages : List (List (List PortValue))) (at : ℕ)
    (tuples : List (List PortValue))
    → HasReceivedSizes design received_messages → at < length received_messages
    → tuples ≡ slice_index_or received_messages at tuples → lengths tuples ≡ message_sizes design
received_sizes design received_messages at tuples are within is =
    subst (HasMessages design) (sym is) (are.sizes at tuples within)

pub heard_stay : (design : DesignParts) (received_messages : List (List (List PortValue))) (at : ℕ)
    (new : List (List PortValue))
    → HasReceivedSizes design received_messages → lengths new ≡ message_sizes design
    → HasReceivedSizes design (set received_messages at new)
heard_stay design received_messages at new are fit = record {
  three = length-set received_messages at new ∙ are.three;
  sizes = All-set (HasMessages design) received_messages at new fit are.sizes;
}

abbrev pub ReceivedTo : DesignParts → List Bool → List VoteFault → List Layer → List (List (List PortValue))
    → ℕ → Type 0
ReceivedTo design replicated faults layers received_messages at =
    (target : ℕ) → target < at → AreReceived design replicated faults layers target
    (slice_index_or received_messages target [])

pub received_more : (design : DesignParts) (replicated : List Bool) (faults : List VoteFault) (layers : List Layer)
    (received_messages : List (List (List PortValue))) (at : ℕ) (new : List (List PortValue))
    → at < length received_messages → AreReceived design replicated faults layers at new
    → ReceivedTo design replicated faults layers received_messages at
    → ReceivedTo design replicated faults layers (set received_messages at new) (at + 1)
received_more design replicated faults layers received_messages at new within received so_far target below =
    let upto : target ≤ at = omega (arith, below) in
    elim (eq-or-lt_of_le upto) [
      | inl here ↦
          subst (AreReceived design replicated faults layers target)
          (sym (get_or-set_at received_messages at target new [] here within))
          (subst (λ k. AreReceived design replicated faults layers k new) (sym here) received)
      | inr before ↦
          subst (AreReceived design replicated faults layers target)
          (sym (get_or-set_other received_messages at target new [] (λ same. omega (arith, same, before))))
          (so_far target before)
    ]

-- ---- going over
pub record SwappedTo (old new : List Layer) (at : ℕ) : Type 0 where
  pub size : length new ≡ length old
  pub done : (k : ℕ) (d : Layer) → k < at → k < length old → IsSwapped (slice_index_or old k d) (slice_index_or new k d)
  pub rest : (k : ℕ) (d : Layer) → at ≤ k → slice_index_or new k d ≡ slice_index_or old k d

pub turned_more : (old now : List Layer) (at : ℕ) (was new : Layer) → SwappedTo old now at → at < length now
    → was ≡ slice_index_or now at was → IsSwapped was new
    → SwappedTo old (set now at new) (at + 1)
turned_more old now at was new turned within item turns = record {
  size = length-set now at new ∙ turned.size;
  done = λ k d below inside. (
      let upto : k ≤ at = omega (arith, below) in
      elim (eq-or-lt_of_le upto) [
        | inl here ↦
            let before : was ≡ slice_index_or old k d =
            item ∙ get_or_default now at was d within ∙ turned.rest at d (omega arith)
            ∙ ap (λ j. slice_index_or old j d) (sym here) in
            let after : new ≡ slice_index_or (set now at new) k d = sym (get_or-set_at now at k new d here within) in
            subst (λ (x : Layer). IsSwapped x (slice_index_or (set now at new) k d)) before
            (subst (λ (y : Layer). IsSwapped was y) after turns)
        | inr less ↦
            subst (λ (y : Layer). IsSwapped (slice_index_or old k d) y)
            (sym (get_or-set_other now at k new d (λ same. omega (arith, same, less))))
            (turned.done k d less inside)
      ]);
  rest =
      λ k d above. get_or-set_other now at k new d (λ same. omega (arith, same, above))
      ∙ turned.rest k d (omega (arith, above));
}

abbrev no_layer : Layer
no_layer = record { there = []; parts = []; next = []; sent = []; shown = [] }

each-same : {X : Type 0} (f g : Layer → X) (xs ys : List Layer) → length ys ≡ length xs
    → ((k : ℕ) → k < length xs → f (slice_index_or ys k no_layer) ≡ g (slice_index_or xs k no_layer))
    → map f ys ≡ map g xs
each-same f g [] [] size same = refl
each-same f g [] (y ∷ ys) size same = absurd (omega arith)
each-same f g (x ∷ xs) [] size same = absurd (omega arith)
each-same f g (x ∷ xs) (y ∷ ys) size same =
    ap₂ (λ a bs. a ∷ bs) (same 0 (omega arith))
    (each-same f g xs ys (omega arith) (λ k within. same (suc k) (omega arith)))

room_turned : (design : DesignParts) (old new : Layer) → IsSwapped old new → HasRoom design old → HasRoom design new
room_turned design old new turned room = record {
  there_fit = ap length turned.there ∙ room.there_fit;
  parts_fit = ap (map part_size) turned.parts ∙ room.next_fit;
  next_fit = ap (map part_size) turned.next ∙ room.parts_fit;
  sent_fit = ap lengths turned.sent ∙ room.sent_fit;
  shown_fit = ap lengths turned.shown ∙ room.shown_fit;
}

pub turned_all : (old new : List Layer) (at : ℕ) → length old ≤ at → SwappedTo old new at → AreSwapped old new
turned_all old new at past turned =
    let each : (k : ℕ) (d : Layer) → k < length old → IsSwapped (slice_index_or old k d) (slice_index_or new k d)
    = λ k d within. turned.done k d (omega (arith, within, past)) within in
    record {
      there =
          each-same (λ (l : Layer). l.there) (λ (l : Layer). l.there) old new turned.size
          (λ k within. (let on = each k no_layer within in on.there));
      parts =
          each-same (λ (l : Layer). l.parts) (λ (l : Layer). l.next) old new turned.size
          (λ k within. (let on = each k no_layer within in on.parts));
      rooms = λ design are. record {
        three = turned.size ∙ are.three;
        rooms = λ k d within. (
            let inside : k < length old = (let size = turned.size in omega (arith, size, within)) in
            room_turned design (slice_index_or old k d) (slice_index_or new k d) (each k d inside)
            (are.rooms k d inside));
      };
    }
