-- What replicas begin with, and how much room that is.
use Rattle.std.proofs.Common.{◌≡◌, ◌∙◌, ℕ, zero, suc, ◌<◌, nat_lt, Bool, true, false, if◌then◌else◌, List, [], ◌∷◌}
use Rattle.std.proofs.Common.{length, map, All, replicate, slice_index_or, refl, sym, ap, ap₂, subst, arith}
use Rattle.std.specs.Prelude.{pos}
use Rattle.std.proofs.lemmas.List.{length-map, length-replicate, get_or-replicate}
use Rattle.std.proofs.lemmas.List.Elements.{All-nil, All-cons}
use Rattle.pals_base.specs.declared.basic_types.PortValue.{PortValue}
use Rattle.pals_base.specs.declared.basic_types.PortValue.TheVariants.{Absent}
use Rattle.pals_base.specs.declared.behaviour.VarDecl.{VarDecl}
use Rattle.pals_base.specs.SingleStep.{initial}
use Rattle.pals_model.specs.declared.design.Component.{Component}
use Rattle.pals_model.specs.declared.design.Tap.{Tap}
use Rattle.pals_model.specs.declared.design.DesignParts.{DesignParts}
use Rattle.pals_model.specs.PortKindsAndRates.{rate_of}
use Rattle.pals_model.specs.Composition.{opening}
use Rattle.sync_product.specs.proof.ProductSizes.{FrameSize, PartSize, part_size, part_size_of, message_sizes}
use Rattle.sync_product.specs.proof.Rounds.{frames_of}
use Rattle.sync_product.proofs.OpeningProducts.{opening_messages_fit}
use Rattle.triple_vote.specs.declared.replica_layer.Layer.{Layer}
use Rattle.triple_vote.specs.VotedComposition.{is_replicated}
use Rattle.triple_vote.specs.proof.ReplicaLayers.{lengths, opening_part, HasRoom, has_replica, IsOpened}
use Rattle.triple_vote.specs.proof.ThreeLayers.{there_in, parts_in, AreThree, HaveReplicas, AreOpened, HasReceivedSizes}

-- ---- one layer
size_of_opening : (c : Component) → part_size (opening_part c) ≡ part_size_of c []
size_of_opening c =
    ap (λ (f : FrameSize). let s : PartSize = record { frame = f; outs = [] } in s)
    (ap₂ (λ (v h : ℕ). let s : FrameSize = record { vars = v; held = h } in s)
    (length-map c.behaviour.vars (λ (v : VarDecl). v.first)) (length-replicate (length c.behaviour.ins) (pos 0)))

opening_fits : (cs : List Component)
    → map part_size (map opening_part cs) ≡ map (λ (c : Component). part_size_of c []) cs
opening_fits [] = refl
opening_fits (c ∷ cs) = ap₂ (λ s ss. s ∷ ss) (size_of_opening c) (opening_fits cs)

opening_frames : (cs : List Component)
    → frames_of (map opening_part cs) ≡ map (λ (c : Component). initial c.behaviour) cs
opening_frames [] = refl
opening_frames (c ∷ cs) = ap (λ fs. initial c.behaviour ∷ fs) (opening_frames cs)

pub shown_fits : (design : DesignParts) (taps : List Tap)
    → lengths (map (λ (tap : Tap). replicate (rate_of design tap.source.0) Absent) taps)
    ≡ map (λ (tap : Tap). rate_of design tap.source.0) taps
shown_fits design [] = refl
shown_fits design (tap ∷ taps) =
    ap₂ (λ n ns. n ∷ ns) (length-replicate (rate_of design tap.source.0) Absent) (shown_fits design taps)

pub is_opened : (design : DesignParts) (layer : Layer) → layer.parts ≡ map opening_part design.components
    → layer.next ≡ map opening_part design.components
    → layer.sent ≡ (opening design).messages
    → layer.shown ≡ map (λ (tap : Tap). replicate (rate_of design tap.source.0) Absent) design.taps
    → IsOpened design layer.there layer
is_opened design layer parts next sent shown = record {
  there_is = refl;
  frames = ap frames_of parts ∙ opening_frames design.components;
  room = λ there. record {
    there_fit = there;
    parts_fit = ap (map part_size) parts ∙ opening_fits design.components;
    next_fit = ap (map part_size) next ∙ opening_fits design.components;
    sent_fit = ap lengths sent ∙ opening_messages_fit design design.links;
    shown_fit = ap lengths shown ∙ shown_fits design design.taps;
  };
}

-- ---- three
marked_by : (b : Bool) (replica : ℕ) → 0 < replica → replica < 3 → b ≡ nat_lt replica (if b then 3 else 1)
marked_by b zero some below = absurd (omega arith)
marked_by true (suc zero) some below = refl
marked_by true (suc (suc zero)) some below = refl
marked_by true (suc (suc (suc n))) some below = absurd (omega arith)
marked_by false (suc zero) some below = refl
marked_by false (suc (suc zero)) some below = refl
marked_by false (suc (suc (suc n))) some below = absurd (omega arith)

first_by : (b : Bool) → true ≡ nat_lt 0 (if b then 3 else 1)
first_by true = refl
first_by false = refl

module _ (design : DesignParts) (replicated all : List Bool) (first second third : Layer)
    (count : length replicated ≡ length design.components)
    (all_is : all ≡ replicate (length design.components) true) (opened : IsOpened design all first)
    (next : IsOpened design replicated second) (last : IsOpened design replicated third) where
  abbrev layers : List Layer
  layers = first ∷ second ∷ third ∷ []

  are_three : AreThree design layers
  are_three = record {
    three = refl;
    rooms =
        All-cons (HasRoom design) first (second ∷ third ∷ [])
        (opened.room (ap length all_is ∙ length-replicate (length design.components) true))
        (All-cons (HasRoom design) second (third ∷ []) (next.room count)
        (All-cons (HasRoom design) third [] (last.room count) (All-nil (HasRoom design))));
  }

  have_replicas : HaveReplicas design replicated (there_in layers)
  have_replicas zero node below within =
      ap (λ there. has_replica there node) (opened.there_is ∙ all_is)
      ∙ get_or-replicate (length design.components) node true false within
      ∙ first_by (is_replicated replicated node)
  have_replicas (suc zero) node below within =
      ap (λ there. has_replica there node) next.there_is
      ∙ marked_by (is_replicated replicated node) 1 (omega arith) (omega arith)
  have_replicas (suc (suc zero)) node below within =
      ap (λ there. has_replica there node) last.there_is
      ∙ marked_by (is_replicated replicated node) 2 (omega arith) (omega arith)
  have_replicas (suc (suc (suc n))) node below within = absurd (omega arith)

  frames_are : (replica : ℕ) → replica < 3
      → frames_of (slice_index_or (parts_in layers) replica []) ≡ (opening design).frames
  frames_are zero below = opened.frames
  frames_are (suc zero) below = next.frames
  frames_are (suc (suc zero)) below = last.frames
  frames_are (suc (suc (suc n))) below = absurd (omega arith)

  pub are_opened : AreOpened design replicated layers
  are_opened = record { layers_fit = are_three; layers_are = have_replicas; frames = frames_are }

-- ---- what they have heard
pub are_heard : (design : DesignParts) (received_messages : List (List (List PortValue)))
    → received_messages ≡ replicate 3 (opening design).messages → HasReceivedSizes design received_messages
are_heard design received_messages is =
    let fits : List (List PortValue) → Type 0 = λ tuples. lengths tuples ≡ message_sizes design in
    let silent = (opening design).messages in
    let fit = opening_messages_fit design design.links in
    record {
      three = ap length is ∙ length-replicate 3 silent;
      sizes =
          subst (All fits) (sym is)
          (All-cons fits silent (silent ∷ silent ∷ []) fit
          (All-cons fits silent (silent ∷ []) fit (All-cons fits silent [] fit (All-nil fits))));
    }
