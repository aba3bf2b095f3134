-- If faults are outvoted, replicas, messages and root out ports are the composition's; and so they are without
-- replicas.
use Rattle.std.proofs.Common.{◌≡◌, ◌∙◌, ℕ, zero, suc, ◌<◌, Bool, false, if◌then◌else◌, List, [], ◌∷◌, length, map, None}
use Rattle.std.proofs.Common.{Some, slice_get, slice_index_or, sym, ap, ap₂, arith, true≢false}
use Rattle.std.proofs.lemmas.List.{length-map}
use Rattle.std.proofs.lemmas.Option.{slice_get-get_or}
use Rattle.std.proofs.Math.ListN.{get_or-map}
use Rattle.pals_base.specs.declared.basic_types.PortValue.{PortValue}
use Rattle.pals_base.specs.declared.frames.Frame.{Frame}
use Rattle.pals_base.specs.UpwardNumbers.{upwards}
use Rattle.pals_model.specs.declared.design.Link.{Link}
use Rattle.pals_model.specs.declared.design.DesignParts.{DesignParts}
use Rattle.pals_model.specs.declared.environment.Env.{Env}
use Rattle.pals_model.specs.ComponentInputs.{values_at}
use Rattle.pals_model.specs.Composition.{no_frame, comp, state, msg}
use Rattle.pals_model.proofs.CompositionLaws.{one_frame_each, one_message_each}
use Rattle.pals_runs.specs.declared.replica_faults.VoteFault.{VoteFault}
use Rattle.triple_vote.specs.VotedComposition.{is_replicated, copies_of, receivers_in, VotedConfiguration, for_replicas}
use Rattle.triple_vote.specs.VotedComposition.{for_receivers}
use Rattle.triple_vote.specs.VotedComposition.{first_frame, first_tuple, replica_steps, receives_on, voted_composition}
use Rattle.triple_vote.specs.proof.VoteLaws.{ReplicasAreStates, ReceivedAreMessages, TapsShowTuples, unreplicated}
use Rattle.triple_vote.specs.proof.VoteLaws.{NoReplicasAreComposition}
use Rattle.triple_vote.proofs.ListTablesAndSearches.{table-is}
use Rattle.triple_vote.proofs.VotesDespiteOneFault.{vote_is}
use Rattle.triple_vote.proofs.ReplicaRounds.{replica_at, receiver_at, Agrees, AreOverruled, agrees_after, shows_after}

-- ---- with at most one at fault
pub replicas_are_states : ReplicasAreStates
replicas_are_states design env replicated faults sound are outvoted node replica rounds within below =
    (agrees_after design env replicated sound faults
    (λ round l target link m is three size. vote_is design faults are outvoted round l target link m is size)
    rounds).frames
    node replica within below

pub received_are_messages : ReceivedAreMessages
unfolding msg
received_are_messages design env replicated faults sound are outvoted l target round link is below =
    (agrees_after design env replicated sound faults
    (λ r k t x m is_x three size. vote_is design faults are outvoted r k t x m is_x size) (suc round)).received
    l target link is below

pub taps_show_tuples : TapsShowTuples
taps_show_tuples design env replicated faults sound are outvoted n round tap is =
    shows_after design env replicated sound faults
    (λ r k t x m is_x three size. vote_is design faults are outvoted r k t x m is_x size) n round tap is

-- ---- without replicas
abbrev voted_with : List (List Frame) → List (List (List PortValue)) → VotedConfiguration
voted_with frames received = record { frames = frames; received = received }

module _ (design : DesignParts) (env : Env) (replicated : List Bool)
    (none : (node : ℕ) → is_replicated replicated node ≡ false) where
  one_each : {X : Type 0} (f : ℕ → X) (node : ℕ) → map f (upwards 0 (copies_of replicated node)) ≡ f 0 ∷ []
  one_each f node = ap (λ b. map f (upwards 0 (if b then 3 else 1))) (none node)

  one_of : (node : ℕ) → 0 < copies_of replicated node
  one_of node = let e : copies_of replicated node ≡ 1 = ap (λ b. if b then 3 else 1) (none node) in omega arith

  module _ (f : ℕ → ℕ → Frame) (g : ℕ → ℕ → List PortValue) (rounds : ℕ)
      (agrees : Agrees design env replicated
      (voted_with (for_replicas design replicated f) (for_receivers design replicated g)) rounds) where
    abbrev frames : List Frame
    frames = (comp design env rounds).frames

    abbrev messages : List (List PortValue)
    messages = (comp design env rounds).messages

    same_frames : for_replicas design replicated f ≡ map (λ (frame : Frame). frame ∷ []) frames
    unfolding state
    same_frames =
        let only : Frame → List Frame = λ (frame : Frame). frame ∷ [] in
        let size : length (map only frames) ≡ length design.components = length-map frames only
        ∙ one_frame_each design env rounds in
        ap (λ n. map (λ node. map (f node) (upwards 0 (copies_of replicated node))) (upwards 0 n)) (sym size)
        ∙ table-is (λ node. map (f node) (upwards 0 (copies_of replicated node))) (map only frames) (only no_frame)
        (λ node within.
        let inside : node < length design.components = omega (arith, within, size) in
        one_each (f node) node
        ∙ ap only (sym (replica_at design replicated f node 0 inside (one_of node))
        ∙ agrees.frames node 0 inside (one_of node))
        ∙ sym (get_or-map only frames node no_frame))

    same_received : for_receivers design replicated g ≡ map (λ (message : List PortValue). message ∷ []) messages
    same_received =
        let only : List PortValue → List (List PortValue) = λ (message : List PortValue). message ∷ [] in
        let size : length (map only messages) ≡ length design.links = length-map messages only
        ∙ one_message_each design env rounds in
        ap (λ n. map (λ l. map (g l) (upwards 0 (receivers_in replicated (slice_get design.links l))))
        (upwards 0 n)) (sym size)
        ∙ table-is (λ l. map (g l) (upwards 0 (receivers_in replicated (slice_get design.links l))))
        (map only messages) (only [])
        (λ l within.
        let inside : l < length design.links = omega (arith, within, size) in
        let link : Link = slice_index_or design.links l
        (record {
          source = record { 0 = 0 };
          out_port = 0;
          target = record { 0 = 0 };
          in_port = 0;
          adaptor = None;
        }) in
        let is : slice_get design.links l ≡ Some link = slice_get-get_or design.links l _ inside in
        ap (λ o. map (g l) (upwards 0 (receivers_in replicated o))) is
        ∙ one_each (g l) link.target.0
        ∙ ap only (sym (receiver_at design replicated g l 0 link is (one_of link.target.0))
        ∙ agrees.received l 0 link is (one_of link.target.0))
        ∙ sym (get_or-map only messages l []))

    composed : voted_with (for_replicas design replicated f) (for_receivers design replicated g)
        ≡ unreplicated (comp design env rounds)
    composed = ap₂ voted_with same_frames same_received

none_overruled : (design : DesignParts) (replicated : List Bool) (faults : List VoteFault)
    → ((node : ℕ) → is_replicated replicated node ≡ false)
    → AreOverruled design replicated faults
none_overruled design replicated faults none l target link m is three size =
    absurd (true≢false (sym three ∙ none link.source.0))

pub no_replicas_are_composition : NoReplicasAreComposition
unfolding voted_composition
no_replicas_are_composition design env replicated faults zero sound none =
    composed design env replicated none
    (λ node replica. first_frame (slice_get design.components node))
    (λ l replica. first_tuple design (slice_get design.links l)) 0
    (agrees_after design env replicated sound faults (λ round. none_overruled design replicated (faults round) none) 0)
no_replicas_are_composition design env replicated faults (suc round) sound none =
    let v = voted_composition design env replicated faults round in
    composed design env replicated none
    (λ node replica. (replica_steps design (values_at env round) v node replica).frame)
    (λ l target. receives_on design replicated (values_at env round) (faults round) v l target
    (slice_get design.links l)) (suc round)
    (agrees_after design env replicated sound faults (λ r. none_overruled design replicated (faults r) none)
    (suc round))
