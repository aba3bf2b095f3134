-- Round by round, replicas are in their components' states, and receive the messages of the composition.
use Rattle.std.proofs.Common.{◌≡◌, ◌∙◌, ℕ, zero, suc, ◌<◌, Bool, true, false, if◌then◌else◌, List, [], length, map}
use Rattle.std.proofs.Common.{Some, slice_get, slice_index_or, find, refl, sym, ap, ap₂, subst, arith}
use Rattle.std.proofs.lemmas.Option.{slice_get_within}
use Rattle.pals_base.specs.declared.basic_types.PortValue.{PortValue}
use Rattle.pals_base.specs.declared.frames.Frame.{Frame}
use Rattle.pals_base.specs.PeriodBoundAndReleases.{sent_steps}
use Rattle.pals_base.specs.StepSequences.{steps, Stepped}
use Rattle.pals_base.specs.Tuples.{cut}
use Rattle.pals_base.specs.UpwardNumbers.{upwards}
use Rattle.pals_base.proofs.UpwardNumbers.{get_or-map_upwards}
use Rattle.pals_model.specs.declared.design.Component.{Component}
use Rattle.pals_model.specs.declared.design.Link.{Link}
use Rattle.pals_model.specs.declared.design.Tap.{Tap}
use Rattle.pals_model.specs.declared.design.DesignParts.{DesignParts}
use Rattle.pals_model.specs.declared.environment.Env.{Env}
use Rattle.pals_model.specs.ComponentInputs.{values_at, input_vectors, inputs_in}
use Rattle.pals_model.specs.PortKindsAndRates.{rate_of, rate_in}
use Rattle.pals_model.specs.Composition.{no_frame, comp, state, msg, steps_of_round, tuple_in, tuple_of}
use Rattle.pals_model.specs.DesignRules.{IsDesign, IsLink, IsTap}
use Rattle.pals_model.specs.proof.CompositionLaws.{own_steps}
use Rattle.pals_model.proofs.CompositionLaws.{state_begins, state_goes_on, message_from_source, steps_of_round-at}
use Rattle.pals_model.proofs.CompositionLaws.{link_begins}
use Rattle.pals_model.proofs.FirstMatches.{at_element}
use Rattle.pals_model.proofs.ShapeLaws.{component_at, message_has_rate}
use Rattle.pals_runs.specs.declared.replica_faults.VoteFault.{VoteFault}
use Rattle.triple_vote.specs.Votes.{votes}
use Rattle.triple_vote.specs.VotedComposition.{is_replicated, copies_of, receivers_in, VotedConfiguration, frame_at}
use Rattle.triple_vote.specs.VotedComposition.{received_at}
use Rattle.triple_vote.specs.VotedComposition.{for_replicas, for_receivers, first_frame, first_tuple, voted_opening}
use Rattle.triple_vote.specs.VotedComposition.{steps_in}
use Rattle.triple_vote.specs.VotedComposition.{replica_steps, tuple_at, is_fault, fault_or, own_message, sent_to}
use Rattle.triple_vote.specs.VotedComposition.{vote_of}
use Rattle.triple_vote.specs.VotedComposition.{receives_on, next_voted, voted_composition, voted_tap_by, voted_tap}
use Rattle.triple_vote.proofs.TupleVotes.{votes-first_two}
use Rattle.triple_vote.proofs.ReplicaInputs.{same_inputs}

-- ---- the places of the lists
pub replica_at : (design : DesignParts) (replicated : List Bool) (f : ℕ → ℕ → Frame) (node replica : ℕ)
    → node < length design.components → replica < copies_of replicated node
    → slice_index_or (slice_index_or (for_replicas design replicated f) node []) replica no_frame ≡ f node replica
replica_at design replicated f node replica within below =
    ap (λ (frames : List Frame). slice_index_or frames replica no_frame)
    (get_or-map_upwards (λ n. map (f n) (upwards 0 (copies_of replicated n))) (length design.components) node [] within)
    ∙ get_or-map_upwards (f node) (copies_of replicated node) replica no_frame below

pub receiver_at : (design : DesignParts) (replicated : List Bool) (f : ℕ → ℕ → List PortValue) (l target : ℕ)
    (link : Link) → slice_get design.links l ≡ Some link
    → target < copies_of replicated link.target.0
    → slice_index_or (slice_index_or (for_receivers design replicated f) l []) target [] ≡ f l target
receiver_at design replicated f l target link is below =
    ap (λ (tuples : List (List PortValue)). slice_index_or tuples target [])
    (get_or-map_upwards (λ n. map (f n) (upwards 0 (receivers_in replicated (slice_get design.links n))))
    (length design.links) l [] (slice_get_within design.links l link is))
    ∙ get_or-map_upwards (f l) (receivers_in replicated (slice_get design.links l)) target []
    (subst (λ o. target < receivers_in replicated o) (sym is) below)

-- there is a first replica
first_of : (b : Bool) → 0 < (if b then 3 else 1)
first_of true = omega arith
first_of false = omega arith

pub has_first : (replicated : List Bool) (node : ℕ) → 0 < copies_of replicated node
has_first replicated node = first_of (is_replicated replicated node)

pub has_three : (replicated : List Bool) (node replica : ℕ) → is_replicated replicated node ≡ true → replica < 3
    → replica < copies_of replicated node
has_three replicated node replica is below = subst (λ b. replica < (if b then 3 else 1)) (sym is) below

pub record Agrees (design : DesignParts) (env : Env) (replicated : List Bool) (v : VotedConfiguration)
    (round : ℕ) : Type 0 where
  pub frames : (node replica : ℕ) → node < length design.components → replica < copies_of replicated node
      → frame_at v node replica ≡ state design env node round
  pub received : (l target : ℕ) (link : Link) → slice_get design.links l ≡ Some link
      → target < copies_of replicated link.target.0
      → received_at v l target ≡ slice_index_or (comp design env round).messages l []

-- the faults of a round change no vote
abbrev pub AreOverruled : DesignParts → List Bool → List VoteFault → Type 0
AreOverruled design replicated faults =
    (l target : ℕ) (link : Link) (m : List PortValue) → slice_get design.links l ≡ Some link
    → is_replicated replicated link.source.0 ≡ true
    → length m ≡ rate_of design link.source.0
    → vote_of (λ replica. fault_or (find (is_fault l (suc replica) (suc target)) faults) m) ≡ m

module _ (design : DesignParts) (env : Env) (replicated : List Bool) (sound : IsDesign design) where
  -- ---- the beginning
  opening_agrees : Agrees design env replicated (voted_opening design replicated) 0
  opening_agrees = record {
    frames = λ node replica within below.
        (let at = component_at design node within in
        replica_at design replicated (λ n r. first_frame (slice_get design.components n)) node replica within below
        ∙ ap first_frame at.1
        ∙ sym (state_begins design env node at.0 at.1));
    received = λ l target link is below.
        receiver_at design replicated (λ n t. first_tuple design (slice_get design.links n)) l target link is below
        ∙ ap (first_tuple design) is
        ∙ sym (link_begins design env l link is);
  }

  -- ---- one round
  module _ (v : VotedConfiguration) (round : ℕ) (agrees : Agrees design env replicated v round) where
    abbrev values : List PortValue
    values = values_at env round

    same_steps : (node replica : ℕ) (c : Component) → slice_get design.components node ≡ Some c
        → replica < copies_of replicated node
        → replica_steps design values v node replica ≡ own_steps design env node round c
    unfolding input_vectors
    same_steps node replica c is below =
        let messages = (comp design env round).messages in
        ap (steps_in design values v node replica) is
        ∙ ap₂ (steps c.behaviour) (agrees.frames node replica (slice_get_within design.components node c is) below)
        (same_inputs design values v messages replica node c
        (λ l link is_link goes. agrees.received l replica link is_link
        (subst (λ n. replica < copies_of replicated n) (sym goes) below))
        ∙ sym (ap (inputs_in design values messages node) is))

    same_message : (l replica : ℕ) (link : Link) → slice_get design.links l ≡ Some link
        → replica < copies_of replicated link.source.0
        → own_message design values v link replica ≡ msg design env l round
    same_message l replica link is below =
        let rules = at_element (IsLink design) design.links l link sound.links.each is in
        let at = component_at design link.source.0 rules.source.node_is in
        let c : Component = at.0 in
        ap (λ o. cut (sent_steps design.gamma design.period (rate_in o))
        (tuple_at design values v link.source.0 link.out_port replica)) at.1
        ∙ ap (λ (s : Stepped). cut (sent_steps design.gamma design.period c.rate)
        (slice_index_or s.tuples link.out_port [])) (same_steps link.source.0 replica c at.1 below)
        ∙ sym (message_from_source design env l round link c is at.1)

    module _ (faults : List VoteFault) (overruled : AreOverruled design replicated faults) where
      three_sent : (l target : ℕ) (link : Link) → slice_get design.links l ≡ Some link
          → is_replicated replicated link.source.0 ≡ true
          → vote_of (sent_to design values faults v l link target) ≡ msg design env l round
      three_sent l target link is three =
          let m = msg design env l round in
          let own : (replica : ℕ) → replica < 3 → own_message design values v link replica ≡ m
          = λ replica below. same_message l replica link is (has_three replicated link.source.0 replica three below) in
          let sends : ℕ → List PortValue → List PortValue =
          λ replica message. fault_or (find (is_fault l (suc replica) (suc target)) faults) message in
          ap₂ (λ x y. votes (sends 0 x) (sends 1 y) (sent_to design values faults v l link target 2))
          (own 0 (omega arith)) (own 1 (omega arith))
          ∙ ap (λ z. votes (sends 0 m) (sends 1 m) (sends 2 z)) (own 2 (omega arith))
          ∙ overruled l target link m is three (message_has_rate design env l round link sound is)

      receives_by : (l target : ℕ) (link : Link) (b : Bool) → slice_get design.links l ≡ Some link
          → is_replicated replicated link.source.0 ≡ b
          → (if b then vote_of (sent_to design values faults v l link target) else own_message design values v link 0)
          ≡ msg design env l round
      receives_by l target link true is three = three_sent l target link is three
      receives_by l target link false is one = same_message l 0 link is (has_first replicated link.source.0)

      receives : (l target : ℕ) (link : Link) → slice_get design.links l ≡ Some link
          → receives_on design replicated values faults v l target (slice_get design.links l) ≡ msg design env l round
      receives l target link is =
          ap (receives_on design replicated values faults v l target) is
          ∙ receives_by l target link (is_replicated replicated link.source.0) is refl

      next_agrees : Agrees design env replicated (next_voted design replicated values faults v) (suc round)
      unfolding msg
      next_agrees = record {
        frames = λ node replica within below.
            (let at = component_at design node within in
            replica_at design replicated (λ n r. (replica_steps design values v n r).frame) node replica within below
            ∙ ap (λ (s : Stepped). s.frame) (same_steps node replica at.0 at.1 below)
            ∙ sym (state_goes_on design env node round at.0 at.1));
        received = λ l target link is below.
            receiver_at design replicated
            (λ n t. receives_on design replicated values faults v n t (slice_get design.links n)) l target
            link is below
            ∙ receives l target link is;
      }

    -- ---- root out ports
    shows_by : (tap : Tap) (c : Component) (b : Bool) → slice_get design.components tap.source.0 ≡ Some c
        → is_replicated replicated tap.source.0 ≡ b
        → (if b then vote_of (tuple_at design values v tap.source.0 tap.out_port) else tuple_at design values v
        tap.source.0 tap.out_port 0)
        ≡ slice_index_or (own_steps design env tap.source.0 round c).tuples tap.out_port []
    shows_by tap c true is three =
        let tuple = slice_index_or (own_steps design env tap.source.0 round c).tuples tap.out_port [] in
        let own : (replica : ℕ) → replica < 3 → tuple_at design values v tap.source.0 tap.out_port replica ≡ tuple
        =
        λ replica below. ap (λ (s : Stepped). slice_index_or s.tuples tap.out_port [])
        (same_steps tap.source.0 replica c is (has_three replicated tap.source.0 replica three below)) in
        ap₂ (λ x y. votes x y (tuple_at design values v tap.source.0 tap.out_port 2)) (own 0 (omega arith))
        (own 1 (omega arith))
        ∙ ap (votes tuple tuple) (own 2 (omega arith))
        ∙ votes-first_two tuple tuple refl
    shows_by tap c false is one =
        ap (λ (s : Stepped). slice_index_or s.tuples tap.out_port [])
        (same_steps tap.source.0 0 c is (has_first replicated tap.source.0))

    shows : (tap : Tap) → tap.source.0 < length design.components
        → voted_tap_by design replicated values v tap
        ≡ tuple_of (steps_of_round design env round) tap.source.0 tap.out_port
    shows tap within =
        let at = component_at design tap.source.0 within in
        shows_by tap at.0 (is_replicated replicated tap.source.0) at.1 refl
        ∙ sym (ap (λ o. tuple_in o tap.out_port) (steps_of_round-at design env tap.source.0 round at.0 at.1))

  -- ---- all rounds
  module _ (faults : ℕ → List VoteFault) (overruled : (round : ℕ) → AreOverruled design replicated (faults round)) where
    pub agrees_after : (rounds : ℕ) → Agrees design env replicated
        (voted_composition design env replicated faults rounds) rounds
    unfolding voted_composition
    agrees_after zero = opening_agrees
    agrees_after (suc round) =
        next_agrees (voted_composition design env replicated faults round) round (agrees_after round) (faults round)
        (overruled round)

    pub shows_after : (n round : ℕ) (tap : Tap) → slice_get design.taps n ≡ Some tap
        → voted_tap design env replicated faults tap round
        ≡ tuple_of (steps_of_round design env round) tap.source.0 tap.out_port
    unfolding voted_tap
    shows_after n round tap is =
        let rules = at_element (IsTap design) design.taps n tap sound.taps.each is in
        shows (voted_composition design env replicated faults round) round (agrees_after round) tap rules.source.node_is
