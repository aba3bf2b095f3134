-- The law of the kinds of values in rounds that are voted on.
use Rattle.std.proofs.Common.{◌≡◌, ◌∙◌, ℕ, zero, suc, ◌<◌, nat_eq, ◌&&◌, ◌||◌, Bool, true, false, if◌then◌else◌, List}
use Rattle.std.proofs.Common.{[], ◌∷◌, length, map, find, slice_get, All, Option, Some, None, refl, sym, ap, subst}
use Rattle.std.proofs.Common.{arith}
use Rattle.std.specs.Prelude.{slice_index_or}
use Rattle.std.proofs.lemmas.Bool.{and_parts, eqb-true}
use Rattle.std.proofs.lemmas.List.{length-map}
use Rattle.std.proofs.lemmas.List.Elements.{All-nil, All-cons, All-head, All-tail, All-weaker, All-get_or}
use Rattle.std.proofs.lemmas.Option.{slice_get_within}
use Rattle.std.proofs.Math.ListN.{get_or-map}
use Rattle.pals_base.specs.declared.frames.Frame.{Frame}
use Rattle.pals_base.specs.declared.basic_types.PortValue.{PortValue}
use Rattle.pals_base.specs.declared.basic_types.PortValue.TheVariants.{Absent}
use Rattle.pals_base.specs.declared.behaviour.Kind.{Kind}
use Rattle.pals_base.specs.declared.behaviour.BehaviourParts.{BehaviourParts}
use Rattle.pals_base.specs.PeriodBoundAndReleases.{sent_steps}
use Rattle.pals_base.specs.SingleStep.{HasShape}
use Rattle.pals_base.specs.UpwardNumbers.{upwards}
use Rattle.pals_base.proofs.StepTermination.{starts_well}
use Rattle.pals_base.proofs.UpwardNumbers.{length-upwards, get_or-map_upwards, All-map_upwards}
use Rattle.pals_model.specs.declared.design.Component.{Component}
use Rattle.pals_model.specs.declared.design.Link.{Link}
use Rattle.pals_model.specs.declared.design.Tap.{Tap}
use Rattle.pals_model.specs.declared.design.DesignParts.{DesignParts}
use Rattle.pals_model.specs.declared.environment.Env.{Env}
use Rattle.pals_model.specs.ComponentInputs.{values_at, inputs_of}
use Rattle.pals_model.specs.PortKindsAndRates.{rate_of, out_kind}
use Rattle.pals_model.specs.Composition.{no_frame}
use Rattle.pals_model.specs.DesignRules.{IsDesign}
use Rattle.pals_model.specs.proof.ValuesFitKinds.{PortFits, TupleFits, PortsFit, FrameFits, link_kind, EnvFits}
use Rattle.pals_model.proofs.ShapeLaws.{is_behaviour, steps_keep_shape}
use Rattle.pals_model.proofs.AllElements.{index_fits, find_fits}
use Rattle.pals_model.proofs.StepsKeepKinds.{frames_fit, initial_fits}
use Rattle.pals_model.proofs.AdaptorsKeepKinds.{absent_fits}
use Rattle.pals_model.proofs.RoundsKeepKinds.{cut_fits}
use Rattle.pals_runs.specs.declared.replica_faults.VoteFault.{VoteFault}
use Rattle.triple_vote.specs.Votes.{same_port, vote, votes}
use Rattle.triple_vote.specs.VotedComposition.{is_replicated, copies_of, receivers_in, VotedConfiguration, frame_at}
use Rattle.triple_vote.specs.VotedComposition.{heard_by, first_frame}
use Rattle.triple_vote.specs.VotedComposition.{first_tuple, voted_opening, steps_in, replica_steps, tuple_at, is_fault}
use Rattle.triple_vote.specs.VotedComposition.{fault_or, own_message, sent_to, vote_of, receives_on, next_voted}
use Rattle.triple_vote.specs.VotedComposition.{voted_composition}
use Rattle.triple_vote.specs.VotedComposition.{voted_tap_by, voted_tap}
use Rattle.triple_vote.proofs.ListTablesAndSearches.{found}
use Rattle.triple_vote.proofs.ReplicaRounds.{has_first, has_three}
use Rattle.kind_laws.specs.proof.VotedKinds.{FaultFits, FaultsFit, VotesFit, ShownFit}
use Rattle.kind_laws.proofs.ElementsByIndex.{either_fits}
use Rattle.kind_laws.proofs.InPortKinds.{MessagesFit, vectors_fit}
use Rattle.kind_laws.proofs.OutPortKinds.{tuple_fits}

-- ---- the vote of three
vote_fits : (kind : Kind) (x y z : PortValue) → PortFits kind x → PortFits kind y → PortFits kind (vote x y z)
vote_fits kind x y z first second =
    either_fits (PortFits kind) (same_port x y || same_port x z) x (if same_port y z then y else Absent) first
    (either_fits (PortFits kind) (same_port y z) y Absent second tt)

votes_fit : (kind : Kind) (xs ys zs : List PortValue) → TupleFits kind xs → TupleFits kind ys
    → TupleFits kind (votes xs ys zs)
votes_fit kind [] ys zs first second = All-nil (PortFits kind)
votes_fit kind (x ∷ xs) [] zs first second = All-nil (PortFits kind)
votes_fit kind (x ∷ xs) (y ∷ ys) [] first second = All-nil (PortFits kind)
votes_fit kind (x ∷ xs) (y ∷ ys) (z ∷ zs) first second =
    All-cons (PortFits kind) (vote x y z) (votes xs ys zs)
    (vote_fits kind x y z (All-head (PortFits kind) x xs first) (All-head (PortFits kind) y ys second))
    (votes_fit kind xs ys zs (All-tail (PortFits kind) x xs first) (All-tail (PortFits kind) y ys second))

-- ---- what rounds keep
abbrev Stands : BehaviourParts → Frame → Type 0
Stands b frame = HasShape b frame × FrameFits b frame

record Keeps (design : DesignParts) (replicated : List Bool) (v : VotedConfiguration) : Type 0 where
  count : (node : ℕ) → node < length design.components
      → length (slice_index_or v.frames node []) ≡ copies_of replicated node
  frames : (node : ℕ) (c : Component) → slice_get design.components node ≡ Some c
      → All (Stands c.behaviour) (slice_index_or v.frames node [])
  received : (number : ℕ) (link : Link) → slice_get design.links number ≡ Some link
      → All (TupleFits (link_kind design link)) (slice_index_or v.received number [])

-- the lists of replicas, and of their received messages
frames_at : (design : DesignParts) (replicated : List Bool) (f : ℕ → ℕ → Frame) (node : ℕ)
    → node < length design.components
    → slice_index_or (map (λ n. map (f n) (upwards 0 (copies_of replicated n)))
    (upwards 0 (length design.components))) node []
    ≡ map (f node) (upwards 0 (copies_of replicated node))
frames_at design replicated f node within =
    get_or-map_upwards (λ n. map (f n) (upwards 0 (copies_of replicated n))) (length design.components) node [] within

count_at : (design : DesignParts) (replicated : List Bool) (f : ℕ → ℕ → Frame) (node : ℕ)
    → node < length design.components
    → length (slice_index_or
    (map (λ n. map (f n) (upwards 0 (copies_of replicated n))) (upwards 0 (length design.components))) node [])
    ≡ copies_of replicated node
count_at design replicated f node within =
    ap length (frames_at design replicated f node within)
    ∙ length-map (upwards 0 (copies_of replicated node)) (f node)
    ∙ length-upwards 0 (copies_of replicated node)

tuples_at : (design : DesignParts) (replicated : List Bool) (f : ℕ → ℕ → List PortValue) (number : ℕ)
    → number < length design.links
    → slice_index_or (map (λ l. map (f l) (upwards 0 (receivers_in replicated (slice_get design.links l))))
    (upwards 0 (length design.links))) number []
    ≡ map (f number) (upwards 0 (receivers_in replicated (slice_get design.links number)))
tuples_at design replicated f number within =
    get_or-map_upwards (λ l. map (f l) (upwards 0 (receivers_in replicated (slice_get design.links l))))
    (length design.links) number [] within

module _ (design : DesignParts) (env : Env) (replicated : List Bool) (rules : IsDesign design)
    (given : EnvFits design env) where
  -- ---- before the first round
  first_stands : (node : ℕ) (c : Component) → slice_get design.components node ≡ Some c
      → Stands c.behaviour (first_frame (slice_get design.components node))
  first_stands node c is_c =
      let sound = is_behaviour design node c rules is_c in
      subst (λ o. Stands c.behaviour (first_frame o)) (sym is_c)
      (starts_well c.behaviour sound, initial_fits c.behaviour sound)

  opening_keeps : Keeps design replicated (voted_opening design replicated)
  opening_keeps = record {
    count = λ node within. count_at design replicated (λ n r. first_frame (slice_get design.components n)) node within;
    frames = λ node c is_c.
        subst (All (Stands c.behaviour))
        (sym (frames_at design replicated (λ n r. first_frame (slice_get design.components n)) node
        (slice_get_within design.components node c is_c)))
        (All-map_upwards (Stands c.behaviour) (λ r. first_frame (slice_get design.components node)) 0
        (copies_of replicated node) (λ r above below. first_stands node c is_c));
    received = λ number link is.
        let kind = link_kind design link in
        subst (All (TupleFits kind))
        (sym (tuples_at design replicated (λ l t. first_tuple design (slice_get design.links l)) number
        (slice_get_within design.links number link is)))
        (All-map_upwards (TupleFits kind) (λ t. first_tuple design (slice_get design.links number)) 0
        (receivers_in replicated (slice_get design.links number))
        (λ t above below. subst (λ o. TupleFits kind (first_tuple design o)) (sym is)
        (absent_fits kind (rate_of design link.source.0))));
  }

  -- ---- one round
  module _ (v : VotedConfiguration) (round : ℕ) (keeps : Keeps design replicated v) where
    abbrev values : List PortValue
    values = values_at env round

    stands : (node replica : ℕ) (c : Component) → slice_get design.components node ≡ Some c
        → replica < copies_of replicated node
        → Stands c.behaviour (frame_at v node replica)
    stands node replica c is_c below =
        let within : replica < length (slice_index_or v.frames node [])
        = subst (λ n. replica < n) (sym (keeps.count node (slice_get_within design.components node c is_c))) below in
        All-get_or (Stands c.behaviour) (slice_index_or v.frames node []) replica no_frame within
        (keeps.frames node c is_c)

    heard_fit : (replica : ℕ) → MessagesFit design (heard_by replica v)
    heard_fit replica = λ number link is.
        let kind = link_kind design link in
        subst (TupleFits kind) (sym
        (get_or-map (λ (tuples : List (List PortValue)). slice_index_or tuples replica []) v.received number []))
        (index_fits (TupleFits kind) (slice_index_or v.received number []) replica [] (keeps.received number link is)
        (All-nil (PortFits kind)))

    inputs_fit : (node replica : ℕ) (c : Component) → slice_get design.components node ≡ Some c
        → All (PortsFit c.behaviour.ins) (inputs_of design values (heard_by replica v) node c)
    inputs_fit node replica c is_c =
        vectors_fit design env round (heard_by replica v) node c rules given (heard_fit replica) is_c

    steps_stand : (node replica : ℕ) (c : Component) → slice_get design.components node ≡ Some c
        → replica < copies_of replicated node
        → Stands c.behaviour (replica_steps design values v node replica).frame
    steps_stand node replica c is_c below =
        let frame = frame_at v node replica in
        let vectors = inputs_of design values (heard_by replica v) node c in
        let sound = is_behaviour design node c rules is_c in
        let before = stands node replica c is_c below in
        subst (λ o. Stands c.behaviour (steps_in design values v node replica o).frame) (sym is_c) (
          steps_keep_shape c.behaviour frame vectors sound before.0,
          frames_fit c.behaviour frame vectors sound before.0 before.1 (inputs_fit node replica c is_c),
        )

    tuple_by : (node port replica : ℕ) (o : Option Component) → slice_get design.components node ≡ o
        → replica < copies_of replicated node
        → TupleFits (out_kind o port) (slice_index_or (steps_in design values v node replica o).tuples port [])
    tuple_by node port replica None is below = All-nil (PortFits (out_kind None port))
    tuple_by node port replica (Some c) is below =
        let before = stands node replica c is below in
        tuple_fits c.behaviour (frame_at v node replica) (inputs_of design values (heard_by replica v) node c) port
        (is_behaviour design node c rules is) before.0 before.1 (inputs_fit node replica c is)

    tuple_at_fits : (node port replica : ℕ) → replica < copies_of replicated node
        → TupleFits (out_kind (slice_get design.components node) port) (tuple_at design values v node port replica)
    tuple_at_fits node port replica below = tuple_by node port replica (slice_get design.components node) refl below

    own_fits : (link : Link) (replica : ℕ) → replica < copies_of replicated link.source.0
        → TupleFits (link_kind design link) (own_message design values v link replica)
    own_fits link replica below =
        cut_fits (link_kind design link) (sent_steps design.gamma design.period (rate_of design link.source.0))
        (tuple_at design values v link.source.0 link.out_port replica)
        (tuple_at_fits link.source.0 link.out_port replica below)

    -- ---- root out ports
    shown_by : (node port : ℕ) (b : Bool) → is_replicated replicated node ≡ b
        → TupleFits (out_kind (slice_get design.components node) port)
        (if b then vote_of (tuple_at design values v node port) else tuple_at design values v node port 0)
    shown_by node port true three =
        let tuple = tuple_at design values v node port in
        votes_fit (out_kind (slice_get design.components node) port) (tuple 0) (tuple 1) (tuple 2)
        (tuple_at_fits node port 0 (has_three replicated node 0 three (omega arith)))
        (tuple_at_fits node port 1 (has_three replicated node 1 three (omega arith)))
    shown_by node port false one = tuple_at_fits node port 0 (has_first replicated node)

    shown_fits : (tap : Tap)
        → TupleFits (out_kind (slice_get design.components tap.source.0) tap.out_port)
        (voted_tap_by design replicated values v tap)
    shown_fits tap = shown_by tap.source.0 tap.out_port (is_replicated replicated tap.source.0) refl

    -- ---- messages, with the faults of the round
    module _ (faults : List VoteFault) (fit : All (FaultFits design) faults) where
      faulty_fits : (number : ℕ) (link : Link) (replica target : ℕ) (own : List PortValue) (o : Option VoteFault)
          → slice_get design.links number ≡ Some link
          → TupleFits (link_kind design link) own → find (is_fault number replica target) faults ≡ o
          → TupleFits (link_kind design link) (fault_or o own)
      faulty_fits number link replica target own None is fits none = fits
      faulty_fits number link replica target own (Some f) is fits one =
          let test = (found (is_fault number replica target) faults f one).1 in
          let here =
          eqb-true f.link.0 number
          (and_parts (nat_eq f.link.0 number)
          (nat_eq f.replica replica && nat_eq f.target_replica target) test).0 in
          find_fits (FaultFits design) (is_fault number replica target) faults f fit one link
          (ap (slice_get design.links) here ∙ is)

      sent_fits : (number target replica : ℕ) (link : Link) → slice_get design.links number ≡ Some link
          → replica < copies_of replicated link.source.0
          → TupleFits (link_kind design link) (sent_to design values faults v number link target replica)
      sent_fits number target replica link is below =
          faulty_fits number link (suc replica) (suc target) (own_message design values v link replica)
          (find (is_fault number (suc replica) (suc target)) faults) is
          (own_fits link replica below) refl

      received_by : (number target : ℕ) (link : Link) (b : Bool) → slice_get design.links number ≡ Some link
          → is_replicated replicated link.source.0 ≡ b
          → TupleFits (link_kind design link)
          (if b then vote_of (sent_to design values faults v number link target) else own_message design
          values v link 0)
      received_by number target link true is three =
          let sent = sent_to design values faults v number link target in
          votes_fit (link_kind design link) (sent 0) (sent 1) (sent 2)
          (sent_fits number target 0 link is (has_three replicated link.source.0 0 three (omega arith)))
          (sent_fits number target 1 link is (has_three replicated link.source.0 1 three (omega arith)))
      received_by number target link false is one = own_fits link 0 (has_first replicated link.source.0)

      received_fits : (number target : ℕ) (link : Link) → slice_get design.links number ≡ Some link
          → TupleFits (link_kind design link)
          (receives_on design replicated values faults v number target (slice_get design.links number))
      received_fits number target link is =
          subst (λ o. TupleFits (link_kind design link)
          (receives_on design replicated values faults v number target o)) (sym is)
          (received_by number target link (is_replicated replicated link.source.0) is refl)

      next_keeps : Keeps design replicated (next_voted design replicated values faults v)
      next_keeps = record {
        count =
            λ node within. count_at design replicated (λ n r. (replica_steps design values v n r).frame) node within;
        frames = λ node c is_c.
            subst (All (Stands c.behaviour))
            (sym (frames_at design replicated (λ n r. (replica_steps design values v n r).frame) node
            (slice_get_within design.components node c is_c)))
            (All-map_upwards (Stands c.behaviour) (λ r. (replica_steps design values v node r).frame) 0
            (copies_of replicated node)
            (λ r above below. steps_stand node r c is_c (omega (arith, below))));
        received = λ number link is.
            let kind = link_kind design link in
            let received : ℕ → ℕ → List PortValue =
            λ l t. receives_on design replicated values faults v l t (slice_get design.links l) in
            subst (All (TupleFits kind))
            (sym (tuples_at design replicated received number (slice_get_within design.links number link is)))
            (All-map_upwards (TupleFits kind) (received number) 0
            (receivers_in replicated (slice_get design.links number))
            (λ t above below. received_fits number t link is));
      }

  -- ---- all rounds
  module _ (faults : ℕ → List VoteFault) (fit : FaultsFit design faults) where
    rounds_keep : (rounds : ℕ) → Keeps design replicated (voted_composition design env replicated faults rounds)
    unfolding voted_composition
    rounds_keep zero = opening_keeps
    rounds_keep (suc round) =
        next_keeps (voted_composition design env replicated faults round) round (rounds_keep round) (faults round)
        (fit round)

pub voted_fit : VotesFit
voted_fit design env replicated faults rounds rules given fit =
    let keeps = rounds_keep design env replicated rules given faults fit rounds in
    record {
      frames = λ node c is_c.
          All-weaker (Stands c.behaviour) (FrameFits c.behaviour) (λ frame stands'. stands'.1)
          (slice_index_or (voted_composition design env replicated faults rounds).frames node [])
          (keeps.frames node c is_c);
      received = keeps.received;
    }

pub shown_fit : ShownFit
unfolding voted_tap
shown_fit design env replicated faults tap round rules given fit =
    shown_fits design env replicated rules given (voted_composition design env replicated faults round) round
    (rounds_keep design env replicated rules given faults fit round) tap
