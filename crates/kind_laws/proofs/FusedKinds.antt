-- The law that fused rounds preserve types, by the ranks of steps: the inputs of a step are outputs of lower rank.
use Rattle.std.proofs.Common.{◌≡◌, ◌∙◌, ℕ, zero, suc, ◌+◌, ◌*◌, ◌/◌, ◌%◌, ◌<◌, ◌≤◌, Bool, true, false, if◌then◌else◌}
use Rattle.std.proofs.Common.{List, [], length, map, take, slice_get, All, Option, Some, None, refl, sym, ap, subst}
use Rattle.std.proofs.Common.{arith}
use Rattle.std.specs.Option.{option_map}
use Rattle.std.specs.Prelude.{position, slice_index_or, replicate}
use Rattle.std.proofs.lemmas.List.Elements.{All-take}
use Rattle.std.proofs.lemmas.Option.{slice_get_within, get_or_from_slice_get, slice_get-map}
use Rattle.list_lemmas.proofs.ListOperations.{map-map}
use Rattle.pals_base.specs.declared.basic_types.PortValue.{PortValue}
use Rattle.pals_base.specs.declared.basic_types.PortValue.TheVariants.{Absent}
use Rattle.pals_base.specs.declared.behaviour.PortDecl.{PortDecl}
use Rattle.pals_base.specs.PeriodBoundAndReleases.{sent_steps}
use Rattle.pals_base.specs.SingleStep.{initial}
use Rattle.pals_base.specs.Tuples.{cut}
use Rattle.pals_base.specs.UpwardNumbers.{upwards}
use Rattle.pals_base.proofs.StepTermination.{starts_well}
use Rattle.pals_base.proofs.UpwardNumbers.{get_or-map_upwards, All-map_upwards}
use Rattle.pals_model.specs.declared.design.Component.{Component}
use Rattle.pals_model.specs.declared.design.Link.{Link}
use Rattle.pals_model.specs.declared.design.Tap.{Tap}
use Rattle.pals_model.specs.declared.design.DesignParts.{DesignParts}
use Rattle.pals_model.specs.declared.environment.Env.{Env}
use Rattle.pals_model.specs.declared.port_sources.PortSource.{PortSource}
use Rattle.pals_model.specs.declared.port_sources.PortSource.TheVariants as source
use Rattle.pals_model.specs.ComponentInputs.{link_goes_to, feed_goes_to, from_feed, from_link, source_of, sources_of}
use Rattle.pals_model.specs.ComponentInputs.{values_at, brought_tuple}
use Rattle.pals_model.specs.PortKindsAndRates.{rate_of, rate_in, out_kind}
use Rattle.pals_model.specs.Composition.{taps_of}
use Rattle.pals_model.specs.DesignRules.{IsDesign}
use Rattle.pals_model.specs.proof.ValuesFitKinds.{PortFits, TupleFits, PortsFit, FrameFits, link_kind, EnvFits}
use Rattle.pals_model.specs.proof.CompositionLaws.Kinds.{PartFits}
use Rattle.pals_model.proofs.ShapeLaws.{is_behaviour}
use Rattle.pals_model.proofs.AllElements.{index_fits}
use Rattle.pals_model.proofs.StepsKeepKinds.{frames_fit, initial_fits}
use Rattle.pals_model.proofs.AdaptorsKeepKinds.{absent_fits}
use Rattle.pals_model.proofs.RoundsKeepKinds.{cut_fits}
use Rattle.pals_runs.specs.declared.plant_pairs.Pair.{Pair}
use Rattle.plant_fuse.specs.FusedComposition.{ArePairs, is_to_plant, is_to_controller, Inputs, inputs_to, outputs_in}
use Rattle.plant_fuse.specs.FusedComposition.{left_by}
use Rattle.plant_fuse.specs.FusedComposition.{left_before, round_tuple, message_on, messages_before, from_round}
use Rattle.plant_fuse.specs.FusedComposition.{value_on, value_read, vector_of, frame_before, IsFused}
use Rattle.plant_fuse.specs.FusedReport.{fused_part}
use Rattle.plant_fuse.proofs.StepRanks.{is_controller, rank, rank_upto, rank_before, rank_beside, rank_in_round}
use Rattle.plant_fuse.proofs.StepRanks.{rank_from_round}
use Rattle.plant_fuse.proofs.PairLinkEnds.{back_rates, forth_is, read_from_target}
use Rattle.plant_fuse.proofs.StepDependencies.{read_at}
use Rattle.kind_laws.specs.proof.FusedKinds.{SolutionsFit}
use Rattle.kind_laws.proofs.ElementsByIndex.{upwards_at, places_all, either_fits}
use Rattle.kind_laws.proofs.InPortKinds.{MessagesFit, link_read, reading_fits}
use Rattle.kind_laws.proofs.OutPortKinds.{port_fits, output_fits}

module _ (design : DesignParts) (pairs : List Pair) (env : Env) (ins : Inputs) (rules : IsDesign design)
    (are : ArePairs design pairs) (given : EnvFits design env) where
  -- the inputs of all steps below a rank fit
  abbrev FitBelow : ℕ → Type 0
  FitBelow m =
      (node step : ℕ) (c : Component) → slice_get design.components node ≡ Some c → rank design pairs node step < m
      → PortsFit c.behaviour.ins (slice_index_or (inputs_to ins node) step [])

  module _ (m : ℕ) (below_fit : FitBelow m) where
    -- ---- the outputs
    left_in : (node port step : ℕ) (o : Option Component) → slice_get design.components node ≡ o
        → rank design pairs node step < m
        → PortFits (out_kind o port)
        (slice_index_or (slice_index_or (outputs_in o (inputs_to ins node)) step []) port Absent)
    left_in node port step None is low = tt
    left_in node port step (Some c) is low =
        let sound = is_behaviour design node c rules is in
        port_fits c.behaviour.outs (slice_index_or (outputs_in (Some c) (inputs_to ins node)) step []) port
        (output_fits c.behaviour (initial c.behaviour) (inputs_to ins node) step sound (starts_well c.behaviour sound)
        (initial_fits c.behaviour sound)
        (λ k upto. below_fit node k c is
        (let lower = rank_upto design pairs rules node k step upto in omega (arith, lower, low))))

    left_fits : (node port step : ℕ) → rank design pairs node step < m
        → PortFits (out_kind (slice_get design.components node) port) (left_by design ins node port step)
    left_fits node port step low = left_in node port step (slice_get design.components node) refl low

    before_fits : (node port step : ℕ) → ((k : ℕ) → k < step → rank design pairs node k < m)
        → PortFits (out_kind (slice_get design.components node) port) (left_before design ins node port step)
    before_fits node port zero low = tt
    before_fits node port (suc step) low = left_fits node port step (low step (omega arith))

    -- ---- messages
    tuple_fits : (node port round : ℕ) → (round + 1) * 128 ≤ m
        → TupleFits (out_kind (slice_get design.components node) port) (round_tuple design ins node port round)
    tuple_fits node port round past =
        All-map_upwards (PortFits (out_kind (slice_get design.components node) port))
        (λ i. left_by design ins node port (round * rate_of design node + i)) 0 (rate_of design node)
        (λ i above within. left_fits node port (round * rate_of design node + i)
        (let low = rank_in_round design pairs rules node round i (omega (arith, within)) in omega (arith, low, past)))

    message_fits : (round : ℕ) (link : Link) → (round + 1) * 128 ≤ m
        → TupleFits (link_kind design link) (message_on design pairs ins round link)
    message_fits round link past =
        let kind = link_kind design link in
        let tuple = round_tuple design ins link.source.0 link.out_port round in
        let sent = sent_steps design.gamma design.period (rate_of design link.source.0) in
        let fits = tuple_fits link.source.0 link.out_port round past in
        either_fits (TupleFits kind) (is_to_plant pairs link) tuple
        (if is_to_controller pairs link then tuple else cut sent tuple) fits
        (either_fits (TupleFits kind) (is_to_controller pairs link) tuple (cut sent tuple) fits
        (cut_fits kind sent tuple fits))

    messages_fit : (round : ℕ) → round * 128 ≤ m → MessagesFit design (messages_before design pairs ins round)
    messages_fit zero past number link is =
        let absent : Link → List PortValue = λ (x : Link). replicate (rate_of design x.source.0) Absent in
        subst (TupleFits (link_kind design link))
        (sym (get_or_from_slice_get (map absent design.links) number (absent link) []
        (slice_get-map absent design.links number ∙ ap (option_map absent) is)))
        (absent_fits (link_kind design link) (rate_of design link.source.0))
    messages_fit (suc round) past number link is =
        let message : Link → List PortValue = message_on design pairs ins round in
        subst (TupleFits (link_kind design link))
        (sym (get_or_from_slice_get (map message design.links) number (message link) []
        (slice_get-map message design.links number ∙ ap (option_map message) is)))
        (message_fits round link (omega (arith, past)))

    -- ---- what a step of at most that rank reads
    module _ (node : ℕ) (c : Component) (is_c : slice_get design.components node ≡ Some c) (step : ℕ)
        (low : rank design pairs node step ≤ m) where
      past_rounds : step / c.rate * 128 ≤ m
      past_rounds =
          let rate : rate_of design node ≡ c.rate = ap rate_in is_c in
          let from = rank_from_round design pairs rules node step in
          subst (λ k. step / k * 128 ≤ m) rate (omega (arith, from, low))

      module _ (p : ℕ) (port : PortDecl) (is_port : slice_get c.behaviour.ins p ≡ Some port) where
        round_fits : (link feed : Option ℕ) → position (link_goes_to node p) design.links ≡ link
            → position (feed_goes_to node p) design.feeds ≡ feed
            → PortFits port.kind (from_round design pairs env ins c.rate step (from_link link (from_feed design feed)))
        round_fits link feed is_link is_feed =
            let messages = messages_before design pairs ins (step / c.rate) in
            let tuple =
            brought_tuple design (values_at env (step / c.rate)) messages c.rate
            (from_link link (from_feed design feed)) in
            index_fits (PortFits port.kind) tuple (step % c.rate) Absent
            (reading_fits design rules node p c port is_c is_port env (step / c.rate) messages given
            (messages_fit (step / c.rate) past_rounds)
            link feed is_link is_feed) tt

        on_fits : (number : ℕ) (link : Link) (back forth : Bool) → link.target.0 ≡ node
            → link_kind design link ≡ port.kind
            → PortFits port.kind (from_round design pairs env ins c.rate step (source.Link number))
            → is_to_plant pairs link ≡ back → is_to_controller pairs link ≡ forth
            → PortFits port.kind
            (if back then left_before design ins link.source.0 link.out_port step
            else if forth then left_by design ins link.source.0 link.out_port step
            else from_round design pairs env ins c.rate step (source.Link number))
        on_fits number link true forth target kind otherwise is_one other =
            subst (λ k. PortFits k (left_before design ins link.source.0 link.out_port step)) kind
            (before_fits link.source.0 link.out_port step
            (λ k below.
            let rates = back_rates design pairs are link is_one ∙ ap (rate_of design) target in
            let lower = rank_before design pairs rules link.source.0 node k step rates below in
            omega (arith, lower, low)))
        on_fits number link false true target kind otherwise not_one is_one =
            let known = forth_is design pairs are link is_one in
            let controls = sym (ap (λ n. is_controller pairs n) target) ∙ known.controller in
            let rates = known.rates ∙ ap (rate_of design) target in
            let lower = rank_beside design pairs rules link.source.0 node step rates known.plant controls in
            subst (λ k. PortFits k (left_by design ins link.source.0 link.out_port step)) kind
            (left_fits link.source.0 link.out_port step (omega (arith, lower, low)))
        on_fits number link false false target kind otherwise not_one nor_other = otherwise

        value_fits : (link feed : Option ℕ) → position (link_goes_to node p) design.links ≡ link
            → position (feed_goes_to node p) design.feeds ≡ feed
            → PortFits port.kind (value_read design pairs env ins c.rate step (from_link link (from_feed design feed)))
        value_fits (Some number) feed is_link is_feed =
            let read = link_read design rules node p c port is_c is_port number is_link in
            let here : source_of design node p ≡ source.Link number =
            ap (λ o. from_link o (from_feed design (position (feed_goes_to node p) design.feeds))) is_link in
            let target = read_from_target design node p number read.link here read.link_is in
            subst (λ o. PortFits port.kind (value_on design pairs env ins c.rate step number o)) (sym read.link_is)
            (on_fits number read.link (is_to_plant pairs read.link) (is_to_controller pairs read.link) target read.kind
            (round_fits (Some number) feed is_link is_feed) refl refl)
        value_fits None (Some number) is_link is_feed = round_fits None (Some number) is_link is_feed
        value_fits None None is_link is_feed = round_fits None None is_link is_feed

      vector_fits : PortsFit c.behaviour.ins (vector_of design pairs env ins node c step)
      vector_fits = λ p port is_port.
          let value : PortSource → PortValue = value_read design pairs env ins c.rate step in
          let from : ℕ → PortSource = λ q. source_of design node q in
          let count = length c.behaviour.ins in
          let here : slice_index_or (map value (sources_of design node c)) p Absent ≡ value (from p) =
          ap (λ (values : List PortValue). slice_index_or values p Absent) (map-map value from (upwards 0 count))
          ∙ get_or-map_upwards (λ q. value (from q)) count p Absent (slice_get_within c.behaviour.ins p port is_port) in
          subst (PortFits port.kind) (sym here)
          (value_fits p port is_port (position (link_goes_to node p) design.links)
          (position (feed_goes_to node p) design.feeds) refl refl)

  -- ---- all ranks
  module _ (rounds : ℕ) (solves : IsFused design pairs env rounds ins) where
    next_fit : (m : ℕ) → FitBelow m → FitBelow (suc m)
    next_fit m below_fit node step c is_c low =
        let vector = vector_of design pairs env ins node c in
        let vectors = map vector (upwards 0 (rounds * c.rate)) in
        let row : inputs_to ins node ≡ vectors =
        ap (λ (v : Inputs). inputs_to v node) solves ∙ read_at design pairs rules are env rounds ins node c is_c in
        subst (λ (xs : List (List PortValue)). PortsFit c.behaviour.ins (slice_index_or xs step [])) (sym row)
        (upwards_at (PortsFit c.behaviour.ins) vector 0 (rounds * c.rate) step step [] (omega arith)
        (vector_fits m below_fit node c is_c step (omega (arith, low))) (λ p port is. tt))

    fit_below : (m : ℕ) → FitBelow m
    fit_below zero node step c is_c low = absurd (omega (arith, low))
    fit_below (suc m) node step c is_c low = next_fit m (fit_below m) node step c is_c low

    inputs_fit : (node : ℕ) (c : Component) → slice_get design.components node ≡ Some c
        → All (PortsFit c.behaviour.ins) (inputs_to ins node)
    inputs_fit node c is_c =
        places_all (PortsFit c.behaviour.ins) (inputs_to ins node) []
        (λ step. fit_below (suc (rank design pairs node step)) node step c is_c (omega arith))

    before_step : (node step : ℕ) (c : Component) → slice_get design.components node ≡ Some c
        → FrameFits c.behaviour (frame_before ins node c step)
    before_step node step c is_c =
        let sound = is_behaviour design node c rules is_c in
        frames_fit c.behaviour (initial c.behaviour) (take step (inputs_to ins node)) sound
        (starts_well c.behaviour sound) (initial_fits c.behaviour sound)
        (All-take (PortsFit c.behaviour.ins) step (inputs_to ins node) (inputs_fit node c is_c))

    all_left : (node port step : ℕ)
        → PortFits (out_kind (slice_get design.components node) port) (left_by design ins node port step)
    all_left node port step =
        left_fits (suc (rank design pairs node step)) (fit_below (suc (rank design pairs node step))) node port step
        (omega arith)

    part_fits : (node round : ℕ) (c : Component) → slice_get design.components node ≡ Some c
        → PartFits design node c (fused_part design ins round node c)
    part_fits node round c is_c = record {
      frame = before_step node (suc round * c.rate) c is_c;
      outs = λ k tap is_tap.
          let tuple : Tap → List PortValue = λ (t : Tap). round_tuple design ins node t.out_port round in
          let here : slice_index_or (map tuple (taps_of design node)) k [] ≡ tuple tap =
          get_or_from_slice_get (map tuple (taps_of design node)) k (tuple tap) []
          (slice_get-map tuple (taps_of design node) k ∙ ap (option_map tuple) is_tap) in
          subst (λ o. TupleFits (out_kind o tap.out_port) (slice_index_or (map tuple (taps_of design node)) k [])) is_c
          (subst (TupleFits (out_kind (slice_get design.components node) tap.out_port)) (sym here)
          (All-map_upwards (PortFits (out_kind (slice_get design.components node) tap.out_port))
          (λ i. left_by design ins node tap.out_port (round * rate_of design node + i)) 0 (rate_of design node)
          (λ i above within. all_left node tap.out_port (round * rate_of design node + i))));
    }

pub solutions_fit : SolutionsFit
solutions_fit design pairs env rounds ins rules are given solves = record {
  inputs = inputs_fit design pairs env ins rules are given rounds solves;
  frames = before_step design pairs env ins rules are given rounds solves;
  left = all_left design pairs env ins rules are given rounds solves;
  parts = part_fits design pairs env ins rules are given rounds solves;
}
