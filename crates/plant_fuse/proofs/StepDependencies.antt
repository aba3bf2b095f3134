-- What a step reads depends only on steps of lower rank.
use Rattle.std.proofs.Common.{◌≡◌, ◌∙◌, ℕ, zero, suc, ◌+◌, ◌*◌, ◌/◌, ◌%◌, ◌<◌, ◌≤◌, Bool, true, false, List, [], ◌∷◌}
use Rattle.std.proofs.Common.{length, map, Option, Some, None, slice_get, slice_index_or, refl, sym, ap, ap₂, subst}
use Rattle.std.proofs.Common.{arith}
use Rattle.std.specs.Prelude.{if◌then◌else◌}
use Rattle.std.proofs.lemmas.Option.{same_Some}
use Rattle.pals_base.proofs.CycleSearchMarks.{map-same}
use Rattle.pals_base.proofs.UpwardNumbers.{map_upwards_same}
use Rattle.pals_base.specs.declared.basic_types.PortValue.{PortValue}
use Rattle.pals_base.specs.declared.basic_types.PortValue.TheVariants.{Absent}
use Rattle.pals_base.specs.declared.frames.Frame.{Frame}
use Rattle.pals_base.specs.declared.behaviour.BehaviourParts.{BehaviourParts}
use Rattle.pals_base.specs.PeriodBoundAndReleases.{sent_steps}
use Rattle.pals_base.specs.SingleStep.{fire, initial}
use Rattle.pals_base.specs.StepSequences.{outputs}
use Rattle.pals_base.specs.Tuples.{cut}
use Rattle.pals_base.specs.UpwardNumbers.{upwards}
use Rattle.pals_model.specs.declared.design.Component.{Component}
use Rattle.pals_model.specs.declared.design.Link.{Link}
use Rattle.pals_model.specs.declared.design.DesignParts.{DesignParts}
use Rattle.pals_model.specs.declared.environment.Env.{Env}
use Rattle.pals_model.specs.declared.port_sources.PortSource.{PortSource}
use Rattle.pals_model.specs.declared.port_sources.PortSource.TheVariants as source
use Rattle.pals_model.specs.ComponentInputs.{source_of, brought_tuple, values_at}
use Rattle.pals_model.specs.PortKindsAndRates.{rate_of, rate_in}
use Rattle.pals_model.specs.DesignRules.{IsDesign}
use Rattle.pals_runs.specs.declared.plant_pairs.Pair.{Pair}
use Rattle.plant_fuse.specs.FusedComposition.{ArePairs, is_to_plant, is_to_controller, Inputs, inputs_to, outputs_in}
use Rattle.plant_fuse.specs.FusedComposition.{left_by}
use Rattle.plant_fuse.specs.FusedComposition.{left_before, round_tuple, message_on, messages_before, from_round}
use Rattle.plant_fuse.specs.FusedComposition.{value_on, value_read, vector_of, reads}
use Rattle.plant_fuse.proofs.FunctionTables.{get_upwards_same, table_at, table_past, table_same}
use Rattle.plant_fuse.proofs.StepRanks.{is_controller, rank, rank_upto, rank_before, rank_beside, rank_in_round}
use Rattle.plant_fuse.proofs.StepRanks.{rank_from_round, rank_of_rounds}
use Rattle.plant_fuse.proofs.PairLinkEnds.{back_rates, forth_is, read_from_target}

-- ---- outputs
-- the output of a step depends on the vectors up to it
pub same_output : (b : BehaviourParts) (frame : Frame) (xs ys : List (List PortValue)) (step : ℕ)
    → ((k : ℕ) → k ≤ step → slice_get xs k ≡ slice_get ys k)
    → slice_index_or (outputs b frame xs) step [] ≡ slice_index_or (outputs b frame ys) step []
same_output b frame [] [] step same = refl
same_output b frame [] (y ∷ ys) step same = absurd (let first = same 0 (omega arith) in cc)
same_output b frame (x ∷ xs) [] step same = absurd (let first = same 0 (omega arith) in cc)
same_output b frame (x ∷ xs) (y ∷ ys) zero same =
    let one : x ≡ y = same_Some x y (same 0 (omega arith)) in
    ap (λ v. (fire b frame v).outs) one
same_output b frame (x ∷ xs) (y ∷ ys) (suc step) same =
    let one : x ≡ y = same_Some x y (same 0 (omega arith)) in
    same_output b (fire b frame x).frame xs ys step (λ k below. same (suc k) (omega arith))
    ∙ ap (λ v. slice_index_or (outputs b (fire b frame v).frame ys) step []) one

same_output_in : (o : Option Component) (xs ys : List (List PortValue)) (step : ℕ)
    → ((k : ℕ) → k ≤ step → slice_get xs k ≡ slice_get ys k)
    → slice_index_or (outputs_in o xs) step [] ≡ slice_index_or (outputs_in o ys) step []
same_output_in None xs ys step same = refl
same_output_in (Some c) xs ys step same = same_output c.behaviour (initial c.behaviour) xs ys step same

-- ---- inputs that agree below a rank
pub record Agree (design : DesignParts) (pairs : List Pair) (m : ℕ) (v w : Inputs) : Type 0 where
  pub same : (node step : ℕ) → rank design pairs node step < m
      → slice_get (inputs_to v node) step ≡ slice_get (inputs_to w node) step

module _ (design : DesignParts) (pairs : List Pair) (sound : IsDesign design) (are : ArePairs design pairs)
    (env : Env) where
  module _ (m : ℕ) (v w : Inputs) (agree : Agree design pairs m v w) where
    same_left : (node port step : ℕ) → rank design pairs node step < m
        → left_by design v node port step ≡ left_by design w node port step
    same_left node port step low =
        ap (λ (out : List PortValue). slice_index_or out port Absent)
        (same_output_in (slice_get design.components node) (inputs_to v node) (inputs_to w node) step
        (λ k below. agree.same node k
        (let lower = rank_upto design pairs sound node k step below in omega (arith, lower, low))))

    pub same_tuple : (node port round : ℕ) → (round + 1) * 128 ≤ m
        → round_tuple design v node port round ≡ round_tuple design w node port round
    same_tuple node port round past =
        map_upwards_same (λ i. left_by design v node port (round * rate_of design node + i))
        (λ i. left_by design w node port (round * rate_of design node + i)) 0 (rate_of design node)
        (λ i above below. same_left node port (round * rate_of design node + i)
        (let low = rank_in_round design pairs sound node round i (omega (arith, below)) in omega (arith, low, past)))

    same_message : (round : ℕ) (link : Link) → (round + 1) * 128 ≤ m
        → message_on design pairs v round link ≡ message_on design pairs w round link
    same_message round link past =
        ap (λ (t : List PortValue).
        if is_to_plant pairs link then t else if is_to_controller pairs link then t else cut
        (sent_steps design.gamma design.period (rate_of design link.source.0)) t)
        (same_tuple link.source.0 link.out_port round past)

    pub same_messages : (round : ℕ) → round * 128 ≤ m
        → messages_before design pairs v round ≡ messages_before design pairs w round
    same_messages zero past = refl
    same_messages (suc round) past =
        map-same (message_on design pairs v round) (message_on design pairs w round)
        (λ link. same_message round link (omega (arith, past))) design.links

    same_from_round : (rate step : ℕ) (source : PortSource) → step / rate * 128 ≤ m
        → from_round design pairs env v rate step source ≡ from_round design pairs env w rate step source
    same_from_round rate step source past =
        ap (λ messages. slice_index_or (brought_tuple design (values_at env (step / rate)) messages rate source)
        (step % rate)
        Absent) (same_messages (step / rate) past)

    same_before : (node port step : ℕ) → ((k : ℕ) → k < step → rank design pairs node k < m)
        → left_before design v node port step ≡ left_before design w node port step
    same_before node port zero low = refl
    same_before node port (suc step) low = same_left node port step (low step (omega arith))

    module _ (node : ℕ) (c : Component) (is : slice_get design.components node ≡ Some c) (step : ℕ)
        (low : rank design pairs node step ≤ m) where
      rate_is : rate_of design node ≡ c.rate
      rate_is = ap rate_in is

      past_rounds : step / c.rate * 128 ≤ m
      past_rounds =
          let from = rank_from_round design pairs sound node step in
          subst (λ k. step / k * 128 ≤ m) rate_is (omega (arith, from, low))

      same_if : (number : ℕ) (link : Link) → link.target.0 ≡ node → (back forth : Bool) → is_to_plant pairs link ≡ back
          → is_to_controller pairs link ≡ forth
          → (if back then left_before design v link.source.0 link.out_port step else if forth then left_by design v
          link.source.0 link.out_port step else from_round design pairs env v c.rate step (source.Link number))
          ≡ (if back then left_before design w link.source.0 link.out_port step else if forth then left_by design w
          link.source.0 link.out_port step else from_round design pairs env w c.rate step (source.Link number))
      same_if number link target true forth is_one other =
          same_before link.source.0 link.out_port step
          (λ k below.
          let rates = back_rates design pairs are link is_one ∙ ap (rate_of design) target in
          let lower = rank_before design pairs sound link.source.0 node k step rates below in
          omega (arith, lower, low))
      same_if number link target false true not_one is_one =
          let known = forth_is design pairs are link is_one in
          let lower =
          rank_beside design pairs sound link.source.0 node step (known.rates ∙ ap (rate_of design) target)
          known.plant (sym (ap (λ n. is_controller pairs n) target) ∙ known.controller) in
          same_left link.source.0 link.out_port step (omega (arith, lower, low))
      same_if number link target false false not_one nor_other =
          same_from_round c.rate step (source.Link number) past_rounds

      same_on : (number : ℕ) (o : Option Link) → ((link : Link) → o ≡ Some link → link.target.0 ≡ node)
          → value_on design pairs env v c.rate step number o ≡ value_on design pairs env w c.rate step number o
      same_on number None target = same_from_round c.rate step (source.Link number) past_rounds
      same_on number (Some link) target =
          same_if number link (target link refl) (is_to_plant pairs link) (is_to_controller pairs link) refl refl

      same_value : (s : PortSource)
          → ((number : ℕ) (link : Link) → s ≡ source.Link number → slice_get design.links number ≡ Some link
          → link.target.0 ≡ node)
          → value_read design pairs env v c.rate step s ≡ value_read design pairs env w c.rate step s
      same_value source.Nothing target = same_from_round c.rate step source.Nothing past_rounds
      same_value (source.Feed feed root) target = same_from_round c.rate step (source.Feed feed root) past_rounds
      same_value (source.Link number) target =
          same_on number (slice_get design.links number) (λ link there. target number link refl there)

      same_values : (ports : List ℕ)
          → map (value_read design pairs env v c.rate step) (map (λ port. source_of design node port) ports)
          ≡ map (value_read design pairs env w c.rate step) (map (λ port. source_of design node port) ports)
      same_values [] = refl
      same_values (port ∷ ports) =
          ap₂ (λ y ys. y ∷ ys) (same_value (source_of design node port)
          (λ number link here there. read_from_target design node port number link here there)) (same_values ports)

      same_vector : vector_of design pairs env v node c step ≡ vector_of design pairs env w node c step
      same_vector = same_values (upwards 0 (length c.behaviour.ins))

    vectors_same : (node : ℕ) (c : Component) → slice_get design.components node ≡ Some c → (step : ℕ)
        → rank design pairs node step ≤ m
        → vector_of design pairs env v node c step ≡ vector_of design pairs env w node c step
    vectors_same node c is step low = same_vector node c is step low

    -- if all steps of the first rounds have a lower rank, all their inputs are the same
    pub same_reads : (rounds : ℕ) → rounds * 128 ≤ m → reads design pairs env rounds v ≡ reads design pairs env rounds w
    unfolding reads
    same_reads rounds past =
        table_same (λ node c. map (vector_of design pairs env v node c) (upwards 0 (rounds * c.rate)))
        (λ node c. map (vector_of design pairs env w node c) (upwards 0 (rounds * c.rate))) design.components
        (λ node c is.
        map_upwards_same (vector_of design pairs env v node c) (vector_of design pairs env w node c) 0 (rounds * c.rate)
        (λ step above below.
        let rate : rate_of design node ≡ c.rate = ap rate_in is in
        let inside : step < rounds * rate_of design node =
        subst (λ k. step < rounds * k) (sym rate) (omega (arith, below)) in
        let lower = rank_of_rounds design pairs sound node rounds step inside in
        vectors_same node c is step (omega (arith, lower, past))))

  -- ---- the next rank
  module _ (rounds : ℕ) where
    abbrev pub row : Inputs → ℕ → Component → List (List PortValue)
    row ins node c = map (vector_of design pairs env ins node c) (upwards 0 (rounds * c.rate))

    pub read_at : (ins : Inputs) (node : ℕ) (c : Component) → slice_get design.components node ≡ Some c
        → inputs_to (reads design pairs env rounds ins) node ≡ row ins node c
    unfolding reads
    read_at ins node c is = table_at (row ins) 0 design.components node node c [] (omega arith) is

    pub read_past : (ins : Inputs) (node : ℕ) → slice_get design.components node ≡ None
        → inputs_to (reads design pairs env rounds ins) node ≡ []
    unfolding reads
    read_past ins node is = table_past (row ins) 0 design.components node [] is

    same_by : (m : ℕ) (v w : Inputs) → Agree design pairs m v w → (node step : ℕ) → rank design pairs node step < suc m
        → (o : Option Component) → slice_get design.components node ≡ o
        → slice_get (inputs_to (reads design pairs env rounds v) node) step
        ≡ slice_get (inputs_to (reads design pairs env rounds w) node) step
    same_by m v w agree node step low None is =
        ap (λ (xs : List (List PortValue)). slice_get xs step) (read_past v node is ∙ sym (read_past w node is))
    same_by m v w agree node step low (Some c) is =
        ap (λ (xs : List (List PortValue)). slice_get xs step) (read_at v node c is)
        ∙ get_upwards_same (vector_of design pairs env v node c) (vector_of design pairs env w node c) (rounds * c.rate)
        step (vectors_same m v w agree node c is step (omega (arith, low)))
        ∙ sym (ap (λ (xs : List (List PortValue)). slice_get xs step) (read_at w node c is))

    pub next_agree : (m : ℕ) (v w : Inputs) → Agree design pairs m v w
        → Agree design pairs (suc m) (reads design pairs env rounds v) (reads design pairs env rounds w)
    next_agree m v w agree = record {
      same = λ node step low. same_by m v w agree node step low (slice_get design.components node) refl;
    }
