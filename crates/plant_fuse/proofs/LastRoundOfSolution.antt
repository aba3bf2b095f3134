-- The configuration after one more round of a solution follows from the configuration before it by one round of the
-- equations: the claim RoundsGoOn.
use Rattle.std.proofs.Common.{◌≡◌, ◌∙◌, ℕ, zero, suc, ◌+◌, ◌-◌, ◌*◌, ◌/◌, ◌%◌, ◌<◌, Bool, true, false, List, [], ◌∷◌}
use Rattle.std.proofs.Common.{length, map, take, drop, replicate, Option, Some, None, slice_get, slice_index_or, refl}
use Rattle.std.proofs.Common.{sym, ap, ap₂, subst, arith}
use Rattle.std.specs.Prelude.{if◌then◌else◌}
use Rattle.std.proofs.lemmas.Nat.{div-mul-add, mod-mul-add}
use Rattle.std.proofs.lemmas.List.{take-append-drop, length-take-le}
use Rattle.list_lemmas.proofs.ElementPositions.{get_or-replicate_constant, get_or-map_some}
use Rattle.pals_base.proofs.CycleSearchMarks.{map-same}
use Rattle.pals_base.specs.declared.basic_types.PortValue.{PortValue}
use Rattle.pals_base.specs.declared.basic_types.PortValue.TheVariants.{Absent}
use Rattle.pals_base.specs.declared.frames.Frame.{Frame}
use Rattle.pals_base.specs.PeriodBoundAndReleases.{sent_steps}
use Rattle.pals_base.specs.SingleStep.{initial}
use Rattle.pals_base.specs.StepSequences.{frame_after, outputs}
use Rattle.pals_base.specs.Tuples.{cut}
use Rattle.pals_base.specs.UpwardNumbers.{upwards}
use Rattle.pals_base.proofs.SequencesAndHaltedFrames.{frame_after-append, outputs-append}
use Rattle.pals_base.proofs.UpwardNumbers.{length-map_upwards, map_upwards_same, get_or-map_upwards}
use Rattle.pals_model.specs.declared.design.Component.{Component}
use Rattle.pals_model.specs.declared.design.Link.{Link}
use Rattle.pals_model.specs.declared.design.DesignParts.{DesignParts}
use Rattle.pals_model.specs.declared.environment.Env.{Env}
use Rattle.pals_model.specs.declared.port_sources.PortSource.{PortSource}
use Rattle.pals_model.specs.declared.port_sources.PortSource.TheVariants as source
use Rattle.pals_model.specs.ComponentInputs.{source_of, brought_tuple, values_at}
use Rattle.pals_model.specs.PortKindsAndRates.{rate_of, rate_in}
use Rattle.pals_model.specs.Composition.{Configuration, no_frame}
use Rattle.pals_model.specs.DesignRules.{IsDesign}
use Rattle.pals_model.proofs.ShapeLaws.{length-outputs}
use Rattle.pals_runs.specs.declared.plant_pairs.Pair.{Pair}
use Rattle.plant_fuse.specs.FusedComposition.{ArePairs, is_to_plant, is_to_controller, Inputs, inputs_to, outputs_in}
use Rattle.plant_fuse.specs.FusedComposition.{left_by}
use Rattle.plant_fuse.specs.FusedComposition.{left_before, round_tuple, message_on, messages_before, from_round}
use Rattle.plant_fuse.specs.FusedComposition.{value_on, value_read, vector_of, IsFused}
use Rattle.plant_fuse.specs.proof.SolutionConfiguration.{first_rounds, frame_of, fused}
use Rattle.plant_fuse.specs.proof.RoundEquations.{frame_at, outputs_from, left_in, left_before_by, brought, link_by}
use Rattle.plant_fuse.specs.proof.RoundEquations.{read_by, round_vector, IsFusedRound, tuple_from, message_in}
use Rattle.plant_fuse.specs.proof.RoundEquations.{after_round, last_round}
use Rattle.plant_fuse.specs.proof.FusedLaws.{RoundsGoOn}
use Rattle.plant_fuse.proofs.FunctionTables.{table, table_at, table_same}
use Rattle.plant_fuse.proofs.StepRanks.{IsSmall, small_rate}
use Rattle.plant_fuse.proofs.PairLinkEnds.{back_rates, forth_is, read_from_target}
use Rattle.plant_fuse.proofs.StepDependencies.{read_at, same_messages}
use Rattle.plant_fuse.proofs.SolutionPrefixes.{begun, agree}
use Rattle.plant_fuse.proofs.EquationsWithoutPairs.{shifted, behind}

-- ---- lists
drop_upwards : {X : Type 0} (f : ℕ → X) (from n m place : ℕ) → place ≡ from + n
    → drop n (map f (upwards from (n + m))) ≡ map f (upwards place m)
drop_upwards f from zero m place is =
    let none : zero + m ≡ m = omega arith in
    let same : from ≡ place = omega arith in
    ap₂ (λ a b. map f (upwards a b)) same none
drop_upwards f from (suc n) m place is =
    let size : suc n + m ≡ suc (n + m) = omega arith in
    ap (λ k. drop (suc n) (map f (upwards from k))) size ∙ drop_upwards f (suc from) n m place (omega arith)

before_suc : (design : DesignParts) (ins : Inputs) (node port n m : ℕ) → n ≡ suc m
    → left_before design ins node port n ≡ left_by design ins node port m
before_suc design ins node port n m is = ap (left_before design ins node port) is

pub fused_is : (design : DesignParts) (pairs : List Pair) (rounds : ℕ) (ins : Inputs)
    → fused design pairs rounds ins
    ≡ record { frames = table (frame_of ins) 0 design.components; messages = messages_before design pairs ins rounds }
unfolding fused
fused_is design pairs rounds ins = refl

module _ (design : DesignParts) (pairs : List Pair) (env : Env) (rounds : ℕ) (ins : Inputs) (sound : IsDesign design)
    (are : ArePairs design pairs) (is : IsFused design pairs env (suc rounds) ins) where
  abbrev pub first : Inputs
  first = first_rounds design rounds ins

  abbrev pub before : Configuration
  before = fused design pairs rounds first

  abbrev pub vectors : Inputs
  vectors = last_round design rounds ins

  abbrev ended : ℕ → Component → List (List PortValue)
  ended node c = drop (rounds * c.rate) (inputs_to ins node)

  abbrev vector : ℕ → Component → ℕ → List PortValue
  vector node c = vector_of design pairs env ins node c

  small : (node : ℕ) (c : Component) → slice_get design.components node ≡ Some c → IsSmall c.rate
  small node c is_c = subst IsSmall (ap rate_in is_c) (small_rate design node sound)

  inputs_are : (node : ℕ) (c : Component) → slice_get design.components node ≡ Some c
      → inputs_to ins node ≡ map (vector node c) (upwards 0 (suc rounds * c.rate))
  inputs_are node c is_c =
      ap (λ (v : Inputs). inputs_to v node) is ∙ read_at design pairs sound are env (suc rounds) ins node c is_c

  pub inputs_size : (node : ℕ) (c : Component) → slice_get design.components node ≡ Some c
      → length (inputs_to ins node) ≡ suc rounds * c.rate
  inputs_size node c is_c =
      ap length (inputs_are node c is_c) ∙ length-map_upwards (vector node c) 0 (suc rounds * c.rate)

  -- the vectors of the round, and the frame before it
  pub vectors_at : (node : ℕ) (c : Component) → slice_get design.components node ≡ Some c
      → inputs_to vectors node ≡ ended node c
  vectors_at node c is_c = table_at ended 0 design.components node node c [] (omega arith) is_c

  pub frame_is : (node : ℕ) (c : Component) → slice_get design.components node ≡ Some c
      → frame_at before node ≡ frame_after c.behaviour (initial c.behaviour)
      (take (rounds * c.rate) (inputs_to ins node))
  unfolding fused
  frame_is node c is_c =
      table_at (frame_of first) 0 design.components node node c no_frame (omega arith) is_c
      ∙ ap (frame_after c.behaviour (initial c.behaviour))
      (table_at (begun design pairs env rounds ins sound are is) 0 design.components node node c []
      (omega arith) is_c)

  ended_is : (node : ℕ) (c : Component) → slice_get design.components node ≡ Some c
      → ended node c ≡ map (vector node c) (upwards (rounds * c.rate) c.rate)
  ended_is node c is_c =
      let size : suc rounds * c.rate ≡ rounds * c.rate + c.rate = omega arith in
      ap (drop (rounds * c.rate)) (inputs_are node c is_c ∙ ap (λ n. map (vector node c) (upwards 0 n)) size)
      ∙ drop_upwards (vector node c) 0 (rounds * c.rate) c.rate (rounds * c.rate) (omega arith)

  messages_are : before.messages ≡ messages_before design pairs ins rounds
  unfolding fused
  messages_are =
      same_messages design pairs sound are env (rounds * 128) first ins (agree design pairs env rounds ins sound are is)
      rounds (omega arith)

  -- ---- the outputs
  left_by_o : (node port i : ℕ) (o : Option Component) → slice_get design.components node ≡ o
      → slice_index_or (slice_index_or (outputs_in o (inputs_to ins node)) (rounds * rate_in o + i) []) port Absent
      ≡ slice_index_or (slice_index_or (outputs_from o (frame_at before node) (inputs_to vectors node)) i
      []) port Absent
  left_by_o node port i None is_c = refl
  left_by_o node port i (Some c) is_c =
      let xs = inputs_to ins node in
      let n = rounds * c.rate in
      let start = initial c.behaviour in
      let size = inputs_size node c is_c in
      let front : length (outputs c.behaviour start (take n xs)) ≡ n = length-outputs c.behaviour start (take n xs)
      ∙ length-take-le n xs (let sum : suc rounds * c.rate ≡ rounds * c.rate + c.rate = omega arith in
      omega (arith, size, sum)) in
      ap (λ (out : List PortValue). slice_index_or out port Absent)
      (ap (λ ys. slice_index_or (outputs c.behaviour start ys) (n + i) []) (sym (take-append-drop n xs))
      ∙ ap (λ (os : List (List PortValue)). slice_index_or os (n + i) [])
      (outputs-append c.behaviour start (take n xs) (drop n xs))
      ∙ behind (outputs c.behaviour start (take n xs))
      (outputs c.behaviour (frame_after c.behaviour start (take n xs)) (drop n xs)) i (n + i) []
      (omega (arith, front))
      ∙ ap₂ (λ (f : Frame) ys. slice_index_or (outputs c.behaviour f ys) i []) (sym (frame_is node c is_c))
      (sym (vectors_at node c is_c)))

  same_left : (node port i place : ℕ) → place ≡ rounds * rate_of design node + i
      → left_by design ins node port place ≡ left_in design before vectors node port i
  same_left node port i place at =
      ap (left_by design ins node port) at ∙ left_by_o node port i (slice_get design.components node) refl

  -- ---- the inputs
  module _ (node : ℕ) (c : Component) (is_c : slice_get design.components node ≡ Some c) (i : ℕ)
      (below : i < c.rate) where
    abbrev step : ℕ
    step = rounds * c.rate + i

    same_brought : (s : PortSource)
        → from_round design pairs env ins c.rate step s ≡ brought design (values_at env rounds) before c.rate i s
    same_brought s =
        let quotient : step / c.rate ≡ rounds = div-mul-add rounds c.rate i below in
        let place : step % c.rate ≡ i = mod-mul-add rounds c.rate i below in
        ap₂ (λ q k. slice_index_or (brought_tuple design (values_at env q) (messages_before design pairs ins q) c.rate
        s) k
        Absent) quotient place
        ∙ ap (λ ms. slice_index_or (brought_tuple design (values_at env rounds) ms c.rate s) i Absent)
        (sym messages_are)

    module _ (number : ℕ) (link : Link) (is_link : slice_get design.links number ≡ Some link)
        (target : link.target.0 ≡ node) where
      rate_is : rate_of design link.source.0 ≡ rate_of design link.target.0 → rate_of design link.source.0 ≡ c.rate
      rate_is rates = rates ∙ ap (rate_of design) target ∙ ap rate_in is_c

      -- before the first step of the round
      last_message : (n : ℕ) → n ≡ rounds → is_to_plant pairs link ≡ true → rate_of design link.source.0 ≡ c.rate
          → left_before design ins link.source.0 link.out_port (n * c.rate)
          ≡ slice_index_or (slice_index_or (messages_before design pairs ins n) number [])
          (rate_of design link.source.0 - 1) Absent
      last_message zero at back rate =
          let none : 0 * c.rate ≡ 0 = omega arith in
          ap (left_before design ins link.source.0 link.out_port) none
          ∙ sym (ap (λ (m : List PortValue). slice_index_or m (rate_of design link.source.0 - 1) Absent)
          (get_or-map_some (λ (l : Link). replicate (rate_of design l.source.0) Absent) design.links number link []
          is_link)
          ∙ get_or-replicate_constant Absent (rate_of design link.source.0) (rate_of design link.source.0 - 1))
      last_message (suc n) at back rate =
          let some = (small node c is_c).some in
          let k = rate_of design link.source.0 in
          let product : n * k ≡ n * c.rate = ap (λ r. n * r) rate in
          let place : suc n * c.rate ≡ suc (n * k + (k - 1)) = omega (arith, some, rate, product) in
          before_suc design ins link.source.0 link.out_port (suc n * c.rate) (n * k + (k - 1)) place
          ∙ sym (ap (λ (m : List PortValue). slice_index_or m (k - 1) Absent)
          (get_or-map_some (message_on design pairs ins n) design.links number link [] is_link
          ∙ ap (λ b. if b then round_tuple design ins link.source.0 link.out_port n else if is_to_controller pairs link
          then
          round_tuple design ins link.source.0 link.out_port n else cut (sent_steps design.gamma design.period k)
          (round_tuple design ins link.source.0 link.out_port n)) back)
          ∙ get_or-map_upwards (λ j. left_by design ins link.source.0 link.out_port (n * k + j)) k (k - 1) Absent
          (omega (arith, some, rate)))

      back_at : (j : ℕ) → j ≡ i → is_to_plant pairs link ≡ true → rate_of design link.source.0 ≡ c.rate
          → left_before design ins link.source.0 link.out_port (rounds * c.rate + j)
          ≡ left_before_by design before (left_in design before vectors) number link j
      back_at zero at back rate =
          let none : rounds * c.rate + 0 ≡ rounds * c.rate = omega arith in
          ap (left_before design ins link.source.0 link.out_port) none
          ∙ last_message rounds refl back rate
          ∙ ap (λ ms. slice_index_or (slice_index_or ms number []) (rate_of design link.source.0 - 1) Absent)
          (sym messages_are)
      back_at (suc j) at back rate =
          let product : rounds * rate_of design link.source.0 ≡ rounds * c.rate = ap (λ r. rounds * r) rate in
          let place : rounds * c.rate + suc j ≡ suc (rounds * c.rate + j) = omega arith in
          before_suc design ins link.source.0 link.out_port (rounds * c.rate + suc j) (rounds * c.rate + j) place
          ∙ same_left link.source.0 link.out_port j (rounds * c.rate + j) (omega (arith, product))

      same_if : (back forth : Bool) → is_to_plant pairs link ≡ back → is_to_controller pairs link ≡ forth
          → (if back then left_before design ins link.source.0 link.out_port step else if forth then left_by design ins
          link.source.0 link.out_port step else from_round design pairs env ins c.rate step (source.Link number))
          ≡ (if back then left_before_by design before (left_in design before vectors) number link i else if forth then
          left_in design before vectors link.source.0 link.out_port i else brought design (values_at env rounds)
          before c.rate i (source.Link number))
      same_if true forth is_one other = back_at i refl is_one (rate_is (back_rates design pairs are link is_one))
      same_if false true not_one is_one =
          let product : rounds * rate_of design link.source.0 ≡ rounds * c.rate =
          ap (λ r. rounds * r) (rate_is (forth_is design pairs are link is_one).rates) in
          same_left link.source.0 link.out_port i step (omega (arith, product))
      same_if false false not_one nor_other = same_brought (source.Link number)

    same_on : (number : ℕ) (o : Option Link) → slice_get design.links number ≡ o
        → ((link : Link) → o ≡ Some link → link.target.0 ≡ node)
        → value_on design pairs env ins c.rate step number o
        ≡ link_by design pairs (values_at env rounds) before (left_in design before vectors) c.rate i number o
    same_on number None is_link target = same_brought (source.Link number)
    same_on number (Some link) is_link target =
        same_if number link is_link (target link refl) (is_to_plant pairs link) (is_to_controller pairs link) refl refl

    same_value : (s : PortSource)
        → ((number : ℕ) (link : Link) → s ≡ source.Link number → slice_get design.links number ≡ Some link
        → link.target.0 ≡ node)
        → value_read design pairs env ins c.rate step s
        ≡ read_by design pairs (values_at env rounds) before (left_in design before vectors) c.rate i s
    same_value source.Nothing target = same_brought source.Nothing
    same_value (source.Feed feed root) target = same_brought (source.Feed feed root)
    same_value (source.Link number) target =
        same_on number (slice_get design.links number) refl (λ link there. target number link refl there)

    same_values : (ports : List ℕ)
        → map (value_read design pairs env ins c.rate step) (map (λ port. source_of design node port) ports)
        ≡ map (read_by design pairs (values_at env rounds) before (left_in design before vectors) c.rate i)
        (map (λ port. source_of design node port) ports)
    same_values [] = refl
    same_values (port ∷ ports) =
        ap₂ (λ y ys. y ∷ ys) (same_value (source_of design node port)
        (λ number link here there. read_from_target design node port number link here there)) (same_values ports)

    same_vector : vector node c step ≡ round_vector design pairs (values_at env rounds) before vectors node c i
    same_vector = same_values (upwards 0 (length c.behaviour.ins))

  is_round : IsFusedRound design pairs (values_at env rounds) before vectors
  is_round =
      table_same ended (λ node c.
      map (round_vector design pairs (values_at env rounds) before vectors node c) (upwards 0 c.rate))
      design.components
      (λ node c is_c.
      ended_is node c is_c
      ∙ shifted (vector node c) (round_vector design pairs (values_at env rounds) before vectors node c)
      (rounds * c.rate) 0 c.rate
      (λ i below.
      let same : i ≡ 0 + i = omega arith in
      same_vector node c is_c i below
      ∙ ap (round_vector design pairs (values_at env rounds) before vectors node c) same))

  -- ---- the configuration after the round
  pub same_tuple : (node port : ℕ)
      → round_tuple design ins node port rounds ≡ tuple_from design before vectors node port
  same_tuple node port =
      map_upwards_same (λ i. left_by design ins node port (rounds * rate_of design node + i))
      (left_in design before vectors node port) 0 (rate_of design node)
      (λ i above below. same_left node port i (rounds * rate_of design node + i) refl)

  same_message : (link : Link) → message_on design pairs ins rounds link ≡ message_in design pairs before vectors link
  same_message link =
      ap (λ (t : List PortValue).
      if is_to_plant pairs link then t else if is_to_controller pairs link then t else cut
      (sent_steps design.gamma design.period (rate_of design link.source.0)) t)
      (same_tuple link.source.0 link.out_port)

  next_frames : table (frame_of ins) 0 design.components
      ≡ table (λ node (c : Component). frame_after c.behaviour (frame_at before node) (inputs_to vectors node)) 0
      design.components
  next_frames =
      table_same (frame_of ins)
      (λ node (c : Component). frame_after c.behaviour (frame_at before node) (inputs_to vectors node))
      design.components
      (λ node c is_c.
      let xs = inputs_to ins node in
      let n = rounds * c.rate in
      ap (frame_after c.behaviour (initial c.behaviour)) (sym (take-append-drop n xs))
      ∙ frame_after-append c.behaviour (initial c.behaviour) (take n xs) (drop n xs)
      ∙ ap₂ (λ (f : Frame) ys. frame_after c.behaviour f ys) (sym (frame_is node c is_c))
      (sym (vectors_at node c is_c)))

  is_after : fused design pairs (suc rounds) ins ≡ after_round design pairs before vectors
  is_after =
      whole ∙ ap₂ (λ (frames : List Frame) (messages : List (List PortValue)). let at : Configuration =
      record { frames = frames; messages = messages } in at)
      next_frames (map-same (message_on design pairs ins rounds) (message_in design pairs before vectors) same_message
      design.links)
    where
      whole : fused design pairs (suc rounds) ins
          ≡ record {
            frames = table (frame_of ins) 0 design.components;
            messages = messages_before design pairs ins (suc rounds);
          }
      whole = fused_is design pairs (suc rounds) ins

  pub goes_on : IsFusedRound design pairs (values_at env rounds) before vectors
      × (fused design pairs (suc rounds) ins ≡ after_round design pairs before vectors)
  goes_on = (is_round, is_after)

pub rounds_go_on : RoundsGoOn
rounds_go_on design pairs env rounds ins sound are is = goes_on design pairs env rounds ins sound are is
