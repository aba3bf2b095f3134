-- Without pairs the equations of fused composition are the equations of the composition: the claim WithoutPairs.
use Rattle.std.proofs.Common.{◌≡◌, ◌∙◌, ℕ, zero, suc, ◌+◌, ◌-◌, ◌*◌, ◌/◌, ◌%◌, ◌<◌, ◌≤◌, List, [], ◌∷◌, ◌++◌, length}
use Rattle.std.proofs.Common.{map, Option, Some, None, slice_get, slice_index_or, refl, sym, ap, ap₂, subst, arith}
use Rattle.std.proofs.lemmas.Nat.{mul-le, div-mul-add, mod-mul-add}
use Rattle.std.proofs.lemmas.List.{map-append}
use Rattle.std.proofs.lemmas.List.Elements.{All-nil}
use Rattle.std.proofs.lemmas.Option.{get_or_from_slice_get}
use Rattle.pals_base.specs.declared.basic_types.PortValue.{PortValue}
use Rattle.pals_base.specs.declared.basic_types.PortValue.TheVariants.{Absent}
use Rattle.pals_base.specs.declared.frames.Frame.{Frame}
use Rattle.pals_base.specs.PeriodBoundAndReleases.{sent_steps}
use Rattle.pals_base.specs.SingleStep.{initial}
use Rattle.pals_base.specs.StepSequences.{Stepped, outputs, frame_after}
use Rattle.pals_base.specs.Tuples.{cut, column}
use Rattle.pals_base.specs.UpwardNumbers.{upwards}
use Rattle.pals_base.proofs.SequencesAndHaltedFrames.{frame_after-append, outputs-append}
use Rattle.pals_base.proofs.ColumnsAndCutTuples.{slice_get-columns}
use Rattle.pals_base.proofs.UpwardNumbers.{length-map_upwards}
use Rattle.pals_model.specs.declared.design.Component.{Component}
use Rattle.pals_model.specs.declared.design.Link.{Link}
use Rattle.pals_model.specs.declared.design.DesignParts.{DesignParts}
use Rattle.pals_model.specs.declared.environment.Env.{Env}
use Rattle.pals_model.specs.declared.port_sources.PortSource.{PortSource}
use Rattle.pals_model.specs.declared.port_sources.PortSource.TheVariants as source
use Rattle.pals_model.specs.ComponentInputs.{sources_of, brought_tuple, values_at, input_vectors, inputs_in}
use Rattle.pals_model.specs.PortKindsAndRates.{rate_of, rate_in, outs_in}
use Rattle.pals_model.specs.Composition.{Configuration, comp, state, no_frame, steps_of_round, message_of, tuple_in}
use Rattle.pals_model.specs.proof.CompositionLaws.{own_steps}
use Rattle.pals_model.specs.DesignRules.{IsDesign, IsLink}
use Rattle.pals_model.proofs.CompositionLaws.{one_frame_each, state_begins, state_goes_on, steps_of_round-at}
use Rattle.pals_model.proofs.ShapeLaws.{component_at, length-outputs}
use Rattle.pals_model.proofs.FirstMatches.{at_element}
use Rattle.plant_fuse.specs.FusedComposition.{IsPair, ArePairs, Inputs, inputs_to, outputs_in, left_by, round_tuple}
use Rattle.plant_fuse.specs.FusedComposition.{message_on, messages_before, from_round, value_on, value_read, vector_of}
use Rattle.plant_fuse.specs.FusedComposition.{IsFused}
use Rattle.plant_fuse.specs.proof.SolutionConfiguration.{frame_of, fused}
use Rattle.plant_fuse.specs.proof.FusedLaws.{WithoutPairs}
use Rattle.plant_fuse.proofs.FunctionTables.{table}
use Rattle.plant_fuse.proofs.StepRanks.{IsSmall, small_rate}
use Rattle.plant_fuse.proofs.StepDependencies.{read_at}

-- ---- lists
upwards-append : (from m n : ℕ) → upwards from (m + n) ≡ upwards from m ++ upwards (from + m) n
upwards-append from zero n =
    ap₂ upwards (let same : from ≡ from + zero = omega arith in same) (let none : zero + n ≡ n = omega arith in none)
upwards-append from (suc m) n =
    let size : suc m + n ≡ suc (m + n) = omega arith in
    let place : suc from + m ≡ from + suc m = omega arith in
    ap (upwards from) size ∙ ap (λ ks. from ∷ ks)
    (upwards-append (suc from) m n ∙ ap (λ k. upwards (suc from) m ++ upwards k n) place)

pub shifted : {X : Type 0} (f g : ℕ → X) (from to n : ℕ) → ((i : ℕ) → i < n → f (from + i) ≡ g (to + i))
    → map f (upwards from n) ≡ map g (upwards to n)
shifted f g from to zero same = refl
shifted f g from to (suc n) same =
    let a : from + 0 ≡ from = omega arith in
    let b : to + 0 ≡ to = omega arith in
    ap₂ (λ x xs. x ∷ xs) (sym (ap f a) ∙ same 0 (omega arith) ∙ ap g b)
    (shifted f g (suc from) (suc to) n
    (λ i below.
    let c : suc from + i ≡ from + suc i = omega arith in
    let d : to + suc i ≡ suc to + i = omega arith in
    ap f c ∙ same (suc i) (omega arith) ∙ ap g d))

pub by_place : {X Y : Type 0} (f : X → Y) (e : X) (xs : List X) (h : ℕ → Y) (from : ℕ)
    → ((i : ℕ) → i < length xs → h (from + i) ≡ f (slice_index_or xs i e)) → map h (upwards from (length xs)) ≡ map f xs
by_place f e [] h from same = refl
by_place f e (x ∷ xs) h from same =
    let a : from + 0 ≡ from = omega arith in
    ap₂ (λ y ys. y ∷ ys) (sym (ap h a) ∙ same 0 (omega arith))
    (by_place f e xs h (suc from)
    (λ i below. let c : suc from + i ≡ from + suc i = omega arith in ap h c ∙ same (suc i) (omega arith)))

in_front : {X : Type 0} (xs ys : List X) (i : ℕ) (d : X) → i < length xs
    → slice_index_or (xs ++ ys) i d ≡ slice_index_or xs i d
in_front [] ys i d below = absurd (omega arith)
in_front (x ∷ xs) ys zero d below = refl
in_front (x ∷ xs) ys (suc i) d below = in_front xs ys i d (omega arith)

pub behind : {X : Type 0} (xs ys : List X) (i k : ℕ) (d : X) → k ≡ length xs + i
    → slice_index_or (xs ++ ys) k d ≡ slice_index_or ys i d
behind [] ys i k d is = let same : k ≡ i = omega arith in ap (λ n. slice_index_or ys n d) same
behind (x ∷ xs) ys i zero d is = absurd (omega arith)
behind (x ∷ xs) ys i (suc k) d is = behind xs ys i k d (omega arith)

table_is : {X Y : Type 0} (f : ℕ → X → Y) (from : ℕ) (xs : List X) (ys : List Y) (d : Y) → length ys ≡ length xs
    → ((k place : ℕ) (x : X) → place ≡ from + k → slice_get xs k ≡ Some x → f place x ≡ slice_index_or ys k d)
    → table f from xs ≡ ys
table_is f from [] [] d size same = refl
table_is f from [] (y ∷ ys) d size same = absurd (omega arith)
table_is f from (x ∷ xs) [] d size same = absurd (omega arith)
table_is f from (x ∷ xs) (y ∷ ys) d size same =
    ap₂ (λ z zs. z ∷ zs) (same 0 from x (omega arith) refl)
    (table_is f (from + 1) xs ys d (omega arith) (λ k place z at is. same (suc k) place z (omega arith) is))

pub no_pairs : (design : DesignParts) → ArePairs design []
no_pairs design = record { each = All-nil (IsPair design); apart = λ i j d less within. absurd (omega arith) }

-- ---- the inputs
value_alone : (design : DesignParts) (env : Env) (ins : Inputs) (rate step : ℕ) (s : PortSource)
    → value_read design [] env ins rate step s ≡ from_round design [] env ins rate step s
value_alone design env ins rate step source.Nothing = refl
value_alone design env ins rate step (source.Feed input_vectors root) = refl
value_alone design env ins rate step (source.Link number) = by (slice_get design.links number)
  where
    by : (o : Option Link) → value_on design [] env ins rate step number o
        ≡ from_round design [] env ins rate step (source.Link number)
    by None = refl
    by (Some link) = refl

values_are : (f : PortSource → PortValue) (g : PortSource → List PortValue) (i : ℕ)
    → ((s : PortSource) → f s ≡ slice_index_or (g s) i Absent) → (ss : List PortSource) → map f ss ≡ column i (map g ss)
values_are f g i same [] = refl
values_are f g i same (s ∷ ss) = ap₂ (λ x xs. x ∷ xs) (same s) (values_are f g i same ss)

module _ (design : DesignParts) (env : Env) (rounds : ℕ) (ins : Inputs) (sound : IsDesign design)
    (is : IsFused design [] env rounds ins) where
  abbrev pub vector : ℕ → Component → ℕ → List PortValue
  vector node c step = vector_of design [] env ins node c step

  pub inputs_are : (node : ℕ) (c : Component) → slice_get design.components node ≡ Some c
      → inputs_to ins node ≡ map (vector node c) (upwards 0 (rounds * c.rate))
  inputs_are node c is_c =
      ap (λ xs. inputs_to xs node) is ∙ read_at design [] sound (no_pairs design) env rounds ins node c is_c

  small : (node : ℕ) (c : Component) → slice_get design.components node ≡ Some c → IsSmall c.rate
  small node c is_c = subst IsSmall (ap rate_in is_c) (small_rate design node sound)

  abbrev pub SameMessages : ℕ → Type 0
  SameMessages round = messages_before design [] ins round ≡ (comp design env round).messages

  abbrev pub SameFrames : ℕ → Type 0
  SameFrames round = (node : ℕ) (c : Component) → slice_get design.components node ≡ Some c
      → frame_after c.behaviour (initial c.behaviour) (map (vector node c) (upwards 0 (round * c.rate)))
      ≡ state design env node round

  module _ (round : ℕ) (messages : SameMessages round) (frames : SameFrames round) (node : ℕ) (c : Component)
      (is_c : slice_get design.components node ≡ Some c) where
    abbrev pub own_feed : List (List PortValue)
    own_feed = input_vectors design env (comp design env round).messages node round

    vector_is : (i : ℕ) → i < c.rate
        → vector node c (round * c.rate + i)
        ≡ column i (map (brought_tuple design (values_at env round) (comp design env round).messages c.rate)
        (sources_of design node c))
    vector_is i below =
        let step = round * c.rate + i in
        let quotient : step / c.rate ≡ round = div-mul-add round c.rate i below in
        let place : step % c.rate ≡ i = mod-mul-add round c.rate i below in
        values_are (value_read design [] env ins c.rate step)
        (brought_tuple design (values_at env round) (comp design env round).messages c.rate) i
        (λ s.
        value_alone design env ins c.rate step s
        ∙ ap₂ (λ q k. slice_index_or (brought_tuple design (values_at env q) (messages_before design [] ins q) c.rate
        s) k
        Absent) quotient place
        ∙ ap (λ ms. slice_index_or (brought_tuple design (values_at env round) ms c.rate s) i Absent) messages)
        (sources_of design node c)

    round_vectors : map (vector node c) (upwards (round * c.rate) c.rate) ≡ own_feed
    unfolding input_vectors
    round_vectors =
        shifted (vector node c) (λ at.
        column at (map (brought_tuple design (values_at env round) (comp design env round).messages c.rate)
        (sources_of design node c))) (round * c.rate) 0 c.rate
        (λ i below.
        let same : i ≡ 0 + i = omega arith in
        vector_is i below ∙ ap (λ at.
        column at (map (brought_tuple design (values_at env round) (comp design env round).messages c.rate)
        (sources_of design node c))) same)
        ∙ sym (ap (inputs_in design (values_at env round) (comp design env round).messages node) is_c)

    first_rounds : map (vector node c) (upwards 0 (suc round * c.rate))
        ≡ map (vector node c) (upwards 0 (round * c.rate)) ++ own_feed
    first_rounds =
        let size : suc round * c.rate ≡ round * c.rate + c.rate = omega arith in
        let place : 0 + round * c.rate ≡ round * c.rate = omega arith in
        ap (λ n. map (vector node c) (upwards 0 n)) size
        ∙ ap (map (vector node c))
        (upwards-append 0 (round * c.rate) c.rate ∙ ap (λ n. upwards 0 (round * c.rate) ++ upwards n c.rate) place)
        ∙ map-append (vector node c) (upwards 0 (round * c.rate)) (upwards (round * c.rate) c.rate)
        ∙ ap (λ xs. map (vector node c) (upwards 0 (round * c.rate)) ++ xs) round_vectors

    next_frame : frame_after c.behaviour (initial c.behaviour) (map (vector node c) (upwards 0 (suc round * c.rate)))
        ≡ state design env node (suc round)
    next_frame =
        ap (frame_after c.behaviour (initial c.behaviour)) first_rounds
        ∙ frame_after-append c.behaviour (initial c.behaviour)
        (map (vector node c) (upwards 0 (round * c.rate))) own_feed
        ∙ ap (λ (f : Frame). frame_after c.behaviour f own_feed) (frames node c is_c)
        ∙ sym (state_goes_on design env node round c is_c)

    -- the outputs of the round
    abbrev pub left : List (List PortValue)
    left = outputs c.behaviour (state design env node round) own_feed

    feed_size : length own_feed ≡ c.rate
    feed_size = ap length (sym round_vectors) ∙ length-map_upwards (vector node c) (round * c.rate) c.rate

    left_size : length left ≡ c.rate
    left_size = length-outputs c.behaviour (state design env node round) own_feed ∙ feed_size

    module _ (inside : round < rounds) where
      abbrev rest : List (List PortValue)
      rest = map (vector node c) (upwards (suc round * c.rate) (rounds * c.rate - suc round * c.rate))

      all_inputs : inputs_to ins node ≡ (map (vector node c) (upwards 0 (round * c.rate)) ++ own_feed) ++ rest
      all_inputs =
          let most : suc round * c.rate ≤ rounds * c.rate =
          mul-le (suc round) c.rate rounds c.rate (omega arith) (omega arith) in
          let size : rounds * c.rate ≡ suc round * c.rate + (rounds * c.rate - suc round * c.rate) =
          omega (arith, most) in
          let place : 0 + suc round * c.rate ≡ suc round * c.rate = omega arith in
          inputs_are node c is_c
          ∙ ap (λ n. map (vector node c) (upwards 0 n)) size
          ∙ ap (map (vector node c))
          (upwards-append 0 (suc round * c.rate) (rounds * c.rate - suc round * c.rate)
          ∙ ap (λ n. upwards 0 (suc round * c.rate) ++ upwards n (rounds * c.rate - suc round * c.rate)) place)
          ∙ map-append (vector node c) (upwards 0 (suc round * c.rate))
          (upwards (suc round * c.rate) (rounds * c.rate - suc round * c.rate))
          ∙ ap (λ xs. xs ++ rest) first_rounds

      left_at : (i : ℕ) → i < c.rate
          → slice_index_or (outputs c.behaviour (initial c.behaviour) (inputs_to ins node)) (round * c.rate + i) []
          ≡ slice_index_or left i []
      left_at i below =
          let before = map (vector node c) (upwards 0 (round * c.rate)) in
          let start = initial c.behaviour in
          let both = before ++ own_feed in
          let first_size : length (outputs c.behaviour start before) ≡ round * c.rate =
          length-outputs c.behaviour start before ∙ length-map_upwards (vector node c) 0 (round * c.rate) in
          let split : outputs c.behaviour start both ≡ outputs c.behaviour start before ++ left =
          outputs-append c.behaviour start before own_feed
          ∙ ap (λ (f : Frame). outputs c.behaviour start before ++ outputs c.behaviour f own_feed)
          (frames node c is_c) in
          let both_size : length (outputs c.behaviour start both) ≡ round * c.rate + c.rate =
          length-outputs c.behaviour start both ∙ ap length (sym first_rounds)
          ∙ length-map_upwards (vector node c) 0 (suc round * c.rate)
          ∙ (let sum : suc round * c.rate ≡ round * c.rate + c.rate = omega arith in sum) in
          ap (λ xs. slice_index_or (outputs c.behaviour start xs) (round * c.rate + i) []) all_inputs
          ∙ ap (λ (os : List (List PortValue)). slice_index_or os (round * c.rate + i) [])
          (outputs-append c.behaviour start both rest)
          ∙ in_front (outputs c.behaviour start both) (outputs c.behaviour (frame_after c.behaviour start both) rest)
          (round * c.rate + i) [] (omega (arith, both_size, below))
          ∙ ap (λ (os : List (List PortValue)). slice_index_or os (round * c.rate + i) []) split
          ∙ behind (outputs c.behaviour start before) left i (round * c.rate + i) [] (omega (arith, first_size))

      pub tuple_is : (port : ℕ) → round_tuple design ins node port round ≡ column port left
      tuple_is port =
          let rate : rate_of design node ≡ c.rate = ap rate_in is_c in
          let value : ℕ → List (List PortValue) → PortValue =
          λ step outs. slice_index_or (slice_index_or outs step []) port Absent in
          ap (λ k. map (λ i. left_by design ins node port (round * k + i)) (upwards 0 k)) rate
          ∙ ap (λ o. map (λ i. value (round * c.rate + i) (outputs_in o (inputs_to ins node))) (upwards 0 c.rate)) is_c
          ∙ ap (λ n. map (λ i. value (round * c.rate + i)
          (outputs c.behaviour (initial c.behaviour) (inputs_to ins node))) (upwards 0 n)) (sym left_size)
          ∙ by_place (λ (out : List PortValue). slice_index_or out port Absent) [] left
          (λ i. value (round * c.rate + i) (outputs c.behaviour (initial c.behaviour) (inputs_to ins node))) 0
          (λ i below.
          let same : 0 + i ≡ i = omega arith in
          ap (λ k. value (round * c.rate + k) (outputs c.behaviour (initial c.behaviour) (inputs_to ins node))) same
          ∙ ap (λ (out : List PortValue). slice_index_or out port Absent) (left_at i (omega (arith, below, left_size))))

  -- ---- messages
  module _ (round : ℕ) (messages : SameMessages round) (frames : SameFrames round) (inside : round < rounds) where
    message_is : (number : ℕ) (link : Link) → slice_get design.links number ≡ Some link
        → message_on design [] ins round link ≡ message_of design (steps_of_round design env round) link
    message_is number link is_link =
        let rules = at_element (IsLink design) design.links number link sound.links.each is_link in
        let at = component_at design link.source.0 rules.source.node_is in
        let c : Component = at.0 in
        let own = own_steps design env link.source.0 round c in
        let within : link.out_port < length c.behaviour.outs =
        subst (λ o. link.out_port < outs_in o) at.1 rules.source.port_is in
        let shown : slice_index_or own.tuples link.out_port []
        ≡ column link.out_port (left round messages frames link.source.0 c at.1) =
        get_or_from_slice_get own.tuples link.out_port _ []
        (slice_get-columns (length c.behaviour.outs) (left round messages frames link.source.0 c at.1)
        link.out_port within) in
        ap (cut (sent_steps design.gamma design.period (rate_of design link.source.0)))
        (tuple_is round messages frames link.source.0 c at.1 inside link.out_port
        ∙ sym shown
        ∙ sym (ap (λ (o : Option Stepped). tuple_in o link.out_port)
        (steps_of_round-at design env link.source.0 round c at.1)))

    each_message : (links : List Link) (from : ℕ)
        → ((k : ℕ) (link : Link) → slice_get links k ≡ Some link
        → message_on design [] ins round link ≡ message_of design (steps_of_round design env round) link)
        → map (message_on design [] ins round) links ≡ map (message_of design (steps_of_round design env round)) links
    each_message [] from same = refl
    each_message (link ∷ links) from same =
        ap₂ (λ m ms. m ∷ ms) (same 0 link refl)
        (each_message links (from + 1) (λ k other is_other. same (suc k) other is_other))

    next_messages : SameMessages (suc round)
    unfolding comp
    next_messages = each_message design.links 0 message_is

  -- ---- all rounds
  pub same_after : (round : ℕ) → round ≤ rounds → SameMessages round × SameFrames round
  unfolding comp
  same_after zero most = (
    refl,
    λ node c is_c. ap (λ n. frame_after c.behaviour (initial c.behaviour) (map (vector node c) (upwards 0 n)))
        (let none : 0 * c.rate ≡ 0 = omega arith in none) ∙ sym (state_begins design env node c is_c),
  )
  same_after (suc round) most =
      let before = same_after round (omega arith) in (
        next_messages round before.0 before.1 (omega arith),
        λ node c is_c. next_frame round before.0 before.1 node c is_c,
      )

  pub same_configuration : fused design [] rounds ins ≡ comp design env rounds
  unfolding fused state
  same_configuration =
      let all = same_after rounds (omega arith) in
      ap₂ (λ (frames : List Frame) (messages : List (List PortValue)). let at : Configuration =
      record { frames = frames; messages = messages } in at)
      (table_is (frame_of ins) 0 design.components (comp design env rounds).frames no_frame
      (one_frame_each design env rounds) frames_are)
      all.0
    where
      frames_are : (k place : ℕ) (c : Component) → place ≡ 0 + k → slice_get design.components k ≡ Some c
          → frame_of ins place c ≡ slice_index_or (comp design env rounds).frames k no_frame
      frames_are k place c at is_c =
          let here : place ≡ k = omega arith in
          ap (λ n. frame_of ins n c) here ∙ ap (frame_after c.behaviour (initial c.behaviour)) (inputs_are k c is_c)
          ∙ (same_after rounds (omega arith)).1 k c is_c

pub without_pairs : WithoutPairs
without_pairs design env rounds ins sound is = same_configuration design env rounds ins sound is
