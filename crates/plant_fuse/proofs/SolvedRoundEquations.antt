-- After a round, the inputs of its steps solve the equations of the round, and so do the rows and parts of each
-- component.
use Rattle.std.proofs.Common.{◌≡◌, ◌∙◌, inl, inr, ℕ, zero, suc, ◌-◌, ◌<◌, ◌≤◌, Bool, true, false, nat_eq, List, [], ◌∷◌}
use Rattle.std.proofs.Common.{length, map, Option, Some, None, slice_get, slice_index_or, refl, sym, ap, ap₂, subst}
use Rattle.std.proofs.Common.{arith}
use Rattle.std.specs.Prelude.{if◌then◌else◌}
use Rattle.std.proofs.lemmas.Bool.{eqb-true}
use Rattle.std.proofs.lemmas.List.{length-map}
use Rattle.std.proofs.lemmas.Option.{get_or_from_slice_get, slice_get_cases, same_Some}
use Rattle.list_lemmas.proofs.ListOperations.{map-map}
use Rattle.pals_base.specs.declared.basic_types.PortValue.{PortValue}
use Rattle.pals_base.specs.declared.basic_types.PortValue.TheVariants.{Absent}
use Rattle.pals_base.specs.declared.frames.Frame.{Frame}
use Rattle.pals_base.specs.declared.basic_types.NodeNo.{NodeNo}
use Rattle.pals_base.specs.StepSequences.{outputs, frame_after}
use Rattle.pals_base.specs.Tuples.{column}
use Rattle.pals_base.specs.UpwardNumbers.{upwards}
use Rattle.pals_base.proofs.UpwardNumbers.{map_upwards_same}
use Rattle.pals_model.specs.declared.design.Component.{Component}
use Rattle.pals_model.specs.declared.design.Link.{Link}
use Rattle.pals_model.specs.declared.design.DesignParts.{DesignParts}
use Rattle.pals_model.specs.declared.part.Part.{Part}
use Rattle.pals_model.specs.declared.port_sources.PortSource.{PortSource}
use Rattle.pals_model.specs.declared.port_sources.PortSource.TheVariants as source
use Rattle.pals_model.specs.ComponentInputs.{source_of, sources_of}
use Rattle.pals_model.specs.PortKindsAndRates.{rate_of, rate_in}
use Rattle.pals_model.specs.Composition.{Configuration, no_frame}
use Rattle.pals_runs.specs.declared.plant_pairs.Pair.{Pair}
use Rattle.sync_product.specs.declared.round_inputs.RoundInputs.{RoundInputs}
use Rattle.sync_product.specs.declared.component_stage.Stage.{Stage}
use Rattle.sync_product.specs.proof.ComponentWiring.{tap_ports}
use Rattle.sync_product.specs.proof.Rounds.{brought, vectors}
use Rattle.plant_fuse.specs.FusedComposition.{is_to_plant, is_to_controller, ArePairs, Inputs, inputs_to}
use Rattle.plant_fuse.specs.proof.PartnersAndPairLinks.{partner_of}
use Rattle.plant_fuse.specs.proof.RoundEquations as rounds
use Rattle.plant_fuse.specs.proof.RoundEquations.{LeftValues, frame_at, outputs_from, place_at, left_in, left_before_by}
use Rattle.plant_fuse.specs.proof.RoundEquations.{link_by, read_by, vector_by, round_vector, IsFusedRound}
use Rattle.plant_fuse.specs.proof.PairSteps.{Work, from_partner, from_link, side_value, row_at, row_before}
use Rattle.plant_fuse.specs.proof.PairSteps.{plant_vector, controller_vector}
use Rattle.plant_fuse.specs.proof.RoundWork.{pair_member, rows_of, HasWork, IsRun, AreRun}
use Rattle.plant_fuse.proofs.FunctionTables.{table, table_at, table_same}
use Rattle.plant_fuse.proofs.PairLinkEnds.{read_from_target}
use Rattle.plant_fuse.proofs.PartnersAndPairLinks.{some_stands, pair_at, to_plant_forth, to_plant_back}
use Rattle.plant_fuse.proofs.PartnersAndPairLinks.{to_controller_back}
use Rattle.plant_fuse.proofs.PartnersAndPairLinks.{to_controller_forth, to_alone_back, to_alone_forth}

-- ---- inputs depend only on outputs
module _ (design : DesignParts) (pairs : List Pair) (values : List PortValue) (before : Configuration)
    (left other : LeftValues) (same : (node port step : ℕ) → left node port step ≡ other node port step) where
  before_same : (number : ℕ) (link : Link) (step : ℕ)
      → left_before_by design before left number link step ≡ left_before_by design before other number link step
  before_same number link zero = refl
  before_same number link (suc step) = same link.source.0 link.out_port step

  link_same : (rate step number : ℕ) (o : Option Link)
      → link_by design pairs values before left rate step number o
      ≡ link_by design pairs values before other rate step number o
  link_same rate step number None = refl
  link_same rate step number (Some link) =
      ap₂ (λ x y. if is_to_plant pairs link then x else if is_to_controller pairs link then y else rounds.brought
      design values
      before rate step (source.Link number))
      (before_same number link step) (same link.source.0 link.out_port step)

  read_same : (rate step : ℕ) (s : PortSource)
      → read_by design pairs values before left rate step s ≡ read_by design pairs values before other rate step s
  read_same rate step source.Nothing = refl
  read_same rate step (source.Feed feed root) = refl
  read_same rate step (source.Link number) = link_same rate step number (slice_get design.links number)

  reads_same : (rate step : ℕ) (ss : List PortSource)
      → map (read_by design pairs values before left rate step) ss
      ≡ map (read_by design pairs values before other rate step) ss
  reads_same rate step [] = refl
  reads_same rate step (s ∷ ss) = ap₂ (λ x xs. x ∷ xs) (read_same rate step s) (reads_same rate step ss)

-- ---- each source of a component, one by one
each_source : (design : DesignParts) (node : ℕ) (f g : PortSource → PortValue)
    → ((s : PortSource) → ((number : ℕ) (link : Link) → s ≡ source.Link number
    → slice_get design.links number ≡ Some link → link.target.0 ≡ node) → f s ≡ g s)
    → (ports : List ℕ) → map f (map (source_of design node) ports) ≡ map g (map (source_of design node) ports)
each_source design node f g same [] = refl
each_source design node f g same (port ∷ ports) =
    ap₂ (λ x xs. x ∷ xs)
    (same (source_of design node port) (λ number link is there. read_from_target design node port number link is there))
    (each_source design node f g same ports)

module _ (round : RoundInputs) (pairs : List Pair) (are : ArePairs round.design.now pairs) (frames : List Frame)
    (next : List Part) (stages : List Stage) (run : AreRun round pairs frames next stages) where
  abbrev design : DesignParts
  design = round.design.now

  abbrev pub before : Configuration
  before = record { frames = frames; messages = round.messages.now }

  abbrev rows : ℕ → List (List PortValue)
  rows node = slice_index_or (rows_of stages) node []

  abbrev left : LeftValues
  left node port step = place_at (rows node) port step

  abbrev read : ℕ → ℕ → PortSource → PortValue
  read rate step s = read_by design pairs round.values.now before left rate step s

  abbrev vectors_of : ℕ → Component → List (List PortValue)
  vectors_of node c = map (vector_by design pairs round.values.now before left node c) (upwards 0 c.rate)

  -- what the steps of the round read
  abbrev pub all_read : Inputs
  all_read = table vectors_of 0 design.components

  -- ---- the steps of a component in no pair
  module _ (node : ℕ) (c : Component) (none : partner_of pairs node ≡ None) where
    alone_link : (step number : ℕ) (o : Option Link) → ((link : Link) → o ≡ Some link → link.target.0 ≡ node)
        → slice_index_or (brought round c.rate (source.Link number)) step Absent
        ≡ link_by design pairs round.values.now before left c.rate step number o
    alone_link step number None target = refl
    alone_link step number (Some link) target =
        let back = to_alone_back design pairs are node link none (target link refl) in
        let forth = to_alone_forth design pairs are node link none (target link refl) in
        let here = rounds.brought design round.values.now before c.rate step (source.Link number) in
        sym
        (ap (λ b. if b then left_before_by design before left number link step else if is_to_controller pairs link then
        left
        link.source.0 link.out_port step else here) back
        ∙ ap (λ b. if b then left link.source.0 link.out_port step else here) forth)

    alone_value : (step : ℕ) (s : PortSource)
        → ((number : ℕ) (link : Link) → s ≡ source.Link number → slice_get design.links number ≡ Some link
        → link.target.0 ≡ node)
        → slice_index_or (brought round c.rate s) step Absent ≡ read c.rate step s
    alone_value step source.Nothing target = refl
    alone_value step (source.Feed feed root) target = refl
    alone_value step (source.Link number) target =
        alone_link step number (slice_get design.links number) (λ link there. target number link refl there)

    alone_vector : (step : ℕ)
        → column step (map (brought round c.rate) (sources_of design node c))
        ≡ vector_by design pairs round.values.now before left node c step
    alone_vector step =
        map-map (λ (tuple : List PortValue). slice_index_or tuple step Absent) (brought round c.rate)
        (sources_of design node c)
        ∙ each_source design node (λ s. slice_index_or (brought round c.rate s) step Absent) (read c.rate step)
        (alone_value step) (upwards 0 (length c.behaviour.ins))

    alone_vectors : vectors round c (sources_of design node c) ≡ vectors_of node c
    alone_vectors =
        map_upwards_same (λ at. column at (map (brought round c.rate) (sources_of design node c)))
        (vector_by design pairs round.values.now before left node c) 0 c.rate
        (λ step above below. alone_vector step)

  -- ---- the steps of a pair
  module _ (k : ℕ) (pair : Pair) (is : slice_get pairs k ≡ Some pair) (r : IsRun round frames next stages pair) where
    rows_of_p : rows pair.plant.0 ≡ r.p_work.rows
    rows_of_p = get_or_from_slice_get (rows_of stages) pair.plant.0 r.p_work.rows [] r.p_has.rows_are

    rows_of_c : rows pair.controller.0 ≡ r.c_work.rows
    rows_of_c = get_or_from_slice_get (rows_of stages) pair.controller.0 r.c_work.rows [] r.c_has.rows_are

    rates : r.p.rate ≡ r.c.rate
    rates = sym (ap rate_in r.p_is) ∙ (pair_at design pairs are k pair is).rates ∙ ap rate_in r.c_is

    -- what the plant reads on a link from its controller
    back_value : (number : ℕ) (link : Link) (step : ℕ) → link.source.0 ≡ pair.controller.0
        → from_partner round r.p.rate number link (row_before r.c_work.rows step)
        ≡ left_before_by design before left number link step
    back_value number link zero source_is =
        let rate : rate_of design link.source.0 ≡ r.p.rate = ap (rate_of design) source_is ∙ ap rate_in r.c_is
        ∙ sym rates in
        ap (λ n. slice_index_or (slice_index_or round.messages.now number []) (n - 1) Absent) (sym rate)
    back_value number link (suc step) source_is =
        ap (λ (all : List (List PortValue)). place_at all link.out_port step) (sym (ap rows source_is ∙ rows_of_c))

    plant_if : (number : ℕ) (link : Link) (step : ℕ) → link.target.0 ≡ pair.plant.0 → (b : Bool)
        → nat_eq link.source.0 pair.controller.0 ≡ b
        → (if b then from_partner round r.p.rate number link (row_before r.c_work.rows step) else rounds.brought design
        round.values.now before r.p.rate step (source.Link number))
        ≡ link_by design pairs round.values.now before left r.p.rate step number (Some link)
    plant_if number link step target b from =
        let here = rounds.brought design round.values.now before r.p.rate step (source.Link number) in
        let back = to_plant_back design pairs are k pair is link target ∙ from in
        let forth = to_plant_forth design pairs are k pair is link target in
        (elim b as (λ t. nat_eq link.source.0 pair.controller.0 ≡ t
        → (if t then from_partner round r.p.rate number link (row_before r.c_work.rows step) else here)
        ≡ (if t then left_before_by design before left number link step else here)) [
          | true ↦ λ same. back_value number link step (eqb-true link.source.0 pair.controller.0 same)
          | false ↦ λ other. refl
        ]) from
        ∙ sym
        (ap (λ t. if t then left_before_by design before left number link step else if is_to_controller pairs link then
        left
        link.source.0 link.out_port step else here) back
        ∙ ap (λ t. if b then left_before_by design before left number link step else if t then left link.source.0
        link.out_port step else here) forth)

    plant_value : (step : ℕ) (s : PortSource)
        → ((number : ℕ) (link : Link) → s ≡ source.Link number → slice_get design.links number ≡ Some link
        → link.target.0 ≡ pair.plant.0)
        → side_value round (pair_member design pair.plant.0 pair.controller.0 r.p) step (row_before r.c_work.rows step)
        s
        ≡ read r.p.rate step s
    plant_value step source.Nothing target = refl
    plant_value step (source.Feed feed root) target = refl
    plant_value step (source.Link number) target =
        by (slice_get design.links number) (λ link there. target number link refl there)
      where
        by : (o : Option Link) → ((link : Link) → o ≡ Some link → link.target.0 ≡ pair.plant.0)
            → from_link round (pair_member design pair.plant.0 pair.controller.0 r.p) step
            (row_before r.c_work.rows step)
            number o ≡ link_by design pairs round.values.now before left r.p.rate step number o
        by None known = refl
        by (Some link) known = plant_if number link step (known link refl) (nat_eq link.source.0 pair.controller.0) refl

    -- what the controller reads on a link from its plant
    controller_if : (number : ℕ) (link : Link) (step : ℕ) → link.target.0 ≡ pair.controller.0 → (b : Bool)
        → nat_eq link.source.0 pair.plant.0 ≡ b
        → (if b then slice_index_or (row_at r.p_work.rows step) link.out_port Absent else rounds.brought design
        round.values.now before r.c.rate step (source.Link number))
        ≡ link_by design pairs round.values.now before left r.c.rate step number (Some link)
    controller_if number link step target b from =
        let here = rounds.brought design round.values.now before r.c.rate step (source.Link number) in
        let back = to_controller_back design pairs are k pair is link target in
        let forth = to_controller_forth design pairs are k pair is link target ∙ from in
        (elim b as (λ t. nat_eq link.source.0 pair.plant.0 ≡ t
        → (if t then slice_index_or (row_at r.p_work.rows step) link.out_port Absent else here)
        ≡ (if t then left link.source.0 link.out_port step else here)) [
          | true ↦ λ same. ap (λ (all : List (List PortValue)). place_at all link.out_port step)
              (sym (ap rows (eqb-true link.source.0 pair.plant.0 same) ∙ rows_of_p))
          | false ↦ λ other. refl
        ]) from
        ∙ sym
        (ap (λ t. if t then left_before_by design before left number link step else if is_to_controller pairs link then
        left
        link.source.0 link.out_port step else here) back
        ∙ ap (λ t. if t then left link.source.0 link.out_port step else here) forth)

    controller_value : (step : ℕ) (s : PortSource)
        → ((number : ℕ) (link : Link) → s ≡ source.Link number → slice_get design.links number ≡ Some link
        → link.target.0 ≡ pair.controller.0)
        → side_value round (pair_member design pair.controller.0 pair.plant.0 r.c) step
        (Some (row_at r.p_work.rows step)) s
        ≡ read r.c.rate step s
    controller_value step source.Nothing target = refl
    controller_value step (source.Feed feed root) target = refl
    controller_value step (source.Link number) target =
        by (slice_get design.links number) (λ link there. target number link refl there)
      where
        by : (o : Option Link) → ((link : Link) → o ≡ Some link → link.target.0 ≡ pair.controller.0)
            → from_link round (pair_member design pair.controller.0 pair.plant.0 r.c) step
            (Some (row_at r.p_work.rows step))
            number o ≡ link_by design pairs round.values.now before left r.c.rate step number o
        by None known = refl
        by (Some link) known = controller_if number link step (known link refl) (nat_eq link.source.0 pair.plant.0) refl

    plant_vectors : map (plant_vector round (pair_member design pair.plant.0 pair.controller.0 r.p) r.c_work.rows)
        (upwards 0 r.p.rate) ≡ vectors_of pair.plant.0 r.p
    plant_vectors =
        map_upwards_same (plant_vector round (pair_member design pair.plant.0 pair.controller.0 r.p) r.c_work.rows)
        (vector_by design pairs round.values.now before left pair.plant.0 r.p) 0 r.p.rate
        (λ step above below.
        each_source design pair.plant.0
        (side_value round (pair_member design pair.plant.0 pair.controller.0 r.p) step (row_before r.c_work.rows step))
        (read r.p.rate step) (plant_value step) (upwards 0 (length r.p.behaviour.ins)))

    controller_vectors : map (controller_vector round (pair_member design pair.controller.0 pair.plant.0 r.c)
        r.p_work.rows)
        (upwards 0 r.p.rate) ≡ vectors_of pair.controller.0 r.c
    controller_vectors =
        ap (λ n. map (controller_vector round (pair_member design pair.controller.0 pair.plant.0 r.c) r.p_work.rows)
        (upwards 0 n)) rates
        ∙ map_upwards_same (controller_vector round (pair_member design pair.controller.0 pair.plant.0 r.c)
        r.p_work.rows)
        (vector_by design pairs round.values.now before left pair.controller.0 r.c) 0 r.c.rate
        (λ step above below.
        each_source design pair.controller.0
        (side_value round (pair_member design pair.controller.0 pair.plant.0 r.c) step
        (Some (row_at r.p_work.rows step)))
        (read r.c.rate step) (controller_value step) (upwards 0 (length r.c.behaviour.ins)))

  -- ---- the steps of each component
  abbrev from : ℕ → Frame
  from node = slice_index_or frames node no_frame

  record IsLeft (node : ℕ) (c : Component) : Type 0 where
    rows_are : rows node ≡ outputs c.behaviour (from node) (vectors_of node c)
    part_is : slice_get next node
        ≡ Some (record {
          frame = frame_after c.behaviour (from node) (vectors_of node c);
          outs = map (λ port. column port (rows node)) (tap_ports design.taps node);
        })

  left_alone : (node : ℕ) (c : Component) → slice_get design.components node ≡ Some c → partner_of pairs node ≡ None
      → IsLeft node c
  left_alone node c is_c none =
      let stepped = run.alone node c none is_c in
      let same = alone_vectors node c none in
      let all = outputs c.behaviour (from node) (vectors round c (sources_of design node c)) in
      let rows_is : rows node ≡ all = get_or_from_slice_get (rows_of stages) node all [] stepped.rows in
      record {
        rows_are = rows_is ∙ ap (outputs c.behaviour (from node)) same;
        part_is =
            stepped.part
            ∙ ap₂ (λ (f : Frame) (rs : List (List PortValue)). let p : Part =
            record { frame = f; outs = map (λ port. column port rs) (tap_ports design.taps node) } in Some p)
            (ap (frame_after c.behaviour (from node)) same) (sym rows_is);
      }

  left_work : (node : ℕ) (c : Component) (w : Work) (vs : List (List PortValue))
      → HasWork design frames next stages node w → w.rows ≡ outputs c.behaviour w.from vs
      → w.to ≡ frame_after c.behaviour w.from vs
      → vs ≡ vectors_of node c → IsLeft node c
  left_work node c w vs has rows_is to_is same =
      let rows_w : rows node ≡ w.rows = get_or_from_slice_get (rows_of stages) node w.rows [] has.rows_are in
      record {
        rows_are = rows_w ∙ rows_is ∙ ap₂ (outputs c.behaviour) has.from_is same;
        part_is =
            has.part_is
            ∙ ap₂ (λ (f : Frame) (rs : List (List PortValue)). let p : Part =
            record { frame = f; outs = map (λ port. column port rs) (tap_ports design.taps node) } in Some p)
            (to_is ∙ ap₂ (frame_after c.behaviour) has.from_is same) (sym rows_w);
      }

  left_by_pair : (node : ℕ) (c : Component) (partner : NodeNo) → slice_get design.components node ≡ Some c
      → partner_of pairs node ≡ Some partner → IsLeft node c
  left_by_pair node c partner is_c some =
      let stands = some_stands pairs node partner some in
      let k = stands.k in
      let pair = stands.pair in
      let is = stands.is_at in
      let r = run.together k pair is in
      elim stands.side [
        | inl plant ↦ (
            let one : r.p ≡ c = same_Some r.p c (sym r.p_is ∙ ap (slice_get design.components) plant.0 ∙ is_c) in
            subst (λ (d : Component). IsLeft node d) one
            (subst (λ n. IsLeft n r.p) plant.0
            (left_work pair.plant.0 r.p r.p_work
            (map (plant_vector round (pair_member design pair.plant.0 pair.controller.0 r.p) r.c_work.rows)
            (upwards 0 r.p.rate))
            r.p_has r.made.plant_is.rows_are r.made.plant_is.frame_is (plant_vectors k pair is r))))
        | inr controller ↦ (
            let one : r.c ≡ c = same_Some r.c c (sym r.c_is ∙ ap (slice_get design.components) controller.0 ∙ is_c) in
            subst (λ (d : Component). IsLeft node d) one
            (subst (λ n. IsLeft n r.c) controller.0
            (left_work pair.controller.0 r.c r.c_work
            (map (controller_vector round (pair_member design pair.controller.0 pair.plant.0 r.c) r.p_work.rows)
            (upwards 0 r.p.rate))
            r.c_has r.made.controller_is.rows_are r.made.controller_is.frame_is (controller_vectors k pair is r))))
      ]

  is_left : (node : ℕ) (c : Component) → slice_get design.components node ≡ Some c → IsLeft node c
  is_left node c is_c = by (partner_of pairs node) refl
    where
      by : (o : Option NodeNo) → partner_of pairs node ≡ o → IsLeft node c
      by None none = left_alone node c is_c none
      by (Some partner) some = left_by_pair node c partner is_c some

  -- ---- so the inputs are the inputs of the equations
  pub inputs_at : (node : ℕ) (c : Component) → slice_get design.components node ≡ Some c
      → inputs_to all_read node ≡ vectors_of node c
  inputs_at node c is_c = table_at vectors_of 0 design.components node node c [] (omega arith) is_c

  module _ (many : length stages ≡ length design.components) where
    rows_past : (node : ℕ) → slice_get design.components node ≡ None → rows node ≡ []
    rows_past node none =
        elim (slice_get_cases (rows_of stages) node).1 [
          | inl there ↦ absurd (past_none node none
              (let inside = there.1 in let size = length-map stages (λ (s : Stage). s.rows) in
              omega (arith, inside, size, many)))
          | inr beyond ↦ get_or_past (rows_of stages) node [] beyond.0
        ]
      where
        past_none : (n : ℕ) → slice_get design.components n ≡ None → n < length design.components → ⊥
        past_none n is_none within =
            elim (slice_get_cases design.components n).1 [
              | inl there ↦ (let both : Some there.0 ≡ None = sym there.2 ∙ is_none in cc)
              | inr beyond ↦ (let low = beyond.0 in omega (arith, low, within))
            ]

        get_or_past : (xs : List (List (List PortValue))) (n : ℕ) (d : List (List PortValue)) → length xs ≤ n
            → slice_index_or xs n d ≡ d
        get_or_past [] n d beyond = refl
        get_or_past (x ∷ xs) zero d beyond = absurd (omega arith)
        get_or_past (x ∷ xs) (suc n) d beyond = get_or_past xs n d (omega arith)

    left_is : (node port step : ℕ) → left node port step ≡ left_in design before all_read node port step
    left_is node port step = by (slice_get design.components node) refl
      where
        by : (o : Option Component) → slice_get design.components node ≡ o
            → left node port step ≡ left_in design before all_read node port step
        by None none =
            ap (λ (rs : List (List PortValue)). place_at rs port step)
            (rows_past node none ∙ sym (ap (λ o. outputs_from o (from node) (inputs_to all_read node)) none))
        by (Some c) is_c =
            ap (λ (rs : List (List PortValue)). place_at rs port step)
            ((is_left node c is_c).rows_are
            ∙ sym
            (ap (λ o. outputs_from o (from node) (inputs_to all_read node)) is_c
            ∙ ap (outputs c.behaviour (from node)) (inputs_at node c is_c)))

    pub reads_round : IsFusedRound design pairs round.values.now before all_read
    reads_round =
        table_same vectors_of (λ node c.
        map (round_vector design pairs round.values.now before all_read node c) (upwards 0 c.rate))
        design.components
        (λ node c is_c.
        map_upwards_same (vector_by design pairs round.values.now before left node c)
        (round_vector design pairs round.values.now before all_read node c) 0 c.rate
        (λ step above below.
        reads_same design pairs round.values.now before left (left_in design before all_read) left_is c.rate step
        (sources_of design node c)))

    -- the rows and the part of each component
    pub rows_at_node : (node : ℕ) (c : Component) → slice_get design.components node ≡ Some c
        → rows node ≡ outputs c.behaviour (frame_at before node) (inputs_to all_read node)
    rows_at_node node c is_c =
        (is_left node c is_c).rows_are ∙ ap (outputs c.behaviour (from node)) (sym (inputs_at node c is_c))

    pub left_at_node : (node port step : ℕ)
        → left_in design before all_read node port step ≡ place_at (slice_index_or (rows_of stages) node []) port step
    left_at_node node port step = sym (left_is node port step)

    pub part_at_node : (node : ℕ) (c : Component) → slice_get design.components node ≡ Some c
        → slice_get next node ≡ Some
        (record {
          frame = frame_after c.behaviour (frame_at before node) (inputs_to all_read node);
          outs = map (λ port. column port (slice_index_or (rows_of stages) node []))
              (tap_ports design.taps node);
        })
    part_at_node node c is_c =
        (is_left node c is_c).part_is
        ∙ ap (λ (vs : List (List PortValue)). let p : Part =
        record {
          frame = frame_after c.behaviour (from node) vs;
          outs = map (λ port. column port (rows node)) (tap_ports design.taps node);
        } in Some p)
        (sym (inputs_at node c is_c))
