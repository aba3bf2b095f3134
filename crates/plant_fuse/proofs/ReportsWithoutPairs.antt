-- Without pairs the report of fused composition is that of the composition: the claim ReportWithoutPairs.
use Rattle.std.proofs.Common.{◌≡◌, ◌∙◌, ℕ, suc, ◌*◌, ◌<◌, ◌≤◌, Bool, true, false, nat_eq, List, [], ◌∷◌, length, map}
use Rattle.std.proofs.Common.{take, Option, Some, slice_get, slice_index_or, All, refl, sym, ap, ap₂, subst, arith}
use Rattle.std.specs.Prelude.{filter, if◌then◌else◌}
use Rattle.std.proofs.lemmas.Bool.{eqb-true}
use Rattle.std.proofs.lemmas.Nat.{mul-le}
use Rattle.std.proofs.lemmas.List.Elements.{All-head, All-tail}
use Rattle.std.proofs.lemmas.Option.{get_or_from_slice_get}
use Rattle.list_lemmas.proofs.ElementPositions.{slice_get-map_enumerate}
use Rattle.pals_base.specs.declared.basic_types.PortValue.{PortValue}
use Rattle.pals_base.specs.declared.frames.Frame.{Frame}
use Rattle.pals_base.specs.SingleStep.{initial}
use Rattle.pals_base.specs.StepSequences.{Stepped, frame_after}
use Rattle.pals_base.specs.Tuples.{column}
use Rattle.pals_base.proofs.ColumnsAndCutTuples.{slice_get-columns}
use Rattle.pals_base.proofs.UpwardNumbers.{flat_map_upwards_same}
use Rattle.pals_model.specs.declared.design.Component.{Component}
use Rattle.pals_model.specs.declared.design.Tap.{Tap}
use Rattle.pals_model.specs.declared.design.DesignParts.{DesignParts}
use Rattle.pals_model.specs.declared.environment.Env.{Env}
use Rattle.pals_model.specs.declared.part.Part.{Part}
use Rattle.pals_model.specs.Composition.{comp, state, part, steps_of_round, tuple_in, tuple_of}
use Rattle.pals_model.specs.proof.CompositionLaws.{own_steps}
use Rattle.pals_model.specs.PortKindsAndRates.{outs_in}
use Rattle.pals_model.specs.DesignRules.{IsDesign, IsTap}
use Rattle.pals_model.specs.RoundTexts.{text_of, composed_lines}
use Rattle.pals_model.proofs.CompositionLaws.{steps_of_round-at}
use Rattle.pals_model.proofs.ShapeLaws.{component_at}
use Rattle.pals_model.proofs.TextLineLaws.{same_row}
use Rattle.plant_fuse.specs.FusedComposition.{Inputs, round_tuple, frame_before, IsFused}
use Rattle.plant_fuse.specs.FusedReport.{fused_part, fused_parts, fused_lines}
use Rattle.plant_fuse.specs.proof.FusedLaws.{ReportWithoutPairs}
use Rattle.plant_fuse.proofs.SolutionPrefixes.{take_upwards}
use Rattle.plant_fuse.proofs.EquationsWithoutPairs as alone

-- ---- taps of a component
one_more : (f g : Tap → List PortValue) (node : ℕ) (tap : Tap) (taps : List Tap) (b : Bool)
    → (tap.source.0 ≡ node → f tap ≡ g tap)
    → map f (filter (λ (t : Tap). nat_eq t.source.0 node) taps)
    ≡ map g (filter (λ (t : Tap). nat_eq t.source.0 node) taps) → nat_eq tap.source.0 node ≡ b
    → map f (if b then tap ∷ filter (λ (t : Tap). nat_eq t.source.0 node) taps else filter
    (λ (t : Tap). nat_eq t.source.0 node) taps)
    ≡ map g (if b then tap ∷ filter (λ (t : Tap). nat_eq t.source.0 node) taps else filter
    (λ (t : Tap). nat_eq t.source.0 node) taps)
one_more f g node tap taps true same rest is = ap₂ (λ x xs. x ∷ xs) (same (eqb-true tap.source.0 node is)) rest
one_more f g node tap taps false same rest is = rest

taps_alike : (design : DesignParts) (f g : Tap → List PortValue) (node : ℕ)
    → ((tap : Tap) → IsTap design tap → tap.source.0 ≡ node → f tap ≡ g tap) → (taps : List Tap)
    → All (IsTap design) taps
    → map f (filter (λ (tap : Tap). nat_eq tap.source.0 node) taps)
    ≡ map g (filter (λ (tap : Tap). nat_eq tap.source.0 node) taps)
taps_alike design f g node same [] each = refl
taps_alike design f g node same (tap ∷ taps) each =
    one_more f g node tap taps (nat_eq tap.source.0 node) (same tap (All-head (IsTap design) tap taps each))
    (taps_alike design f g node same taps (All-tail (IsTap design) tap taps each)) refl

-- ---- what components leave
module _ (design : DesignParts) (env : Env) (rounds : ℕ) (ins : Inputs) (sound : IsDesign design)
    (is : IsFused design [] env rounds ins) (round : ℕ) (below : round < rounds) where
  module _ (node : ℕ) (c : Component) (is_c : slice_get design.components node ≡ Some c) where
    frame_is : frame_before ins node c (suc round * c.rate) ≡ state design env node (suc round)
    frame_is =
        let most : suc round * c.rate ≤ rounds * c.rate =
        mul-le (suc round) c.rate rounds c.rate (omega (arith, below)) (omega arith) in
        ap (λ xs. frame_after c.behaviour (initial c.behaviour) (take (suc round * c.rate) xs))
        (alone.inputs_are design env rounds ins sound is node c is_c)
        ∙ ap (frame_after c.behaviour (initial c.behaviour))
        (take_upwards (alone.vector design env rounds ins sound is node c) 0 (suc round * c.rate)
        (rounds * c.rate) most)
        ∙ (alone.same_after design env rounds ins sound is (suc round) (omega (arith, below))).1 node c is_c

    tuple_is : (tap : Tap) → IsTap design tap → tap.source.0 ≡ node
        → round_tuple design ins node tap.out_port round ≡ tuple_of (steps_of_round design env round) node tap.out_port
    tuple_is tap kept at =
        let before = alone.same_after design env rounds ins sound is round (omega (arith, below)) in
        let left = alone.left design env rounds ins sound is round before.0 before.1 node c is_c in
        let own = own_steps design env node round c in
        let within : tap.out_port < length c.behaviour.outs =
        subst (λ o. tap.out_port < outs_in o) (ap (slice_get design.components) at ∙ is_c) kept.source.port_is in
        let shown : slice_index_or own.tuples tap.out_port [] ≡ column tap.out_port left =
        get_or_from_slice_get own.tuples tap.out_port _ []
        (slice_get-columns (length c.behaviour.outs) left tap.out_port within) in
        alone.tuple_is design env rounds ins sound is round before.0 before.1 node c is_c below tap.out_port
        ∙ sym shown
        ∙ sym (ap (λ (o : Option Stepped). tuple_in o tap.out_port) (steps_of_round-at design env node round c is_c))

    part_is : fused_part design ins round node c ≡ part design env node round
    unfolding part state comp
    part_is =
        ap₂ (λ (frame : Frame) (outs : List (List PortValue)). let p : Part =
        record { frame = frame; outs = outs } in p)
        frame_is
        (taps_alike design (λ (tap : Tap). round_tuple design ins node tap.out_port round)
        (λ (tap : Tap). tuple_of (steps_of_round design env round) node tap.out_port) node tuple_is design.taps
        sound.taps.each)

  pub lines_are : fused_lines design ins round ≡ composed_lines design env round
  lines_are =
      same_row design (λ node. slice_get (fused_parts design ins round) node)
      (λ node. Some (part design env node round)) round sound
      (λ node within.
      let found = component_at design node within in
      slice_get-map_enumerate (λ (numbered : ℕ × Component). fused_part design ins round numbered.0 numbered.1)
      design.components node found.0 found.1
      ∙ ap Some (part_is node found.0 found.1))

pub report_without_pairs : ReportWithoutPairs
report_without_pairs design env rounds text sound is =
    is.says
    ∙ ap text_of
    (flat_map_upwards_same (fused_lines design is.ins) (composed_lines design env) 0 rounds
    (λ round above below. lines_are design env rounds is.ins sound is.solves round (omega (arith, below))))
