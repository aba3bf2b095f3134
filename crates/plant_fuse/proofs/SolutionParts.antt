-- The parts that components leave in each round of a solution: in the last round, and in earlier ones as in the
-- solution for fewer rounds.
use Rattle.std.proofs.Common.{◌≡◌, ◌∙◌, ℕ, suc, ◌*◌, ◌<◌, ◌≤◌, List, [], take, drop, Some, slice_get, sym, ap, ap₂}
use Rattle.std.proofs.Common.{arith}
use Rattle.std.proofs.lemmas.Nat.{mul-le}
use Rattle.std.proofs.lemmas.List.{take-append-drop, take-take, take_all}
use Rattle.pals_base.proofs.CycleSearchMarks.{map-same}
use Rattle.pals_base.specs.declared.basic_types.PortValue.{PortValue}
use Rattle.pals_base.specs.declared.frames.Frame.{Frame}
use Rattle.pals_base.specs.SingleStep.{initial}
use Rattle.pals_base.specs.StepSequences.{frame_after}
use Rattle.pals_base.proofs.SequencesAndHaltedFrames.{frame_after-append}
use Rattle.pals_model.specs.declared.design.Component.{Component}
use Rattle.pals_model.specs.declared.design.Tap.{Tap}
use Rattle.pals_model.specs.declared.design.DesignParts.{DesignParts}
use Rattle.pals_model.specs.declared.environment.Env.{Env}
use Rattle.pals_model.specs.declared.part.Part.{Part}
use Rattle.pals_model.specs.Composition.{taps_of}
use Rattle.pals_model.specs.DesignRules.{IsDesign}
use Rattle.pals_runs.specs.declared.plant_pairs.Pair.{Pair}
use Rattle.plant_fuse.specs.FusedComposition.{ArePairs, Inputs, inputs_to, round_tuple, frame_before, IsFused}
use Rattle.plant_fuse.specs.proof.RoundEquations.{tuple_from}
use Rattle.plant_fuse.specs.proof.FuseState.{part_after, parts_after}
use Rattle.plant_fuse.specs.FusedReport.{fused_part, fused_parts}
use Rattle.plant_fuse.proofs.FunctionTables.{table_at, table_same}
use Rattle.plant_fuse.proofs.StepDependencies.{same_tuple}
use Rattle.plant_fuse.proofs.SolutionPrefixes.{begun, agree}
use Rattle.plant_fuse.proofs.LastRoundOfSolution as onward

module _ (design : DesignParts) (pairs : List Pair) (env : Env) (rounds : ℕ) (ins : Inputs) (sound : IsDesign design)
    (are : ArePairs design pairs) (is : IsFused design pairs env (suc rounds) ins) where
  abbrev first : Inputs
  first = onward.first design pairs env rounds ins sound are is

  part : Frame → List (List PortValue) → Part
  part frame outs = record { frame = frame; outs = outs }

  -- ---- in the last round
  frame_is : (node : ℕ) (c : Component) → slice_get design.components node ≡ Some c
      → (part_after design (onward.before design pairs env rounds ins sound are is)
      (onward.vectors design pairs env rounds ins sound are is) node c).frame
      ≡ frame_before ins node c (suc rounds * c.rate)
  frame_is node c is_c =
      let xs = inputs_to ins node in
      let n = rounds * c.rate in
      let size = onward.inputs_size design pairs env rounds ins sound are is node c is_c in
      ap₂ (λ (f : Frame) ys. frame_after c.behaviour f ys)
      (onward.frame_is design pairs env rounds ins sound are is node c is_c)
      (onward.vectors_at design pairs env rounds ins sound are is node c is_c)
      ∙ sym (frame_after-append c.behaviour (initial c.behaviour) (take n xs) (drop n xs))
      ∙ ap (frame_after c.behaviour (initial c.behaviour))
      (take-append-drop n xs ∙ sym (take_all (suc rounds * c.rate) xs (omega (arith, size))))

  last_part : (node : ℕ) (c : Component) → slice_get design.components node ≡ Some c
      → part_after design (onward.before design pairs env rounds ins sound are is)
      (onward.vectors design pairs env rounds ins sound are is) node c ≡ fused_part design ins rounds node c
  last_part node c is_c =
      ap₂ (λ (frame : Frame) (outs : List (List PortValue)). let p : Part = record { frame = frame; outs = outs } in p)
      (frame_is node c is_c)
      (map-same
      (λ (tap : Tap). tuple_from design (onward.before design pairs env rounds ins sound are is)
      (onward.vectors design pairs env rounds ins sound are is) node tap.out_port)
      (λ (tap : Tap). round_tuple design ins node tap.out_port rounds)
      (λ tap. sym (onward.same_tuple design pairs env rounds ins sound are is node tap.out_port)) (taps_of design node))

  pub last_parts : parts_after design (onward.before design pairs env rounds ins sound are is)
      (onward.vectors design pairs env rounds ins sound are is) ≡ fused_parts design ins rounds
  last_parts =
      table_same (part_after design (onward.before design pairs env rounds ins sound are is)
      (onward.vectors design pairs env rounds ins sound are is)) (fused_part design ins rounds)
      design.components last_part

  -- ---- in earlier rounds the solution for these leaves the same
  module _ (round : ℕ) (below : round < rounds) where
    earlier_part : (node : ℕ) (c : Component) → slice_get design.components node ≡ Some c
        → fused_part design first round node c ≡ fused_part design ins round node c
    earlier_part node c is_c =
        let xs = inputs_to ins node in
        let less : suc round * c.rate ≤ rounds * c.rate =
        mul-le (suc round) c.rate rounds c.rate (omega (arith, below)) (omega arith) in
        ap₂ (λ (frame : Frame) (outs : List (List PortValue)). let p : Part =
        record { frame = frame; outs = outs } in p)
        (ap (λ ys. frame_after c.behaviour (initial c.behaviour) (take (suc round * c.rate) ys))
        (table_at (begun design pairs env rounds ins sound are is) 0 design.components node node c []
        (omega arith) is_c)
        ∙ ap (frame_after c.behaviour (initial c.behaviour)) (take-take (suc round * c.rate) (rounds * c.rate) xs less))
        (map-same (λ (tap : Tap). round_tuple design first node tap.out_port round)
        (λ (tap : Tap). round_tuple design ins node tap.out_port round)
        (λ tap. same_tuple design pairs sound are env (rounds * 128) first ins
        (agree design pairs env rounds ins sound are is) node tap.out_port round (omega (arith, below)))
        (taps_of design node))

    pub earlier_parts : fused_parts design first round ≡ fused_parts design ins round
    earlier_parts =
        table_same (fused_part design first round) (fused_part design ins round) design.components earlier_part
