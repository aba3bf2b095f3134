-- One more step of a plant and one of its controller, each with the rows that the other has produced so far.
use Rattle.std.proofs.Common.{◌≡◌, ◌∙◌, ℕ, zero, suc, ◌+◌, ◌≤◌, List, [], ◌∷◌, ◌++◌, length, map, take, Option, Some}
use Rattle.std.proofs.Common.{refl, sym, ap, ap₂, subst, arith}
use Rattle.std.proofs.lemmas.List.{get_or_append_left, get_or_push, get_or-take}
use Rattle.pals_base.specs.declared.basic_types.PortValue.{PortValue}
use Rattle.pals_base.specs.declared.frames.Frame.{Frame}
use Rattle.pals_base.specs.declared.behaviour.BehaviourParts.{BehaviourParts}
use Rattle.pals_base.specs.SingleStep.{fire}
use Rattle.pals_base.specs.StepSequences.{outputs}
use Rattle.pals_base.specs.UpwardNumbers.{upwards}
use Rattle.pals_base.proofs.UpwardNumbers.{map_upwards_more, map_upwards_same}
use Rattle.pals_base.proofs.SequencesAndHaltedFrames.{frame_after-append, outputs-append}
use Rattle.sync_product.specs.declared.round_inputs.RoundInputs.{RoundInputs}
use Rattle.plant_fuse.specs.proof.PairSteps.{PairMember, Work, side_vector, row_before, plant_vector, controller_vector}
use Rattle.plant_fuse.specs.proof.PairSteps.{IsMade, work, AreMade}

-- ---- rows so far
pub row_before_take : (rows : List (List PortValue)) (n : ℕ) → row_before (take n rows) n ≡ row_before rows n
row_before_take rows zero = refl
row_before_take rows (suc n) = ap Some (get_or-take (suc n) rows n [] (omega arith))

row_before_more : (rows : List (List PortValue)) (row : List PortValue) (k : ℕ) → k ≤ length rows
    → row_before (rows ++ row ∷ []) k ≡ row_before rows k
row_before_more rows row zero within = refl
row_before_more rows row (suc k) within = ap Some (get_or_append_left rows (row ∷ []) [] k (omega arith))

-- ---- one side
made_more : (b : BehaviourParts) (from : Frame) (vectors rows : List (List PortValue)) (to : Frame) (v : List PortValue)
    → IsMade b from vectors rows to
    → IsMade b from (vectors ++ v ∷ []) (rows ++ (fire b to v).outs ∷ []) (fire b to v).frame
made_more b from vectors rows to v is = record {
  rows_are =
      ap (λ (all : List (List PortValue)). all ++ (fire b to v).outs ∷ []) is.rows_are
      ∙ ap (λ (f : Frame). outputs b from vectors ++ (fire b f v).outs ∷ []) is.frame_is
      ∙ sym (outputs-append b from vectors (v ∷ []));
  frame_is = ap (λ (f : Frame). (fire b f v).frame) is.frame_is ∙ sym (frame_after-append b from vectors (v ∷ []));
}

module _ (round : RoundInputs) (pair_member : PairMember) (rows : List (List PortValue)) (row : List PortValue) (n : ℕ)
    (size : length rows ≡ n) where
  plant_more : map (plant_vector round pair_member (rows ++ row ∷ [])) (upwards 0 (n + 1))
      ≡ map (plant_vector round pair_member rows) (upwards 0 n)
      ++ side_vector round pair_member n (row_before rows n) ∷ []
  plant_more =
      map_upwards_more (plant_vector round pair_member (rows ++ row ∷ [])) n
      ∙ ap₂ (λ (vs : List (List PortValue)) (last : Option (List PortValue)). vs
      ++ side_vector round pair_member n last ∷ [])
      (map_upwards_same (plant_vector round pair_member (rows ++ row ∷ [])) (plant_vector round pair_member rows) 0 n
      (λ k above below. ap (side_vector round pair_member k) (row_before_more rows row k (omega (arith, below, size)))))
      (row_before_more rows row n (omega (arith, size)))

  controller_more : map (controller_vector round pair_member (rows ++ row ∷ [])) (upwards 0 (n + 1))
      ≡ map (controller_vector round pair_member rows) (upwards 0 n) ++ side_vector round pair_member n (Some row) ∷ []
  controller_more =
      map_upwards_more (controller_vector round pair_member (rows ++ row ∷ [])) n
      ∙ ap₂ (λ (vs : List (List PortValue)) (last : List PortValue). vs
      ++ side_vector round pair_member n (Some last) ∷ [])
      (map_upwards_same (controller_vector round pair_member (rows ++ row ∷ []))
      (controller_vector round pair_member rows) 0 n
      (λ k above below. ap (λ (r : List PortValue). side_vector round pair_member k (Some r))
      (get_or_append_left rows (row ∷ []) [] k (omega (arith, below, size)))))
      (get_or_push rows row [] n size)

-- ---- both
module _ (round : RoundInputs) (plant controller : PairMember) (n : ℕ) (p c : Work)
    (made : AreMade round plant controller n p c) (size_p : length p.rows ≡ n) (size_c : length c.rows ≡ n) where
  abbrev step_p : List PortValue → List PortValue
  step_p v = (fire plant.component.behaviour p.to v).outs

  abbrev step_c : List PortValue → List PortValue
  step_c w = (fire controller.component.behaviour c.to w).outs

  more : (v w : List PortValue) → v ≡ side_vector round plant n (row_before c.rows n)
      → w ≡ side_vector round controller n (Some (step_p v))
      → AreMade round plant controller (n + 1)
      (work p.from (p.rows ++ step_p v ∷ []) (fire plant.component.behaviour p.to v).frame)
      (work c.from (c.rows ++ step_c w ∷ []) (fire controller.component.behaviour c.to w).frame)
  more v w v_is w_is = record {
    plant_is =
        subst (λ (vs : List (List PortValue)).
        IsMade plant.component.behaviour p.from vs (p.rows ++ step_p v ∷ [])
        (fire plant.component.behaviour p.to v).frame)
        (ap (λ (x : List PortValue). map (plant_vector round plant c.rows) (upwards 0 n) ++ x ∷ []) v_is
        ∙ sym (plant_more round plant c.rows (step_c w) n size_c))
        (made_more plant.component.behaviour p.from (map (plant_vector round plant c.rows) (upwards 0 n)) p.rows p.to v
        made.plant_is);
    controller_is =
        subst (λ (vs : List (List PortValue)).
        IsMade controller.component.behaviour c.from vs (c.rows ++ step_c w ∷ [])
        (fire controller.component.behaviour c.to w).frame)
        (ap (λ (x : List PortValue). map (controller_vector round controller p.rows) (upwards 0 n) ++ x ∷ []) w_is
        ∙ sym (controller_more round controller p.rows (step_p v) n size_p))
        (made_more controller.component.behaviour c.from (map (controller_vector round controller p.rows) (upwards 0 n))
        c.rows c.to w made.controller_is);
  }

  pub both_more : (v w : List PortValue) (rows_p rows_c : List (List PortValue)) (to_p to_c : Frame)
      → v ≡ side_vector round plant n (row_before c.rows n) → w ≡ side_vector round controller n (Some (step_p v))
      → rows_p ≡ p.rows ++ step_p v ∷ [] → to_p ≡ (fire plant.component.behaviour p.to v).frame
      → rows_c ≡ c.rows ++ step_c w ∷ [] → to_c ≡ (fire controller.component.behaviour c.to w).frame
      → AreMade round plant controller (n + 1) (work p.from rows_p to_p) (work c.from rows_c to_c)
  both_more v w rows_p rows_c to_p to_c v_is w_is a b d e =
      let one : work p.from (p.rows ++ step_p v ∷ []) (fire plant.component.behaviour p.to v).frame
      ≡ work p.from rows_p to_p = ap₂ (work p.from) (sym a) (sym b) in
      let two : work c.from (c.rows ++ step_c w ∷ []) (fire controller.component.behaviour c.to w).frame
      ≡ work c.from rows_c to_c = ap₂ (work c.from) (sym d) (sym e) in
      subst (λ (x : Work). AreMade round plant controller (n + 1) x (work c.from rows_c to_c)) one
      (subst (AreMade round plant controller (n + 1)
      (work p.from (p.rows ++ step_p v ∷ []) (fire plant.component.behaviour p.to v).frame)) two
      (more v w v_is w_is))
