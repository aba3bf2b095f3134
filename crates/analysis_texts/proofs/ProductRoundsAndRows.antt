-- What a product has after one more round, and the row that the round adds to the text.
use Rattle.std.proofs.Common.{◌≡◌, ℕ, zero, suc, ◌+◌, ◌<◌, List, [], ◌∷◌, ◌++◌, length, map, sym, ap, ◌∙◌, arith}
use Rattle.std.proofs.Common.{get_or, refl, ap₂, add-one, add-zero, zero-add, append-nil}
use Rattle.std.proofs.lemmas.Grind.{flat_map-append}
use Rattle.std.specs.Prelude.{flat_map, slice_get}
use Rattle.std.proofs.lemmas.Simd.{map-map}
use Rattle.pals_base.specs.declared.basic_types.PortValue.{PortValue}
use Rattle.pals_base.specs.declared.frames.Frame.{Frame}
use Rattle.pals_base.specs.StepSequences.{Stepped}
use Rattle.pals_base.specs.UpwardNumbers.{upwards}
use Rattle.pals_base.proofs.UpwardNumbers.{upwards-more, slice_get-map_upwards}
use Rattle.pals_model.specs.declared.design.DesignParts.{DesignParts}
use Rattle.pals_model.specs.declared.environment.Env.{Env}
use Rattle.pals_model.specs.declared.part.Part.{Part}
use Rattle.pals_model.specs.Composition.{comp, next, no_frame, part, all_steps, part_of}
use Rattle.pals_model.specs.ComponentInputs.{values_at}
use Rattle.pals_model.specs.RoundTexts.{line_end, text_of, composed_lines, row, report}
use Rattle.pals_model.proofs.CompositionLaws.{one_frame_each}
use Rattle.pals_report.specs.proof.RowLines.{ArePartsOf}
use Rattle.run_monitor.specs.proof.FormBits.{row_of}
use Rattle.sync_product.specs.proof.ProductStates.{ProductState, advanced, parts_of}

-- ---- the results of a round
-- a product at a round has the round's parts after it
pub parts_after : (design : DesignParts) (env : Env) (round : ℕ) (values : List PortValue) (old : ProductState)
    (parts : List Part) → old.design ≡ design
    → values ≡ values_at env round
    → old.configuration ≡ comp design env round → parts ≡ (advanced old values).parts
    → ArePartsOf design env round (λ node. slice_get parts node)
unfolding part
parts_after design env round values old parts same here at is node below =
    let all = all_steps design (values_at env round) (comp design env round) in
    ap (λ ps. slice_get ps node)
    (is ∙ ap (λ d. parts_of d (all_steps d values old.configuration)) same
    ∙ ap (λ k. parts_of design (all_steps design values k)) at
    ∙ ap (λ v. parts_of design (all_steps design v (comp design env round))) here)
    ∙ slice_get-map_upwards (part_of design all) (length design.components) node below

-- a product at a round is at the next round after it
pub further : (design : DesignParts) (env : Env) (round : ℕ) (values : List PortValue) (old : ProductState)
    → old.design ≡ design → values ≡ values_at env round
    → old.configuration ≡ comp design env round → (advanced old values).configuration ≡ comp design env (round + 1)
unfolding comp
further design env round values old same here at =
    ap (λ d. next d values old.configuration) same ∙ ap (next design values) at
    ∙ ap (λ v. next design v (comp design env round)) here
    ∙ ap (comp design env) (sym (add-one round))

-- and its parts have the frames of that round
frames_of_all : (xs : List Frame) (from n : ℕ) (all : List Frame) → length xs ≡ n
    → ((k : ℕ) (d : Frame) → k < n → get_or all (from + k) d ≡ get_or xs k d)
    → map (λ node. get_or all node no_frame) (upwards from n) ≡ xs
frames_of_all [] from zero all size each = refl
frames_of_all [] from (suc n) all size each = absurd (omega arith)
frames_of_all (x ∷ xs) from zero all size each = absurd (omega arith)
frames_of_all (x ∷ xs) from (suc n) all size each =
    ap₂ (λ y ys. y ∷ ys) (ap (λ k. get_or all k no_frame) (sym (add-zero from)) ∙ each 0 no_frame (omega arith))
    (frames_of_all xs (suc from) n all (omega arith)
    (λ k d below. ap (λ j. get_or all j d) (omega arith) ∙ each (suc k) d (omega arith)))

pub row_after : (env : Env) (round : ℕ) (values : List PortValue) (old : ProductState) (parts : List Part)
    → values ≡ values_at env round
    → old.configuration ≡ comp old.design env round → parts ≡ (advanced old values).parts
    → row_of parts ≡ (comp old.design env (round + 1)).frames
unfolding comp
row_after env round values old parts here at is =
    let design = old.design in
    let stepped = all_steps design (values_at env round) (comp design env round) in
    let frames : List Frame = map (λ (s : Stepped). s.frame) stepped in
    let size : length frames ≡ length design.components = one_frame_each design env (suc round) in
    ap row_of (is ∙ ap (λ k. parts_of design (all_steps design values k)) at
    ∙ ap (λ v. parts_of design (all_steps design v (comp design env round))) here)
    ∙ map-map (λ (p : Part). p.frame) (part_of design stepped) (upwards 0 (length design.components))
    ∙ frames_of_all frames 0 (length design.components) frames size
    (λ k d below. ap (λ j. get_or frames j d) (zero-add k))
    ∙ ap (λ n. (comp design env n).frames) (sym (add-one round))

-- ---- the report
-- one more row after the rows of the rounds before it
pub rows_more : (lines : ℕ → List (List ℕ)) (round : ℕ) (text : List ℕ)
    → text ≡ text_of (flat_map lines (upwards 0 round))
    → text ++ text_of (lines round) ≡ text_of (flat_map lines (upwards 0 (round + 1)))
rows_more lines round text is =
    ap (λ t. t ++ text_of (lines round)) is
    ∙ sym (ap (λ n. text_of (flat_map lines (upwards 0 n))) (add-one round)
    ∙ ap (λ rounds. text_of (flat_map lines rounds)) (upwards-more 0 round)
    ∙ ap text_of (flat_map-append lines (upwards 0 round) ((0 + round) ∷ []))
    ∙ flat_map-append (λ line. line ++ line_end) (flat_map lines (upwards 0 round)) (flat_map lines ((0 + round) ∷ []))
    ∙ ap (λ more. text_of (flat_map lines (upwards 0 round)) ++ text_of more)
    (append-nil (lines (0 + round)) ∙ ap lines (zero-add round)))

pub report_more : (design : DesignParts) (env : Env) (round : ℕ) (text : List ℕ) → text ≡ report design env round
    → text ++ row design env round ≡ report design env (round + 1)
report_more design env round text is = rows_more (composed_lines design env) round text is
