-- The text and the verdicts of watched properties, one round more.
use Rattle.std.proofs.Common.{◌≡◌, ◌∙◌, ℕ, zero, suc, ◌+◌, ◌<◌, ◌≤◌, List, [], ◌∷◌, ◌++◌, length, map, refl, ap, ap₂}
use Rattle.std.proofs.Common.{arith, append-nil, zero-add, length-append}
use Rattle.std.specs.Prelude.{flat_map}
use Rattle.std.proofs.lemmas.Grind.{flat_map-append}
use Rattle.pals_base.specs.declared.frames.Frame.{Frame}
use Rattle.pals_base.specs.UpwardNumbers.{upwards}
use Rattle.pals_base.proofs.UpwardNumbers.{upwards-more}
use Rattle.pals_model.specs.Composition.{comp}
use Rattle.pals_model.specs.RoundTexts.{line_end, text_of, round_line}
use Rattle.pals_runs.specs.Formula.{Formula}
use Rattle.run_monitor.specs.FormulaSemantics.{holds, frame_rows}
use Rattle.run_monitor.specs.WatchText.{verdict_line, watched_lines}
use Rattle.run_monitor.specs.proof.FrameRowGrowth.{RowsGoOn}
use Rattle.run_monitor.proofs.FormulaLaws.{past_stays}
use Rattle.run_monitor.proofs.FrameRowGrowth.{history_goes_on, history_has_rounds}
use Rattle.std.specs.Option.{option_or}
use Rattle.list_lemmas.proofs.Options.{option_or-none}
use Rattle.run_monitor.specs.FalseProperties.{formula_values, first_false_at, first_false_in, first_false}
use Rattle.run_monitor.proofs.FirstFalseProperty.{or_assoc, violation_of}

lines-stay : (properties : List (List ℕ × Formula)) (h more : List (List Frame)) (round : ℕ) → round < length h
    → map (λ p. verdict_line p.0 (holds p.1 (h ++ more) round)) properties
    ≡ map (λ p. verdict_line p.0 (holds p.1 h round)) properties
lines-stay [] h more round within = refl
lines-stay (p ∷ properties) h more round within =
    ap₂ (λ b lines. verdict_line p.0 b ∷ lines) (past_stays p.1 h more round within)
    (lines-stay properties h more round within)

rows-stay : (properties : List (List ℕ × Formula)) (h more : List (List Frame)) (from count : ℕ)
    → from + count ≤ length h
    → flat_map (watched_lines properties (h ++ more)) (upwards from count)
    ≡ flat_map (watched_lines properties h) (upwards from count)
rows-stay properties h more from zero within = refl
rows-stay properties h more from (suc count) within =
    ap₂ (λ lines rest. (round_line from ∷ lines) ++ rest) (lines-stay properties h more from (omega arith))
    (rows-stay properties h more (suc from) count (omega arith))

pub rows_go_on : RowsGoOn
rows_go_on design env rounds properties =
    let before = frame_rows design env rounds in
    let after = frame_rows design env (suc rounds) in
    let row : List Frame = (comp design env (suc rounds)).frames in
    let size = history_has_rounds design env rounds in
    ap (λ ns. text_of (flat_map (watched_lines properties after) ns))
    (upwards-more 0 rounds ∙ ap (λ n. upwards 0 rounds ++ n ∷ []) (zero-add rounds))
    ∙ ap text_of (flat_map-append (watched_lines properties after) (upwards 0 rounds) (rounds ∷ []))
    ∙ flat_map-append (λ line. line ++ line_end) (flat_map (watched_lines properties after) (upwards 0 rounds))
    (watched_lines properties after rounds ++ [])
    ∙ ap₂ (λ lines last. text_of lines ++ text_of last)
    (ap (λ h. flat_map (watched_lines properties h) (upwards 0 rounds)) (history_goes_on design env rounds)
    ∙ rows-stay properties before (row ∷ []) 0 rounds (omega (arith, size)))
    (append-nil (watched_lines properties after rounds))

pub formula_values-stay : (fs : List Formula) (h more : List (List Frame)) (round : ℕ) → round < length h
    → formula_values fs (h ++ more) round ≡ formula_values fs h round
formula_values-stay [] h more round within = refl
formula_values-stay (f ∷ fs) h more round within =
    ap₂ (λ b bs. b ∷ bs) (past_stays f h more round within) (formula_values-stay fs h more round within)

first_false_in-stay : (fs : List Formula) (h more : List (List Frame)) (from count : ℕ) → from + count ≤ length h
    → first_false_in fs (h ++ more) (upwards from count) ≡ first_false_in fs h (upwards from count)
first_false_in-stay fs h more from zero within = refl
first_false_in-stay fs h more from (suc count) within =
    ap₂ option_or (ap (violation_of from) (formula_values-stay fs h more from (omega arith)))
    (first_false_in-stay fs h more (suc from) count (omega arith))

first_false-append : (fs : List Formula) (h : List (List Frame)) (xs ys : List ℕ)
    → first_false_in fs h (xs ++ ys) ≡ option_or (first_false_in fs h xs) (first_false_in fs h ys)
first_false-append fs h [] ys = refl
first_false-append fs h (x ∷ xs) ys =
    ap (option_or (first_false_at fs h x)) (first_false-append fs h xs ys)
    ∙ or_assoc (first_false_at fs h x) (first_false_in fs h xs) (first_false_in fs h ys)

pub first_false-more : (fs : List Formula) (h : List (List Frame)) (row : List Frame)
    → first_false fs (h ++ row ∷ []) (length (h ++ row ∷ []))
    ≡ option_or (first_false fs h (length h)) (first_false_at fs (h ++ row ∷ []) (length h))
first_false-more fs h row =
    let longer = h ++ row ∷ [] in
    let size : length longer ≡ suc (length h) = length-append h (row ∷ []) ∙ omega arith in
    ap (first_false fs longer) size
    ∙ ap (first_false_in fs longer)
    (upwards-more 0 (length h) ∙ ap (λ k. upwards 0 (length h) ++ k ∷ []) (zero-add (length h)))
    ∙ first_false-append fs longer (upwards 0 (length h)) (length h ∷ [])
    ∙ ap₂ option_or (first_false_in-stay fs h (row ∷ []) 0 (length h) (omega arith))
    (option_or-none (first_false_at fs longer (length h)))
