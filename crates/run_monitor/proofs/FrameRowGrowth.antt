-- The history of a design grows by a row each round.
use Rattle.std.proofs.Common.{◌∙◌, inl, inr, zero, suc, ◌≤◌, List, [], ◌∷◌, length, refl, sym, ap, arith, length-append}
use Rattle.std.proofs.Common.{add-one, eq-or-lt_of_le}
use Rattle.pals_base.specs.declared.frames.Frame.{Frame}
use Rattle.pals_base.proofs.UpwardNumbers.{map_upwards_more}
use Rattle.pals_model.specs.Composition.{comp}
use Rattle.run_monitor.specs.FormulaSemantics.{holds, frame_rows}
use Rattle.run_monitor.specs.proof.FrameRowGrowth.{HistoryHasRounds, HistoryGoesOn, SaidAtOnce}
use Rattle.run_monitor.proofs.FormulaLaws.{past_stays}

pub history_goes_on : HistoryGoesOn
history_goes_on design env rounds =
    ap (frame_rows design env) (sym (add-one rounds))
    ∙ map_upwards_more (λ round. (comp design env (suc round)).frames) rounds

pub history_has_rounds : HistoryHasRounds
history_has_rounds design env zero = refl
history_has_rounds design env (suc rounds) =
    let before = history_has_rounds design env rounds in
    let row : List (List Frame) = (comp design env (suc rounds)).frames ∷ [] in
    ap length (history_goes_on design env rounds) ∙ length-append (frame_rows design env rounds) row
    ∙ omega (arith, before)

pub said_at_once : SaidAtOnce
said_at_once f design env round zero within = absurd (omega arith)
said_at_once f design env round (suc rounds) within =
    let upto : round ≤ rounds = omega (arith, within) in
    elim (eq-or-lt_of_le upto) [
      | inl same ↦ ap (λ n. holds f (frame_rows design env (suc n)) round) (sym same)
      | inr less ↦
          let size = history_has_rounds design env rounds in
          ap (λ (h : List (List Frame)). holds f h round) (history_goes_on design env rounds)
          ∙ past_stays f (frame_rows design env rounds) ((comp design env (suc rounds)).frames ∷ []) round
          (omega (arith, size, less))
          ∙ said_at_once f design env round rounds less
    ]
