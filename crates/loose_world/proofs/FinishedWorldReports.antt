-- The law of reports: if all components have finished the same rounds, the rows are the rows that `sync` reports, and
-- the text is that report and the messages.
use Rattle.std.proofs.Common.{◌≡◌, ◌∙◌, ℕ, zero, suc, ◌<◌, ◌≤◌, List, [], ◌++◌, length, map, Some, None, ap, arith}
use Rattle.std.specs.Prelude.{fold, max, flat_map, if◌then◌else◌}
use Rattle.std.proofs.lemmas.Bool.{lt-ltb}
use Rattle.std.proofs.lemmas.List.Concat.{flat_map-append}
use Rattle.pals_base.specs.UpwardNumbers.{upwards}
use Rattle.pals_base.proofs.UpwardNumbers.{map_upwards_same, flat_map_upwards_same}
use Rattle.pals_model.specs.declared.design.DesignParts.{DesignParts}
use Rattle.pals_model.specs.declared.environment.Env.{Env}
use Rattle.pals_model.specs.Composition.{part}
use Rattle.pals_model.specs.RoundTexts.{row_lines, composed_lines, report_lines, report, text_of, line_end}
use Rattle.pals_model.specs.DesignRules.{IsDesign}
use Rattle.pals_model.proofs.TextLineLaws.{same_row}
use Rattle.pals_runs.specs.declared.events_and_faults.Event.{Event}
use Rattle.bus_machine.specs.WorldTexts.{finished_by, part_shown, rounds_shown, sent_lines, world_rows, worldtext}
use Rattle.loose_world.specs.proof.FinishedWorldReports.{AllHaveFinished}

-- the most of equal numbers
most_same : (n a from m : ℕ) → a ≤ n → 0 < m → fold max a (map (λ (_ : ℕ). n) (upwards from m)) ≡ n
most_same n a from zero most some = absurd (omega arith)
most_same n a from (suc zero) most some = omega arith
most_same n a from (suc (suc m)) most some = most_same n (max a n) (suc from) (suc m) (omega arith) (omega arith)

module _ (design : DesignParts) (env : Env) (events : List Event) (rounds : ℕ) (rules : IsDesign design)
    (all : AllHaveFinished design events rounds) where
  rounds_are : rounds_shown design events ≡ rounds
  rounds_are =
      let some = all.some in
      ap (fold max 0) (map_upwards_same (finished_by design events) (λ _. rounds) 0 (length design.components)
      (λ node above within. all.each node (omega (arith, within))))
      ∙ most_same rounds 0 0 (length design.components) (omega arith) some

  part_is_shown : (round node : ℕ) → round < rounds → node < length design.components
      → part_shown design env events round node ≡ Some (part design env node round)
  part_is_shown round node below within =
      let count = all.each node within in
      let less : round < finished_by design events node = omega arith in
      ap (λ b. if b then Some (part design env node round) else None)
      (lt-ltb round (finished_by design events node) less)

  pub world_is_reported : world_rows design env events ≡ report_lines design env rounds
  world_is_reported =
      ap (λ (n : ℕ). flat_map (λ round. row_lines design (part_shown design env events round) round)
      (upwards 0 n)) rounds_are
      ∙ flat_map_upwards_same (λ round. row_lines design (part_shown design env events round) round)
      (composed_lines design env) 0 rounds
      (λ round above below. same_row design (part_shown design env events round)
      (λ node. Some (part design env node round)) round rules
      (λ node within. part_is_shown round node (omega (arith, below)) within))

  pub world_text_is_reported : worldtext design env events
      ≡ report design env rounds ++ text_of (sent_lines design env events [])
  world_text_is_reported =
      flat_map-append (λ line. line ++ line_end) (world_rows design env events) (sent_lines design env events [])
      ∙ ap (λ (rows : List (List ℕ)). text_of rows ++ text_of (sent_lines design env events [])) world_is_reported
