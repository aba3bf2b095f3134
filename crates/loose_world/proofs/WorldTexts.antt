-- The law of texts: the text of a loose world, with its stop if it has one.
use Rattle.std.proofs.Common.{◌≡◌, ℕ, List, [], ◌++◌, false, sym, ap, ap₂, ◌∙◌, subst}
use Rattle.step_code.specs.declared.instr.CodeParts.{CodeParts}
use Rattle.pals_model.specs.RoundTexts.{text_of, report}
use Rattle.pals_model.proofs.TextLineLaws.{text_of-append}
use Rattle.pals_runs.specs.declared.events_and_faults.Event.{Event}
use Rattle.pals_runs.specs.declared.journal.Stop.{Stop}
use Rattle.bus_machine.specs.BusStates.{finished_by_all}
use Rattle.bus_machine.specs.RunParameters.{Run}
use Rattle.bus_machine.specs.Agreement.{Agrees}
use Rattle.bus_machine.specs.proof.AgreementLaws.{IsRunOf}
use Rattle.bus_machine.specs.WorldTexts.{sent_lines, world_rows, worldtext}
use Rattle.pals_bus.specs.BusValues.{BusValue}
use Rattle.pals_bus.specs.proof.OpeningNodes.{opening_bus}
use Rattle.loose_world.specs.proof.FinishedRows.{finished_lines, common_lines}
use Rattle.loose_world.specs.declared.loose_run.LooseEnd.TheVariants as end
use Rattle.loose_world.specs.LooseRuns.{Tells}
use Rattle.loose_world.specs.proof.BusAfterEvents.{IsLeftBy, IsReplayed}
use Rattle.loose_world.proofs.BusAfterEvents.{left_by_loose}
use Rattle.loose_world.proofs.JournalReplays.{journal_replays}
use Rattle.loose_world.proofs.FinishedRows.{finished_rows, common_rows}
use Rattle.loose_world.proofs.ToldLines.{lines_are_told}

pub world_is_told : (run : Run) (events : List Event) (t : BusValue) (lines : List (List ℕ)) → IsRunOf run
    → IsLeftBy run events t lines
    → text_of (finished_lines t) ++ text_of lines ≡ worldtext run.design run.env events
world_is_told run events t lines rules left =
    ap₂ (λ rows sent. text_of rows ++ text_of sent) (finished_rows run events t lines rules left)
    (lines_are_told run events t lines rules left)
    ∙ sym (text_of-append (world_rows run.design run.env events) (sent_lines run.design run.env events []))

pub text_is_told : (run : Run) (programs : List CodeParts) (events : List Event) (t : BusValue) (sent : List ℕ)
    → IsRunOf run
    → Tells (opening_bus run programs false) events end.All t [] sent
    → text_of (finished_lines t) ++ sent ≡ worldtext run.design run.env events
text_is_told run programs events t sent rules tells =
    ap (λ (xs : List ℕ). text_of (finished_lines t) ++ xs) tells.told
    ∙ world_is_told run events t tells.lines rules (left_by_loose run programs events t tells.lines tells.runs)

pub stop_is_told : (run : Run) (programs : List CodeParts) (events : List Event) (why : Stop) (t : BusValue)
    (sent : List ℕ) → IsRunOf run
    → Tells (opening_bus run programs false) events (end.Stopped why) t [] sent
    → text_of (common_lines t) ≡ report run.design run.env (finished_by_all run t.state)
stop_is_told run programs events why t sent rules tells =
    let left : IsReplayed run t =
    journal_replays run programs events (end.Stopped why) t tells.lines rules tells.runs in
    common_rows t (subst IsRunOf (sym left.run_is) rules) (subst (λ r. Agrees r t.state) (sym left.run_is) left.agrees)
    ∙ ap (λ (r : Run). report r.design r.env (finished_by_all r t.state)) left.run_is
