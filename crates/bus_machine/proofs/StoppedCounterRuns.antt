-- For StoppedCounterRuns: the two example runs of the counters, computed.
use Rattle.std.proofs.Common.{refl, sym, subst, append-nil}
use Rattle.std.proofs.lemmas.List.{append_assoc}
use Rattle.std.specs.Fmt.{digits}
use Rattle.std.specs.Prelude.{◌≡◌, ◌++◌, List, [], ◌∷◌, None, true}
use Rattle.pals_base.specs.SingleStep.{fire}
use Rattle.pals_runs.specs.declared.journal.JournalEntry.{JournalEntry}
use Rattle.bus_machine.specs.BusStates.{BusState, opening}
use Rattle.bus_machine.specs.RunParameters.{Run}
use Rattle.bus_machine.specs.Machine.{BusEvent, is_allowed, after}
use Rattle.bus_machine.specs.Replay.{Replays, opens, goes_on, entries}
use Rattle.bus_machine.specs.proof.StoppedCounterRuns.{counters, early_arrival, early_lines, lost_message, lost_lines}
use Rattle.bus_machine.specs.proof.StoppedCounterRuns.{journal_from, state_from, IsRun, Tells}

-- each event is allowed
abbrev AreSteps : Run → BusState → List BusEvent → Type 0
AreSteps run s [] = Unit {0}
AreSteps run s (e ∷ es) = (s.stop ≡ None) × (is_allowed run s e ≡ true) × AreSteps run (after run s e) es

-- a journal that replays is extended by allowed events
extends : (run : Run) (journal : List JournalEntry) (s : BusState) (es : List BusEvent) → Replays run journal s
    → AreSteps run s es
    → Replays run (journal ++ journal_from run s es) (state_from run s es)
extends run journal s [] replays steps = subst (λ j. Replays run j s) (sym (append-nil journal)) replays
extends run journal s (e ∷ es) replays steps =
    let next : Replays run (journal ++ entries run s e) (after run s e) =
    goes_on e replays (record { going = steps.0; allowed = steps.1; state = refl }) in
    subst (λ j. Replays run j (state_from run (after run s e) es))
    (append_assoc journal (entries run s e) (journal_from run (after run s e) es))
    (extends run (journal ++ entries run s e) (after run s e) es next steps.2)

is_run : (run : Run) (es : List BusEvent) → AreSteps run (opening run) es → IsRun run es
is_run run es steps = extends run [] (opening run) es opens steps

early_steps : AreSteps (counters 1) (opening (counters 1)) early_arrival
unfolding digits fire
early_steps = (refl, refl, (refl, refl, (refl, refl, (refl, refl, tt))))

pub early_run : Tells (counters 1) early_arrival early_lines
unfolding digits fire
early_run = record { replays = is_run (counters 1) early_arrival early_steps; lines_are = refl }

lost_steps : AreSteps (counters 2) (opening (counters 2)) lost_message
unfolding digits fire
lost_steps = (
  refl,
  refl,
  (
    refl,
    refl,
    (
      refl,
      refl,
      (
        refl,
        refl,
        (
          refl,
          refl,
          (
            refl,
            refl,
            (refl, refl, (refl, refl, (refl, refl, (refl, refl, (refl, refl, (refl, refl, tt)))))),
          ),
        ),
      ),
    ),
  ),
)

pub lost_run : Tells (counters 2) lost_message lost_lines
unfolding digits fire
lost_run = record { replays = is_run (counters 2) lost_message lost_steps; lines_are = refl }
