-- The report on a run that has reached its end: its texts are the texts of the run, and its trace is sound.
use Rattle.std.proofs.Common.{◌≡◌, ◌≢◌, ◌∙◌, inl, inr, ◌⊎◌, ℕ, ◌≤◌, Bool, List, [], map, All, ◌++◌, Option, Some, None}
use Rattle.std.proofs.Common.{sym, ap, subst, if◌then◌else◌}
use Rattle.pals_base.specs.declared.limits.TheConstants.{ROUNDS, READING}
use Rattle.pals_clock.specs.declared.clock.Clocks.{Clocks}
use Rattle.pals_clock.specs.declared.clock.Clocks.TheVariants.{Meet, Lists}
use Rattle.pals_model.specs.RoundTexts.{text_of, report, report_lines}
use Rattle.pals_model.proofs.TextLineLaws.{text_of-append}
use Rattle.pals_runs.specs.declared.journal.JournalEntry.{JournalEntry}
use Rattle.pals_runs.specs.declared.journal.Stop.{Stop}
use Rattle.pals_runs.specs.declared.verdicts.Verdict.TheVariants.{Sound}
use Rattle.pals_runs.specs.JournalLines.{entry_line}
use Rattle.bus_machine.specs.proof.AgreementLaws.{IsRunOf}
use Rattle.bus_machine.specs.BusStates.{BusState, finished_by_all}
use Rattle.bus_machine.specs.RunParameters.{Run}
use Rattle.run_laws.specs.TextLines.{lines_of}
use Rattle.run_laws.specs.TraceVerdicts.{verdict}
use Rattle.run_laws.specs.Meetings.{AllDone}
use Rattle.run_laws.specs.Runs.{Runs, lists_in}
use Rattle.run_laws.specs.proof.RunTraces.{AreReadings}
use Rattle.run_laws.specs.HistoriesAndTraces.{trace_of}
use Rattle.run_laws.proofs.TimelyRunsAndEnds.{readings_same}
use Rattle.run_laws.proofs.RunGuarantees.{clauses_are_kept}
use Rattle.run_laws.proofs.RunTraces.{runs_are_sound, traces_are_texts}
use Rattle.run_texts.specs.RunTexts.{RunOutcome, journal_text, IsCompletedRun, IsStoppedRun}
use Rattle.run_texts.proofs.FinishedRounds.{done_finish_all}

-- the readings of lists that are the same are in the same range
same_range : (later clocks : Clocks) → lists_in later ≡ lists_in clocks → AreReadings clocks → AreReadings later
same_range Meet Meet same range = range
same_range Meet (Lists others) same range = tt
same_range (Lists lists) Meet same range = absurd (cc)
same_range (Lists lists) (Lists others) same range = λ node.
    subst (All (λ reading. reading ≤ READING)) (sym (readings_same lists others same node)) (range node)

module _ (run : Run) (clocks later : Clocks) (journal : List JournalEntry) (s : BusState) (rules : IsRunOf run)
    (runs : Runs run later journal s)
    (lists : lists_in later ≡ lists_in clocks) (few : run.rounds ≤ ROUNDS) (range : AreReadings clocks) where
  abbrev pub outcome : RunOutcome run clocks
  outcome = record {
    later = later;
    lists = lists;
    journal = journal;
    state = s;
    runs = runs;
    keeps = clauses_are_kept run later journal s rules runs;
  }

  -- a text of the rows and the journal is a sound trace
  sound_of : (text : List ℕ) (stop : Option Stop) → (s.stop ≢ None) ⊎ AllDone run s → s.stop ≡ stop
      → text ≡ report run.design run.env (finished_by_all run s) ++ journal_text run journal
      → verdict run (lines_of text) ≡ Sound (finished_by_all run s) stop
  sound_of text stop over is told =
      let later_range = same_range later clocks lists range in
      let trace = trace_of run journal s in
      let whole : text ≡ text_of trace =
      told ∙ sym (text_of-append (report_lines run.design run.env (finished_by_all run s))
      (map (entry_line run.design) journal)) in
      ap (λ t. verdict run (lines_of t)) whole
      ∙ ap (verdict run) (traces_are_texts run later journal s rules runs few later_range)
      ∙ runs_are_sound run later journal s rules runs few later_range over
      ∙ ap (Sound (finished_by_all run s)) is

  -- all nodes are done
  pub completed : (trace : Bool) (text : List ℕ) → AllDone run s → s.stop ≡ None
      → text ≡ report run.design run.env (finished_by_all run s) ++ (if trace then journal_text run journal else [])
      → IsCompletedRun run clocks trace text
  completed trace text all going told =
      let every : finished_by_all run s ≡ run.rounds = done_finish_all run s outcome.keeps.agrees all in
      record {
        outcome = outcome;
        done = all;
        going = going;
        text_is =
            told ∙ ap (λ n. report run.design run.env n ++ (if trace then journal_text run journal else [])) every;
        sound = λ traced.
            let whole =
            told ∙ ap (λ t. report run.design run.env (finished_by_all run s)
            ++ (if t then journal_text run journal else [])) traced in
            sound_of text None (inr all) going whole ∙ ap (λ n. Sound n None) every;
      }

  -- the run has stopped
  pub stopped : (why : Stop) (text : List ℕ) → s.stop ≡ Some why
      → text ≡ report run.design run.env (finished_by_all run s) ++ journal_text run journal
      → IsStoppedRun run clocks text
  stopped why text is told = record {
    outcome = outcome;
    why = why;
    stop = is;
    text_is = told;
    sound = sound_of text (Some why) (inl (λ none. let both : Some why ≡ None = sym is ∙ none in absurd (cc))) is told;
  }
