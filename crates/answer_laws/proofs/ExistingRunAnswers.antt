-- A run of each scenario reaches its end, and an answer reports it.
use Rattle.std.proofs.Common.{◌≡◌, ◌⊎◌, inl, inr, ℕ, ◌<◌, ◌≤◌, Bool, List, [], ◌++◌, length, Option, Some, None, refl}
use Rattle.std.proofs.Common.{ap, if◌then◌else◌}
use Rattle.pals_base.specs.declared.limits.TheConstants.{ROUNDS}
use Rattle.pals_clock.specs.ClockStates.{ClockState}
use Rattle.pals_clock.specs.declared.clock.Clocks.{Clocks}
use Rattle.pals_clock.specs.declared.clock.Clocks.TheVariants.{Meet, Lists}
use Rattle.pals_model.specs.declared.design.DesignParts.{DesignParts}
use Rattle.pals_model.specs.DesignRules.{IsDesign}
use Rattle.pals_model.specs.RoundTexts.{line_end, report}
use Rattle.pals_report.specs.ClockEndsAndVerdicts.{clock_end_line}
use Rattle.pals_runs.specs.declared.journal.JournalEntry.{JournalEntry}
use Rattle.pals_runs.specs.declared.journal.Stop.{Stop}
use Rattle.scenario_json.specs.proof.InputsDelaysAndClocks.{IsUnpickedClock, AreClocksOf, AreClocksFor}
use Rattle.scenario_json.specs.declared.scenario.Scenario.{Scenario}
use Rattle.scenario_json.specs.proof.ScenarioValidity.{IsScenarioOf}
use Rattle.bus_machine.specs.proof.AgreementLaws.{IsRunOf}
use Rattle.bus_machine.specs.Plans.{plan_of}
use Rattle.bus_machine.specs.BusStates.{BusState, finished_by_all}
use Rattle.bus_machine.specs.RunParameters.{Run}
use Rattle.bus_machine.specs.ActionsAndTargets.{target}
use Rattle.run_laws.specs.ListRunEndsAndStops.{AllAtEnd}
use Rattle.run_laws.specs.proof.RunTermination.{HasCome, EachRunEnds, IsFirstEnded, EndsAreNamed}
use Rattle.run_laws.specs.Meetings.{AllDone}
use Rattle.run_laws.specs.Runs.{no_clock, clock_at, lists_in, AreFresh, HaveFreshClocks, Runs}
use Rattle.run_laws.specs.proof.RunTraces.{AreReadings}
use Rattle.run_texts.specs.RunTexts.{journal_text, IsCompletedRun, IsStoppedRun, IsEndedRun}
use Rattle.run_texts.proofs.RunTexts.{outcome, completed, stopped}
use Rattle.pals_top.specs.declared.status.TheConstants.{DONE, STOPPED, CLOCK_ENDED}
use Rattle.pals_top.specs.BundleScenarios.{run_of}
use Rattle.pals_top.specs.Run.{IsRunAnswer}
use Rattle.pals_top.proofs.ScenarioRuns.{are_readings}

-- ---- the clocks of a scenario
module _ (run : Run) (clocks : List ClockState) (are : AreClocksOf run.design clocks) where
  opening_at : (node : ℕ) → node < length clocks → IsUnpickedClock (clock_at clocks node)
  opening_at node within = are.each node no_clock within

  fresh : AreFresh run clocks
  fresh = record {
    count = are.components;
    each = λ node within. ap (λ (c : ClockState). c.left) (opening_at node within).unpicked_yet;
    order = λ node within. (opening_at node within).order;
  }

begins : (run : Run) (clocks : Clocks) → AreClocksFor run.design clocks → HaveFreshClocks run clocks
begins run Meet are = tt
begins run (Lists clocks) are = fresh run clocks are

-- ---- the answer for a run at its end
abbrev Tells : Run → Clocks → Bool → ℕ → List ℕ → Type 0
Tells run clocks trace status text =
    ((status ≡ DONE) × IsCompletedRun run clocks trace text) ⊎ ((status ≡ STOPPED) × IsStoppedRun run clocks text)
    ⊎ ((status ≡ CLOCK_ENDED) × IsEndedRun run clocks text)

module _ (run : Run) (clocks : Clocks) (trace : Bool) where
  abbrev IsTold : Type 0
  IsTold = (status : ℕ) × (text : List ℕ) × Tells run clocks trace status text

  module _ (later : Clocks) (journal : List JournalEntry) (s : BusState) (rules : IsRunOf run)
      (runs : Runs run later journal s) (lists : lists_in later ≡ lists_in clocks)
      (few : run.rounds ≤ ROUNDS) (range : AreReadings clocks) where
    done : AllDone run s → s.stop ≡ None → IsTold
    done all going = (
      DONE,
      report run.design run.env (finished_by_all run s) ++ (if trace then journal_text run journal else []),
      inl (refl, completed run clocks later journal s rules runs lists few range trace _ all going refl),
    )

    at_stop : (why : Stop) → s.stop ≡ Some why → IsTold
    at_stop why is = (
      STOPPED,
      report run.design run.env (finished_by_all run s) ++ journal_text run journal,
      inr (inl (refl, stopped run clocks later journal s rules runs lists few range why _ is refl)),
    )

-- the list of a node has ended
module _ (run : Run) (clocks : Clocks) (trace : Bool) (lists : List ClockState) (journal : List JournalEntry)
    (s : BusState) (rules : IsRunOf run)
    (runs : Runs run (Lists lists) journal s) (same : lists_in (Lists lists) ≡ lists_in clocks)
    (few : run.rounds ≤ ROUNDS) (range : AreReadings clocks) where
  ended : AllAtEnd run (Lists lists) s → s.stop ≡ None → (node : ℕ) → IsFirstEnded run lists s node
      → IsTold run clocks trace
  ended all going node first =
      let goal = target (plan_of run.design node) first.ended.0 in (
        CLOCK_ENDED,
        clock_end_line run.design node goal ++ line_end,
        inr (inr (
          refl,
          record {
            outcome = outcome run clocks (Lists lists) journal s rules runs same few range;
            going = going;
            all = all;
            node = node;
            goal = goal;
            ends = (first.ended, refl);
            first = first.before;
            text_is = refl;
          },
        )),
      )

module _ (named : EndsAreNamed) (run : Run) (clocks : Clocks) (trace : Bool) (rules : IsRunOf run)
    (few : run.rounds ≤ ROUNDS) (range : AreReadings clocks) where
  at_end : (later : Clocks) (journal : List JournalEntry) (s : BusState) → Runs run later journal s
      → lists_in later ≡ lists_in clocks → s.stop ≡ None → AllAtEnd run later s
      → IsTold run clocks trace
  at_end Meet journal s runs same going all = done run clocks trace Meet journal s rules runs same few range all going
  at_end (Lists lists) journal s runs same going all = elim (named run lists journal s rules runs all) [
    | inl every ↦ done run clocks trace (Lists lists) journal s rules runs same few range every going
    | inr first ↦ ended run clocks trace lists journal s rules runs same few range all going first.0 first.1
  ]

  by_stop : (later : Clocks) (journal : List JournalEntry) (s : BusState) (o : Option Stop) → Runs run later journal s
      → lists_in later ≡ lists_in clocks → s.stop ≡ o → HasCome run later s
      → IsTold run clocks trace
  by_stop later journal s (Some why) runs same is come =
      at_stop run clocks trace later journal s rules runs same few range why is
  by_stop later journal s None runs same is (inl stops) = absurd (stops is)
  by_stop later journal s None runs same is (inr all) = at_end later journal s runs same is all

-- ---- a scenario has an answer
pub run_answer : EachRunEnds → EndsAreNamed → (design : DesignParts) (scenario : Scenario) (trace : Bool)
    → IsDesign design → IsScenarioOf design scenario
    → (status : ℕ) × (text : List ℕ) × IsRunAnswer design scenario trace status text
run_answer ends named design scenario trace rules suits =
    let run = run_of design scenario in
    let is_run : IsRunOf run = record { design = rules; rounds = suits.long.0 } in
    let e = ends run scenario.clocks is_run (begins run scenario.clocks suits.clock) in
    by_stop named run scenario.clocks trace is_run suits.long.1 (are_readings run.design scenario.clocks suits.clock)
    e.later
    e.more e.state e.state.stop e.runs e.lists refl e.come
