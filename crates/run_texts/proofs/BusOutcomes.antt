-- The report on a bus that has reached its end holds for the bus's run.
use Rattle.std.proofs.Common.{◌≡◌, ◌≢◌, ◌∙◌, inl, inr, ℕ, ◌<◌, ◌≤◌, Bool, List, [], length, ◌++◌, Option, Some, None}
use Rattle.std.proofs.Common.{slice_get, refl, ap, subst, arith, if◌then◌else◌}
use Rattle.pals_base.specs.declared.limits.TheConstants.{ROUNDS}
use Rattle.pals_clock.specs.ClockStates.{ClockState}
use Rattle.pals_clock.specs.declared.clock.Clocks.{Clocks}
use Rattle.pals_clock.specs.declared.clock.Clocks.TheVariants.{Meet, Lists}
use Rattle.pals_model.specs.RoundTexts.{text_of, report}
use Rattle.pals_runs.specs.declared.phase.Phase.TheVariants.{Done}
use Rattle.pals_runs.specs.declared.journal.Stop.{Stop}
use Rattle.bus_machine.specs.Agreement.{Agrees}
use Rattle.bus_machine.specs.BusStates.{node_at, finished_by_all}
use Rattle.bus_machine.specs.RunParameters.{Run}
use Rattle.pals_bus.specs.BusValues.{BusValue}
use Rattle.loose_world.specs.proof.FinishedRows.{common_lines}
use Rattle.loose_world.proofs.FinishedRows.{common_rows}
use Rattle.node_threads.specs.proof.SharedCourses.{EndsAt as EndsAtOn}
use Rattle.node_threads.specs.declared.node_end.NodeEnd.{NodeEnd}
use Rattle.node_threads.specs.declared.node_end.NodeEnd.TheVariants as end
use Rattle.node_threads.specs.proof.NodeEndsAndOutcomes.{EndFits, EndsFit, IsOutcome}
use Rattle.run_laws.specs.ListRunEndsAndStops.{IsOver, AllAtEnd}
use Rattle.run_laws.specs.proof.RunTraces.{AreReadings}
use Rattle.run_laws.proofs.NodePicksAndRunReplay.{runs_agree}
use Rattle.run_texts.specs.declared.run_report.RunReport.{RunReport}
use Rattle.run_texts.specs.declared.run_report.RunReport.TheVariants as told
use Rattle.run_texts.specs.RunTexts.{EndsAt, TellsRun}
use Rattle.run_texts.specs.proof.NodeEnds.{IsComeEnd}
use Rattle.run_texts.specs.proof.RunReports.{journal_lines, TellsEnd}
use Rattle.run_texts.proofs.RunTexts.{outcome, completed, stopped}

-- ---- the meaning of the ends
ends_at : (b : BusValue) (later : Clocks) (node goal : ℕ) → EndsAtOn b later node goal
    → EndsAt b.run later b.state node goal
ends_at b Meet node goal ends = ends
ends_at b (Lists lists) node goal ends = ends

met_by : (b : BusValue) (node : ℕ) (e : NodeEnd) → IsComeEnd e → EndFits b Meet node e
    → (node_at b.state node).phase ≡ Done
met_by b node e (inl is) fits = subst (EndFits b Meet node) is fits
met_by b node e (inr is) fits = absurd (subst (EndFits b Meet node) is.1 fits)

over_by : (b : BusValue) (lists : List ClockState) (node : ℕ) (e : NodeEnd) → IsComeEnd e
    → EndFits b (Lists lists) node e → IsOver b.run lists b.state node
over_by b lists node e (inl is) fits = inl (subst (EndFits b (Lists lists) node) is fits)
over_by b lists node e (inr is) fits = let ends : EndsAtOn b (Lists lists) node is.0 =
    subst (EndFits b (Lists lists) node) is.1 fits in inr ends.0

all_at_end : (b : BusValue) (later : Clocks) (ends : List NodeEnd) → EndsFit b later ends
    → ((node : ℕ) → node < length ends → (e : NodeEnd) × (slice_get ends node ≡ Some e) × IsComeEnd e)
    → AllAtEnd b.run later b.state
all_at_end b Meet ends fit each = λ node within.
    let many = fit.many in
    let e = each node (omega (arith, within, many)) in
    met_by b node e.0 e.2 (fit.each node e.0 e.1)
all_at_end b (Lists lists) ends fit each = λ node within.
    let many = fit.many in
    let e = each node (omega (arith, within, many)) in
    over_by b lists node e.0 e.2 (fit.each node e.0 e.1)

some_of : (o : Option Stop) → o ≢ None → (why : Stop) × (o ≡ Some why)
some_of None not_none = absurd (not_none refl)
some_of (Some why) not_none = (why, refl)

module _ (old : BusValue) (clocks : Clocks) (new : BusValue) (ends : List NodeEnd) (out : IsOutcome old clocks new ends)
    (few : new.run.rounds ≤ ROUNDS)
    (range : AreReadings clocks) where
  agrees : Agrees new.run new.state
  agrees = runs_agree new.run out.later new.journal new.state out.rules out.runs

  rows : text_of (common_lines new) ≡ report new.run.design new.run.env (finished_by_all new.run new.state)
  rows = common_rows new out.rules agrees

  is_done : (node : ℕ) → slice_get ends node ≡ Some end.Finished → (node_at new.state node).phase ≡ Done
  is_done node is = out.ends_fit.each node end.Finished is

  told_new : (trace : Bool) (told : RunReport) → TellsEnd new ends trace told → TellsRun new.run clocks trace told
  told_new trace (told.Completed text) tells =
      let many = out.ends_fit.many in
      completed new.run clocks out.later new.journal new.state out.rules out.runs out.lists few range trace text.items
      (λ node within. is_done node (tells.1.first node (omega (arith, within, many)))) tells.0
      (tells.2 ∙ ap (λ shown. shown ++ (if trace then journal_lines new else [])) rows)
  told_new trace (told.Stopped text) tells =
      let why = some_of new.state.stop tells.0 in
      stopped new.run clocks out.later new.journal new.state out.rules out.runs out.lists few range why.0
      text.items why.1
      (tells.1 ∙ ap (λ shown. shown ++ journal_lines new) rows)
  told_new trace (told.ClockEnded text) tells =
      let named = tells.1.0 in
      let firsts = tells.1.1 in
      let ends_here = out.ends_fit.each named.0.0 (end.ClockEnded named.1) firsts.first.1 in
      record {
        outcome = outcome new.run clocks out.later new.journal new.state out.rules out.runs out.lists few range;
        going = tells.0;
        all = all_at_end new out.later ends out.ends_fit firsts.each;
        node = named.0.0;
        goal = named.1;
        ends = ends_at new out.later named.0.0 named.1 ends_here;
        first = λ other before. is_done other (firsts.first.2 other before);
        text_is = tells.1.2;
      }

pub told_of : (new : BusValue) (ends : List NodeEnd) (trace : Bool) (told : RunReport) → new.run.rounds ≤ ROUNDS
    → TellsEnd new ends trace told
    → (old : BusValue) (clocks : Clocks) → IsOutcome old clocks new ends → AreReadings clocks
    → TellsRun old.run clocks trace told
told_of new ends trace told few tells old clocks out range =
    subst (λ (r : Run). TellsRun r clocks trace told) out.run
    (told_new old clocks new ends out few range trace told tells)
