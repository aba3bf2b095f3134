-- What `run` answers to a bundle that means a design and a scenario.
use Rattle.std.proofs.Common.{◌≡◌, ◌≢◌, ◌∙◌, ◌⊎◌, ◌↔◌, inl, inr, ℕ, Bool, true, false, List, ◌++◌, None, Ok, refl, sym}
use Rattle.std.proofs.Common.{ap, subst, arith}
use Rattle.pals_clock.specs.declared.clock.Clocks.{Clocks}
use Rattle.pals_model.specs.declared.design.DesignParts.{DesignParts}
use Rattle.pals_model.specs.RoundTexts.{report}
use Rattle.pals_runs.specs.declared.commands.Command.TheVariants as command
use Rattle.pals_runs.specs.declared.verdicts.Verdict.TheVariants.{Sound}
use Rattle.design_codes.specs.OverlongCodes.{AreShort}
use Rattle.serde_json.specs.Data.{Data}
use Rattle.scenario_json.specs.Events.{usual_word, event_in, events_in}
use Rattle.scenario_json.specs.declared.scenario.Scenario.{Scenario}
use Rattle.scenario_json.specs.Scenarios.{fields_in, scen, Means}
use Rattle.scenario_laws.specs.proof.ScenarioSuitability.{ScenariosSuit}
use Rattle.bus_machine.specs.proof.AgreementLaws.{IsRunOf}
use Rattle.bus_machine.specs.BusStates.{finished_by_all}
use Rattle.run_laws.specs.TextLines.{lines_of}
use Rattle.run_laws.specs.TraceVerdicts.{verdict}
use Rattle.run_laws.proofs.FinalStops.{told as stop_is_last}
use Rattle.run_laws.specs.proof.TimelyRunsAndEnds.{InTime, NoneStops, BoundsAreInTime, EndsAgree, AllPicked}
use Rattle.run_laws.specs.proof.TimelyRunsAndEnds.{PickedAreDone}
use Rattle.run_texts.specs.RunTexts.{journal_text}
use Rattle.pals_top.specs.ExecutionCommands as execution
use Rattle.pals_top.specs.ExecutionAnswers.{IsCodeTooLong, IsExecutionAnswer}
use Rattle.pals_top.specs.BundleScenarios.{run_of, HasScenario}
use Rattle.pals_top.specs.Run.{IsRunAnswer}
use Rattle.answer_laws.specs.proof.BundleContents.{MeansScenario, HasLongCode}
use Rattle.answer_laws.specs.proof.RunAnswers.{IsRunStatus, IsInTime, OneAnswerInTime, NoneIsStopped, IsSynchronous}
use Rattle.answer_laws.specs.proof.RunAnswers.{DoneInTime, AnswersAsSync, DoneWithinBounds, DoneTracesAreSound}
use Rattle.answer_laws.specs.proof.RunAnswers.{IsStoppedTrace, StoppedTracesAreSound}
use Rattle.answer_laws.specs.proof.UniquenessPremises.{OneDesign, KeepsRules}
use Rattle.answer_laws.proofs.UniqueDesignsAndRefusals.{accepted_or_refused}
use Rattle.answer_laws.proofs.UniqueBundleScenarios.{one_meaning, meant_or_refused}
use Rattle.answer_laws.proofs.UniqueExecutionAnswers.{long_code, long_or_short, one_code_fault}
use Rattle.answer_laws.proofs.UniqueScenarioAnswers.{Agree}
use Rattle.answer_laws.proofs.UniqueRunEnds.{two_ended, completed_or_ended, going_on, none_ended, shows_rounds}

-- ---- an answer to a bundle that means a design and a scenario
module _ (one_design : OneDesign) (root bundle : List ℕ) (design : DesignParts) (scenario : Scenario) (trace : Bool)
    (means : HasScenario root bundle (command.Run root trace) design scenario) where
  -- a code is too long, or the answer reports a run
  told_or_long : (s : ℕ) (a : List ℕ) → IsExecutionAnswer (execution.Run trace) root bundle s a
      → IsCodeTooLong root bundle s a ⊎ (AreShort design × IsRunAnswer design scenario trace s a)
  told_or_long s a (inl x) = absurd (accepted_or_refused root bundle design means.bytes s a means.accepted x)
  told_or_long s a (inr (inl x)) = inl x
  told_or_long s a (inr (inr (inl x))) =
      absurd (meant_or_refused one_design root bundle (command.Run root trace) design scenario a means x.faulty)
  told_or_long s a (inr (inr (inr x))) =
      let same =
      one_meaning one_design root bundle (command.Run root trace) x.design design x.scenario scenario
      x.means means in
      inr (
        subst (λ (d : DesignParts). AreShort d) same.0 x.short,
        subst (λ (sc : Scenario). IsRunAnswer design sc trace s a) same.1
            (subst (λ (d : DesignParts). IsRunAnswer d x.scenario trace s a) same.0 x.makes),
      )

  is_short : (s : ℕ) (a : List ℕ) → IsCodeTooLong root bundle s a → AreShort design → ⊥
  is_short s a x short =
      long_or_short one_design root bundle design means.bytes (long_code root bundle s a x) means.accepted short

  -- if no code is too long
  told : (s : ℕ) (a : List ℕ) → AreShort design → IsExecutionAnswer (execution.Run trace) root bundle s a
      → IsRunAnswer design scenario trace s a
  told s a short x = elim (told_or_long s a x) [
    | inl long ↦ absurd (is_short s a long short)
    | inr run ↦ run.1
  ]

-- ---- its status
run_status : (design : DesignParts) (scenario : Scenario) (trace : Bool) (s : ℕ) (a : List ℕ)
    → IsRunAnswer design scenario trace s a → IsRunStatus s
run_status design scenario trace s a (inl x) = inl x.0
run_status design scenario trace s a (inr (inl x)) = inr (inl x.0)
run_status design scenario trace s a (inr (inr x)) = inr (inr x.0)

other_status : (s n : ℕ) → s ≡ n → n ≢ 0 → n ≢ 6 → n ≢ 7 → IsRunStatus s → ⊥
other_status s n is zero six seven (inl e) = zero (sym is ∙ e)
other_status s n is zero six seven (inr (inl e)) = six (sym is ∙ e)
other_status s n is zero six seven (inr (inr e)) = seven (sym is ∙ e)

module _ (one_design : OneDesign) (root bundle : List ℕ) (trace : Bool) where
  abbrev Has : Type 0
  Has = MeansScenario root bundle (command.Run root trace) × (HasLongCode root bundle → ⊥)

  pub status_exactly : (s : ℕ) (a : List ℕ) → IsExecutionAnswer (execution.Run trace) root bundle s a
      → IsRunStatus s ↔ Has
  status_exactly s a (inl (inl x)) = (
    λ is. absurd (other_status s 3 x.0 (λ n. absurd (omega arith)) (λ n. absurd (omega arith))
        (λ n. absurd (omega arith)) is),
    λ h. absurd (accepted_or_refused root bundle h.0.0 h.0.2.bytes s a h.0.2.accepted (inl x)),
  )
  status_exactly s a (inl (inr x)) = (
    λ is. absurd (other_status s 4 x.0 (λ n. absurd (omega arith)) (λ n. absurd (omega arith))
        (λ n. absurd (omega arith)) is),
    λ h. absurd (accepted_or_refused root bundle h.0.0 h.0.2.bytes s a h.0.2.accepted (inr x)),
  )
  status_exactly s a (inr (inl x)) = (
    λ is. absurd (other_status s 13 x.status_is (λ n. absurd (omega arith)) (λ n. absurd (omega arith))
        (λ n. absurd (omega arith)) is),
    λ h. absurd (h.1 (long_code root bundle s a x)),
  )
  status_exactly s a (inr (inr (inl x))) = (
    λ is. absurd (other_status s 5 x.status_is (λ n. absurd (omega arith)) (λ n. absurd (omega arith))
        (λ n. absurd (omega arith)) is),
    λ h. absurd (meant_or_refused one_design root bundle (command.Run root trace) h.0.0 h.0.1 a h.0.2 x.faulty),
  )
  status_exactly s a (inr (inr (inr x))) = (
    λ is. (
      (x.design, x.scenario, x.means),
      λ long. long_or_short one_design root bundle x.design x.means.bytes long x.means.accepted x.short,
    ),
    λ h. run_status x.design x.scenario trace s a x.makes,
  )

-- ---- `run` and `sync` read a scenario alike
same_reading : (d : Data) (design : DesignParts) (root : List ℕ)
    → scen d design (command.Run root false) ≡ scen d design (command.Sync root)
unfolding scen fields_in events_in event_in usual_word
same_reading d design root = refl

read_alike : (bytes root : List ℕ) (design : DesignParts) (scenario : Scenario)
    → Means bytes design (command.Run root false) (Ok scenario)
    → Means bytes design (command.Sync root) (Ok scenario)
read_alike bytes root design scenario (inl value) =
    inl (value.0, value.1, sym (same_reading value.0 design root) ∙ value.2)
read_alike bytes root design scenario (inr none) = inr none

-- ---- in time
pub record RunLaws : Type 0 where
  pub one_design : OneDesign
  pub rules : KeepsRules
  pub suit : ScenariosSuit
  pub stop : NoneStops
  pub bounds : BoundsAreInTime
  pub end : EndsAgree
  pub done : PickedAreDone

module _ (laws : RunLaws) (design : DesignParts) (scenario : Scenario) (rules : IsRunOf (run_of design scenario))
    (in_time : IsInTime design scenario) where
  one_run : (s t : ℕ) (a b : List ℕ) → IsRunAnswer design scenario false s a → IsRunAnswer design scenario false t b
      → Agree s a t b
  one_run s t a b (inl x) (inl y) = (x.0 ∙ sym y.0, x.1.text_is ∙ sym y.1.text_is)
  one_run s t a b (inl x) (inr (inl y)) =
      absurd (going_on (run_of design scenario) scenario.clocks rules laws.stop in_time b y.1)
  one_run s t a b (inl x) (inr (inr y)) =
      absurd (completed_or_ended (run_of design scenario) scenario.clocks rules laws.end false a b x.1 y.1)
  one_run s t a b (inr (inl x)) y =
      absurd (going_on (run_of design scenario) scenario.clocks rules laws.stop in_time a x.1)
  one_run s t a b (inr (inr x)) (inl y) =
      absurd (completed_or_ended (run_of design scenario) scenario.clocks rules laws.end false b a y.1 x.1)
  one_run s t a b (inr (inr x)) (inr (inl y)) =
      absurd (going_on (run_of design scenario) scenario.clocks rules laws.stop in_time b y.1)
  one_run s t a b (inr (inr x)) (inr (inr y)) =
      (x.0 ∙ sym y.0, two_ended (run_of design scenario) scenario.clocks rules laws.end a b x.1 y.1)

  none_stopped : (trace : Bool) (s : ℕ) (a : List ℕ) → IsRunAnswer design scenario trace s a → s ≢ 6
  none_stopped trace s a (inl x) = λ e. let n : 0 ≡ 6 = sym x.0 ∙ e in absurd (omega (arith, n))
  none_stopped trace s a (inr (inl x)) =
      λ e. going_on (run_of design scenario) scenario.clocks rules laws.stop in_time a x.1
  none_stopped trace s a (inr (inr x)) = λ e. let n : 7 ≡ 6 = sym x.0 ∙ e in absurd (omega (arith, n))

  synchronous : AllPicked (run_of design scenario) scenario.clocks → (trace : Bool) (s : ℕ) (a : List ℕ)
      → IsRunAnswer design scenario trace s a
      → IsSynchronous design scenario trace s a
  synchronous picked trace s a (inl x) = (x.0, shows_rounds (run_of design scenario) scenario.clocks rules trace a x.1)
  synchronous picked trace s a (inr (inl x)) =
      absurd (going_on (run_of design scenario) scenario.clocks rules laws.stop in_time a x.1)
  synchronous picked trace s a (inr (inr x)) =
      absurd (none_ended (run_of design scenario) scenario.clocks rules laws.done picked a x.1)

module _ (laws : RunLaws) where
  rules_of : (root bundle : List ℕ) (design : DesignParts) (scenario : Scenario) (trace : Bool)
      → HasScenario root bundle (command.Run root trace) design scenario
      → IsRunOf (run_of design scenario)
  rules_of root bundle design scenario trace means =
      let rules = laws.rules root bundle design means.bytes means.accepted in
      record {
        design = rules;
        rounds = (laws.suit means.bytes (command.Run root trace) design scenario rules means.means).long.0;
      }

  pub one_answer_in_time : OneAnswerInTime
  one_answer_in_time root bundle design scenario s t a b means in_time x y =
      by (told_or_long laws.one_design root bundle design scenario false means s a x)
      (told_or_long laws.one_design root bundle design scenario false means t b y)
    where
      by : IsCodeTooLong root bundle s a ⊎ (AreShort design × IsRunAnswer design scenario false s a)
          → IsCodeTooLong root bundle t b ⊎ (AreShort design × IsRunAnswer design scenario false t b) → Agree s a t b
      by (inl u) (inl v) = (u.status_is ∙ sym v.status_is, one_code_fault laws.one_design root bundle s t a b u v)
      by (inl u) (inr v) = absurd (is_short laws.one_design root bundle design scenario false means s a u v.0)
      by (inr u) (inl v) = absurd (is_short laws.one_design root bundle design scenario false means t b v u.0)
      by (inr u) (inr v) =
          one_run laws design scenario (rules_of root bundle design scenario false means) in_time s t a b u.1 v.1

  pub none_is_stopped : NoneIsStopped
  none_is_stopped root bundle design scenario trace s a means x in_time =
      elim (told_or_long laws.one_design root bundle design scenario trace means s a x) [
        | inl long ↦ λ e. let n : 13 ≡ 6 = sym long.status_is ∙ e in absurd (omega (arith, n))
        | inr run ↦ none_stopped laws design scenario (rules_of root bundle design scenario trace means) in_time
            trace s a run.1
      ]

  pub done_in_time : DoneInTime
  done_in_time root bundle design scenario trace s a means x short in_time picked =
      synchronous laws design scenario (rules_of root bundle design scenario trace means) in_time picked trace s a
      (told laws.one_design root bundle design scenario trace means s a short x)

  pub answers_as_sync : AnswersAsSync
  answers_as_sync root bundle design scenario s a means short in_time picked x =
      let done = done_in_time root bundle design scenario false s a means x short in_time picked in
      inr (inr (record {
        design = design;
        scenario = scenario;
        means =
            record {
              bytes = means.bytes;
              accepted = means.accepted;
              means = read_alike means.bytes root design scenario means.means;
            };
        makes = done;
      }))

  pub done_within_bounds : DoneWithinBounds
  done_within_bounds root bundle design scenario trace s a means x short meet fits =
      let rules = rules_of root bundle design scenario trace means in
      let both : InTime (run_of design scenario) scenario.clocks × AllPicked (run_of design scenario) scenario.clocks =
      subst (λ (c : Clocks). InTime (run_of design scenario) c × AllPicked (run_of design scenario) c) (sym meet)
      (laws.bounds (run_of design scenario) rules fits, tt) in
      done_in_time root bundle design scenario trace s a means x short both.0 both.1

-- ---- sound traces
done_sound : (design : DesignParts) (scenario : Scenario) (trace : Bool) (s : ℕ) (a : List ℕ) → trace ≡ true → s ≡ 0
    → IsRunAnswer design scenario trace s a
    → verdict (run_of design scenario) (lines_of a) ≡ Sound scenario.rounds None
done_sound design scenario trace s a traced e (inl x) = x.1.sound traced
done_sound design scenario trace s a traced e (inr (inl x)) = let n : 6 ≡ 0 = sym x.0 ∙ e in absurd (omega (arith, n))
done_sound design scenario trace s a traced e (inr (inr x)) = let n : 7 ≡ 0 = sym x.0 ∙ e in absurd (omega (arith, n))

stop_sound : (design : DesignParts) (scenario : Scenario) (trace : Bool) (s : ℕ) (a : List ℕ) → s ≡ 6
    → IsRunAnswer design scenario trace s a
    → IsStoppedTrace (run_of design scenario) a
stop_sound design scenario trace s a e (inl x) = let n : 0 ≡ 6 = sym x.0 ∙ e in absurd (omega (arith, n))
stop_sound design scenario trace s a e (inr (inl x)) =
    let run = run_of design scenario in
    let rows = finished_by_all run x.1.outcome.state in
    let last = stop_is_last run x.1.outcome.journal x.1.why x.1.outcome.state x.1.outcome.keeps.replays x.1.stop in
    record {
      rows = rows;
      why = x.1.why;
      before = last.0;
      text_is = x.1.text_is ∙ ap (λ journal. report design scenario.env rows ++ journal_text run journal) last.1;
      sound = x.1.sound;
    }
stop_sound design scenario trace s a e (inr (inr x)) = let n : 7 ≡ 6 = sym x.0 ∙ e in absurd (omega (arith, n))

module _ (one_design : OneDesign) where
  pub done_traces_are_sound : DoneTracesAreSound
  done_traces_are_sound root bundle design scenario trace s a means x traced e =
      elim (told_or_long one_design root bundle design scenario trace means s a x) [
        | inl long ↦ let n : 13 ≡ 0 = sym long.status_is ∙ e in absurd (omega (arith, n))
        | inr run ↦ done_sound design scenario trace s a traced e run.1
      ]

  pub stopped_traces_are_sound : StoppedTracesAreSound
  stopped_traces_are_sound root bundle design scenario trace s a means x e =
      elim (told_or_long one_design root bundle design scenario trace means s a x) [
        | inl long ↦ let n : 13 ≡ 6 = sym long.status_is ∙ e in absurd (omega (arith, n))
        | inr run ↦ stop_sound design scenario trace s a e run.1
      ]
