-- Each command has an answer to each bundle.
use Rattle.std.proofs.Common.{◌≡◌, ◌⊎◌, inl, inr, ℕ, true, false, List, ◌++◌, Ok, refl, sym, ◌∙◌}
use Rattle.aadl_tree.specs.CanonicalText.{canon}
use Rattle.pals_model.specs.RoundTexts.{line_end}
use Rattle.pals_runs.specs.declared.commands.Command.{Command}
use Rattle.pals_runs.specs.declared.commands.Command.TheVariants.{Print, Check, Sync, World, Run, Audit, Ring, Watch}
use Rattle.pals_runs.specs.declared.commands.Command.TheVariants.{Vote, Fuse, Budget}
use Rattle.scenario_json.specs.declared.scenario.Scenario.{Scenario}
use Rattle.scenario_json.specs.Scenarios.{Means}
use Rattle.pals_report.specs.ScenarioFaultLines.{scenario_fault_line}
use Rattle.design_codes.specs.OverlongCodes.{AreShort, IsFirstTooLong}
use Rattle.world_texts.specs.RingResultLines.{ring_text}
use Rattle.pals_top.specs.declared.status.TheConstants.{DONE, TEXT_REFUSED, SCENARIO_REFUSED, CODE_TOO_LONG}
use Rattle.pals_top.specs.AnalysisCommands.{Analysis}
use Rattle.pals_top.specs.AnalysisCommands as analysis
use Rattle.pals_top.specs.ExecutionCommands.{Execution}
use Rattle.pals_top.specs.ExecutionCommands as execution
use Rattle.pals_top.specs.CommandWords.{IsWithinRingLimits}
use Rattle.pals_top.specs.BundleScenarios.{HasScenarioFault}
use Rattle.pals_top.specs.AnalysisAnswers.{command_of as analysis_command, IsAnalysisAnswer}
use Rattle.pals_top.specs.ExecutionAnswers.{command_of as execution_command, overlong_code_line, IsExecutionAnswer}
use Rattle.pals_top.specs.proof.BundlesWithCodes.{HasEvents}
use Rattle.scenario_laws.specs.proof.ScenarioOrFault.{HasScenario, HasFault}
use Rattle.answer_laws.specs.proof.BundleContents.{HasTree}
use Rattle.pals_top.specs.proof.FlaggedAndRunCommands.{is_run}
use Rattle.answer_laws.specs.proof.ExistingAnswers.{IsAnswerTo, HasAnswer, HasOneAnswer}
use Rattle.answer_laws.specs.proof.ExistencePremises.{ExistenceLaws}
use Rattle.answer_laws.proofs.ExistingTrees.{IsRefused, tree_or_refused}
use Rattle.answer_laws.proofs.ExistingDesigns.{HasDesign, HasRefusal, design_or_refused}
use Rattle.answer_laws.proofs.ExistingCheckReports.{has_report}
use Rattle.answer_laws.proofs.OverlongCodes.{long_or_short}
use Rattle.answer_laws.proofs.UniqueCallAnswers.{AnswerIsDecided}
use Rattle.answer_laws.proofs.ExistingScenarioAnswers.{by_analysis, by_execution}

-- ---- a ring
ringed : (nodes rounds : ℕ) (bundle : List ℕ) → HasAnswer (Ring nodes rounds) bundle
ringed nodes rounds bundle = (DONE, ring_text nodes rounds, (refl, refl))

-- ---- print
by_tree : (bundle : List ℕ) → HasTree bundle ⊎ IsRefused bundle → HasAnswer Print bundle
by_tree bundle (inl t) = (
  DONE,
  canon t.tree,
  inl
      (refl, record { design = t.text; scenario = t.scenario; tree = t.tree; parsed = t.parsed; text_is = refl }),
)
by_tree bundle (inr (text, r)) = (TEXT_REFUSED, text, inr (refl, r))

-- ---- check
by_design : (root bundle : List ℕ) → HasDesign root bundle ⊎ HasRefusal root bundle → HasAnswer (Check root) bundle
by_design root bundle (inl d) =
    let report = has_report d.design in (
      DONE,
      report.0,
      inl (
        refl,
        record { design = d.design; scenario = d.bytes; accepted = d.accepted; report = report.1 },
      ),
    )
by_design root bundle (inr (status, text, r)) = (status, text, inr r)

-- ---- a scenario with a fault
faulty : (root bundle : List ℕ) (command : Command) (d : HasDesign root bundle)
    (fault : HasFault d.bytes d.design command)
    → HasScenarioFault root bundle command (scenario_fault_line fault.0 ++ line_end)
faulty root bundle command d (fault, named, means) = record {
  design = d.design;
  bytes = d.bytes;
  accepted = d.accepted;
  fault = fault;
  faulty = means;
  named = named;
  text_is = refl;
}

-- ---- commands that need a design and a scenario
abbrev HasAnalysisAnswer : Analysis → List ℕ → List ℕ → Type 0
HasAnalysisAnswer what root bundle = (status : ℕ) × (text : List ℕ) × IsAnalysisAnswer what root bundle status text

module _ (laws : ExistenceLaws) (what : Analysis) (root bundle : List ℕ) where
  by_scenario : (d : HasDesign root bundle)
      → HasScenario d.bytes d.design (analysis_command what root)
      ⊎ HasFault d.bytes d.design (analysis_command what root)
      → HasAnalysisAnswer what root bundle
  by_scenario d (inl (scenario, means)) =
      let pairs = laws.pairs d.bytes (analysis_command what root) d.design scenario means in
      let suits = laws.suit d.bytes (analysis_command what root) d.design scenario d.rules means in
      let made = by_analysis laws.fused what d.design scenario d.rules suits pairs in (
        made.0,
        made.1,
        inr (inr (record {
          design = d.design;
          scenario = scenario;
          means = record { bytes = d.bytes; accepted = d.accepted; means = means };
          makes = made.2;
        })),
      )
  by_scenario d (inr fault) =
      (SCENARIO_REFUSED, scenario_fault_line fault.0 ++ line_end, inr (inl (refl, faulty root bundle _ d fault)))

  analysed_by : HasDesign root bundle ⊎ HasRefusal root bundle → HasAnalysisAnswer what root bundle
  analysed_by (inl d) = by_scenario d (laws.scenario_or_fault d.bytes d.design (analysis_command what root))
  analysed_by (inr (status, text, r)) = (status, text, inl r)

  analysed : HasAnalysisAnswer what root bundle
  analysed = analysed_by (design_or_refused laws root bundle)

-- ---- commands that need step codes
abbrev HasExecutionAnswer : Execution → List ℕ → List ℕ → Type 0
HasExecutionAnswer what root bundle = (status : ℕ) × (text : List ℕ) × IsExecutionAnswer what root bundle status text

module _ (laws : ExistenceLaws) (root bundle : List ℕ) where
  -- what the scenario keeps
  events_of : (what : Execution) (d : HasDesign root bundle) (scenario : Scenario)
      → Means d.bytes d.design (execution_command what root) (Ok scenario)
      → HasEvents what d.design scenario
  events_of execution.TimedWorld d scenario means = laws.few d.bytes (World root false) d.design scenario means
  events_of execution.LooseWorld d scenario means = laws.loose d.bytes root d.design scenario means
  events_of (execution.Run trace) d scenario means = tt
  events_of execution.Audit d scenario means = laws.lines d.bytes (Audit root) d.design scenario means
  events_of execution.Budget d scenario means = tt

  module _ (what : Execution) where
    by_events : (d : HasDesign root bundle) → AreShort d.design
        → HasScenario d.bytes d.design (execution_command what root)
        ⊎ HasFault d.bytes d.design (execution_command what root)
        → HasExecutionAnswer what root bundle
    unfolding faulty
    by_events d short (inl (scenario, means)) =
        let suits = laws.suit d.bytes (execution_command what root) d.design scenario d.rules means in
        let made = by_execution laws what d.design scenario d.rules suits (events_of what d scenario means) in (
          made.0,
          made.1,
          inr (inr (inr (record {
            design = d.design;
            scenario = scenario;
            means = record { bytes = d.bytes; accepted = d.accepted; means = means };
            short = short;
            makes = made.2;
          }))),
        )
    by_events d short (inr fault) = (
      SCENARIO_REFUSED,
      scenario_fault_line fault.0 ++ line_end,
      inr (inr (inl (record { status_is = refl; faulty = faulty root bundle _ d fault; short = short }))),
    )

    by_codes : (d : HasDesign root bundle)
        → ((node : ℕ) × (size : ℕ) × IsFirstTooLong d.design node size) ⊎ AreShort d.design
        → HasExecutionAnswer what root bundle
    by_codes d (inl (node, size, long)) = (
      CODE_TOO_LONG,
      overlong_code_line d.design node size ++ line_end,
      inr (inl (record {
        status_is = refl;
        design = d.design;
        scenario = d.bytes;
        accepted = d.accepted;
        node = record { 0 = node };
        size = size;
        too_long = long;
        text_is = refl;
      })),
    )
    by_codes d (inr short) = by_events d short (laws.scenario_or_fault d.bytes d.design (execution_command what root))

    executed_by : HasDesign root bundle ⊎ HasRefusal root bundle → HasExecutionAnswer what root bundle
    executed_by (inl d) = by_codes d (long_or_short d.design)
    executed_by (inr (status, text, r)) = (status, text, inl r)

    executed : HasExecutionAnswer what root bundle
    executed = executed_by (design_or_refused laws root bundle)

-- ---- all commands that have a form
module _ (laws : ExistenceLaws) where
  pub has_answer : (command : Command) (bundle : List ℕ) → IsWithinRingLimits command → HasAnswer command bundle
  has_answer Print bundle form = by_tree bundle (tree_or_refused laws bundle)
  has_answer (Check root) bundle form = by_design root bundle (design_or_refused laws root bundle)
  has_answer (Sync root) bundle form = analysed laws analysis.Sync root bundle
  has_answer (Watch root) bundle form = analysed laws analysis.Watch root bundle
  has_answer (Vote root) bundle form = analysed laws analysis.Vote root bundle
  has_answer (Fuse root) bundle form = analysed laws analysis.Fuse root bundle
  has_answer (World root false) bundle form = executed laws root bundle execution.TimedWorld
  has_answer (World root true) bundle form = executed laws root bundle execution.LooseWorld
  has_answer (Run root trace) bundle form = executed laws root bundle (execution.Run trace)
  has_answer (Audit root) bundle form = executed laws root bundle execution.Audit
  has_answer (Budget root) bundle form = executed laws root bundle execution.Budget
  has_answer (Ring nodes rounds) bundle form = ringed nodes rounds bundle

-- ---- and no other, if the command is not `run`
agrees : AnswerIsDecided → (command : Command) (bundle : List ℕ) → is_run command ≡ false → (s t : ℕ) (a b : List ℕ)
    → IsAnswerTo command bundle s a → IsAnswerTo command bundle t b
    → (s ≡ t) × (a ≡ b)
agrees decided (Ring nodes rounds) bundle not_run s t a b x y = (x.0 ∙ sym y.0, x.1 ∙ sym y.1)
agrees decided command bundle not_run s t a b x y = decided command bundle s t a b not_run x y

pub one_answer : AnswerIsDecided → (command : Command) (bundle : List ℕ) → is_run command ≡ false
    → HasAnswer command bundle → HasOneAnswer command bundle
one_answer decided command bundle not_run (status, text, is) =
    record {
      status = status;
      text = text;
      is = is;
      only = λ s t x. agrees decided command bundle not_run s status t text x is;
    }
