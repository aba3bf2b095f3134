-- What `audit` makes of a design and a scenario.
use Rattle.std.specs.Prelude.{◌≡◌, ◌↔◌, ℕ, Bool, true, false, List, ◌++◌, Option, if◌then◌else◌}
use Rattle.pals_model.specs.declared.design.DesignParts.{DesignParts}
use Rattle.pals_model.specs.RoundTexts.{line_end}
use Rattle.pals_report.specs.ClockEndsAndVerdicts.{verdict_line}
use Rattle.pals_runs.specs.declared.journal.Stop.{Stop}
use Rattle.pals_runs.specs.declared.verdicts.TraceRule.{TraceRule}
use Rattle.pals_runs.specs.declared.verdicts.Verdict.{Verdict}
use Rattle.pals_runs.specs.declared.verdicts.Verdict.TheVariants.{Sound, Wrong}
use Rattle.scenario_json.specs.declared.scenario.Scenario.{Scenario}
use Rattle.run_laws.specs.HistoriesAndTraces.{IsTraceOf}
use Rattle.run_laws.specs.TraceVerdicts.{verdict}
use Rattle.trace_laws.specs.WrongLines.{IsWrongBy}
use Rattle.pals_top.specs.declared.status.TheConstants.{DONE, NOT_SO}
use Rattle.pals_top.specs.BundleScenarios.{run_of}

abbrev pub is_sound : Verdict → Bool
is_sound (Sound rounds stop) = true
is_sound (Wrong index rule) = false

-- the status and the text of a verdict; false if the verdict is wrong
abbrev pub SaysVerdict : DesignParts → Verdict → ℕ → List ℕ → Type 0
SaysVerdict design v status text =
    (status ≡ (if is_sound v then DONE else NOT_SO)) × (text ≡ verdict_line design v ++ line_end)

-- the verdict on the scenario's trace. It is sound, with a number of rounds and a stop, if and only if the trace is the
-- trace of a history that is over: all nodes have finished this many rounds, and the history has that stop
pub record IsAudited (design : DesignParts) (scenario : Scenario) (status : ℕ) (text : List ℕ) : Type 0 where
  pub judged : SaysVerdict design (verdict (run_of design scenario) scenario.trace) status text
  pub sound : (rounds : ℕ) (stop : Option Stop)
      → (verdict (run_of design scenario) scenario.trace ≡ Sound rounds stop)
      ↔ IsTraceOf (run_of design scenario) scenario.trace rounds stop
  -- a wrong line is the first of the journal that no history has, or that the composition's rows do not have
  pub wrong : (index : ℕ) (why : TraceRule)
      → verdict (run_of design scenario) scenario.trace ≡ Wrong index why
      → IsWrongBy (run_of design scenario) scenario.trace index why
