-- What `budget` makes of a design and a scenario.
use Rattle.std.specs.Prelude.{◌≡◌, ℕ, true, List, map, All, if◌then◌else◌}
use Rattle.step_code.specs.declared.instr.CodeParts.{CodeParts}
use Rattle.step_compiler.specs.LaidOutCode.{AreLaidOut}
use Rattle.pals_model.specs.declared.design.DesignParts.{DesignParts}
use Rattle.scenario_json.specs.declared.scenario.Scenario.{Scenario}
use Rattle.design_codes.specs.DesignBehaviours.{behaviours}
use Rattle.round_budget.specs.BudgetText.{Processor, fits_on, some_is_over, budget_text}
use Rattle.round_budget.specs.ResponseTimes.{RespondInTime}
use Rattle.analysis_texts.specs.BudgetedProcessors.{processor_of}
use Rattle.pals_top.specs.declared.status.TheConstants.{DONE, NOT_SO}

abbrev pub processors_of : Scenario → List Processor
processors_of scenario = map processor_of scenario.processors

-- if a processor fits, its steps are in time in any number of rounds, for any numbers of instructions up to the weights
-- of their codes, and for the numbers that the codes execute
abbrev pub FitsInTime : DesignParts → List CodeParts → Processor → Type 0
FitsInTime design programs p = fits_on design programs p ≡ true → RespondInTime design programs p.nanos p.members

-- the round budgets of the scenario's processors, by the codes that are laid out for the design's behaviours; not so
-- where a processor has more to do than fits
pub record IsBudgeted (design : DesignParts) (scenario : Scenario) (status : ℕ) (text : List ℕ) : Type 0 where
  pub programs : List CodeParts
  pub laid_out : AreLaidOut (behaviours design) programs
  pub status_is : status ≡ (if some_is_over design programs (processors_of scenario) then NOT_SO else DONE)
  pub text_is : text ≡ budget_text design programs (processors_of scenario)
  pub in_time : All (FitsInTime design programs) (processors_of scenario)
