-- What `watch` makes of a design and a scenario.
use Rattle.std.specs.Prelude.{◌≡◌, ℕ, List, if◌then◌else◌}
use Rattle.pals_model.specs.declared.design.DesignParts.{DesignParts}
use Rattle.scenario_json.specs.declared.scenario.Scenario.{Scenario}
use Rattle.run_monitor.specs.FalseProperties.{is_some_false}
use Rattle.run_monitor.specs.WatchText.{watch_text}
use Rattle.analysis_texts.specs.MonitoredFormulas.{named, formulas}
use Rattle.pals_top.specs.declared.status.TheConstants.{DONE, NOT_SO}

-- the value of each property in each round, over the states of the composition; false if one is false at some round
pub record IsWatched (design : DesignParts) (scenario : Scenario) (status : ℕ) (text : List ℕ) : Type 0 where
  pub status_is : status ≡ (if is_some_false design scenario.env scenario.rounds (formulas scenario.properties) then
      NOT_SO else DONE)
  pub text_is : text ≡ watch_text design scenario.env scenario.rounds (named scenario.properties)
