-- What `fuse` makes of a design and a scenario.
use Rattle.std.specs.Prelude.{◌≡◌, ℕ, List, []}
use Rattle.pals_model.specs.declared.design.DesignParts.{DesignParts}
use Rattle.pals_model.specs.RoundTexts.{report as sync_report}
use Rattle.scenario_json.specs.declared.scenario.Scenario.{Scenario}
use Rattle.plant_fuse.specs.FusedComposition.{Inputs, IsFused}
use Rattle.plant_fuse.specs.FusedReport.{IsFusedReport}
use Rattle.pals_top.specs.declared.status.TheConstants.{DONE}

-- the rows of the composition in which each plant answers its controller within the step
pub record IsFusedAnswer (design : DesignParts) (scenario : Scenario) (status : ℕ) (text : List ℕ) : Type 0 where
  pub status_is : status ≡ DONE
  pub report : IsFusedReport design scenario.plants scenario.env scenario.rounds text
  -- the equations have no other solution
  pub unique : (ins other : Inputs) → IsFused design scenario.plants scenario.env scenario.rounds ins
      → IsFused design scenario.plants scenario.env scenario.rounds other
      → ins ≡ other
  -- without plants they are the composition's, as `sync` writes them
  pub alone : scenario.plants ≡ [] → text ≡ sync_report design scenario.env scenario.rounds
