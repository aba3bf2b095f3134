-- What `run` makes of a design and a scenario.
use Rattle.std.specs.Prelude.{◌≡◌, ◌⊎◌, ℕ, Bool, List}
use Rattle.pals_model.specs.declared.design.DesignParts.{DesignParts}
use Rattle.scenario_json.specs.declared.scenario.Scenario.{Scenario}
use Rattle.run_texts.specs.RunTexts.{IsCompletedRun, IsStoppedRun, IsEndedRun}
use Rattle.pals_top.specs.declared.status.TheConstants.{DONE, STOPPED, CLOCK_ENDED}
use Rattle.pals_top.specs.BundleScenarios.{run_of}

-- The nodes respect the scenario's clocks, in some order, until all are done, or the run has stopped, or each node is
-- done or its list has ended.
abbrev pub IsRunAnswer : DesignParts → Scenario → Bool → ℕ → List ℕ → Type 0
IsRunAnswer design scenario trace status text =
    let run = run_of design scenario in
    ((status ≡ DONE) × IsCompletedRun run scenario.clocks trace text)
    ⊎ ((status ≡ STOPPED) × IsStoppedRun run scenario.clocks text)
    ⊎ ((status ≡ CLOCK_ENDED) × IsEndedRun run scenario.clocks text)
