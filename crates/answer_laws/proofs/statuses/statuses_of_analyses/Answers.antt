use Rattle.std.proofs.Common.{◌<◌}
use Rattle.pals_top.specs.AnalysisAnswers.{command_of}
use Rattle.answer_laws.proofs.StatusCases.{done, without_text, without_design, without_scenario}
use Rattle.answer_laws.proofs.PrintCheckAndAnalysisStatuses.{analysis_cases}
use Rattle.answer_laws.proofs.BundleContents.{has_tree, has_design}
use Rattle.answer_laws.proofs.statuses.statuses_of_analyses.Goals as goal

pub returns-clause-done : goal.returns-clause-done
returns-clause-done c what root bundle s a x =
    done (λ n. n < 2) (λ s small. small) (has_tree root bundle) (has_design root bundle (command_of what root)) s
    (analysis_cases c.one_design.ensures what root bundle s a x)

pub returns-clause-text : goal.returns-clause-text
returns-clause-text c what root bundle s a x =
    without_text (λ n. n < 2) (λ s small. small) (has_tree root bundle) (has_design root bundle (command_of what root))
    s (analysis_cases c.one_design.ensures what root bundle s a x)

pub returns-clause-design : goal.returns-clause-design
returns-clause-design c what root bundle s a x =
    without_design (λ n. n < 2) (λ s small. small) (has_tree root bundle)
    (has_design root bundle (command_of what root)) s (analysis_cases c.one_design.ensures what root bundle s a x)

pub returns-clause-scenario : goal.returns-clause-scenario
returns-clause-scenario c what root bundle s a x =
    without_scenario (λ n. n < 2) (λ s small. small) (has_tree root bundle)
    (has_design root bundle (command_of what root)) s (analysis_cases c.one_design.ensures what root bundle s a x)
