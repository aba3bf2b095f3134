use Rattle.std.proofs.Common.{◌≡◌}
use Rattle.answer_laws.proofs.StatusCases.{zero_is_small, done, without_text, without_design}
use Rattle.answer_laws.proofs.PrintCheckAndAnalysisStatuses.{check_cases}
use Rattle.answer_laws.proofs.BundleContents.{has_tree}
use Rattle.answer_laws.proofs.statuses.statuses_of_check.Goals as goal

pub returns-clause-done : goal.returns-clause-done
returns-clause-done c root bundle s a x =
    done (λ n. n ≡ 0) zero_is_small (has_tree root bundle) (λ h. h) s (check_cases root bundle s a x)

pub returns-clause-text : goal.returns-clause-text
returns-clause-text c root bundle s a x =
    without_text (λ n. n ≡ 0) zero_is_small (has_tree root bundle) (λ h. h) s (check_cases root bundle s a x)

pub returns-clause-design : goal.returns-clause-design
returns-clause-design c root bundle s a x =
    without_design (λ n. n ≡ 0) zero_is_small (has_tree root bundle) (λ h. h) s (check_cases root bundle s a x)
