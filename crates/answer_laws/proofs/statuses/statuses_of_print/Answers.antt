use Rattle.std.proofs.Common.{◌≡◌}
use Rattle.answer_laws.proofs.StatusCases.{zero_is_small, done, without_text}
use Rattle.answer_laws.proofs.PrintCheckAndAnalysisStatuses.{print_cases}
use Rattle.answer_laws.proofs.statuses.statuses_of_print.Goals as goal

pub returns-clause-done : goal.returns-clause-done
returns-clause-done c bundle s a x = done (λ n. n ≡ 0) zero_is_small (λ h. h) (λ h. h) s (print_cases bundle s a x)

pub returns-clause-text : goal.returns-clause-text
returns-clause-text c bundle s a x =
    without_text (λ n. n ≡ 0) zero_is_small (λ h. h) (λ h. h) s (print_cases bundle s a x)
