use Rattle.std.proofs.Common.{◌++◌, codes, ap, ◌∙◌}
use Rattle.pals_base.specs.PeriodBoundAndReleases.{least_period}
use Rattle.pals_model.specs.DesignRules.{greatest_rate}
use Rattle.pals_model.specs.RoundTexts.{line_end}
use Rattle.pals_report.proofs.TextPrefixes.{last_on_ok, last_on_err}
use Rattle.pals_report.specs.CheckReports.{time_line, shortest_word, period_lines}
use Rattle.pals_report.proofs.ConcatenatedTexts.{four_behind, five_lines}
use Rattle.pals_report.proofs.periods.add_periods.Goals as goal

pub returns-clause-ok : goal.returns-clause-ok
unfolding period_lines
returns-clause-ok c =
    let least =
    c.least_period.ensures ∙ ap (least_period c.args.design.now.gamma)
    (c.greatest_rate-rate.ensures ∙ ap greatest_rate c.as_slice.ensures.value) in
    let third =
    c.in_ok-add_time-2.ensures.ok
    ∙ ap (λ time. c.add_time.new.out.items ++ (time_line (codes "least ") time ++ line_end)) least in
    let second =
    c.in_ok-add_time.ensures.ok
    ∙ ap (λ time. c.extend_from_slice.new.self.items ++ (time_line (codes "period ") time ++ line_end))
    c.from.ensures in
    last_on_ok c.add_time-3.result _ c.add_shortest.new.out.items c.args.out.now.items _ _ _
    (four_behind c.args.out.now.items _ _ _ _ _ _ _ _ c.in_ok-extend_from_slice.ensures.items second third
    c.in_ok-add_shortest.ensures.ok)
    (five_lines (codes "accepted") (time_line (codes "period ") c.args.design.now.period)
    (time_line (codes "least ") (least_period c.args.design.now.gamma (greatest_rate c.args.design.now.components)))
    (codes "shortest " ++ shortest_word c.args.shortest) (codes "backoff ") c.backoff.ensures)
    c.add_time-3.ensures.ok

pub returns-clause-err : goal.returns-clause-err
returns-clause-err c =
    last_on_err c.add_time-3.result _ c.add_shortest.new.out.items c.args.out.now.items _
    (four_behind c.args.out.now.items _ _ _ _ _ _ _ _ c.in_ok-extend_from_slice.ensures.items
    c.in_ok-add_time.ensures.ok c.in_ok-add_time-2.ensures.ok c.in_ok-add_shortest.ensures.ok)
    c.add_time-3.ensures.err
