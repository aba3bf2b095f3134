use Rattle.std.proofs.Common.{codes, decimal, [], ◌∷◌, refl}
use Rattle.pals_runs.specs.JournalLines.{spaced}
use Rattle.code_listing.specs.Listings.{range_line, period_and_bounds_lines}
use Rattle.code_listing.proofs.AddedLines.{line_alone, line_behind, line_last}
use Rattle.code_listing.proofs.period_and_bounds.add_bounds.Goals as goal

pub returns-clause-ok : goal.returns-clause-ok
returns-clause-ok c =
    let design = c.args.design.now in
    let gamma = design.gamma in
    let head =
    line_alone c.args.out.now.items _ (spaced (codes "pals-code" ∷ decimal 1 ∷ [])) c.in_ok-add_line.ensures.ok in
    let period =
    line_behind _ (spaced (codes "period" ∷ decimal design.period ∷ [])) head c.in_ok-add_line-2.ensures.ok in
    let skew = line_behind _ (spaced (codes "skew" ∷ decimal gamma.eps ∷ [])) period c.in_ok-add_line-3.ensures.ok in
    let execution =
    line_behind _ (range_line (codes "execution") gamma.alpha_min gamma.alpha_max) skew
    c.in_ok-add_range.ensures.ok in
    line_last c.add_range-2.result _ (range_line (codes "network") gamma.mu_min gamma.mu_max)
    (period_and_bounds_lines design)
    execution refl c.add_range-2.ensures.ok
