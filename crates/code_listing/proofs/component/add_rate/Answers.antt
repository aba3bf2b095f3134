use Rattle.std.proofs.Common.{ℕ, List, codes, [], ◌∷◌, ◌++◌, ap, ◌∙◌}
use Rattle.pals_model.specs.RoundTexts.{line_end}
use Rattle.pals_runs.specs.JournalLines.{spaced}
use Rattle.pals_base.specs.PeriodBoundAndReleases.{sent_steps}
use Rattle.code_listing.specs.Listings.{number_line, rate_lines}
use Rattle.code_listing.proofs.AddedLines.{line_alone, line_behind, line_last}
use Rattle.code_listing.proofs.component.add_rate.Goals as goal

pub returns-clause-ok : goal.returns-clause-ok
returns-clause-ok c =
    let design = c.args.design.now in
    let component = c.args.component.now in
    let path = spaced (codes "component" ∷ component.path ∷ []) in
    let lines : ℕ → ℕ → ℕ → List (List ℕ) =
    λ rate sent release. path ∷ number_line (codes "rate") rate ∷ number_line (codes "sent") sent
    ∷ number_line (codes "release") release ∷ [] in
    let sent = sent_steps design.gamma design.period component.rate in
    let release = c.release_offset-release.result in
    let first = line_alone c.args.out.now.items _ path
    (c.in_ok-add_line.ensures.ok
    ∙ ap (λ name. c.args.out.now.items ++ spaced (codes "component" ∷ name ∷ []) ++ line_end)
    c.as_bytes-path.ensures.value) in
    let second = line_behind _ (number_line (codes "rate") c.from.result) first c.in_ok-add_number.ensures.ok in
    let third = line_behind _ (number_line (codes "sent") c.from-2.result) second c.in_ok-add_number-2.ensures.ok in
    line_last c.add_number-3.result _ (number_line (codes "release") release) (rate_lines design component) third
    (ap (λ rate. lines rate c.from-2.result release) c.from.ensures
    ∙ ap (λ sent. lines component.rate sent release) (c.from-2.ensures ∙ c.sent_steps-sent.ensures)
    ∙ ap (lines component.rate sent) c.release_offset-release.ensures)
    c.add_number-3.ensures.ok
