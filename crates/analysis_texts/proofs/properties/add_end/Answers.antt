use Rattle.std.proofs.Common.{◌≡◌, ◌<◌, [], ◌∷◌, ◌++◌, List, ℕ, length, codes, decimal, OnOk, IfSome, ap, ◌∙◌, sym}
use Rattle.std.proofs.Common.{subst}
use Rattle.std.specs.Prelude.{slice_index_or}
use Rattle.pals_model.specs.RoundTexts.{line_end}
use Rattle.pals_runs.specs.JournalLines.{spaced}
use Rattle.analysis_fields.specs.NamedFormulas.{PropertyValue}
use Rattle.run_monitor.specs.WatchText.{names_of, first_false_text, last_line}
use Rattle.analysis_texts.specs.MonitoredFormulas.{named}
use Rattle.analysis_texts.proofs.WatchedRounds.{name_at, last_words}
use Rattle.analysis_texts.proofs.properties.add_end.Goals as goal

words : ℕ → List ℕ → ℕ → List ℕ
words rounds name round =
    spaced (codes "watch" ∷ codes "rounds" ∷ decimal rounds ∷ codes "first" ∷ name ∷ decimal round ∷ [])

pub returns-in-Some : goal.returns-in-Some
unfolding words
returns-in-Some c =
    let properties = c.args.properties.now in
    let names = names_of (named properties) in
    let rounds = c.args.rounds in
    let violation = c.in-Some.violation in
    let property : PropertyValue = c.index-properties-violation.result in
    let within : violation.property < length properties =
    subst (λ v. IfSome v (λ w. w.property < length properties)) c.in-Some.is c.requires in
    let name : c.as_bytes.result.now ≡ slice_index_or names violation.property [] =
    c.as_bytes.ensures.value ∙ ap (λ (p : PropertyValue). p.name) c.property.view_is
    ∙ name_at properties violation.property property within c.index-properties-violation.is in
    subst (λ line. OnOk c.add_line-in-Some.result
    (c.add_line-in-Some.new.out.items ≡ c.args.text.now.items ++ line ++ line_end))
    (ap (λ n. words n c.as_bytes.result.now c.from-in-Some.result) c.from.ensures
    ∙ ap (λ (bytes : List ℕ). words rounds bytes c.from-in-Some.result) name
    ∙ ap (words rounds (slice_index_or names violation.property [])) c.from-in-Some.ensures
    ∙ last_words rounds violation.round (slice_index_or names violation.property [])
    ∙ ap (λ v. last_line rounds (first_false_text names v)) (sym c.in-Some.is))
    c.add_line-in-Some.ensures.ok
