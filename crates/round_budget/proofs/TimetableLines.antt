-- The timetable's lines as one more release is served.
use Rattle.std.proofs.Common.{◌≡◌, ℕ, ◌+◌, ◌<◌, List, [], ◌∷◌, ◌++◌, length, map, drop, ap, ap₂, sym, ◌∙◌, append_assoc}
use Rattle.std.proofs.Common.{add-one, drop-cons}
use Rattle.std.specs.Prelude.{slice_index_or}
use Rattle.std.proofs.lemmas.List.{map_push}
use Rattle.round_budget.specs.Budgets as budgets
use Rattle.round_budget.specs.Budgets.{begins, served_at, serve, line_from}
use Rattle.round_budget.specs.declared.releases.Release.{Release}
use Rattle.round_budget.specs.declared.served_steps.TimetableLine.{TimetableLine}
use Rattle.round_budget.specs.proof.ReleaseAndLineValues.{release_value, line_value}

drop_next : (rs : List Release) (i : ℕ) (x d : Release) → i < length rs → x ≡ slice_index_or rs i d
    → drop i rs ≡ x ∷ drop (i + 1) rs
drop_next rs i x d within is =
    drop-cons rs i d within ∙ ap₂ (λ (z : Release) (k : ℕ). z ∷ drop k rs) (sym is) (sym (add-one i))

-- one more line is served
pub serve_next : (cost : budgets.Release → ℕ) (start free after i : ℕ) (rs : List Release) (x d : Release)
    (lines : List TimetableLine) (y : TimetableLine) (whole : List budgets.Line)
    → i < length rs → x ≡ slice_index_or rs i d
    → line_from start (served_at cost free (release_value x)) ≡ line_value y
    → after ≡ begins free (release_value x) + cost (release_value x)
    → map line_value lines ++ map (line_from start) (serve cost free (map release_value (drop i rs))) ≡ whole
    → map line_value (lines ++ y ∷ [])
    ++ map (line_from start) (serve cost after (map release_value (drop (i + 1) rs))) ≡ whole
serve_next cost start free after i rs x d lines y whole within is line then before =
    let rest = map release_value (drop (i + 1) rs) in
    let served = map (line_from start) (serve cost after rest) in
    ap (λ l. l ++ served) (map_push line_value lines y)
    ∙ append_assoc (map line_value lines) (line_value y ∷ []) served
    ∙ ap₂ (λ (l : budgets.Line) (t : ℕ). map line_value lines ++ (l ∷ map (line_from start) (serve cost t rest)))
    (sym line) then
    ∙ ap (λ (l : List Release). map line_value lines ++ map (line_from start) (serve cost free (map release_value l)))
    (sym (drop_next rs i x d within is))
    ∙ before
