-- Properties of a scenario, watched round by round.
use Rattle.std.proofs.Common.{Some, None, IfSome, subst, ◌≡◌, ◌∙◌, ℕ, ◌+◌, ◌<◌, Bool, true, false, Option, is_some}
use Rattle.std.proofs.Common.{List, [], ◌∷◌, ◌++◌, length, map, take, codes, decimal, refl, sym, ap, append_assoc, ap₂}
use Rattle.std.proofs.Common.{add-one}
use Rattle.std.specs.Prelude.{slice_index_or}
use Rattle.std.proofs.lemmas.Option.{slice_get_within}
use Rattle.std.proofs.lemmas.List.{length-map, get_or-map, take_more, map-append}
use Rattle.std.proofs.lemmas.Simd.{map-map}
use Rattle.pals_base.specs.declared.frames.Frame.{Frame}
use Rattle.pals_model.specs.declared.design.DesignParts.{DesignParts}
use Rattle.pals_model.specs.declared.environment.Env.{Env}
use Rattle.pals_model.specs.RoundTexts.{line_end, text_of, round_line}
use Rattle.pals_runs.specs.Formula.{Formula}
use Rattle.pals_runs.specs.JournalLines.{spaced}
use Rattle.analysis_fields.specs.NamedFormulas.{PropertyValue}
use Rattle.run_monitor.specs.FormulaSemantics.{holds, frame_rows}
use Rattle.run_monitor.specs.WatchText.{names_of, formulas_of, verdict_line, watched_lines, first_false_text, last_line}
use Rattle.run_monitor.specs.WatchText.{watched_rows, watch_text}
use Rattle.run_monitor.specs.FalseProperties.{formula_values, first_false, is_some_false}
use Rattle.run_monitor.specs.proof.SeveralMonitors.{MonitorsState, HasWatched}
use Rattle.run_monitor.specs.declared.false_property.FalseProperty.{FalseProperty}
use Rattle.run_monitor.proofs.FirstFalseProperty.{violated_is_first, others_hold}
use Rattle.run_monitor.proofs.WatchTextGrowth.{rows_go_on}
use Rattle.run_monitor.proofs.FrameRowGrowth.{history_has_rounds}
use Rattle.analysis_texts.specs.MonitoredFormulas.{named, formulas}
use Rattle.analysis_texts.proofs.LineBlocks.{line_before, line_behind}

formulas_of-named : (properties : List PropertyValue) → formulas_of (named properties) ≡ formulas properties
formulas_of-named properties = map-map (λ p. p.1) (λ (p : PropertyValue). (p.name, p.form)) properties

-- the formulas of one more property
pub formulas-more : (properties : List PropertyValue) (i : ℕ) (p : PropertyValue) → i < length properties
    → p ≡ slice_index_or properties i p
    → formulas (take (i + 1) properties) ≡ formulas (take i properties) ++ p.form ∷ []
formulas-more properties i p within is =
    ap formulas (take_more properties i p within ∙ ap (λ q. take i properties ++ q ∷ []) (sym is))
    ∙ map-append (λ (q : PropertyValue). q.form) (take i properties) (p ∷ [])

-- the name at a place
pub name_at : (properties : List PropertyValue) (i : ℕ) (p : PropertyValue) → i < length properties
    → p ≡ slice_index_or properties i p
    → p.name ≡ slice_index_or (names_of (named properties)) i []
name_at properties i p within is =
    ap (λ (q : PropertyValue). q.name) is
    ∙ sym (get_or-map (λ (q : PropertyValue). q.name) properties i p [] within)
    ∙ sym (ap (λ names. slice_index_or names i [])
    (map-map (λ q. q.0) (λ (q : PropertyValue). (q.name, q.form)) properties))

-- the value of a property at a round
pub verdict_at : (properties : List PropertyValue) (h : List (List Frame)) (round i : ℕ) (p : PropertyValue) (d : Bool)
    → i < length properties
    → p ≡ slice_index_or properties i p
    → slice_index_or (formula_values (formulas properties) h round) i d ≡ holds p.form h round
verdict_at properties h round i p d within is =
    ap (λ bits. slice_index_or bits i d) (map-map (λ f. holds f h round) (λ (q : PropertyValue). q.form) properties)
    ∙ get_or-map (λ (q : PropertyValue). holds q.form h round) properties i p d within
    ∙ ap (λ (q : PropertyValue). holds q.form h round) (sym is)

abbrev pub verdict_of : List (List Frame) → ℕ → PropertyValue → List ℕ
verdict_of h round p = verdict_line p.name (holds p.form h round)

-- a round, and the value of each property there
pub round_and_verdicts : (properties : List PropertyValue) (h : List (List Frame)) (round : ℕ) (old middle new : List ℕ)
    → middle ≡ old ++ round_line round ++ line_end → new ≡ middle ++ text_of (map (verdict_of h round) properties)
    → new ≡ old ++ text_of (watched_lines (named properties) h round)
round_and_verdicts properties h round old middle new first more =
    line_before old (round_line round) middle new (map (verdict_of h round) properties) first more
    ∙ ap (λ lines. old ++ text_of (round_line round ∷ lines))
    (sym (map-map (λ p. verdict_line p.0 (holds p.1 h round)) (λ (p : PropertyValue). (p.name, p.form)) properties))

-- the words of the last line, where some property is violated
pub last_words : (rounds round : ℕ) (name : List ℕ)
    → spaced (codes "watch" ∷ codes "rounds" ∷ decimal rounds ∷ codes "first" ∷ name ∷ decimal round ∷ [])
    ≡ last_line rounds (name ++ codes " " ++ decimal round)
last_words rounds round name =
    let first : List ℕ = name ++ codes " " ++ decimal round in
    ap (λ t. codes "watch rounds " ++ (decimal rounds ++ (codes " first " ++ t)))
    (sym (append_assoc name (codes " ") (decimal round)))
    ∙ ap (λ t. codes "watch rounds " ++ t) (sym (append_assoc (decimal rounds) (codes " first ") first))

-- ---- the violation that is named
none_or_first : (design : DesignParts) (env : Env) (rounds : ℕ) (fs : List Formula) (found : Option FalseProperty)
    (violated : Bool)
    → is_some_false design env rounds fs ≡ violated → found ≡ first_false fs (frame_rows design env rounds) rounds
    → (is_some found ≡ violated) × IfSome found (λ v. v.property < length fs)
none_or_first design env rounds fs found true violated is =
    let first = violated_is_first design env rounds fs violated in
    let some : found ≡ Some first.0 = is ∙ first.3 in (
      ap is_some some,
      subst (λ o. IfSome o (λ v. v.property < length fs)) (sym some)
          (slice_get_within fs first.0.property first.1 first.2.is),
    )
none_or_first design env rounds fs found false violated is =
    let none : found ≡ None = is ∙ (others_hold design env rounds fs violated).1 in
    (ap is_some none, subst (λ o. IfSome o (λ v. v.property < length fs)) (sym none) tt)

-- what monitors found is what the design's rounds have
pub found_is : (design : DesignParts) (env : Env) (rounds : ℕ) (fs : List Formula) (m : MonitorsState)
    → HasWatched m fs (frame_rows design env rounds)
    → m.violation ≡ first_false fs (frame_rows design env rounds) rounds
found_is design env rounds fs m watched =
    watched.first ∙ ap (first_false fs (frame_rows design env rounds)) (history_has_rounds design env rounds)

-- it states whether some formula is violated
pub found_tells : (design : DesignParts) (env : Env) (rounds : ℕ) (fs : List Formula) (m : MonitorsState)
    → HasWatched m fs (frame_rows design env rounds)
    → is_some m.violation ≡ is_some_false design env rounds fs
found_tells design env rounds fs m watched =
    (none_or_first design env rounds fs m.violation (is_some_false design env rounds fs) refl
    (found_is design env rounds fs m watched)).0

-- and names one of these properties
pub found_within : (design : DesignParts) (env : Env) (rounds : ℕ) (properties : List PropertyValue) (m : MonitorsState)
    → HasWatched m (formulas properties) (frame_rows design env rounds)
    → IfSome m.violation (λ v. v.property < length properties)
found_within design env rounds properties m watched =
    let fs = formulas properties in
    subst (λ n. IfSome m.violation (λ v. v.property < n)) (length-map properties (λ (p : PropertyValue). p.form))
    (none_or_first design env rounds fs m.violation (is_some_false design env rounds fs) refl
    (found_is design env rounds fs m watched)).1

-- ---- all of it
-- the row of one more round
pub rows_more : (design : DesignParts) (env : Env) (round : ℕ) (properties : List PropertyValue) (rows : List ℕ)
    → rows ≡ watched_rows design env round (named properties)
    → rows ++ text_of (watched_lines (named properties) (frame_rows design env (round + 1)) round)
    ≡ watched_rows design env (round + 1) (named properties)
rows_more design env round properties rows are =
    let all = named properties in
    ap (λ t. t ++ text_of (watched_lines all (frame_rows design env (round + 1)) round)) are
    ∙ subst (λ n. watched_rows design env round all ++ text_of (watched_lines all (frame_rows design env n) round)
    ≡ watched_rows design env n all)
    (sym (add-one round)) (sym (rows_go_on design env round all))

-- the rows of all rounds, and the last line
pub watched_whole : (design : DesignParts) (env : Env) (rounds : ℕ) (properties : List PropertyValue)
    (found : Option FalseProperty) (rows new : List ℕ)
    → rows ≡ watched_rows design env rounds (named properties)
    → found ≡ first_false (formulas properties) (frame_rows design env rounds) rounds
    → new ≡ rows ++ last_line rounds (first_false_text (names_of (named properties)) found) ++ line_end
    → new ≡ watch_text design env rounds (named properties)
watched_whole design env rounds properties found rows new are is added =
    let names = names_of (named properties) in
    let named_first : found ≡ first_false (formulas_of (named properties)) (frame_rows design env rounds) rounds =
    is ∙ ap (λ fs. first_false fs (frame_rows design env rounds) rounds) (sym (formulas_of-named properties)) in
    line_behind rows (last_line rounds (first_false_text names found)) new added
    ∙ ap₂ (λ t v. t ++ text_of (last_line rounds (first_false_text names v) ∷ [])) are named_first
