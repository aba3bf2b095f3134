-- The lines of rows after one more component or tap, and the parts of rows.
use Rattle.std.proofs.Common.{◌≡◌, ℕ, suc, ◌<◌, ◌+◌, List, [], ◌∷◌, ◌++◌, length, All, Option, Some, None, refl, sym}
use Rattle.std.proofs.Common.{ap, ap₂, ◌∙◌, arith, append_assoc}
use Rattle.pals_model.specs.declared.design.Component.{Component}
use Rattle.pals_model.specs.declared.design.Tap.{Tap}
use Rattle.pals_model.specs.declared.design.DesignParts.{DesignParts}
use Rattle.pals_model.specs.declared.environment.Env.{Env}
use Rattle.pals_model.specs.declared.part.Part.{Part}
use Rattle.pals_model.specs.Composition.{part}
use Rattle.pals_model.specs.DesignRules.{IsTap}
use Rattle.pals_model.specs.RoundTexts.{text_of, round_line, part_lines, tap_lines, taps_before, row_lines}
use Rattle.pals_model.specs.RoundTexts.{composed_lines}
use Rattle.pals_model.proofs.TextLineLaws.{text_of-append}
use Rattle.pals_report.specs.proof.RowLines.{lines_at_place, component_lines_from, tap_lines_from, ArePartsOf}

-- lines appended to earlier ones, if others remain
pub lines_turn : (out new total : List ℕ) (shown first rest : List (List ℕ)) → new ≡ out ++ text_of shown
    → shown ≡ first → out ++ text_of (first ++ rest) ≡ total → new ++ text_of rest ≡ total
lines_turn out new total shown first rest added is before =
    ap (λ t. t ++ text_of rest) added ∙ append_assoc out (text_of shown) (text_of rest)
    ∙ ap (λ t. out ++ t) (sym (text_of-append shown rest)) ∙ ap (λ ls. out ++ text_of (ls ++ rest)) is ∙ before

-- the lines of a tap, from its index
pub at_place : (design : DesignParts) (number place : ℕ) (tap : Tap) (shown : Option Part)
    → place ≡ taps_before design.taps number tap.source.0
    → lines_at_place design place tap shown ≡ tap_lines design number tap shown
at_place design number place tap None is = refl
at_place design number place tap (Some p) is = ap (λ k. lines_at_place design k tap (Some p)) is

-- ---- the parts of the composition
components_same : (f g : ℕ → Option Part) (k : ℕ) (cs : List Component)
    → ((node : ℕ) → node < k + length cs → f node ≡ g node) → component_lines_from f k cs ≡ component_lines_from g k cs
components_same f g k [] same = refl
components_same f g k (c ∷ cs) same =
    ap₂ (λ a b. a ++ b) (ap (part_lines c) (same k (omega arith)))
    (components_same f g (k + 1) cs (λ node within. same node (omega arith)))

taps_same : (design : DesignParts) (f g : ℕ → Option Part) (k : ℕ) (taps : List Tap)
    → All (λ (tap : Tap). f tap.source.0 ≡ g tap.source.0) taps
    → tap_lines_from design f k taps ≡ tap_lines_from design g k taps
taps_same design f g k [] same = refl
taps_same design f g k (tap ∷ taps) same =
    ap₂ (λ a b. a ++ b) (ap (tap_lines design k tap) (same 0 tap (omega arith)))
    (taps_same design f g (k + 1) taps (λ n d within. same (suc n) d (omega arith)))

-- the row from these parts is the composition's
pub row_same : (design : DesignParts) (env : Env) (round : ℕ) (part_of : ℕ → Option Part)
    → All (IsTap design) design.taps → ArePartsOf design env round part_of
    → text_of (row_lines design part_of round) ≡ text_of (composed_lines design env round)
row_same design env round part_of each are =
    ap₂ (λ a b. text_of (round_line round ∷ a ++ b))
    (components_same part_of (λ node. Some (part design env node round)) 0 design.components
    (λ node within. are node (omega arith)))
    (taps_same design part_of (λ node. Some (part design env node round)) 0 design.taps
    (λ n d within. are _ (each n d within).source.node_is))
