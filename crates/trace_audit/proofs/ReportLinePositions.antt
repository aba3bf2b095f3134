-- The round of each line of a report, and the line's position in its row.
use Rattle.std.proofs.Common.{◌≡◌, ◌≢◌, inl, inr, ◌⊎◌, ℕ, ◌+◌, ◌-◌, ◌*◌, ◌/◌, ◌%◌, ◌<◌, ◌≤◌, List, [], ◌∷◌, length}
use Rattle.std.proofs.Common.{drop, Some, sym, ap, ap₂, ◌∙◌, subst, arith}
use Rattle.std.proofs.lemmas.Bool.{cases_lt}
use Rattle.std.proofs.lemmas.List.{drop_more}
use Rattle.std.proofs.lemmas.List.Elements.{All-get_or}
use Rattle.std.proofs.lemmas.Nat.{div-mul-add, mod-mul-add}
use Rattle.std.proofs.Math.Nat.{div-add-mod', mod-lt, add_assoc}
use Rattle.pals_model.specs.declared.design.DesignParts.{DesignParts}
use Rattle.pals_model.specs.declared.environment.Env.{Env}
use Rattle.pals_model.specs.Composition.{part}
use Rattle.pals_model.specs.proof.CompositionLaws.TextLines.{IsLine}
use Rattle.pals_model.specs.RoundTexts.{composed_lines}
use Rattle.pals_model.specs.DesignRules.{IsDesign}
use Rattle.pals_model.proofs.TextLineLaws.{row_has_lines}
use Rattle.run_laws.specs.TraceVerdicts.{row_size, line_at}
use Rattle.run_laws.proofs.ReportRows.{row_length, row_some}
use Rattle.run_laws.proofs.TimeArithmetic.{step_next}
use Rattle.trace_audit.specs.proof.ReportRows.{rows_begun, left_at}

-- ---- rounds
begun_at : (q size r more : ℕ) → size ≡ 1 + more → r ≡ 0 → (q * size + r + more) / size ≡ q
begun_at q size r more is none =
    let same : (p : ℕ) → p + r + more ≡ p + more = λ p. omega arith in
    ap (λ k. k / size) (same (q * size)) ∙ div-mul-add q size more (omega arith)

begun_in : (q size r more : ℕ) → size ≡ 1 + more → r ≢ 0 → r < size → (q * size + r + more) / size ≡ q + 1
begun_in q size r more is some within =
    let same : (p : ℕ) → p + r + more ≡ p + size + (r - 1) = λ p. omega arith in
    ap (λ k. k / size) (same (q * size) ∙ ap (λ k. k + (r - 1)) (sym (step_next size q)))
    ∙ div-mul-add (q + 1) size (r - 1) (omega arith)

begun_next : (q size r more : ℕ) → size ≡ 1 + more → r < size → (q * size + r + 1 + more) / size ≡ q + 1
begun_next q size r more is within =
    let same : (p : ℕ) → p + r + 1 + more ≡ p + size + r = λ p. omega arith in
    ap (λ k. k / size) (same (q * size) ∙ ap (λ k. k + r) (sym (step_next size q))) ∙ div-mul-add (q + 1) size r within

row_next : (q size r : ℕ) → r < size → (q * size + r + 1) % size ≢ 0
    → ((q * size + r + 1) / size ≡ q) × ((q * size + r + 1) % size ≡ r + 1)
row_next q size r within some = by (cases_lt (r + 1) size)
  where
    same : (p : ℕ) → p + r + 1 ≡ p + (r + 1)
    same p = omega arith

    by : (r + 1 < size) ⊎ (size ≤ r + 1) → ((q * size + r + 1) / size ≡ q) × ((q * size + r + 1) % size ≡ r + 1)
    by (inl lt) = (
      ap (λ k. k / size) (same (q * size)) ∙ div-mul-add q size (r + 1) lt,
      ap (λ k. k % size) (same (q * size)) ∙ mod-mul-add q size (r + 1) lt,
    )
    by (inr ge) =
        let last : (p : ℕ) → p + r + 1 ≡ p + size + 0 = λ p. omega arith in
        absurd (some (ap (λ k. k % size) (last (q * size) ∙ ap (λ k. k + 0) (sym (step_next size q)))
        ∙ mod-mul-add (q + 1) size 0 (omega arith)))

pub place_within : (design : DesignParts) (index : ℕ) → index % row_size design < row_size design
place_within design index = mod-lt index (row_some design)

split : (design : DesignParts) (index : ℕ) → index ≡ index / row_size design * row_size design + index % row_size design
split design index = sym (div-add-mod' index (row_size design))

size_is : (a b : ℕ) → 1 + a + b ≡ 1 + (a + b)
size_is a b = omega arith

zero_div : (n : ℕ) → 0 < n → 0 / n ≡ 0
zero_div n some = let same : 0 ≡ 0 * n + 0 = omega arith in ap (λ k. k / n) same ∙ div-mul-add 0 n 0 some

zero_mod : (n : ℕ) → 0 < n → 0 % n ≡ 0
zero_mod n some = let same : 0 ≡ 0 * n + 0 = omega arith in ap (λ k. k % n) same ∙ mod-mul-add 0 n 0 some

pub first_place : (design : DesignParts) → 0 % row_size design ≡ 0
first_place design = zero_mod (row_size design) (row_some design)

pub begun_first : (design : DesignParts) (index : ℕ) → index % row_size design ≡ 0
    → rows_begun design index ≡ index / row_size design
begun_first design index none =
    let a = length design.components in
    let b = length design.taps in
    let size = row_size design in
    ap (λ k. k / size) (add_assoc index a b) ∙ ap (λ k. (k + (a + b)) / size) (split design index)
    ∙ begun_at (index / size) size (index % size) (a + b) (size_is a b) none

pub none_begun : (design : DesignParts) → rows_begun design 0 ≡ 0
none_begun design = begun_first design 0 (first_place design) ∙ zero_div (row_size design) (row_some design)

pub begun_later : (design : DesignParts) (index : ℕ) → index % row_size design ≢ 0
    → rows_begun design index ≡ index / row_size design + 1
begun_later design index some =
    let a = length design.components in
    let b = length design.taps in
    let size = row_size design in
    ap (λ k. k / size) (add_assoc index a b) ∙ ap (λ k. (k + (a + b)) / size) (split design index)
    ∙ begun_in (index / size) size (index % size) (a + b) (size_is a b) some (place_within design index)

pub begun_after : (design : DesignParts) (index : ℕ) → rows_begun design (index + 1) ≡ index / row_size design + 1
begun_after design index =
    let a = length design.components in
    let b = length design.taps in
    let size = row_size design in
    ap (λ k. k / size) (add_assoc (index + 1) a b) ∙ ap (λ k. (k + 1 + (a + b)) / size) (split design index)
    ∙ begun_next (index / size) size (index % size) (a + b) (size_is a b) (place_within design index)

-- ---- the lines of a row
place_there : (design : DesignParts) (env : Env) (index : ℕ)
    → index % row_size design < length (composed_lines design env (index / row_size design))
place_there design env index =
    subst (λ n. index % row_size design < n) (sym (row_length design env (index / row_size design)))
    (place_within design index)

abbrev pub left_behind : DesignParts → Env → ℕ → List (List ℕ)
left_behind design env index = drop (index % row_size design + 1) (composed_lines design env (index / row_size design))

pub left_is : (design : DesignParts) (env : Env) (index : ℕ)
    → left_at design env index ≡ line_at design env index ∷ left_behind design env index
left_is design env index =
    drop_more (composed_lines design env (index / row_size design)) (index % row_size design) []
    (place_there design env index)

pub line_is_one : (design : DesignParts) (env : Env) (index : ℕ) → IsDesign design → IsLine (line_at design env index)
line_is_one design env index rules =
    All-get_or IsLine (composed_lines design env (index / row_size design)) (index % row_size design) []
    (place_there design env index)
    (row_has_lines design (λ node. Some (part design env node (index / row_size design)))
    (index / row_size design) rules)

pub left_next : (design : DesignParts) (env : Env) (index : ℕ) → (index + 1) % row_size design ≢ 0
    → left_at design env (index + 1) ≡ left_behind design env index
left_next design env index some =
    let size = row_size design in
    let at = split design index in
    let next : index + 1 ≡ index / size * size + index % size + 1 = ap (λ k. k + 1) at in
    let both =
    row_next (index / size) size (index % size) (place_within design index)
    (λ none. some (ap (λ k. k % size) next ∙ none)) in
    ap₂ (λ p r. drop p (composed_lines design env r)) (ap (λ k. k % size) next ∙ both.1)
    (ap (λ k. k / size) next ∙ both.0)
