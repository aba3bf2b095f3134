-- The lines of a report are the composition's, row by row.
use Rattle.std.proofs.Common.{◌≡◌, ℕ, zero, suc, ◌+◌, ◌*◌, ◌%◌, ◌<◌, nat_eq, Bool, true, false, not, cond, List, []}
use Rattle.std.proofs.Common.{◌∷◌, length, flat_map, slice_get, All, Some, None, refl, sym, ap, ap₂, ◌∙◌, subst, arith}
use Rattle.std.proofs.Common.{length-append}
use Rattle.std.specs.Prelude.{bytes_eq, position, is_some, slice_index_or}
use Rattle.std.specs.List.{enumerate_from}
use Rattle.std.proofs.lemmas.Grind.{common_steps}
use Rattle.std.proofs.lemmas.List.Concat.{flat_map_single}
use Rattle.std.proofs.lemmas.List.Elements.{All-nil, All-cons, All-append}
use Rattle.std.proofs.lemmas.Nat.{div-mul-add, mod-mul-add}
use Rattle.std.proofs.lemmas.Option.{get_or_from_slice_get, slice_get_within}
use Rattle.list_lemmas.proofs.ListOperations.{enumerate_from-append, length-map_enumerate_from}
use Rattle.pals_base.specs.UpwardNumbers.{upwards}
use Rattle.pals_model.specs.declared.design.Component.{Component}
use Rattle.pals_model.specs.declared.design.Tap.{Tap}
use Rattle.pals_model.specs.declared.design.DesignParts.{DesignParts}
use Rattle.pals_model.specs.declared.environment.Env.{Env}
use Rattle.pals_model.specs.Composition.{part}
use Rattle.pals_model.specs.RoundTexts.{component_line, part_lines, tap_lines, composed_lines, report_lines}
use Rattle.pals_model.proofs.FirstMatches.{none_passes}
use Rattle.pals_model.proofs.WordBytes.{same_bytes}
use Rattle.run_laws.specs.TraceVerdicts.{row_size, line_at}
use Rattle.run_laws.specs.proof.ReportLines.{ReportsHaveRows}

-- ---- numbered lists
pub numbered_all : {X : Type 0} (P : ℕ × X → Type 0) (from : ℕ) (xs : List X)
    → ((i : ℕ) (x : X) → slice_get xs i ≡ Some x → P (from + i, x)) → All P (enumerate_from from xs)
numbered_all P from [] holds = All-nil P
numbered_all P from (x ∷ xs) holds =
    let here : from + 0 ≡ from = omega arith in
    All-cons P (from, x) (enumerate_from (from + 1) xs) (subst (λ n. P (n, x)) here (holds 0 x refl))
    (numbered_all P (from + 1) xs
    (λ i y is. let next : from + suc i ≡ from + 1 + i = omega arith in
    subst (λ n. P (n, y)) next (holds (suc i) y is)))

-- ---- the size of a row
component_lines : (design : DesignParts) (env : Env) (round : ℕ)
    → length (flat_map (λ numbered. part_lines numbered.1 (Some (part design env numbered.0 round)))
    (enumerate_from 0 design.components)) ≡ length design.components
component_lines design env round =
    let f =
    λ (numbered : ℕ × Component).
    component_line numbered.1.path numbered.1.behaviour (part design env numbered.0 round).frame in
    ap length (flat_map_single f (enumerate_from 0 design.components)) ∙ length-map_enumerate_from f 0 design.components

pub tap_line_of : DesignParts → Env → ℕ → ℕ × Tap → List ℕ
tap_line_of design env round numbered =
    slice_index_or (tap_lines design numbered.0 numbered.1 (Some (part design env numbered.1.source.0 round))) 0 []

root_lines : (design : DesignParts) (env : Env) (round : ℕ)
    → length (flat_map (λ numbered.
    tap_lines design numbered.0 numbered.1 (Some (part design env numbered.1.source.0 round)))
    (enumerate_from 0 design.taps)) ≡ length design.taps
unfolding tap_line_of
root_lines design env round =
    ap length (flat_map_single (tap_line_of design env round) (enumerate_from 0 design.taps))
    ∙ length-map_enumerate_from (tap_line_of design env round) 0 design.taps

pub row_length : (design : DesignParts) (env : Env) (round : ℕ)
    → length (composed_lines design env round) ≡ row_size design
row_length design env round =
    let one = component_lines design env round in
    let two = root_lines design env round in
    let both =
    length-append (flat_map (λ numbered. part_lines numbered.1 (Some (part design env numbered.0 round)))
    (enumerate_from 0 design.components))
    (flat_map (λ numbered. tap_lines design numbered.0 numbered.1
    (Some (part design env numbered.1.source.0 round))) (enumerate_from 0 design.taps)) in
    omega arith

-- ---- each line is the composition's
abbrev IsOther : DesignParts → Env → ℕ × List ℕ → Bool
IsOther design env numbered = not (bytes_eq numbered.1 (line_at design env numbered.0))

row_fits : (design : DesignParts) (env : Env) (round : ℕ)
    → All (λ numbered. IsOther design env numbered ≡ false)
    (enumerate_from (round * row_size design) (composed_lines design env round))
row_fits design env round =
    numbered_all (λ numbered. IsOther design env numbered ≡ false) (round * row_size design)
    (composed_lines design env round)
    (λ i line is.
    let within : i < row_size design =
    subst (λ n. i < n) (row_length design env round)
    (slice_get_within (composed_lines design env round) i line is) in
    let here : line_at design env (round * row_size design + i) ≡ line =
    ap₂ (λ r j. slice_index_or (composed_lines design env r) j []) (div-mul-add round (row_size design) i within)
    (mod-mul-add round (row_size design) i within)
    ∙ get_or_from_slice_get (composed_lines design env round) i line [] is in
    ap (λ other. not (bytes_eq line other)) here ∙ ap not (same_bytes line))

rows_fit : (design : DesignParts) (env : Env) (round more : ℕ)
    → All (λ numbered. IsOther design env numbered ≡ false)
    (enumerate_from (round * row_size design) (flat_map (composed_lines design env) (upwards round more)))
rows_fit design env round zero = All-nil (λ numbered. IsOther design env numbered ≡ false)
rows_fit design env round (suc more) =
    let row = composed_lines design env round in
    let rest = flat_map (composed_lines design env) (upwards (suc round) more) in
    let next : suc round * row_size design ≡ round * row_size design + length row =
    (let size = row_length design env round in
    let one : suc round * row_size design ≡ round * row_size design + row_size design = grind arith in
    omega arith) in
    subst (All (λ numbered. IsOther design env numbered ≡ false))
    (sym (enumerate_from-append (round * row_size design) row rest))
    (All-append (λ numbered. IsOther design env numbered ≡ false) (enumerate_from (round * row_size design) row)
    (enumerate_from (round * row_size design + length row) rest) (row_fits design env round)
    (subst (λ n. All (λ numbered. IsOther design env numbered ≡ false) (enumerate_from n rest)) next
    (rows_fit design env (suc round) more)))

rows_length : (design : DesignParts) (env : Env) (round more : ℕ)
    → length (flat_map (composed_lines design env) (upwards round more)) ≡ more * row_size design
rows_length design env round zero = omega arith
rows_length design env round (suc more) =
    let size = row_length design env round in
    let rest = rows_length design env (suc round) more in
    let both =
    length-append (composed_lines design env round)
    (flat_map (composed_lines design env) (upwards (suc round) more)) in
    let one : suc more * row_size design ≡ row_size design + more * row_size design = grind arith in
    omega arith

pub report_length : (design : DesignParts) (env : Env) (rounds : ℕ)
    → length (report_lines design env rounds) ≡ rounds * row_size design
report_length design env rounds = rows_length design env 0 rounds

pub row_some : (design : DesignParts) → 0 < row_size design
row_some design = omega arith

whole : (n rounds size : ℕ) → 0 < size → n ≡ rounds * size → nat_eq (n % size) 0 ≡ true
whole n rounds size some is =
    let here : n ≡ rounds * size + 0 = omega arith in
    let none : n % size ≡ 0 = ap (λ k. k % size) here ∙ mod-mul-add rounds size 0 some in
    grind (arith, common_steps)

pub reports_have_rows : ReportsHaveRows
reports_have_rows design env rounds =
    let report = report_lines design env rounds in
    let zero' : 0 * row_size design ≡ 0 = omega arith in
    let none : position (IsOther design env) (enumerate_from 0 report) ≡ None =
    none_passes (IsOther design env) (enumerate_from 0 report)
    (subst (λ n. All (λ numbered. IsOther design env numbered ≡ false) (enumerate_from n report)) zero'
    (rows_fit design env 0 rounds)) in
    ap (λ o. cond (is_some o) o (cond (nat_eq (length report % row_size design) 0) None (Some (length report)))) none
    ∙ ap (λ b. cond b None (Some (length report)))
    (whole (length report) rounds (row_size design) (row_some design) (report_length design env rounds))
