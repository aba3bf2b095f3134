-- The lines of a trace that was read are no more than a list may have.
use Rattle.std.proofs.Common.{◌≡◌, ℕ, ◌≤◌, ◌+◌, List, [], ◌∷◌, ◌++◌, length, codes, decimal, Ok, ap, arith}
use Rattle.std.proofs.Common.{length-append}
use Rattle.std.specs.Prelude.{nat_le}
use Rattle.std.proofs.lemmas.Bool.{leb-true}
use Rattle.serde_json.specs.Data.{Data}
use Rattle.pals_base.specs.declared.limits.TheConstants.{LIST_ITEMS}
use Rattle.scenario_values.specs.declared.fault.ScenarioFault.TheVariants.{OutOfRange}
use Rattle.scenario_values.specs.ResultCombinators.{only_if, through}
use Rattle.scenario_values.specs.FaultPlaces.{inside}
use Rattle.scenario_values.specs.FieldValues.{elements, short_list, text}
use Rattle.scenario_values.proofs.SuccessfulResults.{ok_same, ok_bind, ok_only_if}
use Rattle.scenario_json.specs.Traces.{with_line, trace_in}

one_more : (lines more : List (List ℕ)) (d : Data) → with_line lines d ≡ Ok more → length more ≡ length lines + 1
one_more lines more d e =
    let line =
    ok_bind (text (inside (codes "trace") (decimal (length lines))) d) (λ line. Ok (lines ++ line ∷ [])) more e in
    let many = length-append lines (line.0 ∷ []) in
    let same = ap length (ok_same (lines ++ line.0 ∷ []) more line.2) in
    omega (arith, many, same)

as_many : (lines : List (List ℕ)) (ds : List Data) (more : List (List ℕ)) → through with_line lines ds ≡ Ok more
    → length more ≡ length lines + length ds
as_many lines [] more e = let same = ap length (ok_same lines more e) in omega (arith, same)
as_many lines (d ∷ ds) more e =
    let first = ok_bind (with_line lines d) (λ next. through with_line next ds) more e in
    let one = one_more lines first.0 d first.1 in
    let rest = as_many first.0 ds more first.2 in
    omega (arith, one, rest)

pub trace_few : (d : Data) (lines : List (List ℕ)) → trace_in d ≡ Ok lines → length lines ≤ LIST_ITEMS
unfolding trace_in short_list
trace_few d lines e =
    let short = ok_bind (short_list (codes "trace") LIST_ITEMS d) (λ ds. through with_line [] ds) lines e in
    let items =
    ok_bind (elements (codes "trace") d)
    (λ ds. only_if (nat_le (length ds) LIST_ITEMS) (OutOfRange (codes "trace")) (Ok ds)) short.0 short.1 in
    let passed =
    ok_only_if (nat_le (length items.0) LIST_ITEMS) (OutOfRange (codes "trace")) (Ok items.0) short.0 items.2 in
    let within = leb-true _ _ passed.0 in
    let many = ap length (ok_same items.0 short.0 passed.1) in
    let count = as_many [] short.0 lines short.2 in
    omega (arith, within, many, count)
