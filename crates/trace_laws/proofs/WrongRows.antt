-- The lines before a wrong row are the composition's.
use Rattle.std.proofs.Common.{◌≡◌, ℕ, zero, suc, ◌+◌, ◌*◌, ◌%◌, ◌<◌, ◌≤◌, nat_eq, Bool, true, false, not, cond}
use Rattle.std.proofs.Common.{List, [], ◌∷◌, ◌++◌, length, take, drop, Option, Some, None, refl, sym, ap, ap₂, ◌∙◌}
use Rattle.std.proofs.Common.{arith, length-take-le, take-append-drop}
use Rattle.std.specs.Prelude.{bytes_eq, position, is_some}
use Rattle.std.specs.List.{enumerate_from, position_from}
use Rattle.std.proofs.lemmas.Bool.{false≢true}
use Rattle.std.proofs.lemmas.Iterator.Adapters.{position_from-zero}
use Rattle.std.proofs.lemmas.Slice.Eq.{bytes_eq-Decides}
use Rattle.pals_model.specs.declared.design.DesignParts.{DesignParts}
use Rattle.pals_model.specs.declared.environment.Env.{Env}
use Rattle.pals_model.specs.RoundTexts.{report_lines}
use Rattle.bus_machine.specs.RunParameters.{Run}
use Rattle.run_laws.specs.TraceVerdicts.{row_size, line_at, wrong_row, report_size}
use Rattle.run_laws.proofs.ReportRows.{report_length, row_some, reports_have_rows}
use Rattle.trace_laws.specs.WrongLines.{BeginsReport}
use Rattle.trace_laws.proofs.PrefixVerdicts.{is_other, take_less}

-- ---- two lists whose first elements are those at their places
same_by : (x y : List ℕ) (b : Bool) → bytes_eq x y ≡ b → not b ≡ false → x ≡ y
same_by x y true is here = (bytes_eq-Decides x y).0 is
same_by x y false is here = absurd (false≢true (sym here))

-- the first other element comes no sooner than after this many
abbrev IsFrom : (ℕ × List ℕ → Bool) → ℕ → ℕ → ℕ → List (List ℕ) → Type 0
IsFrom p i from k xs = (m : ℕ) → position_from p i (enumerate_from from xs) ≡ Some (i + m) → k ≤ m

head_passes : (i k : ℕ) (b : Bool) (rest : Option ℕ) → ((m : ℕ) → cond b (Some i) rest ≡ Some (i + m) → suc k ≤ m)
    → b ≡ false
head_passes i k true rest least =
    let here : i ≡ i + 0 = omega arith in
    absurd (let more = least 0 (ap Some here) in omega (arith, more))
head_passes i k false rest least = refl

tail_from : (p : ℕ × List ℕ → Bool) (i from k : ℕ) (x : List ℕ) (xs : List (List ℕ)) → p (from, x) ≡ false
    → IsFrom p i from (suc k) (x ∷ xs) → IsFrom p (i + 1) (from + 1) k xs
tail_from p i from k x xs passes least m at =
    let place : i + 1 + m ≡ i + suc m = omega arith in
    let whole : position_from p i (enumerate_from from (x ∷ xs)) ≡ Some (i + suc m) =
    ap (λ b. cond b (Some i) (position_from p (i + 1) (enumerate_from (from + 1) xs))) passes ∙ at ∙ ap Some place in
    let more = least (suc m) whole in
    omega (arith, more)

-- so two lists have the same first elements, each as at its place
same_front : (design : DesignParts) (env : Env) (from i j k : ℕ) (xs ys : List (List ℕ))
    → IsFrom (is_other design env) i from k xs → IsFrom (is_other design env) j from k ys
    → k ≤ length xs → k ≤ length ys → take k xs ≡ take k ys
same_front design env from i j zero xs ys one other few within = refl
same_front design env from i j (suc k) [] ys one other few within = absurd (omega (arith, few))
same_front design env from i j (suc k) (x ∷ xs) [] one other few within = absurd (omega (arith, within))
same_front design env from i j (suc k) (x ∷ xs) (y ∷ ys) one other few within =
    let p = is_other design env in
    let left = head_passes i k (p (from, x)) (position_from p (i + 1) (enumerate_from (from + 1) xs)) one in
    let right = head_passes j k (p (from, y)) (position_from p (j + 1) (enumerate_from (from + 1) ys)) other in
    let here : x ≡ y = same_by x (line_at design env from) (bytes_eq x (line_at design env from)) refl left
    ∙ sym (same_by y (line_at design env from) (bytes_eq y (line_at design env from)) refl right) in
    ap₂ (λ z zs. z ∷ zs) here
    (same_front design env (from + 1) (i + 1) (j + 1) k xs ys (tail_from p i from k x xs left one)
    (tail_from p j from k y ys right other) (omega (arith, few)) (omega (arith, within)))

-- ---- where a row is wrong
found_by : (i j size : ℕ) (b : Bool) (rest : Option ℕ) → cond b (Some i) rest ≡ Some j
    → (rest ≡ Some j → j < i + 1 + size) → j < i + suc size
found_by i j size true rest at later = let same : i ≡ j = cc in omega (arith, same)
found_by i j size false rest at later = let less = later at in omega (arith, less)

found_within : (p : ℕ × List ℕ → Bool) (i j from : ℕ) (xs : List (List ℕ))
    → position_from p i (enumerate_from from xs) ≡ Some j → j < i + length xs
found_within p i j from [] at = absurd (cc)
found_within p i j from (x ∷ xs) at =
    found_by i j (length xs) (p (from, x)) (position_from p (i + 1) (enumerate_from (from + 1) xs)) at
    (found_within p (i + 1) j (from + 1) xs)

-- the place of the first other line, or the end of the report
record IsWrongAt (design : DesignParts) (env : Env) (report : List (List ℕ)) (index : ℕ) : Type 0 where
  few : index ≤ length report
  first : IsFrom (is_other design env) 0 0 index report

row_by : (design : DesignParts) (env : Env) (report : List (List ℕ)) (index : ℕ) (o : Option ℕ) (b : Bool)
    → position_from (is_other design env) 0 (enumerate_from 0 report) ≡ o
    → cond (is_some o) o (cond b None (Some (length report))) ≡ Some index → IsWrongAt design env report index
row_by design env report index (Some at) b is wrong =
    let same : at ≡ index = cc in
    let within = found_within (is_other design env) 0 at 0 report is in
    record {
      few = omega (arith, same, within);
      first = λ m found.
          let place : Some at ≡ Some (0 + m) = sym is ∙ found in
          let number : at ≡ 0 + m = cc in
          omega (arith, same, number);
    }
row_by design env report index None true is wrong = absurd (cc)
row_by design env report index None false is wrong =
    let same : length report ≡ index = cc in
    record {
      few = omega (arith, same);
      first = λ m found. absurd (let none : None ≡ Some (0 + m) = sym is ∙ found in cc);
    }

wrong_at : (design : DesignParts) (env : Env) (report : List (List ℕ)) (index : ℕ)
    → wrong_row design env report ≡ Some index → IsWrongAt design env report index
wrong_at design env report index wrong =
    row_by design env report index (position (is_other design env) (enumerate_from 0 report))
    (nat_eq (length report % row_size design) 0)
    (sym (position_from-zero (is_other design env) (enumerate_from 0 report))) wrong

none_other : (o : Option ℕ) (b : Bool) (size : ℕ) → cond (is_some o) o (cond b None (Some size)) ≡ None → o ≡ None
none_other None b size none = refl
none_other (Some i) b size none = absurd (cc)

-- the composition's own lines have none
own_rows : (design : DesignParts) (env : Env) (rounds k : ℕ)
    → IsFrom (is_other design env) 0 0 k (report_lines design env rounds)
own_rows design env rounds k m found =
    let report : List (List ℕ) = report_lines design env rounds in
    let p = is_other design env in
    let none : position p (enumerate_from 0 report) ≡ None =
    none_other (position p (enumerate_from 0 report)) (nat_eq (length report % row_size design) 0) (length report)
    (reports_have_rows design env rounds) in
    absurd (let no : None ≡ Some (0 + m) = sym none ∙ position_from-zero p (enumerate_from 0 report) ∙ found in cc)

pub begins_report : (run : Run) (lines : List (List ℕ)) (index : ℕ)
    → wrong_row run.design run.env (take (report_size lines) lines) ≡ Some index → report_size lines ≤ length lines
    → BeginsReport run (take index lines)
begins_report run lines index wrong within =
    let size = report_size lines in
    let report : List (List ℕ) = take size lines in
    let own : List (List ℕ) = report_lines run.design run.env index in
    let at = wrong_at run.design run.env report index wrong in
    let few = at.few in
    let many : length report ≡ size = length-take-le size lines within in
    let rows : length own ≡ index * row_size run.design = report_length run.design run.env index in
    let some = row_some run.design in
    let enough : index ≤ index * row_size run.design = grind arith in
    let same : take index report ≡ take index own =
    same_front run.design run.env 0 0 0 index report own at.first (own_rows run.design run.env index index) few
    (omega (arith, rows, enough)) in
    record {
      rounds = index;
      later = drop index own;
      rows_are = ap (λ ls. ls ++ drop index own)
          (sym (take_less size index lines (omega (arith, few, many))) ∙ same) ∙ take-append-drop index own;
    }
