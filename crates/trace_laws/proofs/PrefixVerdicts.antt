-- A verdict that is wrong at a line depends on the lines up to that one only, so no trace begins with them.
use Rattle.std.proofs.Common.{◌≡◌, ℕ, zero, suc, ◌+◌, ◌-◌, ◌/◌, ◌%◌, ◌<◌, ◌≤◌, nat_eq, Bool, true, false, not}
use Rattle.std.proofs.Common.{inl, inr, cond, length-take-le, List, [], ◌∷◌, ◌++◌, length, take, drop, Option, Some}
use Rattle.std.proofs.Common.{None, refl, sym, ap, ◌∙◌, arith}
use Rattle.std.specs.Prelude.{bytes_eq, position, is_some}
use Rattle.std.specs.List.{enumerate_from, position_from, position_or_len}
use Rattle.std.proofs.lemmas.Bool.{cases_lt}
use Rattle.std.proofs.lemmas.Iterator.Adapters.{position_from-zero}
use Rattle.std.proofs.lemmas.List.{length-drop}
use Rattle.std.proofs.lemmas.List.Sums.{prefix_len-le-length}
use Rattle.pals_model.specs.declared.design.DesignParts.{DesignParts}
use Rattle.pals_model.specs.declared.environment.Env.{Env}
use Rattle.pals_runs.specs.declared.verdicts.TraceRule.{TraceRule}
use Rattle.pals_runs.specs.declared.verdicts.Verdict.TheVariants.{Sound, Wrong}
use Rattle.bus_machine.specs.RunParameters.{Run}
use Rattle.bus_machine.specs.proof.AgreementLaws.{IsRunOf}
use Rattle.run_laws.specs.LineForms.{form_of}
use Rattle.run_laws.specs.EntriesInLines.{entry_of_line}
use Rattle.run_laws.specs.TraceVerdicts.{Audit, opening_audit, audit_after, line_broken, wrong_or, entry_or}
use Rattle.run_laws.specs.TraceVerdicts.{journal_verdict, trace_verdict, verdict, report_size, row_size, line_at}
use Rattle.run_laws.specs.TraceVerdicts.{wrong_row}
use Rattle.run_laws.proofs.HistoryVerdicts.{traces_are_sound}
use Rattle.trace_laws.specs.WrongLines.{NoTraceBegins}
use Rattle.trace_laws.proofs.LinesBefore.{wrong_from, not_here, just_here}
use Rattle.pals_runs.specs.declared.verdicts.TraceRule.TheVariants as rule

-- ---- lists that begin with the same elements
-- the first elements of a list up to one of them, and then others
abbrev begun : {X : Type 0} → ℕ → List X → List X → List X
begun k xs others = take (suc k) xs ++ others

-- a place among these elements, where one is
abbrev AtSamePlace : {X : Type 0} → (X → Bool) → ℕ → List X → List X → Type 0
AtSamePlace p k xs others = position_or_len p (begun k xs others) ≡ position_or_len p xs

place_by : {X : Type 0} (p : X → Bool) (k : ℕ) (x : X) (xs others : List X) (b : Bool) → p x ≡ b
    → position_or_len p (x ∷ xs) ≤ suc k → (position_or_len p xs ≤ k → AtSamePlace p k xs others)
    → AtSamePlace p (suc k) (x ∷ xs) others
place_by p k x xs others true is most later =
    ap (λ c. cond (not c) (1 + position_or_len p (begun k xs others)) 0) is
    ∙ sym (ap (λ c. cond (not c) (1 + position_or_len p xs) 0) is)
place_by p k x xs others false is most later =
    let passed : position_or_len p (x ∷ xs) ≡ 1 + position_or_len p xs =
    ap (λ c. cond (not c) (1 + position_or_len p xs) 0) is in
    ap (λ c. cond (not c) (1 + position_or_len p (begun k xs others)) 0) is
    ∙ ap (λ n. 1 + n) (later (omega (arith, most, passed))) ∙ sym passed

first_by : {X : Type 0} (p : X → Bool) (x : X) (xs others : List X) (b : Bool) → p x ≡ b
    → position_or_len p (x ∷ xs) ≤ 0 → AtSamePlace p 0 (x ∷ xs) others
first_by p x xs others true is most =
    ap (λ c. cond (not c) (1 + position_or_len p others) 0) is
    ∙ sym (ap (λ c. cond (not c) (1 + position_or_len p xs) 0) is)
first_by p x xs others false is most =
    let passed : position_or_len p (x ∷ xs) ≡ 1 + position_or_len p xs =
    ap (λ c. cond (not c) (1 + position_or_len p xs) 0) is in
    absurd (omega (arith, most, passed))

same_place : {X : Type 0} (p : X → Bool) (k : ℕ) (xs others : List X) → position_or_len p xs ≤ k → k < length xs
    → AtSamePlace p k xs others
same_place p k [] others most less = absurd (omega (arith, less))
same_place p zero (x ∷ xs) others most less = first_by p x xs others (p x) refl most
same_place p (suc k) (x ∷ xs) others most less =
    place_by p k x xs others (p x) refl most (λ at. same_place p k xs others at (omega (arith, less)))

-- a place after these elements
later_by : {X : Type 0} (p : X → Bool) (k : ℕ) (x : X) (xs others : List X) (b : Bool) → p x ≡ b
    → suc k < position_or_len p (x ∷ xs) → (k < position_or_len p xs → suc k ≤ position_or_len p (begun k xs others))
    → suc (suc k) ≤ position_or_len p (begun (suc k) (x ∷ xs) others)
later_by p k x xs others true is less later =
    let none : position_or_len p (x ∷ xs) ≡ 0 = ap (λ c. cond (not c) (1 + position_or_len p xs) 0) is in
    absurd (omega (arith, less, none))
later_by p k x xs others false is less later =
    let passed : position_or_len p (x ∷ xs) ≡ 1 + position_or_len p xs =
    ap (λ c. cond (not c) (1 + position_or_len p xs) 0) is in
    let its : position_or_len p (begun (suc k) (x ∷ xs) others) ≡ 1 + position_or_len p (begun k xs others) =
    ap (λ c. cond (not c) (1 + position_or_len p (begun k xs others)) 0) is in
    let more = later (omega (arith, less, passed)) in
    omega (arith, more, its)

one_by : {X : Type 0} (p : X → Bool) (x : X) (xs others : List X) (b : Bool) → p x ≡ b → 0 < position_or_len p (x ∷ xs)
    → 1 ≤ position_or_len p (x ∷ others)
one_by p x xs others true is less =
    let none : position_or_len p (x ∷ xs) ≡ 0 = ap (λ c. cond (not c) (1 + position_or_len p xs) 0) is in
    absurd (omega (arith, less, none))
one_by p x xs others false is less =
    let its : position_or_len p (x ∷ others) ≡ 1 + position_or_len p others =
    ap (λ c. cond (not c) (1 + position_or_len p others) 0) is in
    omega (arith, its)

later_place : {X : Type 0} (p : X → Bool) (k : ℕ) (xs others : List X) → k < position_or_len p xs
    → suc k ≤ position_or_len p (begun k xs others)
later_place p k [] others less = absurd (omega (arith, less))
later_place p zero (x ∷ xs) others less = one_by p x xs others (p x) refl less
later_place p (suc k) (x ∷ xs) others less =
    later_by p k x xs others (p x) refl less (λ at. later_place p k xs others at)

-- ---- the report
take_begun : {X : Type 0} (n k : ℕ) (xs others : List X) → n ≤ suc k → n ≤ length xs
    → take n (begun k xs others) ≡ take n xs
take_begun zero k xs others few within = refl
take_begun (suc n) k [] others few within = absurd (omega (arith, within))
take_begun (suc zero) zero (x ∷ xs) others few within = refl
take_begun (suc (suc n)) zero (x ∷ xs) others few within = absurd (omega (arith, few))
take_begun (suc n) (suc k) (x ∷ xs) others few within =
    ap (λ ys. x ∷ ys) (take_begun n k xs others (omega (arith, few)) (omega (arith, within)))

drop_begun : {X : Type 0} (n k : ℕ) (xs others : List X) → n ≤ k → k < length xs
    → drop n (begun k xs others) ≡ begun (k - n) (drop n xs) others
drop_begun zero k xs others few less =
    let same : k ≡ k - 0 = omega arith in ap (λ m. begun m xs others) same
drop_begun (suc n) k [] others few less = absurd (omega (arith, less))
drop_begun (suc n) zero (x ∷ xs) others few less = absurd (omega (arith, few))
drop_begun (suc n) (suc k) (x ∷ xs) others few less =
    let same : k - n ≡ suc k - suc n = omega arith in
    drop_begun n k xs others (omega (arith, few)) (omega (arith, less)) ∙ ap (λ m. begun m (drop n xs) others) same

take_longer : {X : Type 0} (n k : ℕ) (xs others : List X) → suc k ≤ n → k < length xs
    → take n (begun k xs others) ≡ begun k xs (take (n - suc k) others)
take_longer n k [] others more less = absurd (omega (arith, less))
take_longer zero k (x ∷ xs) others more less = absurd (omega (arith, more))
take_longer (suc n) zero (x ∷ xs) others more less =
    let same : n ≡ suc n - 1 = omega arith in ap (λ m. x ∷ take m others) same
take_longer (suc n) (suc k) (x ∷ xs) others more less =
    let same : n - suc k ≡ suc n - suc (suc k) = omega arith in
    ap (λ ys. x ∷ ys) (take_longer n k xs others (omega (arith, more)) (omega (arith, less))
    ∙ ap (λ m. begun k xs (take m others)) same)

pub take_less : {X : Type 0} (n k : ℕ) (xs : List X) → k ≤ n → take k (take n xs) ≡ take k xs
take_less n zero xs few = refl
take_less zero (suc k) xs few = absurd (omega (arith, few))
take_less (suc n) (suc k) [] few = refl
take_less (suc n) (suc k) (x ∷ xs) few = ap (λ ys. x ∷ ys) (take_less n k xs (omega (arith, few)))

-- the first element that passes
here_or_later : (i j : ℕ) (b : Bool) (later : Option ℕ) → cond b (Some i) later ≡ Some j
    → (later ≡ Some j → i + 1 ≤ j) → i ≤ j
here_or_later i j true later at past = let same : i ≡ j = cc in omega (arith, same)
here_or_later i j false later at past = let more = past at in omega (arith, more)

at_least : {X : Type 0} (p : X → Bool) (i j : ℕ) (xs : List X) → position_from p i xs ≡ Some j → i ≤ j
at_least p i j [] at = absurd (cc)
at_least p i j (x ∷ xs) at = here_or_later i j (p x) (position_from p (i + 1) xs) at (at_least p (i + 1) j xs)

first_here : (i : ℕ) (b : Bool) (later others : Option ℕ) → cond b (Some i) later ≡ Some (i + 0)
    → (later ≡ Some (i + 0) → i + 1 ≤ i + 0) → cond b (Some i) others ≡ Some (i + 0)
first_here i true later others at past = at
first_here i false later others at past = absurd (let more = past at in omega (arith, more))

first_later : (i k : ℕ) (b : Bool) (later others : Option ℕ) → cond b (Some i) later ≡ Some (i + suc k)
    → (later ≡ Some (i + 1 + k) → others ≡ Some (i + 1 + k)) → cond b (Some i) others ≡ Some (i + suc k)
first_later i k true later others at same =
    absurd (let here : i ≡ i + suc k = cc in omega (arith, here))
first_later i k false later others at same =
    let place : i + suc k ≡ i + 1 + k = omega arith in
    same (at ∙ ap Some place) ∙ ap Some (sym place)

same_first : {X : Type 0} (p : ℕ × X → Bool) (i from k : ℕ) (xs others : List X)
    → position_from p i (enumerate_from from xs) ≡ Some (i + k) → k < length xs
    → position_from p i (enumerate_from from (begun k xs others)) ≡ Some (i + k)
same_first p i from k [] others at less = absurd (omega (arith, less))
same_first p i from zero (x ∷ xs) others at less =
    first_here i (p (from, x)) (position_from p (i + 1) (enumerate_from (from + 1) xs))
    (position_from p (i + 1) (enumerate_from (from + 1) others)) at
    (at_least p (i + 1) (i + 0) (enumerate_from (from + 1) xs))
same_first p i from (suc k) (x ∷ xs) others at less =
    first_later i k (p (from, x)) (position_from p (i + 1) (enumerate_from (from + 1) xs))
    (position_from p (i + 1) (enumerate_from (from + 1) (begun k xs others))) at
    (λ later. same_first p (i + 1) (from + 1) k xs others later (omega (arith, less)))

-- ---- wrong rows
row_parts : (o : Option ℕ) (b : Bool) (size index : ℕ) → cond (is_some o) o (cond b None (Some size)) ≡ Some index
    → index < size → o ≡ Some index
row_parts (Some i) b size index is less = is
row_parts None true size index is less = absurd (cc)
row_parts None false size index is less = absurd (let same : size ≡ index = cc in omega (arith, same, less))

abbrev pub is_other : DesignParts → Env → ℕ × List ℕ → Bool
is_other design env numbered = not (bytes_eq numbered.1 (line_at design env numbered.0))

same_row : (design : DesignParts) (env : Env) (report others : List (List ℕ)) (index : ℕ)
    → wrong_row design env report ≡ Some index → index < length report
    → wrong_row design env (begun index report others) ≡ Some index
same_row design env report others index wrong less =
    let p = is_other design env in
    let longer : List (List ℕ) = begun index report others in
    let at = row_parts (position p (enumerate_from 0 report)) (nat_eq (length report % row_size design) 0)
    (length report)
    index wrong less in
    let here : position_from p 0 (enumerate_from 0 report) ≡ Some (0 + index) =
    sym (position_from-zero p (enumerate_from 0 report)) ∙ at
    ∙ (let same : index ≡ 0 + index = omega arith in ap Some same) in
    let its : position p (enumerate_from 0 longer) ≡ Some index =
    position_from-zero p (enumerate_from 0 longer) ∙ same_first p 0 0 index report others here less
    ∙ (let same : 0 + index ≡ index = omega arith in ap Some same) in
    ap (λ o. cond (is_some o) o (cond (nat_eq (length longer % row_size design) 0) None (Some (length longer)))) its

-- ---- wrong lines of the journal
same_wrong : (run : Run) (rows i k : ℕ) (a : Audit) (lines others : List (List ℕ)) (why : TraceRule)
    → journal_verdict run rows i a lines ≡ Wrong (i + k) why → k < length lines
    → journal_verdict run rows i a (begun k lines others) ≡ Wrong (i + k) why
same_wrong run rows i k a [] others why wrong less = absurd (omega (arith, less))
same_wrong run rows i zero a (line ∷ lines) others why wrong less =
    let next : Audit = audit_after run a (entry_or (entry_of_line run.design line)) in
    let broke = just_here i (i + 0) (line_broken run a (entry_of_line run.design line))
    (journal_verdict run rows (i + 1) next lines) why (omega arith) (wrong_from run rows (i + 1) (i + 0) next lines why)
    wrong in
    let place : i ≡ i + 0 = omega arith in
    ap (λ o. wrong_or i o (journal_verdict run rows (i + 1) next others)) broke ∙ ap (λ n. Wrong n why) place
same_wrong run rows i (suc k) a (line ∷ lines) others why wrong less =
    let next : Audit = audit_after run a (entry_or (entry_of_line run.design line)) in
    let parts = not_here i k (line_broken run a (entry_of_line run.design line))
    (journal_verdict run rows (i + 1) next lines) why wrong in
    let place : i + suc k ≡ i + 1 + k = omega arith in
    ap (λ o. wrong_or i o (journal_verdict run rows (i + 1) next (begun k lines others))) parts.0
    ∙ same_wrong run rows (i + 1) k next lines others why (parts.1 ∙ ap (λ n. Wrong n why) place) (omega (arith, less))
    ∙ ap (λ n. Wrong n why) (sym place)

-- ---- the whole
abbrev form_at : List ℕ → Bool
form_at line = is_some (form_of line)

-- the report and the journal are the same, where the report ends by the line
verdict_of : (run : Run) (lines longer : List (List ℕ)) (o : Option ℕ) → report_size longer ≡ report_size lines
    → wrong_row run.design run.env (take (report_size lines) longer) ≡ o
    → verdict run longer ≡ trace_verdict run (report_size lines) o longer
verdict_of run lines longer o size row =
    ap (λ n. trace_verdict run n (wrong_row run.design run.env (take n longer)) longer) size
    ∙ ap (λ r. trace_verdict run (report_size lines) r longer) row

module _ (run : Run) (lines others : List (List ℕ)) (index : ℕ) (why : TraceRule) (less : index < length lines) where
  abbrev size : ℕ
  size = report_size lines

  abbrev longer : List (List ℕ)
  longer = begun index lines others

  few : size ≤ length lines
  few = prefix_len-le-length (λ line. not (form_at line)) lines

  -- a line of the report
  in_report : index < size → wrong_row run.design run.env (take size lines) ≡ Some index
      → verdict run longer ≡ Wrong index rule.Row
  in_report inside row =
      let n : ℕ = report_size longer in
      let more : suc index ≤ n = later_place form_at index lines others inside in
      let report : List (List ℕ) = take size lines in
      let many : length report ≡ size = length-take-le size lines few in
      let same : take n longer ≡ begun index report (take (n - suc index) others) =
      take_longer n index lines others more less
      ∙ ap (λ ls. ls ++ take (n - suc index) others) (sym (take_less size (suc index) lines (omega (arith, inside)))) in
      ap (λ r. trace_verdict run n r longer)
      (ap (wrong_row run.design run.env) same
      ∙ same_row run.design run.env report (take (n - suc index) others) index row (omega (arith, inside, many)))

  -- a line after it
  after_report : size ≤ index → (o : Option ℕ) → wrong_row run.design run.env (take size lines) ≡ o
      → trace_verdict run size o lines ≡ Wrong index why → verdict run longer ≡ Wrong index why
  after_report outside (Some at) row wrong =
      verdict_of run lines longer (Some at) (same_place form_at index lines others outside less)
      (ap (wrong_row run.design run.env) (take_begun size index lines others (omega (arith, outside)) few) ∙ row)
      ∙ wrong
  after_report outside None row wrong =
      let place : index ≡ size + (index - size) = omega (arith, outside) in
      let many : length (drop size lines) ≡ length lines - size = length-drop size lines in
      verdict_of run lines longer None (same_place form_at index lines others outside less)
      (ap (wrong_row run.design run.env) (take_begun size index lines others (omega (arith, outside)) few) ∙ row)
      ∙ ap (journal_verdict run (size / row_size run.design) size (opening_audit run))
      (drop_begun size index lines others outside less)
      ∙ same_wrong run (size / row_size run.design) size (index - size) (opening_audit run) (drop size lines) others why
      (wrong ∙ ap (λ n. Wrong n why) place) (omega (arith, less, outside, many))
      ∙ ap (λ n. Wrong n why) (sym place)

  by_row : (o : Option ℕ) → wrong_row run.design run.env (take size lines) ≡ o
      → trace_verdict run size o lines ≡ Wrong index why → verdict run longer ≡ Wrong index why
  by_row (Some at) row wrong =
      let at_index : at ≡ index = cc in
      let by_rule : rule.Row ≡ why = cc in
      elim (cases_lt index size) [
        | inl inside ↦ in_report inside (row ∙ ap Some at_index) ∙ ap (Wrong index) by_rule
        | inr outside ↦ after_report outside (Some at) row wrong
      ]
  by_row None row wrong =
      let from = wrong_from run (size / row_size run.design) size index (opening_audit run) (drop size lines) why wrong
      in
      after_report from None row wrong

-- a verdict that is wrong at a line is the same for all lists of lines that begin so
pub same_verdict : (run : Run) (lines others : List (List ℕ)) (index : ℕ) (why : TraceRule) → index < length lines
    → verdict run lines ≡ Wrong index why → verdict run (begun index lines others) ≡ Wrong index why
same_verdict run lines others index why less wrong =
    by_row run lines others index why less (wrong_row run.design run.env (take (report_size lines) lines)) refl wrong

pub no_trace_begins : (run : Run) (lines : List (List ℕ)) (index : ℕ) (why : TraceRule) → IsRunOf run
    → index < length lines → verdict run lines ≡ Wrong index why → NoTraceBegins run lines index
no_trace_begins run lines index why rules less wrong others rounds stop trace =
    let sound = traces_are_sound run (begun index lines others) rounds stop rules trace in
    absurd (let no : Wrong index why ≡ Sound rounds stop =
    sym (same_verdict run lines others index why less wrong) ∙ sound in
    cc)
