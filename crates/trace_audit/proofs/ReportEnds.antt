-- How reading the report of a trace ends, by the next line: the expected line, another line, or no line.
use Rattle.std.proofs.Common.{◌≡◌, ℕ, suc, ◌+◌, ◌%◌, ◌<◌, ◌≤◌, nat_eq, Bool, true, false, not, cond, List, [], ◌∷◌}
use Rattle.std.proofs.Common.{length, take, drop, get_or, Option, Some, None, refl, sym, ap, ap₂, ◌∙◌, subst, arith}
use Rattle.std.specs.Prelude.{bytes_eq, is_some, position}
use Rattle.std.specs.List.{enumerate_from, position_from}
use Rattle.std.proofs.lemmas.Iterator.Adapters.{position_from-zero}
use Rattle.std.proofs.lemmas.List.{drop_all, length-take-le}
use Rattle.list_lemmas.proofs.ListOperations.{drop-next}
use Rattle.pals_model.specs.declared.design.DesignParts.{DesignParts}
use Rattle.pals_model.specs.declared.environment.Env.{Env}
use Rattle.run_laws.specs.LineForms.{form_of}
use Rattle.run_laws.specs.TraceVerdicts.{report_size, row_size, line_at}
use Rattle.trace_audit.specs.declared.report.ReportEnd.{ReportEnd}
use Rattle.trace_audit.specs.declared.report.ReportEnd.TheVariants.{Whole, Wrong}
use Rattle.trace_audit.specs.proof.ReportEnds.{ReportEnds, end_at, index_of}

-- how a report ends whose lines from an index on are these
abbrev pub reported : DesignParts → Env → ℕ → List (List ℕ) → ReportEnd
reported design env at [] = end_at at (row_size design)
reported design env at (line ∷ lines) =
    cond (is_some (form_of line)) (end_at at (row_size design))
    (cond (bytes_eq line (line_at design env at)) (reported design env (at + 1) lines) (Wrong at))

abbrev other : DesignParts → Env → ℕ × List ℕ → Bool
other design env numbered = not (bytes_eq numbered.1 (line_at design env numbered.0))

-- the first other line of those from an index on
abbrev first_other : DesignParts → Env → ℕ → ℕ → List (List ℕ) → Option ℕ
first_other design env at n lines = position_from (other design env) at (enumerate_from at (take n lines))

abbrev ended : DesignParts → ℕ → ℕ → Option ℕ → ReportEnd
ended design at n None = end_at (at + n) (row_size design)
ended design at n (Some index) = Wrong index

ended_next : (design : DesignParts) (at n : ℕ) (o : Option ℕ) → ended design (at + 1) n o ≡ ended design at (1 + n) o
ended_next design at n None = ap (λ k. end_at k (row_size design)) (omega arith)
ended_next design at n (Some index) = refl

reported_by : (design : DesignParts) (env : Env) (at : ℕ) (line : List ℕ) (lines : List (List ℕ)) (f s : Bool)
    → is_some (form_of line) ≡ f → bytes_eq line (line_at design env at) ≡ s
    → reported design env (at + 1) lines
    ≡ ended design (at + 1) (report_size lines) (first_other design env (at + 1) (report_size lines) lines)
    → reported design env at (line ∷ lines)
    ≡ ended design at (report_size (line ∷ lines))
    (first_other design env at (report_size (line ∷ lines)) (line ∷ lines))
reported_by design env at line lines true s form same rest =
    ap (λ b. cond b (end_at at (row_size design))
    (cond (bytes_eq line (line_at design env at)) (reported design env (at + 1) lines) (Wrong at))) form
    ∙ ap (λ k. end_at k (row_size design)) (omega arith)
    ∙ sym (ap (λ b. ended design at (cond (not b) (1 + report_size lines) 0)
    (first_other design env at (cond (not b) (1 + report_size lines) 0) (line ∷ lines))) form)
reported_by design env at line lines false true form same rest =
    ap (λ b. cond b (end_at at (row_size design))
    (cond (bytes_eq line (line_at design env at)) (reported design env (at + 1) lines) (Wrong at))) form
    ∙ ap (λ b. cond b (reported design env (at + 1) lines) (Wrong at)) same
    ∙ rest
    ∙ ended_next design at (report_size lines) (first_other design env (at + 1) (report_size lines) lines)
    ∙ sym (ap (λ b. ended design at (cond (not b) (1 + report_size lines) 0)
    (first_other design env at (cond (not b) (1 + report_size lines) 0) (line ∷ lines))) form
    ∙ ap (λ n. ended design at n (first_other design env at n (line ∷ lines))) (one (report_size lines))
    ∙ ap (λ b. ended design at (suc (report_size lines))
    (cond (not b) (Some at) (first_other design env (at + 1) (report_size lines) lines))) same
    ∙ ap (λ n. ended design at n (first_other design env (at + 1) (report_size lines) lines))
    (sym (one (report_size lines))))
  where
    one : (n : ℕ) → 1 + n ≡ suc n
    one n = omega arith
reported_by design env at line lines false false form same rest =
    ap (λ b. cond b (end_at at (row_size design))
    (cond (bytes_eq line (line_at design env at)) (reported design env (at + 1) lines) (Wrong at))) form
    ∙ ap (λ b. cond b (reported design env (at + 1) lines) (Wrong at)) same
    ∙ sym (ap (λ b. ended design at (cond (not b) (1 + report_size lines) 0)
    (first_other design env at (cond (not b) (1 + report_size lines) 0) (line ∷ lines))) form
    ∙ ap (λ n. ended design at n (first_other design env at n (line ∷ lines))) (one (report_size lines))
    ∙ ap (λ b. ended design at (suc (report_size lines))
    (cond (not b) (Some at) (first_other design env (at + 1) (report_size lines) lines))) same)
  where
    one : (n : ℕ) → 1 + n ≡ suc n
    one n = omega arith

reported_is : (design : DesignParts) (env : Env) (at : ℕ) (lines : List (List ℕ))
    → reported design env at lines
    ≡ ended design at (report_size lines) (first_other design env at (report_size lines) lines)
reported_is design env at [] = ap (λ k. end_at k (row_size design)) (omega arith)
reported_is design env at (line ∷ lines) =
    reported_by design env at line lines (is_some (form_of line)) (bytes_eq line (line_at design env at)) refl refl
    (reported_is design env (at + 1) lines)

-- ---- its end
size_within : (lines : List (List ℕ)) → report_size lines ≤ length lines
size_within [] = omega arith
size_within (line ∷ lines) = by (is_some (form_of line)) (size_within lines)
  where
    by : (f : Bool) → report_size lines ≤ length lines → cond (not f) (1 + report_size lines) 0 ≤ suc (length lines)
    by true rest = omega arith
    by false rest = omega arith

whole_by : (design : DesignParts) (env : Env) (lines : List (List ℕ)) (b : Bool)
    → nat_eq (report_size lines % row_size design) 0 ≡ b
    → position (other design env) (enumerate_from 0 (take (report_size lines) lines)) ≡ None
    → ReportEnds design env lines (cond b (Whole (report_size lines)) (Wrong (report_size lines)))
whole_by design env lines true whole none =
    let size = length-take-le (report_size lines) lines (size_within lines) in (
      refl,
      ap (λ o. cond (is_some o) o
          (cond (nat_eq (length (take (report_size lines) lines) % row_size design) 0) None
          (Some (length (take (report_size lines) lines))))) none
          ∙ ap (λ n. cond (nat_eq (n % row_size design) 0) None (Some n)) size
          ∙ ap (λ c. cond c None (Some (report_size lines))) whole,
    )
whole_by design env lines false whole none =
    let size = length-take-le (report_size lines) lines (size_within lines) in
    ap (λ o. cond (is_some o) o
    (cond (nat_eq (length (take (report_size lines) lines) % row_size design) 0) None
    (Some (length (take (report_size lines) lines))))) none
    ∙ ap (λ n. cond (nat_eq (n % row_size design) 0) None (Some n)) size
    ∙ ap (λ c. cond c None (Some (report_size lines))) whole

ends_by : (design : DesignParts) (env : Env) (lines : List (List ℕ)) (o : Option ℕ)
    → position (other design env) (enumerate_from 0 (take (report_size lines) lines)) ≡ o
    → ReportEnds design env lines (ended design 0 (report_size lines) o)
ends_by design env lines (Some index) is =
    ap (λ o. cond (is_some o) o
    (cond (nat_eq (length (take (report_size lines) lines) % row_size design) 0) None
    (Some (length (take (report_size lines) lines))))) is
ends_by design env lines None is =
    let here : 0 + report_size lines ≡ report_size lines = omega arith in
    subst (λ n. ReportEnds design env lines (end_at n (row_size design))) (sym here)
    (whole_by design env lines (nat_eq (report_size lines % row_size design) 0) refl is)

pub report_ends : (design : DesignParts) (env : Env) (lines : List (List ℕ)) (end : ReportEnd)
    → end ≡ reported design env 0 lines → ReportEnds design env lines end
report_ends design env lines end is =
    let numbered = enumerate_from 0 (take (report_size lines) lines) in
    subst (ReportEnds design env lines)
    (sym (is ∙ reported_is design env 0 lines
    ∙ ap (ended design 0 (report_size lines)) (sym (position_from-zero (other design env) numbered))))
    (ends_by design env lines (position (other design env) numbered) refl)

-- ---- a line of it
whether : DesignParts → Env → ℕ → List ℕ → List (List ℕ) → Bool → Bool → ReportEnd
whether design env index line lines form same =
    cond form (end_at index (row_size design))
    (cond same (reported design env (index + 1) (drop (index + 1) lines)) (Wrong index))

line_reported : (design : DesignParts) (env : Env) (lines : List (List ℕ)) (index : ℕ) (line : List ℕ)
    (form same : Bool) → index < length lines → line ≡ get_or lines index line → is_some (form_of line) ≡ form
    → bytes_eq line (line_at design env index) ≡ same
    → reported design env index (drop index lines) ≡ whether design env index line lines form same
unfolding whether
line_reported design env lines index line form same within is form_is same_is =
    ap (reported design env index) (drop-next lines index line within is)
    ∙ ap₂ (whether design env index line lines) form_is same_is

pub at_form : (design : DesignParts) (env : Env) (lines : List (List ℕ)) (index : ℕ) (line : List ℕ)
    → index < length lines → line ≡ get_or lines index line → is_some (form_of line) ≡ true
    → reported design env index (drop index lines) ≡ reported design env 0 lines
    → end_at index (row_size design) ≡ reported design env 0 lines
unfolding whether
at_form design env lines index line within is form before =
    sym (line_reported design env lines index line true (bytes_eq line (line_at design env index)) within is form
    refl) ∙ before

pub at_other : (design : DesignParts) (env : Env) (lines : List (List ℕ)) (index : ℕ) (line : List ℕ)
    → index < length lines → line ≡ get_or lines index line → is_some (form_of line) ≡ false
    → bytes_eq line (line_at design env index) ≡ false
    → reported design env index (drop index lines) ≡ reported design env 0 lines
    → Wrong index ≡ reported design env 0 lines
unfolding whether
at_other design env lines index line within is form same before =
    sym (line_reported design env lines index line false false within is form same) ∙ before

pub at_same : (design : DesignParts) (env : Env) (lines : List (List ℕ)) (index : ℕ) (line : List ℕ)
    → index < length lines → line ≡ get_or lines index line → is_some (form_of line) ≡ false
    → bytes_eq line (line_at design env index) ≡ true
    → reported design env index (drop index lines) ≡ reported design env 0 lines
    → reported design env (index + 1) (drop (index + 1) lines) ≡ reported design env 0 lines
unfolding whether
at_same design env lines index line within is form same before =
    sym (line_reported design env lines index line false true within is form same) ∙ before

pub at_end : (design : DesignParts) (env : Env) (lines : List (List ℕ)) (index : ℕ) → length lines ≤ index
    → reported design env index (drop index lines) ≡ reported design env 0 lines
    → end_at index (row_size design) ≡ reported design env 0 lines
at_end design env lines index past before = sym (ap (reported design env index) (drop_all index lines past)) ∙ before

pub index_of_end : (index size : ℕ) → index_of (end_at index size) ≡ index
index_of_end index size = by (nat_eq (index % size) 0)
  where
    by : (b : Bool) → index_of (cond b (Whole index) (Wrong index)) ≡ index
    by true = refl
    by false = refl
