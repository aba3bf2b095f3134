-- The lines before a wrong line are the lines of the entries of a history, and the verdict on the others is the verdict
-- of an audit that has read the entries.
use Rattle.std.proofs.Common.{◌≡◌, ℕ, zero, suc, ◌+◌, ◌≤◌, List, [], ◌∷◌, ◌++◌, length, map, take, drop, All}
use Rattle.std.proofs.Common.{Option, Some, None, refl, sym, ap, ap₂, ◌∙◌, subst, arith}
use Rattle.std.proofs.lemmas.List.{append-nil, append_assoc}
use Rattle.std.proofs.lemmas.List.Elements.{All-nil, All-cons}
use Rattle.pals_model.specs.DesignRules.{IsDesign}
use Rattle.pals_runs.specs.declared.journal.JournalEntry.{JournalEntry}
use Rattle.pals_runs.specs.declared.verdicts.TraceRule.{TraceRule}
use Rattle.pals_runs.specs.declared.verdicts.Verdict.{Verdict}
use Rattle.pals_runs.specs.declared.verdicts.Verdict.TheVariants.{Sound, Wrong}
use Rattle.pals_runs.specs.JournalLines.{entry_line}
use Rattle.bus_machine.specs.RunParameters.{Run}
use Rattle.run_laws.specs.EntriesInLines.{entry_of_line}
use Rattle.run_laws.specs.EntriesOfDesigns.{IsEntryIn}
use Rattle.run_laws.specs.TraceVerdicts.{Audit, audit_after, line_broken, end_broken, wrong_or, entry_or}
use Rattle.run_laws.specs.TraceVerdicts.{journal_verdict}
use Rattle.run_laws.proofs.ParsedEntryRanges.{told_are_in}
use Rattle.run_laws.proofs.UniqueEntrySpelling.{told_is_line}
use Rattle.run_laws.proofs.SoundTraces.{KeepsUp, follow_by}
use Rattle.pals_runs.specs.declared.verdicts.TraceRule.TheVariants as rule

-- ---- a verdict names a line among those it is given, or their end
names_from : (index i : ℕ) (o : Option TraceRule) (otherwise : Verdict) (why : TraceRule)
    → (otherwise ≡ Wrong i why → index ≤ i) → wrong_or index o otherwise ≡ Wrong i why → index ≤ i
names_from index i None otherwise why later wrong = later wrong
names_from index i (Some r) otherwise why later wrong = let same : index ≡ i = cc in omega (arith, same)

pub wrong_from : (run : Run) (rows index i : ℕ) (a : Audit) (lines : List (List ℕ)) (why : TraceRule)
    → journal_verdict run rows index a lines ≡ Wrong i why → index ≤ i
wrong_from run rows index i a [] why wrong =
    names_from index i (end_broken run rows a) (Sound rows a.bus.stop) why (λ sound. absurd (cc)) wrong
wrong_from run rows index i a (line ∷ lines) why wrong =
    let next : Audit = audit_after run a (entry_or (entry_of_line run.design line)) in
    names_from index i (line_broken run a (entry_of_line run.design line))
    (journal_verdict run rows (index + 1) next lines)
    why
    (λ later. let more = wrong_from run rows (index + 1) i next lines why later in omega (arith, more)) wrong

names_to : (index i end : ℕ) (o : Option TraceRule) (otherwise : Verdict) (why : TraceRule)
    → index ≤ end → (otherwise ≡ Wrong i why → i ≤ end) → wrong_or index o otherwise ≡ Wrong i why → i ≤ end
names_to index i end None otherwise why within later wrong = later wrong
names_to index i end (Some r) otherwise why within later wrong = let same : index ≡ i =
    cc in omega (arith, same, within)

pub wrong_to : (run : Run) (rows index i : ℕ) (a : Audit) (lines : List (List ℕ)) (why : TraceRule)
    → journal_verdict run rows index a lines ≡ Wrong i why → i ≤ index + length lines
wrong_to run rows index i a [] why wrong =
    names_to index i (index + 0) (end_broken run rows a) (Sound rows a.bus.stop) why (omega arith)
    (λ sound. absurd (cc)) wrong
wrong_to run rows index i a (line ∷ lines) why wrong =
    let next : Audit = audit_after run a (entry_or (entry_of_line run.design line)) in
    names_to index i (index + suc (length lines)) (line_broken run a (entry_of_line run.design line))
    (journal_verdict run rows (index + 1) next lines) why (omega arith)
    (λ later. let more = wrong_to run rows (index + 1) i next lines why later in omega (arith, more)) wrong

-- ---- the rule that is named, and the lines after
pub not_here : (index k : ℕ) (o : Option TraceRule) (otherwise : Verdict) (why : TraceRule)
    → wrong_or index o otherwise ≡ Wrong (index + suc k) why → (o ≡ None) × (otherwise ≡ Wrong (index + suc k) why)
not_here index k None otherwise why wrong = (refl, wrong)
not_here index k (Some r) otherwise why wrong =
    absurd (let same : index ≡ index + suc k = cc in omega (arith, same))

pub just_here : (index i : ℕ) (o : Option TraceRule) (otherwise : Verdict) (why : TraceRule) → i ≤ index
    → (otherwise ≡ Wrong i why → index + 1 ≤ i) → wrong_or index o otherwise ≡ Wrong i why → o ≡ Some why
just_here index i None otherwise why most later wrong =
    absurd (let more = later wrong in omega (arith, more, most))
just_here index i (Some r) otherwise why most later wrong = let same : r ≡ why = cc in ap Some same

-- ---- the lines before
-- this many first lines are the lines of entries that lead to an audit
pub record HasBefore (run : Run) (rows index : ℕ) (front : List JournalEntry) (lines : List (List ℕ)) (k : ℕ)
    (why : TraceRule) : Type 0 where
  pub told : List JournalEntry
  pub audit : Audit
  pub up : KeepsUp run (front ++ told) audit
  pub of_design : All (IsEntryIn run.design) told
  pub lines_are : map (entry_line run.design) told ≡ take k lines
  pub rest : journal_verdict run rows (index + k) audit (drop k lines) ≡ Wrong (index + k) why

abbrev Before : Run → ℕ → ℕ → List (List ℕ) → TraceRule → ℕ → Type 0
Before run rows index lines why k =
    (front : List JournalEntry) (a : Audit) → KeepsUp run front a
    → journal_verdict run rows index a lines ≡ Wrong (index + k) why → k ≤ length lines
    → HasBefore run rows index front lines k why

one_more : (run : Run) (rows index k : ℕ) (front : List JournalEntry) (a : Audit) (line : List ℕ)
    (lines : List (List ℕ))
    (why : TraceRule) (o : Option JournalEntry) → IsDesign run.design → entry_of_line run.design line ≡ o
    → KeepsUp run front a
    → wrong_or index (line_broken run a o) (journal_verdict run rows (index + 1) (audit_after run a (entry_or o)) lines)
    ≡ Wrong (index + suc k) why → k ≤ length lines → Before run rows (index + 1) lines why k
    → HasBefore run rows index front (line ∷ lines) (suc k) why
one_more run rows index k front a line lines why None rules is up wrong few later =
    let parts = not_here index k (Some rule.Text)
    (journal_verdict run rows (index + 1) (audit_after run a (entry_or None)) lines) why wrong in
    absurd (let no : Some rule.Text ≡ None = parts.0 in cc)
one_more run rows index k front a line lines why (Some e) rules is up wrong few later =
    let parts = not_here index k (line_broken run a (Some e))
    (journal_verdict run rows (index + 1) (audit_after run a e) lines) why wrong in
    let of = told_are_in run.design line e is in
    let next = follow_by run front a.bus a.readings a.owed e rules of up parts.0 in
    let place : index + suc k ≡ index + 1 + k = omega arith in
    let had = later (front ++ e ∷ []) (audit_after run a e) next (parts.1 ∙ ap (λ i. Wrong i why) place) few in
    record {
      told = e ∷ had.told;
      audit = had.audit;
      up = subst (λ j. KeepsUp run j had.audit) (append_assoc front (e ∷ []) had.told) had.up;
      of_design = All-cons (IsEntryIn run.design) e had.told of had.of_design;
      lines_are = ap₂ (λ l ls. l ∷ ls) (sym (told_is_line run.design line e is)) had.lines_are;
      rest = subst (λ i. journal_verdict run rows i had.audit (drop k lines) ≡ Wrong i why) (sym place) had.rest;
    }

pub before : (run : Run) (rows : ℕ) (lines : List (List ℕ)) (index k : ℕ) (why : TraceRule) → IsDesign run.design
    → Before run rows index lines why k
before run rows lines index zero why rules = λ front a up wrong few. record {
  told = [];
  audit = a;
  up = subst (λ j. KeepsUp run j a) (sym (append-nil front)) up;
  of_design = All-nil (IsEntryIn run.design);
  lines_are = refl;
  rest =
      (let here : index ≡ index + 0 = omega arith in
      subst (λ i. journal_verdict run rows i a lines ≡ Wrong (index + 0) why) here wrong);
}
before run rows [] index (suc k) why rules = λ front a up wrong few. absurd (omega (arith, few))
before run rows (line ∷ lines) index (suc k) why rules = λ front a up wrong few.
    one_more run rows index k front a line lines why (entry_of_line run.design line) rules refl up wrong
    (omega (arith, few))
    (before run rows lines (index + 1) k why rules)
