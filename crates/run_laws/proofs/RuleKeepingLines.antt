-- Lines that break no rule, one after another.
use Rattle.std.proofs.Common.{◌≡◌, ℕ, suc, ◌+◌, ◌≤◌, nat_eq, Bool, true, false, not, ◌||◌, cond, List, [], ◌∷◌, ◌++◌}
use Rattle.std.proofs.Common.{length, map, filter, slice_get, All, Option, Some, None, refl, sym, ap, ap₂, ◌∙◌, arith}
use Rattle.std.specs.Prelude.{is_some}
use Rattle.std.specs.List.{list_any, enumerate_from, fold}
use Rattle.std.proofs.lemmas.Bool.{eqb-true, le-ltb}
use Rattle.std.proofs.lemmas.List.Elements.{All-head, All-tail}
use Rattle.pals_model.specs.declared.design.Link.{Link}
use Rattle.pals_model.specs.declared.flight_copy.FlightCopy.{FlightCopy}
use Rattle.pals_runs.specs.declared.journal.JournalEntry.{JournalEntry}
use Rattle.pals_runs.specs.declared.verdicts.TraceRule.{TraceRule}
use Rattle.pals_runs.specs.declared.verdicts.TraceRule.TheVariants as rule
use Rattle.pals_runs.specs.declared.verdicts.Verdict.TheVariants.{Sound}
use Rattle.pals_runs.specs.JournalLines.{entry_line}
use Rattle.bus_machine.specs.BusStates.{BusState, flight_at}
use Rattle.bus_machine.specs.RunParameters.{Run}
use Rattle.run_laws.specs.TraceVerdicts.{Audit, audit_after, line_broken, end_broken, wrong_or, entry_or}
use Rattle.run_laws.specs.TraceVerdicts.{journal_verdict}
use Rattle.run_laws.specs.EntriesInLines.{entry_of_line}
use Rattle.run_laws.specs.TraceRules.{is_due, has_due, is_before}

-- ---- lines that break none
abbrev pub BreakNone : Run → Audit → List JournalEntry → Type 0
BreakNone run a [] = Unit {0}
BreakNone run a (e ∷ es) =
    (entry_of_line run.design (entry_line run.design e) ≡ Some e) × (line_broken run a (Some e) ≡ None)
    × BreakNone run (audit_after run a e) es

abbrev pub audited : Run → Audit → List JournalEntry → Audit
audited run a es = fold (audit_after run) a es

pub break_append : (run : Run) (a : Audit) (xs ys : List JournalEntry) → BreakNone run a xs
    → BreakNone run (audited run a xs) ys → BreakNone run a (xs ++ ys)
break_append run a [] ys first second = second
break_append run a (x ∷ xs) ys first second =
    (first.0, first.1, break_append run (audit_after run a x) xs ys first.2 second)

pub verdict_is : (run : Run) (rows index : ℕ) (a : Audit) (es : List JournalEntry) → BreakNone run a es
    → journal_verdict run rows index a (map (entry_line run.design) es)
    ≡ wrong_or (index + length es) (end_broken run rows (audited run a es)) (Sound rows (audited run a es).bus.stop)
verdict_is run rows index a [] none = ap (λ i. wrong_or i (end_broken run rows a) (Sound rows a.bus.stop)) (omega arith)
verdict_is run rows index a (e ∷ es) none =
    let line = entry_line run.design e in
    let rest = verdict_is run rows (index + 1) (audit_after run a e) es none.2 in
    let place : index + 1 + length es ≡ index + length (e ∷ es) = omega arith in
    ap (λ o. wrong_or index (line_broken run a o)
    (journal_verdict run rows (index + 1) (audit_after run a (entry_or o)) (map (entry_line run.design) es))) none.0
    ∙ ap (λ w. wrong_or index w
    (journal_verdict run rows (index + 1) (audit_after run a e) (map (entry_line run.design) es))) none.1
    ∙ rest
    ∙ ap (λ i. wrong_or i (end_broken run rows (audited run a (e ∷ es)))
    (Sound rows (audited run a (e ∷ es)).bus.stop)) place

-- ---- tests

pub not_before : (reading : Option ℕ) (at alarm : ℕ) → reading ≡ Some at → alarm ≤ at → is_before reading alarm ≡ false
not_before reading at alarm is le = ap (λ o. is_before o alarm) is ∙ le-ltb at alarm le

-- if each rule holds, no rule is violated
pub none_of : (order falls waits tells : Bool) (early : Option TraceRule) → order ≡ true → falls ≡ false → early ≡ None
    → waits ≡ false → tells ≡ true
    → cond (not order) (Some rule.Order)
    (cond falls (Some rule.Reading)
    (cond (is_some early) early (cond waits (Some rule.Due) (cond (not tells) (Some rule.Stop) None)))) ≡ None
none_of order falls waits tells early o f e w t =
    λ i. cond (not (o i)) (Some rule.Order)
    (cond (f i) (Some rule.Reading)
    (cond (is_some (e i)) (e i) (cond (w i) (Some rule.Due) (cond (not (t i)) (Some rule.Stop) None))))

-- ---- nothing is due
pub none_any : (test : FlightCopy → Bool) (flight : List FlightCopy) → All (λ c. test c ≡ false) flight
    → list_any test flight ≡ false
none_any test [] all = refl
none_any test (c ∷ cs) all =
    ap₂ (λ a b. a || b) (All-head (λ d. test d ≡ false) c cs all)
    (none_any test cs (All-tail (λ d. test d ≡ false) c cs all))

pub any_by : (node from : ℕ) (l : Link) (ls : List Link) (test : ℕ → Bool) (b : Bool) → nat_eq l.target.0 node ≡ b
    → (l.target.0 ≡ node → test from ≡ false)
    → list_any test (map (λ (p : ℕ × Link). p.0)
    (filter (λ (p : ℕ × Link). nat_eq p.1.target.0 node) (enumerate_from (from + 1) ls))) ≡ false
    → list_any test (map (λ (p : ℕ × Link). p.0)
    (cond b ((from, l) ∷ filter (λ (p : ℕ × Link). nat_eq p.1.target.0 node) (enumerate_from (from + 1) ls))
    (filter (λ (p : ℕ × Link). nat_eq p.1.target.0 node) (enumerate_from (from + 1) ls)))) ≡ false
any_by node from l ls test true is own rest = ap₂ (λ a b. a || b) (own (eqb-true l.target.0 node is)) rest
any_by node from l ls test false is own rest = rest

pub none_into : (node from : ℕ) (ls : List Link) (test : ℕ → Bool)
    → ((k : ℕ) (l : Link) → slice_get ls k ≡ Some l → l.target.0 ≡ node → test (from + k) ≡ false)
    → list_any test (map (λ (p : ℕ × Link). p.0)
    (filter (λ (p : ℕ × Link). nat_eq p.1.target.0 node) (enumerate_from from ls))) ≡ false
none_into node from [] test none = refl
none_into node from (l ∷ ls) test none =
    any_by node from l ls test (nat_eq l.target.0 node) refl
    (λ same. let here : from + 0 ≡ from = omega arith in ap test (sym here) ∙ none 0 l refl same)
    (none_into node (from + 1) ls test
    (λ k m is same. let here : from + 1 + k ≡ from + suc k = omega arith in ap test here ∙ none (suc k) m is same))

pub none_due : (run : Run) (s : BusState) (node : ℕ) (reading : Option ℕ)
    → ((link : ℕ) (l : Link) → slice_get run.design.links link ≡ Some l → l.target.0 ≡ node
    → All (λ copy. is_due reading copy ≡ false) (flight_at s link)) → has_due run s node reading ≡ false
none_due run s node reading none =
    none_into node 0 run.design.links (λ link. list_any (is_due reading) (flight_at s link))
    (λ k l is same. let here : 0 + k ≡ k = omega arith in
    ap (λ i. list_any (is_due reading) (flight_at s i)) here
    ∙ none_any (is_due reading) (flight_at s k) (none k l is same))
