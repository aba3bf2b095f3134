-- The verdict on a journal, one line more: for the claim of `audit_journal`.
use Rattle.std.proofs.Common.{◌≡◌, ℕ, ◌+◌, ◌/◌, ◌<◌, ◌≤◌, List, ◌∷◌, length, take, drop, get_or, Option, Some, None}
use Rattle.std.proofs.Common.{sym, ap, ap₂, ◌∙◌}
use Rattle.std.specs.Prelude.{IfSome}
use Rattle.std.proofs.lemmas.List.{drop_all, drop_more}
use Rattle.pals_runs.specs.declared.journal.JournalEntry.{JournalEntry}
use Rattle.pals_runs.specs.declared.verdicts.TraceRule.{TraceRule}
use Rattle.pals_runs.specs.declared.verdicts.Verdict.{Verdict}
use Rattle.pals_runs.specs.declared.verdicts.Verdict.TheVariants.{Sound, Wrong}
use Rattle.bus_machine.specs.RunParameters.{Run}
use Rattle.run_laws.specs.EntriesInLines.{entry_of_line}
use Rattle.run_laws.specs.TraceVerdicts.{Audit, audit_after, end_broken, entry_or, journal_verdict, line_broken}
use Rattle.run_laws.specs.TraceVerdicts.{opening_audit, report_size, row_size, trace_verdict, verdict, wrong_or}
use Rattle.run_laws.specs.TraceVerdicts.{wrong_row}
use Rattle.trace_audit.specs.declared.replay.Replay.{Replay}
use Rattle.trace_audit.specs.proof.AuditInvariant.{Follows, IsReplay, audit_in}

judged_at : (run : Run) (rows index : ℕ) (a : Audit) (lines : List (List ℕ)) (line : List ℕ) (o : Option JournalEntry)
    → index < length lines → line ≡ get_or lines index line → o ≡ entry_of_line run.design line
    → journal_verdict run rows index a (drop index lines)
    ≡ wrong_or index (line_broken run a o)
    (journal_verdict run rows (index + 1) (audit_after run a (entry_or o)) (drop (index + 1) lines))
judged_at run rows index a lines line o within is tells =
    ap (journal_verdict run rows index a)
    (drop_more lines index line within ∙ ap (λ l. l ∷ drop (index + 1) lines) (sym is))
    ∙ ap (λ t. wrong_or index (line_broken run a t)
    (journal_verdict run rows (index + 1) (audit_after run a (entry_or t)) (drop (index + 1) lines))) (sym tells)

-- a line that breaks a rule
pub judged_wrong : (run now : Run) (rows index : ℕ) (a : Audit) (lines : List (List ℕ)) (line : List ℕ)
    (o : Option JournalEntry) (why : TraceRule) (r : Option TraceRule) (all : Verdict) → index < length lines
    → line ≡ get_or lines index line → o ≡ entry_of_line run.design line
    → now ≡ run → r ≡ line_broken now a o → r ≡ Some why → journal_verdict run rows index a (drop index lines) ≡ all
    → Wrong index why ≡ all
judged_wrong run now rows index a lines line o why r all within is tells same breaks here before =
    let rest = journal_verdict run rows (index + 1) (audit_after run a (entry_or o)) (drop (index + 1) lines) in
    ap (λ b. wrong_or index b rest) (sym here ∙ breaks ∙ ap (λ u. line_broken u a o) same)
    ∙ sym (judged_at run rows index a lines line o within is tells) ∙ before

-- a line that breaks none
pub record IsNext (run : Run) (rows index : ℕ) (lines : List (List ℕ)) (new : Replay) (all : Verdict) : Type 0 where
  pub kept : IsReplay new
  pub run_is : new.bus.run ≡ run
  pub judged : journal_verdict run rows (index + 1) (audit_in new) (drop (index + 1) lines) ≡ all

pub judged_next : (run : Run) (old new : Replay) (rows index : ℕ) (lines : List (List ℕ)) (line : List ℕ)
    (o : Option JournalEntry) (r : Option TraceRule) (all : Verdict) → index < length lines
    → line ≡ get_or lines index line → o ≡ entry_of_line run.design line
    → old.bus.run ≡ run → r ≡ line_broken old.bus.run (audit_in old) o → r ≡ None → IfSome o (λ e. Follows old e new)
    → journal_verdict run rows index (audit_in old) (drop index lines) ≡ all → IsNext run rows index lines new all
judged_next run old new rows index lines line None r all within is tells same breaks here next before =
    absurd (let broken : None ≡ line_broken old.bus.run (audit_in old) None = sym here ∙ breaks in cc)
judged_next run old new rows index lines line (Some e) r all within is tells same breaks here next before =
    let rest = journal_verdict run rows (index + 1) (audit_after run (audit_in old) e) (drop (index + 1) lines) in
    record {
      kept = next.kept;
      run_is = next.run ∙ same;
      judged =
          ap (λ a. journal_verdict run rows (index + 1) a (drop (index + 1) lines))
          (next.state ∙ ap (λ u. audit_after u (audit_in old) e) same)
          ∙ ap (λ b. wrong_or index b rest) (sym here ∙ breaks ∙ ap (λ u. line_broken u (audit_in old) (Some e)) same)
          ∙ sym (judged_at run rows index (audit_in old) lines line (Some e) within is tells) ∙ before;
    }

pub judged_end : (run now : Run) (rows index length' : ℕ) (a : Audit) (lines : List (List ℕ)) (all : Verdict)
    → length lines ≤ index → length' ≡ index → now ≡ run → journal_verdict run rows index a (drop index lines) ≡ all
    → wrong_or length' (end_broken now rows a) (Sound rows a.bus.stop) ≡ all
judged_end run now rows index length' a lines all past end same before =
    ap₂ (λ n u. wrong_or n (end_broken u rows a) (Sound rows a.bus.stop)) end same
    ∙ sym (ap (journal_verdict run rows index a) (drop_all index lines past)) ∙ before

-- ---- the whole
pub judged_whole : (run now : Run) (lines : List (List ℕ)) (size rows : ℕ) (a : Audit) → size ≡ report_size lines
    → wrong_row run.design run.env (take size lines) ≡ None → now ≡ run → a ≡ opening_audit run
    → rows ≡ size / row_size run.design
    → journal_verdict now rows size a (drop size lines) ≡ verdict run lines
judged_whole run now lines size rows a size_is none same opens rows_is =
    ap (λ u. journal_verdict u rows size a (drop size lines)) same
    ∙ ap (λ x. journal_verdict run rows size x (drop size lines)) opens
    ∙ ap (λ n. journal_verdict run n size (opening_audit run) (drop size lines)) rows_is
    ∙ sym (ap (λ n. trace_verdict run n (wrong_row run.design run.env (take n lines)) lines) (sym size_is)
    ∙ ap (λ o. trace_verdict run size o lines) none)
