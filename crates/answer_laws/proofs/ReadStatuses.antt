-- The statuses of a failed read and of too many bytes occur if and only if the source failed or had too many bytes: no
-- answer to a bundle has them.
use Rattle.std.proofs.Common.{◌≡◌, ◌≢◌, ◌∙◌, ◌↔◌, inl, inr, ℕ, ◌-◌, ◌^◌, ◌<◌, List, length, true, false, Some, refl}
use Rattle.std.proofs.Common.{sym, ap, arith}
use Rattle.pals_base.specs.declared.limits.TheConstants.{BUNDLE_BYTES}
use Rattle.pals_io.specs.SourcesAndSinks.{SourceView}
use Rattle.pals_runs.specs.declared.commands.Command.{Command}
use Rattle.pals_runs.specs.declared.commands.Command.TheVariants.{Print, Check, Sync, World, Run, Audit, Watch, Vote}
use Rattle.pals_runs.specs.declared.commands.Command.TheVariants.{Fuse, Budget}
use Rattle.pals_top.specs.RefusalAnswers.{IsBundleRefused}
use Rattle.pals_top.specs.Print.{IsPrintAnswer}
use Rattle.pals_top.specs.Check.{IsCheckAnswer}
use Rattle.pals_top.specs.AnalysisCommands.{Analysis}
use Rattle.pals_top.specs.AnalysisCommands as analysis
use Rattle.pals_top.specs.ExecutionCommands.{Execution}
use Rattle.pals_top.specs.ExecutionCommands as execution
use Rattle.pals_top.specs.AnalysisAnswers.{IsAnalysisAnswer}
use Rattle.pals_top.specs.ExecutionAnswers.{IsExecutionAnswer}
use Rattle.pals_top.specs.ProgramInput.{Reading}
use Rattle.pals_top.specs.Answers.{IsCommandAnswer, IsSourceAnswer}
use Rattle.answer_laws.proofs.ScenarioAnswerStatuses.{analysis_status, execution_status, apart}
use Rattle.answer_laws.proofs.UniqueCallAnswers.{no_room, too_long}
use Rattle.answer_laws.proofs.SourceAnswers.{too_many, failed}

-- ---- the statuses of answers to a bundle
abbrev IsOther : ℕ → Type 0
IsOther status = (status ≢ 9) × (status ≢ 12)

other : (n s : ℕ) → s ≡ n → n ≢ 9 → n ≢ 12 → IsOther s
other n s e nine twelve = (λ f. nine (sym e ∙ f), λ f. twelve (sym e ∙ f))

refused : (root bundle : List ℕ) (s : ℕ) (a : List ℕ) → IsBundleRefused root bundle s a → IsOther s
refused root bundle s a (inl x) = other 3 s x.0 (λ n. absurd (omega arith)) (λ n. absurd (omega arith))
refused root bundle s a (inr x) = other 4 s x.0 (λ n. absurd (omega arith)) (λ n. absurd (omega arith))

printed : (bundle : List ℕ) (s : ℕ) (a : List ℕ) → IsPrintAnswer bundle s a → IsOther s
printed bundle s a (inl x) = other 0 s x.0 (λ n. absurd (omega arith)) (λ n. absurd (omega arith))
printed bundle s a (inr x) = other 3 s x.0 (λ n. absurd (omega arith)) (λ n. absurd (omega arith))

checked : (root bundle : List ℕ) (s : ℕ) (a : List ℕ) → IsCheckAnswer root bundle s a → IsOther s
checked root bundle s a (inl x) = other 0 s x.0 (λ n. absurd (omega arith)) (λ n. absurd (omega arith))
checked root bundle s a (inr x) = refused root bundle s a x

analysed : (what : Analysis) (root bundle : List ℕ) (s : ℕ) (a : List ℕ)
    → IsAnalysisAnswer what root bundle s a → IsOther s
analysed what root bundle s a (inl x) = refused root bundle s a x
analysed what root bundle s a (inr (inl x)) = other 5 s x.0 (λ n. absurd (omega arith)) (λ n. absurd (omega arith))
analysed what root bundle s a (inr (inr x)) =
    let small = analysis_status what x.design x.scenario s a x.makes in
    (λ e. absurd (omega (arith, small, e)), λ e. absurd (omega (arith, small, e)))

executed : (what : Execution) (root bundle : List ℕ) (s : ℕ) (a : List ℕ)
    → IsExecutionAnswer what root bundle s a → IsOther s
executed what root bundle s a (inl x) = refused root bundle s a x
executed what root bundle s a (inr (inl x)) =
    other 13 s x.status_is (λ n. absurd (omega arith)) (λ n. absurd (omega arith))
executed what root bundle s a (inr (inr (inl x))) =
    other 5 s x.status_is (λ n. absurd (omega arith)) (λ n. absurd (omega arith))
executed what root bundle s a (inr (inr (inr x))) =
    let made = execution_status what x.design x.scenario s a x.makes in
    (λ e. apart s 9 made e (inr (inr (inl refl))), λ e. apart s 12 made e (inr (inr (inr (inl refl)))))

answered : (command : Command) (bundle : List ℕ) (s : ℕ) (a : List ℕ) → IsCommandAnswer command bundle s a → IsOther s
answered Print bundle s a x = printed bundle s a x
answered (Check root) bundle s a x = checked root bundle s a x
answered (Sync root) bundle s a x = analysed analysis.Sync root bundle s a x
answered (World root false) bundle s a x = executed execution.TimedWorld root bundle s a x
answered (World root true) bundle s a x = executed execution.LooseWorld root bundle s a x
answered (Watch root) bundle s a x = analysed analysis.Watch root bundle s a x
answered (Vote root) bundle s a x = analysed analysis.Vote root bundle s a x
answered (Fuse root) bundle s a x = analysed analysis.Fuse root bundle s a x
answered (Run root trace) bundle s a x = executed (execution.Run trace) root bundle s a x
answered (Audit root) bundle s a x = executed execution.Audit root bundle s a x
answered (Budget root) bundle s a x = executed execution.Budget root bundle s a x
answered _ bundle s a x = absurd x

-- ---- the statuses of a call
module _ (command : Command) (seen : Reading) (few : seen.before.faults < 2 ^ 64 - 1) (status : ℕ) (text : List ℕ) where
  has_failed : IsSourceAnswer command seen status text → status ≡ 9 → seen.after.faults ≡ seen.before.faults → ⊥
  has_failed (inl x) e same = (answered command x.bundle status text x.answer).0 e
  has_failed (inr (inl x)) e same =
      no_room seen.before.faults (2 ^ 64 - 1) few (sym (ap (λ (v : SourceView). v.faults) x.1.view) ∙ same)
  has_failed (inr (inr x)) e same = let n : 12 ≡ 9 = sym x.0 ∙ e in absurd (omega (arith, n))

  pub failed_exactly : IsSourceAnswer command seen status text
      → (status ≡ 9) ↔ (seen.after.faults ≡ seen.before.faults → ⊥)
  failed_exactly answer = (has_failed answer, λ differ. (failed command seen status text differ answer).0)

  module _ (left : List ℕ) (told : seen.before.left ≡ Some left) where
    has_too_many : IsSourceAnswer command seen status text → status ≡ 12
        → (seen.after.faults ≡ seen.before.faults) × (BUNDLE_BYTES < length left)
    has_too_many (inl x) e = absurd ((answered command x.bundle status text x.answer).1 e)
    has_too_many (inr (inl x)) e = let n : 9 ≡ 12 = sym x.0 ∙ e in absurd (omega (arith, n))
    has_too_many (inr (inr x)) e = (ap (λ (v : SourceView). v.faults) x.1.view, too_long seen left told few x.1)

    pub too_many_exactly : IsSourceAnswer command seen status text
        → (status ≡ 12) ↔ ((seen.after.faults ≡ seen.before.faults) × (BUNDLE_BYTES < length left))
    too_many_exactly answer =
        (has_too_many answer, λ h. (too_many command seen status text left told few h.0 h.1 answer).0)
