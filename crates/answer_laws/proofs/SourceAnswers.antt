-- The answer of a call to the bytes that its source shows.
use Rattle.std.proofs.Common.{◌≡◌, inl, inr, ℕ, ◌-◌, ◌^◌, ◌<◌, ◌≤◌, List, length, Some, refl, ap, subst}
use Rattle.pals_base.specs.declared.limits.TheConstants.{BUNDLE_BYTES}
use Rattle.pals_io.specs.SourcesAndSinks.{SourceView}
use Rattle.pals_runs.specs.declared.commands.Command.{Command}
use Rattle.pals_top.specs.ProgramInput.{Reading}
use Rattle.pals_top.specs.CommonAnswerTexts.{read_fault_line, too_long_line}
use Rattle.pals_top.specs.Answers.{IsCommandAnswer, IsSourceAnswer}
use Rattle.answer_laws.proofs.UniqueCallAnswers.{too_long_by, all_read, too_long, not_counted}

module _ (command : Command) (seen : Reading) (status : ℕ) (text : List ℕ) where
  module _ (left : List ℕ) (told : seen.before.left ≡ Some left) (few : seen.before.faults < 2 ^ 64 - 1)
      (same : seen.after.faults ≡ seen.before.faults) where
    pub read : length left ≤ BUNDLE_BYTES → IsSourceAnswer command seen status text
        → IsCommandAnswer command left status text
    read within (inl x) =
        subst (λ (b : List ℕ). IsCommandAnswer command b status text)
        (all_read seen left told few x.bundle x.read) x.answer
    read within (inr (inl x)) = absurd (not_counted seen left told few same x.1)
    read within (inr (inr x)) =
        absurd (too_long_by (length left) (length left) BUNDLE_BYTES refl within (too_long seen left told few x.1))

    pub too_many : BUNDLE_BYTES < length left → IsSourceAnswer command seen status text
        → (status ≡ 12) × (text ≡ too_long_line)
    too_many long (inl x) =
        absurd (too_long_by (length x.bundle) (length left) BUNDLE_BYTES
        (ap length (all_read seen left told few x.bundle x.read)) x.read.within long)
    too_many long (inr (inl x)) = absurd (not_counted seen left told few same x.1)
    too_many long (inr (inr x)) = (x.0, x.2)

  pub failed : (seen.after.faults ≡ seen.before.faults → ⊥) → IsSourceAnswer command seen status text
      → (status ≡ 9) × (text ≡ read_fault_line)
  failed other (inl x) = absurd (other (ap (λ (v : SourceView). v.faults) x.read.all.view))
  failed other (inr (inl x)) = (x.0, x.2)
  failed other (inr (inr x)) = absurd (other (ap (λ (v : SourceView). v.faults) x.1.view))
