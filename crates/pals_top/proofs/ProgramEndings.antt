-- How a call of the program ends, by the answer that it made.
use Rattle.std.proofs.Common.{◌≡◌, ◌≢◌, ◌∙◌, inl, inr, ℕ, List, Result, Ok, Err, Option, Some, refl, sym, subst}
use Rattle.std.specs.Prelude.{IfOk, OnErr, IsSome}
use Rattle.pals_base.specs.declared.limits.TheConstants.{BUNDLE_BYTES}
use Rattle.pals_io.specs.SourcesAndSinks.{SinkView, after_taking, TakesPart, GivesWithin}
use Rattle.pals_runs.specs.declared.commands.Command.{Command}
use Rattle.pals_top.specs.declared.answer.Answer.{Answer}
use Rattle.pals_top.specs.declared.answer.Answer.TheVariants.{Done, NotSo, Usage, TextRefused, DesignRefused}
use Rattle.pals_top.specs.declared.answer.Answer.TheVariants.{ScenarioRefused, Stopped, ClockEnded, CodeTooLong}
use Rattle.pals_top.specs.declared.answer.Answer.TheVariants.{ReadFault, TooLong}
use Rattle.pals_top.specs.declared.status.TheConstants.{WRITE_FAULT, NO_MEMORY}
use Rattle.pals_top.specs.Answers.{IsAnswer, IsFormAnswer}
use Rattle.pals_top.specs.ProgramInput.{Reading}
use Rattle.pals_top.specs.proof.StatusAndText.{status_of, text_of, IsWritten}

-- no answer reports a failed write or that memory ran out
no_ending : (a : Answer) → (status_of a ≢ WRITE_FAULT) × (status_of a ≢ NO_MEMORY)
no_ending (Done text) = (λ e. absurd (cc), λ e. absurd (cc))
no_ending (NotSo text) = (λ e. absurd (cc), λ e. absurd (cc))
no_ending Usage = (λ e. absurd (cc), λ e. absurd (cc))
no_ending (TextRefused text) = (λ e. absurd (cc), λ e. absurd (cc))
no_ending (DesignRefused text) = (λ e. absurd (cc), λ e. absurd (cc))
no_ending (ScenarioRefused text) = (λ e. absurd (cc), λ e. absurd (cc))
no_ending (Stopped text) = (λ e. absurd (cc), λ e. absurd (cc))
no_ending (ClockEnded text) = (λ e. absurd (cc), λ e. absurd (cc))
no_ending (CodeTooLong text) = (λ e. absurd (cc), λ e. absurd (cc))
no_ending ReadFault = (λ e. absurd (cc), λ e. absurd (cc))
no_ending TooLong = (λ e. absurd (cc), λ e. absurd (cc))

apart : WRITE_FAULT ≢ NO_MEMORY
apart e = absurd (cc)

-- ---- the written part of a computed answer, and the sink without an answer
module _ {E K : Type 0} (form : Option Command) (seen : Reading) (before after : SinkView) (old new : K)
    (status : ℕ) where
  abbrev Answered : Result Answer E → Type 0
  Answered answered = IfOk answered (λ a. IsAnswer form seen (status_of a) (text_of a))

  abbrev Unanswered : Result Answer E → Type 0
  Unanswered answered = OnErr answered (IsSome form × GivesWithin seen.before seen.after BUNDLE_BYTES)

  abbrev Written : Result Answer E → Type 0
  Written answered = IfOk answered (IsWritten before after status)

  abbrev Unwritten : Result Answer E → Type 0
  Unwritten answered = OnErr answered ((status ≡ NO_MEMORY) × (new ≡ old))

  pub answered_by : (answered : Result Answer E) → Answered answered → Written answered → Unwritten answered
      → status ≢ WRITE_FAULT → status ≢ NO_MEMORY
      → (text : List ℕ) × IsAnswer form seen status text × (after ≡ after_taking before text)
  answered_by (Ok a) is (inl written) nothing no_fault memory =
      (text_of a, subst (λ (s : ℕ). IsAnswer form seen s (text_of a)) (sym written.0) is, written.1)
  answered_by (Ok a) is (inr written) nothing no_fault memory = absurd (no_fault written.0)
  answered_by (Err e) is written nothing no_fault memory = absurd (memory nothing.0)

  pub cut_short_by : (answered : Result Answer E) → Answered answered → Written answered → Unwritten answered
      → status ≡ WRITE_FAULT
      → (said : ℕ) × (text : List ℕ) × IsAnswer form seen said text × TakesPart before after text
  cut_short_by (Ok a) is (inl written) nothing fault = absurd ((no_ending a).0 (sym written.0 ∙ fault))
  cut_short_by (Ok a) is (inr written) nothing fault = (status_of a, text_of a, is, written.1)
  cut_short_by (Err e) is written nothing fault = absurd (apart (sym fault ∙ nothing.0))

  pub no_memory_by : (answered : Result Answer E) → Unanswered answered → Written answered → Unwritten answered
      → status ≡ NO_MEMORY
      → IsSome form × GivesWithin seen.before seen.after BUNDLE_BYTES × (new ≡ old)
  no_memory_by (Ok a) un (inl written) nothing memory = absurd ((no_ending a).1 (sym written.0 ∙ memory))
  no_memory_by (Ok a) un (inr written) nothing memory = absurd (apart (sym written.0 ∙ memory))
  no_memory_by (Err e) un written nothing memory = (un.0, un.1, nothing.1)

-- ---- the answer of a command is that to the words that ask for it
module _ {E : Type 0} (form : Option Command) (command : Command) (seen : Reading) (is : form ≡ Some command) where
  pub of_words : (answered : Result Answer E) → IfOk answered (λ a. IsFormAnswer command seen (status_of a) (text_of a))
      → IfOk answered (λ a. IsAnswer form seen (status_of a) (text_of a))
  of_words (Ok a) says = subst (λ (f : Option Command). IsAnswer f seen (status_of a) (text_of a)) (sym is) says
  of_words (Err e) says = tt

  pub none_of_words : (answered : Result Answer E) → OnErr answered (GivesWithin seen.before seen.after BUNDLE_BYTES)
      → OnErr answered (IsSome form × GivesWithin seen.before seen.after BUNDLE_BYTES)
  none_of_words (Ok a) gives = tt
  none_of_words (Err e) gives = (subst (λ (f : Option Command). IsSome f) (sym is) refl, gives)
