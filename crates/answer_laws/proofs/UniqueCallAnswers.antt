-- A call other than `run` has one answer, a function of its arguments and of the bytes that its source shows.
use Rattle.std.proofs.Common.{◌≡◌, ◌∙◌, inl, inr, ℕ, ◌+◌, ◌-◌, ◌^◌, ◌<◌, ◌≤◌, min, List, length, true, false, Option}
use Rattle.std.proofs.Common.{Some, None, sym, ap, subst, arith}
use Rattle.std.specs.Prelude.{IfSome}
use Rattle.std.proofs.lemmas.Bool.{true≢false}
use Rattle.pals_base.specs.declared.limits.TheConstants.{BUNDLE_BYTES}
use Rattle.pals_io.specs.SourcesAndSinks.{SourceView, GivesTooMany, FailsWithin}
use Rattle.pals_runs.specs.declared.commands.Command.{Command}
use Rattle.pals_runs.specs.declared.commands.Command.TheVariants.{Ring}
use Rattle.pals_top.specs.ProgramInput.{Reading, HasRead}
use Rattle.pals_top.specs.Answers.{reads_source, IsCommandAnswer, IsSourceAnswer, IsAnswer}
use Rattle.pals_top.specs.proof.FlaggedAndRunCommands.{is_run}

-- a command other than `run` and a bundle have one answer
abbrev pub AnswerIsDecided : Type 0
AnswerIsDecided =
    (command : Command) (bundle : List ℕ) (s t : ℕ) (a b : List ℕ) → is_run command ≡ false
    → IsCommandAnswer command bundle s a → IsCommandAnswer command bundle t b → (s ≡ t) × (a ≡ b)

pub no_room : (n top : ℕ) → n < top → min (n + 1) top ≡ n → ⊥
no_room n top few e = absurd (omega arith)

pub too_long_by : (n m most : ℕ) → n ≡ m → n ≤ most → most < m → ⊥
too_long_by n m most e le lt = absurd (omega arith)

module _ (seen : Reading) (left : List ℕ) (told : seen.before.left ≡ Some left)
    (few : seen.before.faults < 2 ^ 64 - 1) where
  pub all_read : (bytes : List ℕ) → HasRead seen bytes → bytes ≡ left
  all_read bytes x = subst (λ (o : Option (List ℕ)). IfSome o (λ l. bytes ≡ l)) told x.all.bytes

  pub too_long : GivesTooMany seen.before seen.after BUNDLE_BYTES → BUNDLE_BYTES < length left
  too_long x = subst (λ (o : Option (List ℕ)). IfSome o (λ l. BUNDLE_BYTES < length l)) told x.bytes

  -- a call of the source that failed is counted
  pub not_counted : seen.after.faults ≡ seen.before.faults → FailsWithin seen.before seen.after BUNDLE_BYTES → ⊥
  not_counted same x =
      no_room seen.before.faults (2 ^ 64 - 1) few (sym (ap (λ (v : SourceView). v.faults) x.view) ∙ same)

  read_or_failed : (bytes : List ℕ) → HasRead seen bytes → FailsWithin seen.before seen.after BUNDLE_BYTES → ⊥
  read_or_failed bytes x y = not_counted (ap (λ (v : SourceView). v.faults) x.all.view) y

  long_or_failed : GivesTooMany seen.before seen.after BUNDLE_BYTES
      → FailsWithin seen.before seen.after BUNDLE_BYTES → ⊥
  long_or_failed x y = not_counted (ap (λ (v : SourceView). v.faults) x.view) y

  read_or_long : (bytes : List ℕ) → HasRead seen bytes → GivesTooMany seen.before seen.after BUNDLE_BYTES → ⊥
  read_or_long bytes x y =
      too_long_by (length bytes) (length left) BUNDLE_BYTES (ap length (all_read bytes x)) x.within (too_long y)

  module _ (decided : AnswerIsDecided) where
    same_source : (command : Command) → is_run command ≡ false → (s t : ℕ) (a b : List ℕ)
        → IsSourceAnswer command seen s a → IsSourceAnswer command seen t b → (s ≡ t) × (a ≡ b)
    same_source command not_run s t a b (inl x) (inl y) =
        let same = all_read x.bundle x.read ∙ sym (all_read y.bundle y.read) in
        decided command y.bundle s t a b not_run
        (subst (λ (w : List ℕ). IsCommandAnswer command w s a) same x.answer) y.answer
    same_source command not_run s t a b (inl x) (inr (inl y)) = absurd (read_or_failed x.bundle x.read y.1)
    same_source command not_run s t a b (inl x) (inr (inr y)) = absurd (read_or_long x.bundle x.read y.1)
    same_source command not_run s t a b (inr (inl x)) (inl y) = absurd (read_or_failed y.bundle y.read x.1)
    same_source command not_run s t a b (inr (inl x)) (inr (inl y)) = (x.0 ∙ sym y.0, x.2 ∙ sym y.2)
    same_source command not_run s t a b (inr (inl x)) (inr (inr y)) = absurd (long_or_failed y.1 x.1)
    same_source command not_run s t a b (inr (inr x)) (inl y) = absurd (read_or_long y.bundle y.read x.1)
    same_source command not_run s t a b (inr (inr x)) (inr (inl y)) = absurd (long_or_failed x.1 y.1)
    same_source command not_run s t a b (inr (inr x)) (inr (inr y)) = (x.0 ∙ sym y.0, x.2 ∙ sym y.2)

    same_answer : (command : Option Command) → IfSome command (λ c. is_run c ≡ false) → (s t : ℕ) (a b : List ℕ)
        → IsAnswer command seen s a → IsAnswer command seen t b → (s ≡ t) × (a ≡ b)
    same_answer None not_run s t a b x y = (x.0 ∙ sym y.0, x.1 ∙ sym y.1)
    same_answer (Some (Ring nodes rounds)) not_run s t a b x y = (x.0.0 ∙ sym y.0.0, x.0.1 ∙ sym y.0.1)
    same_answer (Some command) not_run s t a b x y = same_source command not_run s t a b x y

-- the answer of a command that reads its source
pub source_answer : (command : Command) (seen : Reading) (s : ℕ) (a : List ℕ) → reads_source command ≡ true
    → IsAnswer (Some command) seen s a
    → IsSourceAnswer command seen s a
source_answer (Ring nodes rounds) seen s a reads x = absurd (true≢false (sym reads))
source_answer command seen s a reads x = x

pub one_answer : AnswerIsDecided → (command : Option Command) (seen : Reading) (left : List ℕ)
    → IfSome command (λ c. is_run c ≡ false) → seen.before.left ≡ Some left
    → seen.before.faults < 2 ^ 64 - 1 → (s t : ℕ) (a b : List ℕ) → IsAnswer command seen s a → IsAnswer command seen t b
    → (s ≡ t) × (a ≡ b)
one_answer decided command seen left not_run told few s t a b x y =
    same_answer seen left told few decided command not_run s t a b x y
