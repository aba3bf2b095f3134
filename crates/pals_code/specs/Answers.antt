-- The program's output: a status and a text, for its arguments and the bytes of its source.
use Rattle.std.specs.Prelude.{◌≡◌, ◌≤◌, ℕ, nat_eq, Bool, true, not, if◌then◌else◌, List, [], ◌∷◌, length, Option, Some}
use Rattle.std.specs.Prelude.{None, ◌⊎◌}
use Rattle.pals_base.specs.declared.limits.TheConstants.{BUNDLE_BYTES}
use Rattle.pals_io.specs.SourcesAndSinks.{SourceView, GivesAll, GivesTooMany, FailsWithin}
use Rattle.pals_code.specs.declared.status.TheConstants.{USAGE, READ_FAULT, TOO_LONG}
use Rattle.pals_code.specs.BundleAnswers.{IsListingAnswer}
use Rattle.pals_code.specs.FixedAnswerTexts.{usage_line, read_fault_line, too_long_line}

-- no flag: it does not begin with `-`
abbrev pub is_plain : List ℕ → Bool
is_plain [] = true
is_plain (c ∷ cs) = not (nat_eq c 45)

-- The root that the arguments name: there is one argument, and it is not a flag.
abbrev pub root_of : List (List ℕ) → Option (List ℕ)
root_of (word ∷ []) = if is_plain word then Some word else None
root_of _ = None

-- what a source shows before the call and after it
pub record Reading : Type 0 where
  pub before : SourceView
  pub after : SourceView

abbrev pub reading : SourceView → SourceView → Reading
reading before after = record { before = before; after = after }

-- All bytes that the source had were read, no more than a bundle may have, and this is the answer to them.
pub record IsRead (root : List ℕ) (seen : Reading) (status : ℕ) (text : List ℕ) : Type 0 where
  pub bundle : List ℕ
  pub all : GivesAll seen.before seen.after bundle
  pub within : length bundle ≤ BUNDLE_BYTES
  pub answer : IsListingAnswer root bundle status text

-- A call of the source failed, or the source had more bytes than a bundle may have.
abbrev pub IsReadFault : Reading → ℕ → List ℕ → Type 0
IsReadFault seen status text =
    ((status ≡ READ_FAULT) × FailsWithin seen.before seen.after BUNDLE_BYTES × (text ≡ read_fault_line))
    ⊎ ((status ≡ TOO_LONG) × GivesTooMany seen.before seen.after BUNDLE_BYTES × (text ≡ too_long_line))

abbrev pub IsSourceAnswer : List ℕ → Reading → ℕ → List ℕ → Type 0
IsSourceAnswer root seen status text = IsRead root seen status text ⊎ IsReadFault seen status text

-- Words that name no root read nothing.
abbrev pub IsAnswer : Option (List ℕ) → Reading → ℕ → List ℕ → Type 0
IsAnswer None seen status text = (status ≡ USAGE) × (text ≡ usage_line) × (seen.after ≡ seen.before)
IsAnswer (Some root) seen status text = IsSourceAnswer root seen status text
