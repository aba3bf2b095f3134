-- What the program's source shows, and how a call of the program ends that did not read it whole.
use Rattle.std.specs.Prelude.{◌≡◌, ℕ, ◌≤◌, List, length, ◌⊎◌}
use Rattle.pals_base.specs.declared.limits.TheConstants.{BUNDLE_BYTES}
use Rattle.pals_io.specs.SourcesAndSinks.{SourceView, GivesAll, GivesTooMany, FailsWithin}
use Rattle.pals_top.specs.declared.status.TheConstants.{READ_FAULT, TOO_LONG}
use Rattle.pals_top.specs.CommonAnswerTexts.{read_fault_line, too_long_line}

-- what a source shows before the call and after it
pub record Reading : Type 0 where
  pub before : SourceView
  pub after : SourceView

abbrev pub reading : SourceView → SourceView → Reading
reading before after = record { before = before; after = after }

-- All bytes that the source had were read, and they are no more than a bundle may have.
pub record HasRead (seen : Reading) (bytes : List ℕ) : Type 0 where
  pub all : GivesAll seen.before seen.after bytes
  pub within : length bytes ≤ BUNDLE_BYTES

-- A call of the source failed, or the source had more bytes than a bundle may have.
abbrev pub IsReadFault : Reading → ℕ → List ℕ → Type 0
IsReadFault seen status text =
    ((status ≡ READ_FAULT) × FailsWithin seen.before seen.after BUNDLE_BYTES × (text ≡ read_fault_line))
    ⊎ ((status ≡ TOO_LONG) × GivesTooMany seen.before seen.after BUNDLE_BYTES × (text ≡ too_long_line))
