-- The status and the text of an answer.
use Rattle.std.specs.Prelude.{◌≡◌, ℕ, List}
use Rattle.bundle_designs.specs.declared.refusal.Refusal.{Refusal}
use Rattle.bundle_designs.specs.declared.refusal.Refusal.TheVariants.{Text, Design, Memory}
use Rattle.pals_code.specs.declared.answer.Answer.{Answer}
use Rattle.pals_code.specs.declared.answer.Answer.TheVariants.{Done, Usage, TextRefused, DesignRefused, CodeTooLong}
use Rattle.pals_code.specs.declared.answer.Answer.TheVariants.{ReadFault, TooLong}
use Rattle.pals_code.specs.declared.status.TheConstants.{DONE, USAGE, TEXT_REFUSED, DESIGN_REFUSED, CODE_TOO_LONG}
use Rattle.pals_code.specs.declared.status.TheConstants.{READ_FAULT, TOO_LONG}
use Rattle.pals_code.specs.FixedAnswerTexts.{usage_line, read_fault_line, too_long_line}

abbrev pub status_of : Answer → ℕ
status_of (Done text) = DONE
status_of Usage = USAGE
status_of (TextRefused text) = TEXT_REFUSED
status_of (DesignRefused text) = DESIGN_REFUSED
status_of (CodeTooLong text) = CODE_TOO_LONG
status_of ReadFault = READ_FAULT
status_of TooLong = TOO_LONG

abbrev pub text_of : Answer → List ℕ
text_of (Done text) = text.items
text_of Usage = usage_line
text_of (TextRefused text) = text.items
text_of (DesignRefused text) = text.items
text_of (CodeTooLong text) = text.items
text_of ReadFault = read_fault_line
text_of TooLong = too_long_line

-- it has this status and this text
abbrev pub Says : ℕ → List ℕ → Answer → Type 0
Says status text answer = (status_of answer ≡ status) × (text_of answer ≡ text)

-- it reports why a bundle has no design; no answer reports that memory ran out
abbrev pub SaysWhy : Refusal → Answer → Type 0
SaysWhy (Text text) answer = Says TEXT_REFUSED text.items answer
SaysWhy (Design text) answer = Says DESIGN_REFUSED text.items answer
SaysWhy Memory answer = ⊥
