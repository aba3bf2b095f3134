-- The status and the text of an answer.
use Rattle.std.specs.Prelude.{◌≡◌, ℕ, List, ◌⊎◌}
use Rattle.pals_io.specs.SourcesAndSinks.{SinkView, after_taking, TakesPart}
use Rattle.pals_top.specs.declared.answer.Answer.{Answer}
use Rattle.pals_top.specs.declared.answer.Answer.TheVariants.{Done, NotSo, Usage, TextRefused, DesignRefused}
use Rattle.pals_top.specs.declared.answer.Answer.TheVariants.{ScenarioRefused, Stopped, ClockEnded, CodeTooLong}
use Rattle.pals_top.specs.declared.answer.Answer.TheVariants.{ReadFault, TooLong}
use Rattle.pals_top.specs.declared.status.TheConstants.{DONE, NOT_SO, USAGE, TEXT_REFUSED, DESIGN_REFUSED}
use Rattle.pals_top.specs.declared.status.TheConstants.{SCENARIO_REFUSED, STOPPED, CLOCK_ENDED, CODE_TOO_LONG}
use Rattle.pals_top.specs.declared.status.TheConstants.{READ_FAULT, WRITE_FAULT, TOO_LONG}
use Rattle.pals_top.specs.CommonAnswerTexts.{usage_line, read_fault_line, too_long_line}

abbrev pub status_of : Answer → ℕ
status_of (Done text) = DONE
status_of (NotSo text) = NOT_SO
status_of Usage = USAGE
status_of (TextRefused text) = TEXT_REFUSED
status_of (DesignRefused text) = DESIGN_REFUSED
status_of (ScenarioRefused text) = SCENARIO_REFUSED
status_of (Stopped text) = STOPPED
status_of (ClockEnded text) = CLOCK_ENDED
status_of (CodeTooLong text) = CODE_TOO_LONG
status_of ReadFault = READ_FAULT
status_of TooLong = TOO_LONG

abbrev pub text_of : Answer → List ℕ
text_of (Done text) = text.items
text_of (NotSo text) = text.items
text_of Usage = usage_line
text_of (TextRefused text) = text.items
text_of (DesignRefused text) = text.items
text_of (ScenarioRefused text) = text.items
text_of (Stopped text) = text.items
text_of (ClockEnded text) = text.items
text_of (CodeTooLong text) = text.items
text_of ReadFault = read_fault_line
text_of TooLong = too_long_line

-- it has this status and this text
abbrev pub Says : ℕ → List ℕ → Answer → Type 0
Says status text answer = (status_of answer ≡ status) × (text_of answer ≡ text)

-- a sink took its whole text, and the call ends with its status; or the sink failed, and took a part of the text
abbrev pub IsWritten : SinkView → SinkView → ℕ → Answer → Type 0
IsWritten before after status answer =
    ((status ≡ status_of answer) × (after ≡ after_taking before (text_of answer)))
    ⊎ ((status ≡ WRITE_FAULT) × TakesPart before after (text_of answer))
