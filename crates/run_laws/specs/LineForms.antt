-- Which lines have the form of a journal line, and their parts.
use Rattle.std.specs.Prelude.{ℕ, ◌+◌, ◌-◌, ◌*◌, nat_eq, nat_le, Bool, not, ◌&&◌, if◌then◌else◌, List, [], ◌∷◌, length}
use Rattle.std.specs.Prelude.{fold, bytes_eq, codes, decimal, Option, Some, None, option_and_then, option_map}
use Rattle.std.specs.List.{list_all, slice_split}
use Rattle.pals_base.specs.declared.limits.TheConstants.{ROUNDS, READING}
use Rattle.pals_runs.specs.declared.journal.Arrived.{Arrived}
use Rattle.pals_runs.specs.declared.journal.Arrived.TheVariants.{Kept, Ignored, Early}
use Rattle.pals_runs.specs.declared.journal.Cause.{Cause}
use Rattle.pals_runs.specs.declared.journal.Cause.TheVariants.{NotSent, InTransit, Lost}

-- a line with its name unresolved; a reading may be absent, as in a loose world
pub data LineForm : Type 0 where
  ArriveLine : List ℕ → ℕ → Option ℕ → Arrived → LineForm
  StartLine : List ℕ → ℕ → Option ℕ → LineForm
  StepLine : List ℕ → ℕ → ℕ → Option ℕ → LineForm
  FinishLine : List ℕ → ℕ → LineForm
  SendLine : List ℕ → ℕ → Option ℕ → LineForm
  DropLine : List ℕ → ℕ → LineForm
  RepeatLine : List ℕ → ℕ → LineForm
  EarlyLine : List ℕ → ℕ → Option ℕ → LineForm
  MissedLine : List ℕ → ℕ → Option ℕ → Cause → LineForm

-- ---- words
abbrev pub is : List ℕ → List ℕ → Bool
is word other = bytes_eq word other

-- the number that digits spell
abbrev pub spelled : List ℕ → ℕ
spelled word = fold (λ n digit. n * 10 + (digit - 48)) 0 word

-- a number up to this one, in decimal digits without a leading zero
abbrev pub number_up_to : ℕ → List ℕ → Option ℕ
number_up_to most word =
    if is word (decimal (spelled word)) && nat_le (spelled word) most then Some (spelled word) else None

abbrev pub round_in : List ℕ → Option ℕ
round_in word = number_up_to ROUNDS word

abbrev pub reading_in : List ℕ → Option (Option ℕ)
reading_in word = if is word (codes "_") then Some None else option_map (λ n. Some n) (number_up_to READING word)

abbrev pub arrived_in : List ℕ → Option Arrived
arrived_in word =
    if is word (codes "kept") then Some Kept
    else if is word (codes "ignored") then Some Ignored
    else if is word (codes "early") then Some Early
    else None

abbrev pub cause_in : List ℕ → Option Cause
cause_in word =
    if is word (codes "not-sent") then Some NotSent
    else if is word (codes "in-transit") then Some InTransit
    else if is word (codes "lost") then Some Lost
    else None

-- ---- parts of a line
-- a name and a round, then the remaining words
abbrev pub named : List (List ℕ) → (List ℕ → ℕ → List (List ℕ) → Option LineForm) → Option LineForm
named [] go = None
named (name ∷ []) go = None
named (name ∷ round ∷ rest) go = option_and_then (λ r. go name r rest) (round_in round)

abbrev pub at_end : LineForm → List (List ℕ) → Option LineForm
at_end form [] = Some form
at_end form (word ∷ rest) = None

-- a reading, then the remaining words
abbrev pub read : List (List ℕ) → (Option ℕ → List (List ℕ) → Option LineForm) → Option LineForm
read [] go = None
read (word ∷ rest) go = option_and_then (λ reading. go reading rest) (reading_in word)

abbrev pub with_result : List (List ℕ) → (Arrived → LineForm) → Option LineForm
with_result [] go = None
with_result (word ∷ rest) go = option_and_then (λ result. at_end (go result) rest) (arrived_in word)

abbrev pub with_cause : List (List ℕ) → (Cause → LineForm) → Option LineForm
with_cause [] go = None
with_cause (word ∷ rest) go = option_and_then (λ cause. at_end (go cause) rest) (cause_in word)

abbrev pub with_step : List ℕ → ℕ → List (List ℕ) → Option LineForm
with_step name round [] = None
with_step name round (step ∷ rest) =
    option_and_then (λ i. read rest (λ reading left. at_end (StepLine name round i reading) left)) (round_in step)

-- ---- the words after the first word of each line
abbrev pub arrive_line : List (List ℕ) → Option LineForm
arrive_line words =
    named words (λ name round more.
    read more (λ reading left. with_result left (λ result. ArriveLine name round reading result)))

abbrev pub start_line : List (List ℕ) → Option LineForm
start_line words =
    named words (λ name round more. read more (λ reading left. at_end (StartLine name round reading) left))

abbrev pub step_line : List (List ℕ) → Option LineForm
step_line words = named words with_step

abbrev pub finish_line : List (List ℕ) → Option LineForm
finish_line words = named words (λ name round left. at_end (FinishLine name round) left)

abbrev pub send_line : List (List ℕ) → Option LineForm
send_line words = named words (λ name round more. read more (λ reading left. at_end (SendLine name round reading) left))

abbrev pub drop_line : List (List ℕ) → Option LineForm
drop_line words = named words (λ name round left. at_end (DropLine name round) left)

abbrev pub repeat_line : List (List ℕ) → Option LineForm
repeat_line words = named words (λ name round left. at_end (RepeatLine name round) left)

abbrev pub early_line : List (List ℕ) → Option LineForm
early_line words =
    named words (λ name round more. read more (λ reading left. at_end (EarlyLine name round reading) left))

abbrev pub missed_line : List (List ℕ) → Option LineForm
missed_line words =
    named words (λ name round more.
    read more (λ reading left. with_cause left (λ cause. MissedLine name round reading cause)))

abbrev pub stop_line : List (List ℕ) → Option LineForm
stop_line [] = None
stop_line (why ∷ rest) =
    if is why (codes "early") then early_line rest
    else if is why (codes "missed") then missed_line rest
    else None

-- ---- lines
abbrev pub form_of_words : List (List ℕ) → Option LineForm
form_of_words [] = None
form_of_words (first ∷ rest) =
    if is first (codes "arrive") then arrive_line rest
    else if is first (codes "start") then start_line rest
    else if is first (codes "step") then step_line rest
    else if is first (codes "finish") then finish_line rest
    else if is first (codes "send") then send_line rest
    else if is first (codes "drop") then drop_line rest
    else if is first (codes "repeat") then repeat_line rest
    else if is first (codes "stop") then stop_line rest
    else None

abbrev pub is_there : List ℕ → Bool
is_there word = not (nat_eq (length word) 0)

-- exactly one space parts each two words
abbrev pub words_of : List ℕ → List (List ℕ)
words_of line = slice_split (nat_eq 32) line

abbrev pub form_of : List ℕ → Option LineForm
form_of line = if list_all is_there (words_of line) then form_of_words (words_of line) else None
