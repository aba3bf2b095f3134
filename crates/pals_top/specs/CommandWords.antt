-- What the words of a command line are.
use Rattle.std.specs.List.{list_all}
use Rattle.std.specs.Prelude.{ℕ, ◌+◌, ◌-◌, ◌*◌, nat_eq, nat_le, Bool, true, false, not, if◌then◌else◌, ◌&&◌, ◌||◌}
use Rattle.std.specs.Prelude.{codes, bytes_eq, List, [], ◌∷◌, length, filter, fold, Option, Some, None, Result, Ok, Err}
use Rattle.std.specs.Prelude.{◌≡◌, ◌≤◌, IsSome}
use Rattle.pals_runs.specs.declared.commands.Command.{Command}
use Rattle.pals_runs.specs.declared.commands.Command.TheVariants.{Print, Check, Sync, World, Run, Audit, Ring, Watch}
use Rattle.pals_runs.specs.declared.commands.Command.TheVariants.{Vote, Fuse, Budget}
use Rattle.pals_top.specs.declared.command_line.TheConstants.{RING_NODES, RING_ROUNDS}
use Rattle.pals_top.specs.declared.command_line.WordsEnd.{WordsEnd}
use Rattle.pals_top.specs.declared.command_line.WordsEnd.TheVariants.{Usage, Memory}

-- no flag: it does not begin with `-`
abbrev pub is_plain : List ℕ → Bool
is_plain [] = true
is_plain (c ∷ cs) = not (nat_eq c 45)

-- ---- flags may be anywhere
abbrev pub is_flag : List ℕ → Bool
is_flag word = bytes_eq word (codes "--loose") || bytes_eq word (codes "--trace")

abbrev pub flags : List (List ℕ) → List (List ℕ)
flags words = filter is_flag words

abbrev pub plain_words : List (List ℕ) → List (List ℕ)
plain_words words = filter (λ word. not (is_flag word)) words

-- ---- numbers
-- one to six digits
abbrev pub is_digit : ℕ → Bool
is_digit c = nat_le 48 c && nat_le c 57

abbrev pub is_number : List ℕ → Bool
is_number word = nat_le 1 (length word) && nat_le (length word) 6 && list_all is_digit word

abbrev pub value_of : List ℕ → ℕ
value_of digits = fold (λ value c. value * 10 + (c - 48)) 0 digits

-- the number that a word is, if that is from the one to the other
abbrev pub number_in : ℕ → ℕ → List ℕ → Option ℕ
number_in least most word =
    if is_number word && nat_le least (value_of word) && nat_le (value_of word) most then Some (value_of word) else None

-- ---- a command by its plain words, without flags or with one
-- the command of a word with a root
abbrev pub rooted_command : List ℕ → List ℕ → Option Command
rooted_command word root =
    if bytes_eq word (codes "check") then Some (Check root) else if bytes_eq word (codes "sync") then Some (Sync root)
    else if bytes_eq word (codes "world") then Some (World root false) else if bytes_eq word (codes "run") then Some
    (Run root false)
    else if bytes_eq word (codes "audit") then Some (Audit root) else if bytes_eq word (codes "watch") then Some
    (Watch root)
    else if bytes_eq word (codes "vote") then Some (Vote root) else if bytes_eq word (codes "fuse") then
    Some (Fuse root)
    else if bytes_eq word (codes "budget") then Some (Budget root) else None

-- that of a ring of this many nodes, for this many rounds
abbrev pub ring_command : Option ℕ → Option ℕ → Option Command
ring_command (Some nodes) (Some rounds) = Some (Ring nodes rounds)
ring_command _ _ = None

abbrev pub plain_command : List (List ℕ) → Option Command
plain_command (word ∷ []) = if bytes_eq word (codes "print") then Some Print else None
plain_command (word ∷ root ∷ []) = rooted_command word root
plain_command (word ∷ nodes ∷ rounds ∷ []) =
    if bytes_eq word (codes "self") then ring_command (number_in 2 RING_NODES nodes)
    (number_in 1 RING_ROUNDS rounds) else None
plain_command _ = None

-- the flags ask for a world without time, and for the journal of a run
abbrev pub loose_command : List ℕ → List ℕ → Option Command
loose_command word root = if bytes_eq word (codes "world") then Some (World root true) else None

abbrev pub trace_command : List ℕ → List ℕ → Option Command
trace_command word root = if bytes_eq word (codes "run") then Some (Run root true) else None

abbrev pub flag_command : List ℕ → List (List ℕ) → Option Command
flag_command flag (word ∷ root ∷ []) =
    if bytes_eq flag (codes "--loose") then loose_command word root else if bytes_eq flag (codes "--trace") then
    trace_command
    word root else None
flag_command flag _ = None

abbrev pub command_by : List (List ℕ) → List (List ℕ) → Option Command
command_by plain [] = plain_command plain
command_by plain (flag ∷ []) = flag_command flag plain
command_by plain _ = None

-- The command that the words are. No plain word begins with `-`.
abbrev pub command_of_words : List (List ℕ) → Option Command
command_of_words words = if list_all is_plain (plain_words words) then command_by (plain_words words) (flags words)
    else None

-- what the form of a command keeps: the numbers of a ring are within their limits
abbrev pub IsWithinRingLimits : Command → Type 0
IsWithinRingLimits (Ring nodes rounds) = (2 ≤ nodes) × (nodes ≤ RING_NODES) × (1 ≤ rounds) × (rounds ≤ RING_ROUNDS)
IsWithinRingLimits command = Unit {0}

-- Why arguments give no command: they are invalid, or memory ran out.
abbrev pub IsWordsEnd : Option Command → WordsEnd → Type 0
IsWordsEnd command Usage = command ≡ None
IsWordsEnd command Memory = IsSome command

-- What is read from words: the command that they are, or why there is none.
abbrev pub IsRead : Option Command → Result Command WordsEnd → Type 0
IsRead command_of_words (Ok command) = (command_of_words ≡ Some command) × IsWithinRingLimits command
IsRead command_of_words (Err end) = IsWordsEnd command_of_words end
