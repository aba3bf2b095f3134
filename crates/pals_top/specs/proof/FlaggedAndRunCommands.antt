-- What private functions of the command line answer; no claim of the program cites these definitions.
use Rattle.std.specs.Prelude.{ℕ, Bool, true, false, List, [], ◌∷◌, ◌&&◌, if◌then◌else◌, Option, None}
use Rattle.pals_runs.specs.declared.commands.Command.{Command}
use Rattle.pals_runs.specs.declared.commands.Command.TheVariants.{Run}
use Rattle.pals_top.specs.CommandWords.{is_plain, command_by}

-- a word with a root and one flag
abbrev pub flagged_command : List ℕ → List ℕ → List ℕ → Option Command
flagged_command flag word root = if is_plain word
    && is_plain root then command_by (word ∷ root ∷ []) (flag ∷ []) else None

-- the one command that is given the program's host
abbrev pub is_run : Command → Bool
is_run (Run root trace) = true
is_run command = false
