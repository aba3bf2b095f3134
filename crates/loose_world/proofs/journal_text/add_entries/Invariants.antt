use Rattle.std.proofs.Common.{◌≡◌, ◌++◌, map, take}
use Rattle.pals_model.specs.RoundTexts.{text_of}
use Rattle.pals_runs.specs.JournalLines.{entry_line}
use Rattle.loose_world.proofs.journal_text.add_entries.Given as goal

-- the lines of the first entries are there
abbrev pub invariant-loop-entry : goal.invariant-loop-entry
invariant-loop-entry l =
    l.out.items ≡ l.fn.out.items ++ text_of (map (entry_line l.bus.run.design) (take l.entry-index l.entry-items))
