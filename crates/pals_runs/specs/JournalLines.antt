-- The text of a journal line: its words, with one space between each two.
use Rattle.std.specs.Prelude.{ℕ, codes, decimal, List, [], ◌∷◌, Option, Some, None, slice_get}
use Rattle.std.specs.List.{join_with_byte}
use Rattle.pals_model.specs.declared.design.Component.{Component}
use Rattle.pals_model.specs.declared.design.Link.{Link}
use Rattle.pals_model.specs.declared.design.DesignParts.{DesignParts}
use Rattle.pals_model.specs.ComponentAndLinkNames.{link_name}
use Rattle.pals_runs.specs.declared.journal.Arrived.{Arrived}
use Rattle.pals_runs.specs.declared.journal.Arrived.TheVariants.{Kept, Ignored, Early}
use Rattle.pals_runs.specs.declared.journal.Cause.{Cause}
use Rattle.pals_runs.specs.declared.journal.Cause.TheVariants.{NotSent, InTransit, Lost}
use Rattle.pals_runs.specs.declared.journal.Stop.{Stop}
use Rattle.pals_runs.specs.declared.journal.JournalEntry.{JournalEntry}
use Rattle.pals_runs.specs.declared.journal.Stop.TheVariants as stop
use Rattle.pals_runs.specs.declared.journal.JournalEntry.TheVariants as entry

-- ---- words
abbrev pub path_in : Option Component → List ℕ
path_in None = []
path_in (Some c) = c.path

-- the path of a component
abbrev pub node_word : DesignParts → ℕ → List ℕ
node_word design node = path_in (slice_get design.components node)

abbrev pub name_in : DesignParts → Option Link → List ℕ
name_in design None = []
name_in design (Some link) = link_name design link

-- the name of a link
abbrev pub link_word : DesignParts → ℕ → List ℕ
link_word design link = name_in design (slice_get design.links link)

-- a reading, or `_` in a loose world
abbrev pub reading_word : Option ℕ → List ℕ
reading_word None = codes "_"
reading_word (Some reading) = decimal reading

abbrev pub arrived_word : Arrived → List ℕ
arrived_word Kept = codes "kept"
arrived_word Ignored = codes "ignored"
arrived_word Early = codes "early"

abbrev pub cause_word : Cause → List ℕ
cause_word NotSent = codes "not-sent"
cause_word InTransit = codes "in-transit"
cause_word Lost = codes "lost"

-- ---- lines
abbrev pub stop_words : DesignParts → Stop → List (List ℕ)
stop_words design (stop.Missed link round reading cause) =
    codes "stop" ∷ codes "missed" ∷ link_word design link.0 ∷ decimal round ∷ reading_word reading
    ∷ cause_word cause ∷ []
stop_words design (stop.Early link round reading) =
    codes "stop" ∷ codes "early" ∷ link_word design link.0 ∷ decimal round ∷ reading_word reading ∷ []

abbrev pub entry_words : DesignParts → JournalEntry → List (List ℕ)
entry_words design (entry.Arrive link round reading result) =
    codes "arrive" ∷ link_word design link.0 ∷ decimal round ∷ reading_word reading ∷ arrived_word result ∷ []
entry_words design (entry.Start node round reading) =
    codes "start" ∷ node_word design node.0 ∷ decimal round ∷ reading_word reading ∷ []
entry_words design (entry.Step node round step reading) =
    codes "step" ∷ node_word design node.0 ∷ decimal round ∷ decimal step ∷ reading_word reading ∷ []
entry_words design (entry.Finish node round) = codes "finish" ∷ node_word design node.0 ∷ decimal round ∷ []
entry_words design (entry.Send node round reading) =
    codes "send" ∷ node_word design node.0 ∷ decimal round ∷ reading_word reading ∷ []
entry_words design (entry.Drop link round) = codes "drop" ∷ link_word design link.0 ∷ decimal round ∷ []
entry_words design (entry.Repeat link round) = codes "repeat" ∷ link_word design link.0 ∷ decimal round ∷ []
entry_words design (entry.Stopped why) = stop_words design why

-- words with one space between each two
abbrev pub spaced : List (List ℕ) → List ℕ
spaced words = join_with_byte 32 words

-- the line of an entry, without its line end
abbrev pub entry_line : DesignParts → JournalEntry → List ℕ
entry_line design e = spaced (entry_words design e)
