-- A reader as a source, and a writer as a sink. Their bytes are known during a call if they are known before it.
use Rattle.std.specs.Prelude.{◌<◌, ◌≤◌, ℕ, Bool, if◌then◌else◌, List, length, take, Option, None, is_some}
use Rattle.std.specs.Io.KnownBytes.{Appends, Consumes}
use Rattle.pals_io.specs.SourcesAndSinks.{SourceView, SinkView}

-- these bytes, if they are exposed, and the number of failed calls
abbrev pub source_view : Bool → Option (List ℕ) → ℕ → SourceView
source_view exposed remaining faults = record { left = if exposed then remaining else None; faults = faults }

abbrev pub sink_view : Bool → Option (List ℕ) → ℕ → SinkView
sink_view exposed contents faults = record { held = if exposed then contents else None; faults = faults }

-- ---- a reader with these remaining bytes before the calls, and with those after them
abbrev pub reader_before : Option (List ℕ) → SourceView
reader_before before = source_view (is_some before) before 0

-- after calls of which this number failed
abbrev pub reader_after : Option (List ℕ) → Option (List ℕ) → ℕ → SourceView
reader_after before after failed = source_view (is_some before) after failed

-- at most `most` of the known bytes are consumed
abbrev pub ConsumesWithin : Option (List ℕ) → Option (List ℕ) → ℕ → Type 0
ConsumesWithin before after most = (bytes : List ℕ) × (length bytes ≤ most) × Consumes before after bytes

-- ---- a writer with these contents before the calls, and with those after them
-- the known bytes grow by a proper prefix of the text
abbrev pub AppendsPart : Option (List ℕ) → Option (List ℕ) → List ℕ → Type 0
AppendsPart before after text = (count : ℕ) × (count < length text) × Appends before after (take count text)
