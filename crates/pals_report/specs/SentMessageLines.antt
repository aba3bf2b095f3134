-- The line of a sent message: `sent`, its link, its round, and its tuple.
use Rattle.std.specs.Prelude.{ℕ, codes, decimal, List, [], ◌∷◌, slice_get}
use Rattle.pals_base.specs.declared.behaviour.Kind.{Kind}
use Rattle.pals_base.specs.declared.basic_types.PortValue.{PortValue}
use Rattle.pals_model.specs.declared.design.DesignParts.{DesignParts}
use Rattle.pals_model.specs.PortKindsAndRates.{out_kind}
use Rattle.pals_model.specs.RoundTexts.{tuple_text}
use Rattle.pals_runs.specs.JournalLines.{link_word, spaced}
use Rattle.bus_machine.specs.Plans.{link_at}

-- the type of the source port of a link
abbrev pub source_kind : DesignParts → ℕ → Kind
source_kind design link =
    out_kind (slice_get design.components (link_at design link).source.0) (link_at design link).out_port

abbrev pub sent_line : DesignParts → ℕ → ℕ → List PortValue → List ℕ
sent_line design link round tuple =
    spaced (codes "sent" ∷ link_word design link ∷ decimal round ∷ tuple_text (source_kind design link) tuple ∷ [])
