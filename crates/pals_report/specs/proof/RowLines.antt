-- The lines of rows, in the order in which they are appended.
use Rattle.std.specs.Prelude.{ℕ, ◌≡◌, ◌<◌, List, [], ◌∷◌, length, flat_map, Option, Some, None, slice_get}
use Rattle.std.specs.Prelude.{slice_index_or}
use Rattle.std.specs.List.{enumerate_from}
use Rattle.pals_model.specs.declared.design.Component.{Component}
use Rattle.pals_model.specs.declared.design.Tap.{Tap}
use Rattle.pals_model.specs.declared.design.DesignParts.{DesignParts}
use Rattle.pals_model.specs.declared.environment.Env.{Env}
use Rattle.pals_model.specs.declared.part.Part.{Part}
use Rattle.pals_model.specs.Composition.{part}
use Rattle.pals_model.specs.PortKindsAndRates.{out_kind}
use Rattle.pals_model.specs.RoundTexts.{part_lines, tap_line, tap_lines}

-- the line of a root out port whose source has a part, from its index among the taps with that source
abbrev pub lines_at_place : DesignParts → ℕ → Tap → Option Part → List (List ℕ)
lines_at_place design place tap None = []
lines_at_place design place tap (Some part) =
    tap_line (out_kind (slice_get design.components tap.source.0) tap.out_port) tap
    (slice_index_or part.outs place []) ∷ []

-- the lines of components, numbered from a number on
abbrev pub component_lines_from : (ℕ → Option Part) → ℕ → List Component → List (List ℕ)
component_lines_from part_of node components =
    flat_map (λ numbered. part_lines numbered.1 (part_of numbered.0)) (enumerate_from node components)

-- the lines of root out ports, numbered from a number on
abbrev pub tap_lines_from : DesignParts → (ℕ → Option Part) → ℕ → List Tap → List (List ℕ)
tap_lines_from design part_of number taps =
    flat_map (λ numbered. tap_lines design numbered.0 numbered.1 (part_of numbered.1.source.0))
    (enumerate_from number taps)

-- the parts of all components of the synchronous composition after a round
abbrev pub ArePartsOf : DesignParts → Env → ℕ → (ℕ → Option Part) → Type 0
ArePartsOf design env round part_of =
    (node : ℕ) → node < length design.components → part_of node ≡ Some (part design env node round)
