-- The index of each tap among the taps with the same source.
use Rattle.std.specs.Prelude.{ℕ, List, map}
use Rattle.std.specs.List.{enumerate_from}
use Rattle.pals_model.specs.declared.design.Tap.{Tap}
use Rattle.pals_model.specs.RoundTexts.{taps_before}

-- for each tap, the number of earlier taps with the same source
abbrev pub tap_places : List Tap → List ℕ
tap_places taps = map (λ numbered. taps_before taps numbered.0 numbered.1.source.0) (enumerate_from 0 taps)
