-- Terminals whose places increase, after a given place.
use Rattle.std.specs.Prelude.{ℕ, ◌<◌, List, [], ◌∷◌}
use Rattle.aadl_tree.specs.Terminals.{PlacedTerminal}

-- each terminal is after this place
abbrev pub Behind : ℕ → List PlacedTerminal → Type 0
Behind n [] = Unit {0}
Behind n (s ∷ ss) = (n < s.at) × Behind n ss

-- each terminal is after all terminals before it
abbrev pub Rising : List PlacedTerminal → Type 0
Rising [] = Unit {0}
Rising (s ∷ ss) = Behind s.at ss × Rising ss
