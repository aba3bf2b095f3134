-- The number of places that a tree keeps of its terminals, part by part, and the terminals of which it keeps none.
use Rattle.std.proofs.Common.{◌≡◌, Bool, true, false, cond, List, [], ◌∷◌, refl}
use Rattle.aadl_tree.specs.declared.mark.Mark.TheVariants as k
use Rattle.aadl_tree.specs.Terminals.{PlainTerminal, mark}
use Rattle.aadl_tree.specs.SpellingParts.{SpellingPart, token, may, feature_section, subcomponent_section}
use Rattle.aadl_tree.specs.SpellingParts.{connection_section}
use Rattle.aadl_tree.specs.SpellingParts.{property_section, Extra, empty_section, last_semicolon, extra_kinds}

-- Terminals that occur in parts that a tree does not keep. Such a terminal never has a place in the tree.
abbrev pub quiet : PlainTerminal → Bool
quiet (mark k.Semicolon) = true
quiet (mark k.Nothing) = true
quiet (mark k.Features) = true
quiet (mark k.Properties) = true
quiet (mark k.Subcomponents) = true
quiet (mark k.Connections) = true
quiet _ = false

-- how many places each token keeps
abbrev pub none_of : {P : Type 0} → List P → List (Unit {0})
none_of [] = []
none_of (p ∷ ps) = tt ∷ none_of ps

abbrev pub shape : {P : Type 0} → List (SpellingPart P) → List (List (Unit {0}))
shape [] = []
shape (token kind places ∷ ps) = cond (quiet kind) (shape ps) (none_of places ∷ shape ps)
shape (may extra ∷ ps) = shape ps

-- the parts that a tree does not keep have no places
abbrev pub AreQuiet : List PlainTerminal → Type 0
AreQuiet [] = Unit {0}
AreQuiet (kind ∷ ks) = (quiet kind ≡ true) × AreQuiet ks

pub extra_quiet : (extra : Extra) → AreQuiet (extra_kinds extra)
extra_quiet (empty_section feature_section) = (refl, (refl, (refl, tt)))
extra_quiet (empty_section subcomponent_section) = (refl, (refl, (refl, tt)))
extra_quiet (empty_section connection_section) = (refl, (refl, (refl, tt)))
extra_quiet (empty_section property_section) = (refl, (refl, (refl, tt)))
extra_quiet last_semicolon = (refl, tt)
