-- The parts that spell a tree, and the terminals that spell the parts.
use Rattle.std.specs.Prelude.{ℕ, ◌≡◌, ◌⊎◌, Bool, true, false, List, [], ◌∷◌, ◌++◌, flat_map, Option, Some, None}
use Rattle.aadl_tree.specs.declared.mark.Mark.{Mark}
use Rattle.aadl_tree.specs.Terminals.{PlainTerminal, mark, PlacedTerminal}
use Rattle.aadl_tree.specs.declared.mark.Mark.TheVariants as k

-- the sections of a type or an implementation
pub data Section : Type 0 where
  feature_section : Section
  subcomponent_section : Section
  connection_section : Section
  property_section : Section

abbrev pub section_mark : Section → Mark
section_mark feature_section = k.Features
section_mark subcomponent_section = k.Subcomponents
section_mark connection_section = k.Connections
section_mark property_section = k.Properties

-- Constructs that a text may have but no tree stores: a section of `none ;`, and a `;` after the last action.
pub data Extra : Type 0 where
  empty_section : Section → Extra
  last_semicolon : Extra

abbrev pub extra_kinds : Extra → List PlainTerminal
extra_kinds (empty_section section) = mark (section_mark section) ∷ mark k.Nothing ∷ mark k.Semicolon ∷ []
extra_kinds last_semicolon = mark k.Semicolon ∷ []

-- A part of a spelling. The trees keep places of the type P.
pub data SpellingPart (P : Type 0) : Type 0 where
  -- a terminal, with the places that the tree keeps of it
  token : PlainTerminal → List P → SpellingPart P
  -- an optional construct without meaning
  may : Extra → SpellingPart P

-- a keyword or a symbol without a place
abbrev pub plain : {P : Type 0} → Mark → SpellingPart P
plain m = token (mark m) []

-- an optional keyword
abbrev pub marked_if : {P : Type 0} → Mark → Bool → List (SpellingPart P)
marked_if m true = plain m ∷ []
marked_if m false = []

-- the parts of an optional value
abbrev pub parts_if : {P A : Type 0} → (A → List (SpellingPart P)) → Option A → List (SpellingPart P)
parts_if parts None = []
parts_if parts (Some x) = parts x

-- the parts of a value after a keyword or a symbol
abbrev pub behind : {P A : Type 0} → Mark → (A → List (SpellingPart P)) → A → List (SpellingPart P)
behind m parts x = plain m ∷ parts x

-- one or more, with a symbol before each further one
abbrev pub chained : {P A : Type 0} → Mark → (A → List (SpellingPart P)) → A → List A → List (SpellingPart P)
chained m parts first rest = parts first ++ flat_map (behind m parts) rest

-- The terminals up to the rest spell the parts.
abbrev pub Spells : {P : Type 0} → List (SpellingPart P) → List PlainTerminal → List PlainTerminal → Type 0
Spells [] ks rest = ks ≡ rest
Spells (token kind places ∷ ps) ks rest = (more : List PlainTerminal) × (ks ≡ kind ∷ more) × Spells ps more rest
Spells (may extra ∷ ps) ks rest =
    Spells ps ks rest ⊎ ((more : List PlainTerminal) × (ks ≡ extra_kinds extra ++ more) × Spells ps more rest)

-- each of the places is this one
abbrev pub AreAt : List ℕ → ℕ → Type 0
AreAt [] at = Unit {0}
AreAt (p ∷ ps) at = (p ≡ at) × AreAt ps at

-- the terminals without their places are these
abbrev pub HaveKinds : List PlainTerminal → List PlacedTerminal → List PlacedTerminal → Type 0
HaveKinds [] ss rest = ss ≡ rest
HaveKinds (kind ∷ ks) ss rest =
    (s : PlacedTerminal) × (more : List PlacedTerminal) × (ss ≡ s ∷ more) × (s.kind ≡ kind) × HaveKinds ks more rest

-- The terminals up to the rest spell the parts and are at the parts' places.
abbrev pub Written : List (SpellingPart ℕ) → List PlacedTerminal → List PlacedTerminal → Type 0
Written [] ss rest = ss ≡ rest
Written (token kind places ∷ ps) ss rest =
    (s : PlacedTerminal) × (more : List PlacedTerminal) × (ss ≡ s ∷ more) × (s.kind ≡ kind) × AreAt places s.at
    × Written ps more rest
Written (may extra ∷ ps) ss rest =
    Written ps ss rest ⊎ ((more : List PlacedTerminal) × HaveKinds (extra_kinds extra) ss more × Written ps more rest)

-- the terminals of the canonical text: all except the meaningless ones
abbrev pub kept : {P : Type 0} → List (SpellingPart P) → List PlainTerminal
kept [] = []
kept (token kind places ∷ ps) = kind ∷ kept ps
kept (may extra ∷ ps) = kept ps
