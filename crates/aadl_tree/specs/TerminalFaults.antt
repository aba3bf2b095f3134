-- The position at which terminals stop being the beginning of a text of a language, or nest too deep.
use Rattle.std.specs.Prelude.{ℕ, ◌≡◌, ◌+◌, List, [], ◌∷◌, ◌++◌}
use Rattle.aadl_tree.specs.declared.nesting_limit.TheConstants.{GREATEST_NESTING}
use Rattle.aadl_tree.specs.Terminals.{PlainTerminal, PlacedTerminal, kinds_of}
use Rattle.aadl_tree.specs.PackagesBehavioursAndNesting.{IsShallow, nesting}

-- Below, a language is a predicate: the terminals of its texts satisfy it.

-- Some text begins with the terminals. The terminals after them may be ones that no token has, such as words of
-- arbitrary bytes: plain ones can replace them.
pub record Begins (IsText : List PlainTerminal → Type 0) (ks : List PlainTerminal) : Type 0 where
  pub more : List PlainTerminal
  pub text : IsText (ks ++ more)

-- no text continues from the terminals with the first remaining one, or ends with them if none remains
abbrev pub IsStuck : (List PlainTerminal → Type 0) → List PlainTerminal → List PlacedTerminal → Type 0
IsStuck IsText seen [] = ¬ IsText seen
IsStuck IsText seen (s ∷ ss) = ¬ Begins IsText (seen ++ s.kind ∷ [])

-- the place of the first terminal, or the end
abbrev pub place : ℕ → List PlacedTerminal → ℕ
place end [] = end
place end (s ∷ ss) = s.at

-- A text of the language does not continue at this place: some text begins with the terminals before it, but none
-- with this one as well; or the place is the end, and the terminals are not a text. No terminal before it exceeds the
-- nesting limit.
pub record FailsAt (IsText : List PlainTerminal → Type 0) (outer end : ℕ) (spots : List PlacedTerminal) (at : ℕ) : Type
    0 where
  pub seen : List PlacedTerminal
  pub left : List PlacedTerminal
  pub whole : spots ≡ seen ++ left
  pub place : at ≡ place end left
  pub begins : Begins IsText (kinds_of seen)
  pub stuck : IsStuck IsText (kinds_of seen) left
  pub shallow : IsShallow outer (kinds_of seen)

-- The opener at this place exceeds the nesting limit, and some text begins with the terminals up to it.
pub record DeepAt (IsText : List PlainTerminal → Type 0) (outer : ℕ) (spots : List PlacedTerminal) (at : ℕ) : Type 0
  where
    pub seen : List PlacedTerminal
    pub opener : PlacedTerminal
    pub left : List PlacedTerminal
    pub whole : spots ≡ seen ++ opener ∷ left
    pub place : at ≡ opener.at
    pub begins : Begins IsText (kinds_of seen ++ opener.kind ∷ [])
    pub shallow : IsShallow outer (kinds_of seen)
    pub deep : nesting outer (kinds_of seen ++ opener.kind ∷ []) ≡ GREATEST_NESTING + 1
