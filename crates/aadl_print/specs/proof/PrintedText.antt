-- The printed text, and the effect of one more terminal.
use Rattle.std.specs.Prelude.{ℕ, codes, List, [], ◌∷◌, ◌++◌, if◌then◌else◌}
use Rattle.aadl_tree.specs.Terminals.{PlainTerminal}
use Rattle.aadl_tree.specs.declared.mark.Mark.{Mark}
use Rattle.aadl_tree.specs.SpellingParts.{SpellingPart, token, may, plain}
use Rattle.aadl_tree.specs.CanonicalText.{kind_text, holds_left, holds_right, ends_line, line_end}
use Rattle.aadl_print.specs.declared.spacing.Spacing.{Spacing}
use Rattle.aadl_print.specs.declared.spacing.Spacing.TheVariants.{Nothing, Space, LineEnd}

-- The text of some terminals, and the spacing after the last one, unless the next one suppresses it.
pub record Printed : Type 0 where
  pub text : List ℕ
  pub gap : Spacing

abbrev pub gap_text : Spacing → List ℕ
gap_text Nothing = []
gap_text Space = codes " "
gap_text LineEnd = line_end

abbrev pub gap_behind : PlainTerminal → Spacing
gap_behind kind = if holds_right kind then Nothing else if ends_line kind then LineEnd else Space

-- before the first terminal
abbrev pub blank : Printed
blank = record { text = []; gap = Nothing }

-- one more terminal
unfoldable pub put : Printed → PlainTerminal → Printed
put before kind =
    record {
      text = before.text ++ ((if holds_left kind then [] else gap_text before.gap) ++ kind_text kind);
      gap = gap_behind kind;
    }

-- the terminals that parts keep, in sequence
abbrev pub printed : {P : Type 0} → Printed → List (SpellingPart P) → Printed
printed before [] = before
printed before (token kind places ∷ ps) = printed (put before kind) ps
printed before (may extra ∷ ps) = printed before ps

-- the content of a section, after its keyword; nothing if it is empty
abbrev pub under : {P : Type 0} → Mark → List (SpellingPart P) → List (SpellingPart P)
under word [] = []
under word (p ∷ ps) = plain word ∷ (p ∷ ps)
