-- The canonical text of terminals and of a tree.
use Rattle.std.specs.Prelude.{ℕ, Bool, true, false, ◌||◌, codes, List, [], ◌∷◌, ◌++◌, if◌then◌else◌}
use Rattle.std.specs.Fmt.{signed_decimal}
use Rattle.aadl_tree.specs.KeywordsAndSymbols.{mark_text}
use Rattle.aadl_tree.specs.Terminals.{PlainTerminal, word, whole, real, quoted, unread, mark, other}
use Rattle.aadl_tree.specs.SpellingParts.{kept}
use Rattle.aadl_tree.specs.Declarations.{PackageTree, package_parts}
use Rattle.aadl_tree.specs.declared.mark.Mark.TheVariants as k

-- Keywords are written in lower case, whole numbers in decimal digits, and all other terminals as they are spelled.
abbrev pub kind_text : PlainTerminal → List ℕ
kind_text (word bytes) = bytes
kind_text (whole n) = signed_decimal n
kind_text (real bytes) = bytes
kind_text (quoted bytes) = bytes
kind_text (unread bytes) = bytes
kind_text (mark m) = mark_text m
kind_text (other bytes) = bytes

-- No space precedes it.
abbrev pub holds_left : PlainTerminal → Bool
holds_left (mark k.Semicolon) = true
holds_left (mark k.Comma) = true
holds_left (mark k.ParenClose) = true
holds_left (mark k.Colon) = true
holds_left (mark k.Scope) = true
holds_left (mark k.Dot) = true
holds_left (mark k.Tick) = true
holds_left (mark k.Bang) = true
holds_left _ = false

-- No space follows it; so there is no space between `!` and `(`.
abbrev pub holds_right : PlainTerminal → Bool
holds_right (mark k.ParenOpen) = true
holds_right (mark k.Scope) = true
holds_right (mark k.Dot) = true
holds_right (mark k.Tick) = true
holds_right (mark k.Bang) = true
holds_right _ = false

-- LF follows it instead of a space: `;`, `public`, `{**`, and the keywords that open a section.
abbrev pub ends_line : PlainTerminal → Bool
ends_line (mark k.Semicolon) = true
ends_line (mark k.Public) = true
ends_line (mark k.AnnexOpen) = true
ends_line (mark k.Features) = true
ends_line (mark k.Properties) = true
ends_line (mark k.Subcomponents) = true
ends_line (mark k.Connections) = true
ends_line (mark k.Variables) = true
ends_line (mark k.States) = true
ends_line (mark k.Transitions) = true
ends_line _ = false

abbrev pub line_end : List ℕ
line_end = 10 ∷ []

-- the bytes between two terminals
abbrev pub between : PlainTerminal → PlainTerminal → List ℕ
between left right = if holds_right left || holds_left right then [] else if ends_line left then line_end else codes " "

-- the text after a terminal; it ends with LF
abbrev pub text_behind : PlainTerminal → List PlainTerminal → List ℕ
text_behind left [] = line_end
text_behind left (right ∷ ks) = between left right ++ (kind_text right ++ text_behind right ks)

abbrev pub canonical : List PlainTerminal → List ℕ
canonical [] = []
canonical (kind ∷ ks) = kind_text kind ++ text_behind kind ks

-- the canonical text of a tree
abbrev pub canon : {P : Type 0} → PackageTree P → List ℕ
canon tree = canonical (kept (package_parts tree))
