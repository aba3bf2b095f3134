-- The bytes of a token.
use Rattle.std.specs.Prelude.{ℕ, ℤ, ◌≡◌, ◌≢◌, ◌<◌, ◌≤◌, IsTrue, List, [], ◌∷◌, ◌++◌, length, slice_index, map, pos}
use Rattle.std.specs.Prelude.{codes, Some, None}
use Rattle.std.specs.List.{list_all, list_any}
use Rattle.std.specs.Char.{is_ascii_digit}
use Rattle.std.specs.Str.{bytes_eq}
use Rattle.aadl_lex.specs.declared.token.Token.{Token}
use Rattle.aadl_lex.specs.declared.token.TokenKind.{TokenKind}
use Rattle.aadl_lex.specs.declared.token.TokenKind.TheVariants.{Word, Whole, Real, Quoted, Symbol, AnnexOpen}
use Rattle.aadl_lex.specs.declared.token.TokenKind.TheVariants.{AnnexClose, Unread}
use Rattle.aadl_lex.specs.declared.rules.Reading.{Reading}
use Rattle.aadl_lex.specs.declared.rules.Reading.TheVariants.{Outside, AfterName, Inside}
use Rattle.aadl_lex.specs.Rules.{is_word, is_in_string, whole_len, decimal, most, body_len, symbols_of_three}
use Rattle.aadl_lex.specs.Rules.{symbols_of_two, symbols_of_one, after}
use Rattle.aadl_lex.specs.TokensAndFirstFaults.{bytes_of, AreTokensOf}

-- digits, with a `_` only before a digit, that denote this number
pub record IsWhole (number : ℤ) (b : List ℕ) : Type 0 where
  pub digit : IsTrue (is_ascii_digit (slice_index b 0))
  pub spelled : whole_len b ≡ length b
  pub says : number ≡ pos (decimal b)
  pub fits : decimal b ≤ most

-- digits, a point, and digits
pub record IsReal (b : List ℕ) : Type 0 where
  pub whole : List ℕ
  pub fraction : List ℕ
  pub spelled : b ≡ whole ++ 46 ∷ fraction
  pub has_whole : 0 < length whole
  pub has_fraction : 0 < length fraction
  pub whole_digits : IsTrue (list_all is_ascii_digit whole)
  pub fraction_digits : IsTrue (list_all is_ascii_digit fraction)

-- a quote, bytes of one line other than quotes, and a quote
pub record IsString (b : List ℕ) : Type 0 where
  pub inner : List ℕ
  pub spelled : b ≡ 34 ∷ inner ++ 34 ∷ []
  pub line : IsTrue (list_all is_in_string inner)

-- the thirty symbols
abbrev pub symbols : List (List ℕ)
symbols = symbols_of_three ++ symbols_of_two ++ map (λ c. c ∷ []) symbols_of_one

abbrev pub IsSymbol : List ℕ → Type 0
IsSymbol b = IsTrue (list_any (bytes_eq b) symbols)

-- `{**`, and bytes whose first `**}` is at their end
pub record IsUnread (b : List ℕ) : Type 0 where
  pub inner : List ℕ
  pub spelled : b ≡ codes "{**" ++ inner ++ codes "**}"
  pub ends : body_len (inner ++ codes "**}") ≡ Some (length inner)

-- the mode after a token: a body is read as tokens from its `{**` to its `**}`
abbrev pub behind : Reading → TokenKind → List ℕ → Reading
behind reading AnnexOpen b = Inside
behind reading AnnexClose b = Outside
behind reading kind b = after reading kind b

-- The bytes match a token of this class in this mode. In a body that is read as tokens, no token contains `**}`.
abbrev pub IsSpelled : Reading → TokenKind → List ℕ → Type 0
IsSpelled reading Word b = IsTrue (is_word b)
IsSpelled reading (Whole number) b = IsWhole number b
IsSpelled reading Real b = IsReal b
IsSpelled reading Quoted b = IsString b × (reading ≡ Inside → body_len b ≡ None)
IsSpelled reading Symbol b = IsSymbol b
IsSpelled reading AnnexOpen b = (reading ≡ AfterName) × (b ≡ codes "{**")
IsSpelled reading AnnexClose b = (reading ≡ Inside) × (b ≡ codes "**}")
IsSpelled reading Unread b = (reading ≡ Outside) × IsUnread b

-- Each of the consecutive tokens matches its class, and each body that is read as tokens is closed.
abbrev pub AreSpelled : List ℕ → Reading → List Token → Type 0
AreSpelled text reading [] = reading ≢ Inside
AreSpelled text reading (t ∷ ts) =
    IsSpelled reading t.kind (bytes_of text t) × AreSpelled text (behind reading t.kind (bytes_of text t)) ts

-- the token's bytes are a word, if it is one
abbrev pub IsWordAt : List ℕ → Token → Type 0
IsWordAt text t = t.kind ≡ Word → IsTrue (is_word (bytes_of text t))

-- These tokens are consecutive tokens of the text.
pub record AreAmongTokensOf (text : List ℕ) (tokens : List Token) : Type 0 where
  pub before : List Token
  pub behind : List Token
  pub lexed : AreTokensOf text (before ++ (tokens ++ behind))
