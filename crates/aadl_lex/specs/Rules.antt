-- The piece at the front of a text: the classes of tokens, and the order of their rules.
use Rattle.std.specs.Prelude.{ℕ, ◌+◌, ◌-◌, ◌*◌, ◌==◌, Bool, true, false, not, ◌&&◌, ◌||◌, nat_eq, nat_lt, nat_le, List}
use Rattle.std.specs.Prelude.{[], ◌∷◌, length, take, drop, take_while, filter, fold, slice_index, if◌then◌else◌, Option}
use Rattle.std.specs.Prelude.{Some, None, pos, codes, ◌<◌, ◌≤◌}
use Rattle.std.specs.List.{starts_with, list_any, list_all}
use Rattle.std.specs.Char.{is_ascii_alphabetic, is_ascii_digit}
use Rattle.std.specs.Str.{str_eq_ignore_ascii_case}
use Rattle.aadl_lex.specs.declared.token.TheConstants.{NAME_BYTES}
use Rattle.aadl_lex.specs.declared.token.TokenKind.{TokenKind}
use Rattle.aadl_lex.specs.declared.token.TokenKind.TheVariants.{Word, Whole, Real, Quoted, Symbol, Unread}
use Rattle.aadl_lex.specs.declared.fault.LexFault.TheVariants.{BadByte, OpenString, OpenAnnex, BigNumber, LongName}
use Rattle.aadl_lex.specs.declared.rules.First.{First}
use Rattle.aadl_lex.specs.declared.rules.First.TheVariants.{Skipped, Taken, Body, Refused}
use Rattle.aadl_lex.specs.declared.rules.Reading.{Reading}
use Rattle.aadl_lex.specs.declared.rules.Reading.TheVariants.{Outside, AfterName, Inside}

-- space, tab, LF and CR
abbrev pub is_blank : ℕ → Bool
is_blank c = c == 32 || c == 9 || c == 10 || c == 13

-- a line extends to its LF
abbrev pub is_in_line : ℕ → Bool
is_in_line c = not (c == 10)

-- ASCII letters, digits and `_`
abbrev pub is_in_word : ℕ → Bool
is_in_word c = is_ascii_alphabetic c || is_ascii_digit c || c == 95

-- all bytes except a quote and LF
abbrev pub is_in_string : ℕ → Bool
is_in_string c = not (c == 34) && not (c == 10)

-- the number of consecutive bytes at the front that pass the test
abbrev pub run : (ℕ → Bool) → List ℕ → ℕ
run p s = length (take_while p s)

-- the bytes are a word, from its letter to its end
abbrev pub is_word : List ℕ → Bool
is_word s = is_ascii_alphabetic (slice_index s 0) && list_all is_in_word s && nat_le (length s) NAME_BYTES

-- A word is the longest run of word bytes.
abbrev pub word_first : ℕ → List ℕ → First
word_first at s = if nat_le (run is_in_word s) NAME_BYTES then Taken Word (run is_in_word s) else Refused (LongName at)

-- A whole number is digits, with a `_` only before a digit.
abbrev pub whole_len : List ℕ → ℕ
whole_len [] = 0
whole_len (c ∷ cs) = if is_ascii_digit c || (c == 95 && is_ascii_digit (slice_index cs 0)) then 1 + whole_len cs else 0

-- the number that n and the digits among the bytes denote
abbrev pub decimal_from : ℕ → List ℕ → ℕ
decimal_from n s = fold (λ n d. 10 * n + (d - 48)) n (filter is_ascii_digit s)

abbrev pub decimal : List ℕ → ℕ
decimal s = decimal_from 0 s

-- the maximum whole number
abbrev pub most : ℕ
most = 9223372036854775807

abbrev pub whole_first : ℕ → List ℕ → First
whole_first at digits =
    if nat_le (decimal digits) most then Taken (Whole (pos (decimal digits))) (length digits) else Refused
    (BigNumber at)

-- A real is digits, a point and digits; its rule precedes the rule of whole numbers.
abbrev pub real_len : List ℕ → Option ℕ
real_len s =
    let whole = run is_ascii_digit s in
    let fraction = run is_ascii_digit (drop (whole + 1) s) in
    if slice_index s whole == 46 && nat_lt 0 fraction then Some (whole + 1 + fraction) else None

abbrev pub number_by : ℕ → List ℕ → Option ℕ → First
number_by at s (Some n) = Taken Real n
number_by at s None = whole_first at (take (whole_len s) s)

abbrev pub number_first : ℕ → List ℕ → First
number_first at s = number_by at s (real_len s)

-- A string extends to the next quote on its line.
abbrev pub string_first : ℕ → List ℕ → First
string_first at s =
    let inner = run is_in_string (drop 1 s) in
    if slice_index s (inner + 1) == 34 then Taken Quoted (inner + 2) else Refused (OpenString at)

-- the first position of `**}` in bytes, if the first byte has the position n
abbrev pub close_from : ℕ → List ℕ → Option ℕ
close_from n [] = None
close_from n (c ∷ cs) = if starts_with nat_eq (c ∷ cs) (codes "**}") then Some n else close_from (n + 1) cs

-- An annex body extends to the first `**}`: its length in bytes.
abbrev pub body_len : List ℕ → Option ℕ
body_len s = close_from 0 s

-- The body is read as tokens only after `behavior_specification`.
abbrev pub annex_by : Reading → ℕ → Option ℕ → First
annex_by reading at None = Refused (OpenAnnex at)
annex_by AfterName at (Some n) = Body n
annex_by reading at (Some n) = Taken Unread (n + 6)

abbrev pub annex_first : Reading → ℕ → List ℕ → First
annex_first reading at s = annex_by reading at (body_len (drop 3 s))

-- in a body that is read as tokens, `{**` opens nothing
abbrev pub can_open : Reading → Bool
can_open Inside = false
can_open reading = true

-- The symbols, by their lengths; the longest one is taken.
abbrev pub symbols_of_three : List (List ℕ)
symbols_of_three = codes "+=>" ∷ codes "]->" ∷ []

abbrev pub symbols_of_two : List (List ℕ)
symbols_of_two =
    codes ".." ∷ codes "::" ∷ codes "=>" ∷ codes "->" ∷ codes "-[" ∷ codes "!=" ∷ codes "<=" ∷ codes ">="
    ∷ codes ":=" ∷ []

abbrev pub symbols_of_one : List ℕ
symbols_of_one = codes ";:,.{}()[]+-*/=<>!'"

abbrev pub symbol_len : List ℕ → ℕ
symbol_len s =
    if list_any (starts_with nat_eq s) symbols_of_three then 3
    else if list_any (starts_with nat_eq s) symbols_of_two then 2
    else if list_any (λ c. c == slice_index s 0) symbols_of_one then 1
    else 0

abbrev pub symbol_first : ℕ → List ℕ → First
symbol_first at s = if symbol_len s == 0 then Refused (BadByte at) else Taken Symbol (symbol_len s)

-- The piece at the front of the bytes s, the first of which has the offset `at` in the text.
unfoldable pub first : Reading → ℕ → List ℕ → First
first reading at s =
    if is_blank (slice_index s 0) then Skipped 1
    else if starts_with nat_eq s (codes "--") then Skipped (run is_in_line s)
    else if is_ascii_alphabetic (slice_index s 0) then word_first at s
    else if is_ascii_digit (slice_index s 0) then number_first at s
    else if slice_index s 0 == 34 then string_first at s
    else if starts_with nat_eq s (codes "{**") && can_open reading then annex_first reading at s
    else symbol_first at s

-- the mode after a token of this class with these bytes
abbrev pub after : Reading → TokenKind → List ℕ → Reading
after Inside kind token = Inside
after reading Word token =
    if str_eq_ignore_ascii_case token (codes "behavior_specification") then AfterName else Outside
after reading kind token = Outside

-- it takes at least one byte, and at most the existing ones
abbrev pub IsWithin : ℕ → First → Type 0
IsWithin len (Skipped n) = (0 < n) × (n ≤ len)
IsWithin len (Taken kind n) = (0 < n) × (n ≤ len)
IsWithin len (Body n) = n + 6 ≤ len
IsWithin len (Refused fault) = Unit {0}
