-- Each text has tokens or a first lexical fault: the law `tokens_or_fault`.
use Rattle.std.proofs.Common.{◌≡◌, ◌⊎◌, inl, inr, ℕ, zero, suc, ◌+◌, ◌<◌, ◌≤◌, Bool, true, false, cond, List, [], ◌∷◌}
use Rattle.std.proofs.Common.{◌++◌, length, take, drop, Option, Some, None, arith, refl, nat_eq, nat_le, ◌&&◌}
use Rattle.std.proofs.lemmas.Bool.{cases_lt}
use Rattle.std.proofs.lemmas.List.{length-take, length-drop}
use Rattle.std.proofs.lemmas.Str.{IsUtf8-from_is_utf8, is_utf8-from_IsUtf8}
use Rattle.std.specs.Prelude.{◌≢◌, ◌==◌, codes, slice_index}
use Rattle.std.specs.List.{starts_with}
use Rattle.std.specs.Char.{is_ascii_digit, is_ascii_alphabetic}
use Rattle.std.specs.Str.{IsUtf8, is_utf8}
use Rattle.std.specs.Str.Lossy.{utf8_valid_len}
use Rattle.aadl_lex.specs.declared.token.Token.{Token}
use Rattle.aadl_lex.specs.declared.token.TokenKind.{TokenKind}
use Rattle.aadl_lex.specs.declared.token.TokenKind.TheVariants.{AnnexOpen, AnnexClose}
use Rattle.aadl_lex.specs.declared.token.TheConstants.{NAME_BYTES}
use Rattle.aadl_lex.specs.declared.fault.LexFault.{LexFault}
use Rattle.aadl_lex.specs.declared.fault.LexFault.TheVariants.{NotUtf8, Memory}
use Rattle.aadl_lex.specs.declared.rules.First.{First}
use Rattle.aadl_lex.specs.declared.rules.First.TheVariants.{Skipped, Taken, Body, Refused}
use Rattle.aadl_lex.specs.declared.rules.Reading.{Reading}
use Rattle.aadl_lex.specs.declared.rules.Reading.TheVariants.{Outside, AfterName, Inside}
use Rattle.aadl_lex.specs.Rules.{is_blank, run, is_in_word, word_first, whole_len, decimal, most, whole_first}
use Rattle.aadl_lex.specs.Rules.{number_by, real_len, is_in_string, string_first, body_len, annex_by, can_open}
use Rattle.aadl_lex.specs.Rules.{symbol_len, symbol_first, first, after, IsWithin}
use Rattle.aadl_lex.specs.TokensAndFirstFaults.{token, Lexes, ended, skips, takes, reads, Faults, refused, past_skipped}
use Rattle.aadl_lex.specs.TokensAndFirstFaults.{past_token}
use Rattle.aadl_lex.specs.TokensAndFirstFaults.{in_body, past_body, not_utf8, not_lexed}
use Rattle.aadl_lex.proofs.TokenOrder.{stands_within}
use Rattle.aadl_grammar.specs.proof.TokensTreesAndFaults.{HasTokens, HasLexFault}

-- ---- no rule gives the fault `Memory`
abbrev IsNamed : First → Type 0
IsNamed (Refused fault) = fault ≢ Memory
IsNamed _ = Unit {0}

if_named : (b : Bool) (x y : First) → IsNamed x → IsNamed y → IsNamed (cond b x y)
if_named true x y p q = p
if_named false x y p q = q

word_named : (at : ℕ) (s : List ℕ) → IsNamed (word_first at s)
word_named at s = if_named (nat_le (run is_in_word s) NAME_BYTES) _ _ tt (λ e. absurd cc)

whole_named : (at : ℕ) (digits : List ℕ) → IsNamed (whole_first at digits)
whole_named at digits = if_named (nat_le (decimal digits) most) _ _ tt (λ e. absurd cc)

number_by_named : (at : ℕ) (s : List ℕ) (real : Option ℕ) → IsNamed (number_by at s real)
number_by_named at s (Some n) = tt
number_by_named at s None = whole_named at (take (whole_len s) s)

string_named : (at : ℕ) (s : List ℕ) → IsNamed (string_first at s)
string_named at s = if_named (slice_index s (run is_in_string (drop 1 s) + 1) == 34) _ _ tt (λ e. absurd cc)

annex_named : (reading : Reading) (at : ℕ) (body : Option ℕ) → IsNamed (annex_by reading at body)
annex_named reading at None = λ e. absurd cc
annex_named AfterName at (Some n) = tt
annex_named Outside at (Some n) = tt
annex_named Inside at (Some n) = tt

symbol_named : (at : ℕ) (s : List ℕ) → IsNamed (symbol_first at s)
symbol_named at s = if_named (symbol_len s == 0) _ _ (λ e. absurd cc) tt

first_named : (reading : Reading) (at : ℕ) (s : List ℕ) → IsNamed (first reading at s)
unfolding first
first_named reading at s =
    if_named (is_blank (slice_index s 0)) _ _ tt
    (if_named (starts_with nat_eq s (codes "--")) _ _ tt
    (if_named (is_ascii_alphabetic (slice_index s 0)) _ _ (word_named at s)
    (if_named (is_ascii_digit (slice_index s 0)) _ _ (number_by_named at s (real_len s))
    (if_named (slice_index s 0 == 34) _ _ (string_named at s)
    (if_named (starts_with nat_eq s (codes "{**") && can_open reading) _ _
    (annex_named reading at (body_len (drop 3 s)))
    (symbol_named at s))))))

-- ---- from a byte on
abbrev HasFaults : Reading → List ℕ → ℕ → Type 0
HasFaults r text at = (fault : LexFault) × (fault ≢ Memory) × Faults r text at fault

abbrev EndsFrom : Reading → List ℕ → ℕ → Type 0
EndsFrom r text at = ((tokens : List Token) × Lexes r text at tokens) ⊎ HasFaults r text at

-- the byte determines how the text ends from here on, if this is known for all later bytes
abbrev Below : ℕ → Type 0
Below n = (r : Reading) (text : List ℕ) (at : ℕ) → length text ≤ at + n → EndsFrom r text at

behind_skipped : (r : Reading) (text : List ℕ) (at n : ℕ) → at < length text → first r at (drop at text) ≡ Skipped n
    → EndsFrom r text (at + n) → EndsFrom r text at
behind_skipped r text at n less e (inl (ts, l)) = inl (ts, skips r text at n ts less e l)
behind_skipped r text at n less e (inr (f, m, l)) = inr (f, m, past_skipped r text at n f less e l)

behind_taken : (r : Reading) (text : List ℕ) (at : ℕ) (kind : TokenKind) (n : ℕ) → at < length text
    → first r at (drop at text) ≡ Taken kind n
    → EndsFrom (after r kind (take n (drop at text))) text (at + n) → EndsFrom r text at
behind_taken r text at kind n less e (inl (ts, l)) = inl (token kind at n ∷ ts, takes r text at kind n ts less e l)
behind_taken r text at kind n less e (inr (f, m, l)) = inr (f, m, past_token r text at kind n f less e l)

behind_body : (r : Reading) (text : List ℕ) (at n : ℕ) → at < length text → first r at (drop at text) ≡ Body n
    → EndsFrom Inside (take (at + 3 + n) text) (at + 3) → EndsFrom Outside text (at + 3 + n + 3) → EndsFrom r text at
behind_body r text at n less e (inr (f, m, l)) rest = inr (f, m, in_body r text at n f less e l)
behind_body r text at n less e (inl (body, b)) (inl (ts, l)) =
    inl (token AnnexOpen at 3 ∷ body ++ token AnnexClose (at + 3 + n) 3 ∷ ts, reads r text at n body ts less e b l)
behind_body r text at n less e (inl (body, b)) (inr (f, m, l)) = inr (f, m, past_body r text at n body f less e b l)

by_first : (n : ℕ) → Below n → (r : Reading) (text : List ℕ) (at : ℕ) → length text ≤ at + suc n → at < length text
    → (what : First) → first r at (drop at text) ≡ what → IsWithin (length (drop at text)) what → IsNamed what
    → EndsFrom r text at
by_first n below r text at fuel less (Skipped m) e w named =
    behind_skipped r text at m less e (below r text (at + m) (omega (arith, w.0)))
by_first n below r text at fuel less (Taken kind m) e w named =
    behind_taken r text at kind m less e
    (below (after r kind (take m (drop at text))) text (at + m) (omega (arith, w.0)))
by_first n below r text at fuel less (Body m) e w named =
    behind_body r text at m less e
    (below Inside (take (at + 3 + m) text) (at + 3)
    (omega (arith, w, length-take (at + 3 + m) text, length-drop at text)))
    (below Outside text (at + 3 + m + 3) (omega (arith, w)))
by_first n below r text at fuel less (Refused fault) e w named = inr (fault, named, refused r text at fault less e)

from_by : (n : ℕ) → Below n → (r : Reading) (text : List ℕ) (at : ℕ) → length text ≤ at + suc n
    → (at < length text) ⊎ (length text ≤ at) → EndsFrom r text at
from_by n below r text at fuel (inr past) = inl ([], ended r text at past)
from_by n below r text at fuel (inl less) =
    by_first n below r text at fuel less (first r at (drop at text)) refl
    (stands_within r text at (first r at (drop at text)) less refl) (first_named r at (drop at text))

from_byte : (n : ℕ) → Below n
from_byte zero r text at fuel = inl ([], ended r text at (omega arith))
from_byte (suc n) r text at fuel = from_by n (from_byte n) r text at fuel (cases_lt at (length text))

-- ---- the whole text
whole : (text : List ℕ) → IsUtf8 text → EndsFrom Outside text 0 → HasTokens text ⊎ HasLexFault text
whole text utf8 (inl (ts, l)) = inl (ts, record { utf8 = utf8; lexed = l })
whole text utf8 (inr (f, m, l)) = inr (f, m, not_lexed text f utf8 l)

by_utf8 : (text : List ℕ) (b : Bool) → is_utf8 text ≡ b → HasTokens text ⊎ HasLexFault text
by_utf8 text true e = whole text (IsUtf8-from_is_utf8 text e) (from_byte (length text) Outside text 0 (omega arith))
by_utf8 text false e =
    inr (
      NotUtf8 (utf8_valid_len text),
      (λ h. absurd cc),
      not_utf8 text (λ u. let t = is_utf8-from_IsUtf8 text u in absurd cc),
    )

pub tokens_or_fault : (text : List ℕ) → HasTokens text ⊎ HasLexFault text
tokens_or_fault text = by_utf8 text (is_utf8 text) refl
