-- The tokens of a text, and its first fault.
use Rattle.std.specs.Prelude.{ℕ, ◌+◌, ◌-◌, ◌≡◌, ◌<◌, ◌≤◌, List, [], ◌∷◌, ◌++◌, length, take, drop}
use Rattle.std.specs.Str.{IsUtf8}
use Rattle.std.specs.Str.Lossy.{utf8_valid_len}
use Rattle.aadl_lex.specs.declared.token.Token.{Token}
use Rattle.aadl_lex.specs.declared.token.TokenKind.{TokenKind}
use Rattle.aadl_lex.specs.declared.token.TokenKind.TheVariants.{AnnexOpen, AnnexClose}
use Rattle.aadl_lex.specs.declared.fault.LexFault.{LexFault}
use Rattle.aadl_lex.specs.declared.fault.LexFault.TheVariants.{NotUtf8}
use Rattle.aadl_lex.specs.declared.rules.First.TheVariants.{Skipped, Taken, Body, Refused}
use Rattle.aadl_lex.specs.declared.rules.Reading.{Reading}
use Rattle.aadl_lex.specs.declared.rules.Reading.TheVariants.{Outside, Inside}
use Rattle.aadl_lex.specs.Rules.{first, after}

-- the token of this class and of n bytes from `at` on
abbrev pub token : TokenKind → ℕ → ℕ → Token
token kind at n = record { kind = kind; start = at; end = at + n }

-- the bytes of a token
abbrev pub bytes_of : List ℕ → Token → List ℕ
bytes_of text t = take (t.end - t.start) (drop t.start text)

-- From the byte `at` on, the text has these tokens.
pub data Lexes : Reading → List ℕ → ℕ → List Token → Type 0 where
  ended : (r : Reading) (text : List ℕ) (at : ℕ) → length text ≤ at → Lexes r text at []
  -- blanks and comments are skipped
  skips : (r : Reading) (text : List ℕ) (at n : ℕ) (ts : List Token) → at < length text
      → first r at (drop at text) ≡ Skipped n
      → Lexes r text (at + n) ts → Lexes r text at ts
  -- a token at this position, and the tokens after it
  takes : (r : Reading) (text : List ℕ) (at : ℕ) (kind : TokenKind) (n : ℕ) (ts : List Token) → at < length text
      → first r at (drop at text) ≡ Taken kind n
      → Lexes (after r kind (take n (drop at text))) text (at + n) ts → Lexes r text at (token kind at n ∷ ts)
  -- `{**` with a body of n bytes: the body's tokens are the tokens of the text that ends with the body
  reads : (r : Reading) (text : List ℕ) (at n : ℕ) (body ts : List Token) → at < length text
      → first r at (drop at text) ≡ Body n
      → Lexes Inside (take (at + 3 + n) text) (at + 3) body → Lexes Outside text (at + 3 + n + 3) ts
      → Lexes r text at (token AnnexOpen at 3 ∷ body ++ token AnnexClose (at + 3 + n) 3 ∷ ts)

-- A list grows by the tokens that the text has from the byte `at` on.
pub record Adds (r : Reading) (text : List ℕ) (at : ℕ) (before after : List Token) : Type 0 where
  pub tokens : List Token
  pub added : after ≡ before ++ tokens
  pub lexed : Lexes r text at tokens

-- From the byte `at` on, this is the first fault of the text.
pub data Faults : Reading → List ℕ → ℕ → LexFault → Type 0 where
  refused : (r : Reading) (text : List ℕ) (at : ℕ) (fault : LexFault) → at < length text
      → first r at (drop at text) ≡ Refused fault → Faults r text at fault
  past_skipped : (r : Reading) (text : List ℕ) (at n : ℕ) (fault : LexFault) → at < length text
      → first r at (drop at text) ≡ Skipped n
      → Faults r text (at + n) fault → Faults r text at fault
  past_token : (r : Reading) (text : List ℕ) (at : ℕ) (kind : TokenKind) (n : ℕ) (fault : LexFault) → at < length text
      → first r at (drop at text) ≡ Taken kind n
      → Faults (after r kind (take n (drop at text))) text (at + n) fault → Faults r text at fault
  in_body : (r : Reading) (text : List ℕ) (at n : ℕ) (fault : LexFault) → at < length text
      → first r at (drop at text) ≡ Body n
      → Faults Inside (take (at + 3 + n) text) (at + 3) fault → Faults r text at fault
  past_body : (r : Reading) (text : List ℕ) (at n : ℕ) (body : List Token) (fault : LexFault) → at < length text
      → first r at (drop at text) ≡ Body n
      → Lexes Inside (take (at + 3 + n) text) (at + 3) body → Faults Outside text (at + 3 + n + 3) fault
      → Faults r text at fault

-- These are the tokens of the text.
pub record AreTokensOf (text : List ℕ) (tokens : List Token) : Type 0 where
  pub utf8 : IsUtf8 text
  pub lexed : Lexes Outside text 0 tokens

-- This is the first fault of the text: `NotUtf8` precedes all others.
pub data IsFaultOf : List ℕ → LexFault → Type 0 where
  not_utf8 : (text : List ℕ) → (IsUtf8 text → ⊥) → IsFaultOf text (NotUtf8 (utf8_valid_len text))
  not_lexed : (text : List ℕ) (fault : LexFault) → IsUtf8 text → Faults Outside text 0 fault → IsFaultOf text fault

-- The tokens are in order between two positions and do not overlap, and each has at least one byte.
abbrev pub AreInOrder : ℕ → ℕ → List Token → Type 0
AreInOrder from to [] = from ≤ to
AreInOrder from to (t ∷ ts) = (from ≤ t.start) × (t.start < t.end) × AreInOrder t.end to ts
