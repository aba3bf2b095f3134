-- The lines of a text, cut off one after the other: for the lines of a row that an audit compares lines with.
use Rattle.std.proofs.Common.{◌≡◌, ◌≢◌, ℕ, suc, ◌+◌, ◌≤◌, cond, List, [], ◌∷◌, ◌++◌, length, take, drop, Some, refl}
use Rattle.std.proofs.Common.{sym, ap, ap₂, ◌∙◌, arith, append_assoc, length-append}
use Rattle.std.specs.Prelude.{bytes_eq, min, position}
use Rattle.std.specs.List.{position_from}
use Rattle.std.proofs.lemmas.Bool.{ne_eqb}
use Rattle.std.proofs.lemmas.Iterator.Adapters.{position_from-zero}
use Rattle.std.proofs.lemmas.List.{drop-drop, length-drop}
use Rattle.std.proofs.lemmas.List.Elements.{All-head, All-tail}
use Rattle.list_lemmas.proofs.ListOperations.{take-append_front}
use Rattle.pals_model.specs.proof.CompositionLaws.TextLines.{IsLine}
use Rattle.pals_model.specs.RoundTexts.{is_line_feed, text_of}

feed_from : (from : ℕ) (line rest : List ℕ) → IsLine line
    → position_from is_line_feed from (line ++ 10 ∷ rest) ≡ Some (from + length line)
feed_from from [] rest is = ap Some (omega arith)
feed_from from (b ∷ line) rest is =
    ap (λ t. cond t (Some from) (position_from is_line_feed (from + 1) (line ++ 10 ∷ rest)))
    (ne_eqb b 10 (All-head (λ byte. byte ≢ 10) b line is))
    ∙ feed_from (from + 1) line rest (All-tail (λ byte. byte ≢ 10) b line is) ∙ ap Some (omega arith)

-- the first line feed is at the end of the first line
pub feed_at : (text line rest : List ℕ) → IsLine line → text ≡ line ++ 10 ∷ rest
    → position is_line_feed text ≡ Some (length line)
feed_at text line rest is same =
    ap (position is_line_feed) same ∙ position_from-zero is_line_feed (line ++ 10 ∷ rest) ∙ feed_from 0 line rest is
    ∙ ap Some (omega arith)

left : (line rest : List ℕ) → drop (suc (length line)) (line ++ 10 ∷ rest) ≡ rest
left [] rest = refl
left (b ∷ line) rest = left line rest

-- the text of lines begins with the first one
pub first_of : (text shown : List ℕ) (lines : List (List ℕ)) → text ≡ text_of (shown ∷ lines)
    → text ≡ shown ++ 10 ∷ text_of lines
first_of text shown lines is = is ∙ append_assoc shown (10 ∷ []) (text_of lines)

pub start_is : (text line shown rest : List ℕ) (n : ℕ) → text ≡ shown ++ 10 ∷ rest → n ≡ length shown
    → bytes_eq line (take n text) ≡ bytes_eq line shown
start_is text line shown rest n is here =
    ap (bytes_eq line) (ap₂ (λ k t. take k t) here is ∙ take-append_front shown (10 ∷ rest))

-- the position after the first remaining line
pub next_place : (text shown rest : List ℕ) (place n next : ℕ) → place ≤ length text
    → drop place text ≡ shown ++ 10 ∷ rest → n ≡ length shown → next ≡ min (place + n + 1) (length text)
    → next ≡ place + suc (length shown)
next_place text shown rest place n next within is here at =
    let long = length-drop place text in
    let size : length (drop place text) ≡ length shown + suc (length rest) = ap length is
    ∙ length-append shown (10 ∷ rest) in
    omega (arith, long, size)

pub next_within : (text shown rest : List ℕ) (place next : ℕ) → place ≤ length text
    → drop place text ≡ shown ++ 10 ∷ rest → next ≡ place + suc (length shown) → next ≤ length text
next_within text shown rest place next within is at =
    let long = length-drop place text in
    let size : length (drop place text) ≡ length shown + suc (length rest) = ap length is
    ∙ length-append shown (10 ∷ rest) in
    omega (arith, long, size)

pub next_text : (text shown rest : List ℕ) (place next : ℕ) → drop place text ≡ shown ++ 10 ∷ rest
    → next ≡ place + suc (length shown) → drop next text ≡ rest
next_text text shown rest place next is at =
    ap (λ k. drop k text) at ∙ sym (drop-drop (suc (length shown)) place text) ∙ ap (drop (suc (length shown))) is
    ∙ left shown rest
