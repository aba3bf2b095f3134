-- Lines of words with a space between each two: which lines a text has, and which words a line has.
use Rattle.std.proofs.Common.{◌≡◌, ◌≢◌, ℕ, zero, suc, ◌/◌, ◌%◌, nat_eq, nat_lt, Bool, true, false, ◌&&◌, ◌==◌}
use Rattle.std.proofs.Common.{if◌then◌else◌, ℤ, pos, negsuc, List, [], ◌∷◌, All, refl, sym, ap, ap₂, ◌∙◌, arith}
use Rattle.std.specs.Prelude.{decimal}
use Rattle.std.specs.List.{list_all, slice_split, join_with_byte}
use Rattle.std.specs.Fmt.{digits, digits_onto, digit_glyph, signed_decimal}
use Rattle.std.proofs.lemmas.List.{append_cancel_right}
use Rattle.std.proofs.lemmas.List.Elements.{All-nil, All-cons, All-append}
use Rattle.std.proofs.lemmas.List.Splits.{slice_split_none, slice_split_at}
use Rattle.list_lemmas.proofs.Numbers.{digit-at_least}
use Rattle.pals_model.specs.RoundTexts.{text_of, is_line_feed}
use Rattle.pals_model.specs.proof.CompositionLaws.TextLines.{IsLine}
use Rattle.pals_model.proofs.TextLineLaws.{text_splits}
use Rattle.pals_model.proofs.WordBytes.{is_inner, inner, no_space, no_feed}
use Rattle.pals_runs.specs.JournalLines.{spaced}

-- ---- lines
-- texts of the same bytes have the same lines
pub same_lines : (lines others : List (List ℕ)) → All IsLine lines → All IsLine others → text_of lines ≡ text_of others
    → lines ≡ others
same_lines lines others each_line each_other same =
    append_cancel_right lines others ([] ∷ [])
    (sym (text_splits lines each_line) ∙ ap (slice_split is_line_feed) same ∙ text_splits others each_other)

-- ---- words
-- a word of such bytes; it may be empty
abbrev pub is_plain : List ℕ → Bool
is_plain word = list_all is_inner word

abbrev pub ArePlain : List (List ℕ) → Type 0
ArePlain [] = Unit {0}
ArePlain (word ∷ words) = (is_plain word ≡ true) × ArePlain words

words_are : (word : List ℕ) (words : List (List ℕ)) → ArePlain (word ∷ words)
    → slice_split (nat_eq 32) (spaced (word ∷ words)) ≡ word ∷ words
words_are word [] plain = slice_split_none (nat_eq 32) word (no_space word plain.0)
words_are word (next ∷ words) plain =
    slice_split_at (nat_eq 32) word 32 (join_with_byte 32 (next ∷ words)) (no_space word plain.0) refl
    ∙ ap (λ ws. word ∷ ws) (words_are next words plain.1)

-- lines of the same bytes have the same words
pub same_words : (word other : List ℕ) (words others : List (List ℕ)) → ArePlain (word ∷ words)
    → ArePlain (other ∷ others)
    → spaced (word ∷ words) ≡ spaced (other ∷ others) → word ∷ words ≡ other ∷ others
same_words word other words others plain plain_other same =
    sym (words_are word words plain) ∙ ap (slice_split (nat_eq 32)) same ∙ words_are other others plain_other

-- a line of such words is one
pub is_one_line : (words : List (List ℕ)) → ArePlain words → IsLine (spaced words)
is_one_line [] plain = All-nil (λ b. b ≢ 10)
is_one_line (word ∷ []) plain = no_feed word plain.0
is_one_line (word ∷ next ∷ words) plain =
    All-append (λ b. b ≢ 10) word (32 ∷ join_with_byte 32 (next ∷ words)) (no_feed word plain.0)
    (All-cons (λ b. b ≢ 10) 32 (join_with_byte 32 (next ∷ words)) (λ same. absurd (omega (arith, same)))
    (is_one_line (next ∷ words) plain.1))

-- ---- numbers

glyph_inner : (d : ℕ) → is_inner (digit_glyph false d) ≡ true
glyph_inner d =
    let least = digit-at_least (nat_lt d 10) d in
    inner (digit_glyph false d) (λ same. absurd (omega (arith, least, same)))
    (λ same. absurd (omega (arith, least, same)))

one_or_more : (b : Bool) (one more : List ℕ) → is_plain one ≡ true → is_plain more ≡ true
    → is_plain (if b then one else more) ≡ true
one_or_more true one more here there = here
one_or_more false one more here there = there

onto_plain : (k base n : ℕ) (acc : List ℕ) → is_plain acc ≡ true → is_plain (digits_onto k base false n acc) ≡ true
onto_plain zero base n acc plain = plain
onto_plain (suc k) base n acc plain =
    let more : is_plain (digit_glyph false (n % base) ∷ acc) ≡ true =
    ap₂ (λ a b. a && b) (glyph_inner (n % base)) plain in
    one_or_more (n / base == 0) (digit_glyph false (n % base) ∷ acc)
    (digits_onto k base false (n / base) (digit_glyph false (n % base) ∷ acc)) more
    (onto_plain k base (n / base) (digit_glyph false (n % base) ∷ acc) more)

pub decimal_plain : (n : ℕ) → is_plain (decimal n) ≡ true
unfolding digits
decimal_plain n = onto_plain 64 10 n [] refl

pub signed_plain : (z : ℤ) → is_plain (signed_decimal z) ≡ true
signed_plain (pos n) = decimal_plain n
signed_plain (negsuc n) = decimal_plain (suc n)
