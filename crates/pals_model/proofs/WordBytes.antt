-- For the laws of lines and names: which bytes words and paths have, and which they have not.
use Rattle.std.proofs.Common.{◌≡◌, ◌≢◌, ℕ, Bool, true, false, not, ◌&&◌, nat_eq, nat_le, List, [], ◌∷◌, ◌++◌, length}
use Rattle.std.proofs.Common.{All, refl, sym, ap, ap₂, ◌∙◌, subst, arith, ne_eqb}
use Rattle.std.specs.Prelude.{bytes_eq}
use Rattle.std.proofs.lemmas.Slice.Eq.{bytes_eq-Decides}
use Rattle.std.specs.List.{list_all, slice_split, join_with_byte}
use Rattle.std.proofs.lemmas.Bool.{and_parts, eqb-false, false_from_ne_true, not-true, true≢false}
use Rattle.std.proofs.lemmas.List.Elements.{All-nil, All-cons, All-append, All-head, All-tail, All-weaker}
use Rattle.std.proofs.lemmas.List.Splits.{join_with_byte-slice_split}
use Rattle.pals_base.specs.declared.limits.TheConstants.{NAME_BYTES}
use Rattle.pals_base.specs.Names.{is_word, is_word_byte, is_led_by_letter, is_dot, is_path}
use Rattle.pals_model.specs.proof.CompositionLaws.TextLines.{IsLine}

-- ---- equality
pub same_bytes : (xs : List ℕ) → bytes_eq xs xs ≡ true
same_bytes xs = (bytes_eq-Decides xs xs).1 refl

pub other_bytes : (xs ys : List ℕ) → xs ≢ ys → bytes_eq xs ys ≡ false
other_bytes xs ys apart = false_from_ne_true (bytes_eq xs ys) (λ same. apart ((bytes_eq-Decides xs ys).0 same))

-- ---- bytes
-- no byte of the text is this one
abbrev pub IsWithout : ℕ → List ℕ → Type 0
IsWithout byte text = All (λ b. b ≢ byte) text

pub all_pass : {X : Type 0} (p : X → Bool) (xs : List X) → list_all p xs ≡ true → All (λ x. p x ≡ true) xs
all_pass p [] passes = All-nil (λ x. p x ≡ true)
all_pass p (x ∷ xs) passes =
    let parts = and_parts (p x) (list_all p xs) passes in
    All-cons (λ y. p y ≡ true) x xs parts.0 (all_pass p xs parts.1)

-- every byte of a word is a byte of words
pub word_without : (byte : ℕ) (word : List ℕ) → is_word_byte byte ≡ false → is_word word ≡ true → IsWithout byte word
word_without byte word none is =
    let bytes = and_parts (nat_le (length word) NAME_BYTES && is_led_by_letter word) (list_all is_word_byte word) is in
    All-weaker (λ b. is_word_byte b ≡ true) (λ b. b ≢ byte)
    (λ b passes same. true≢false (sym passes ∙ ap is_word_byte same ∙ none)) word
    (all_pass is_word_byte word bytes.1)

joined_without : (byte : ℕ) (words : List (List ℕ)) → 46 ≢ byte → All (IsWithout byte) words
    → IsWithout byte (join_with_byte 46 words)
joined_without byte [] other each = All-nil (λ b. b ≢ byte)
joined_without byte (word ∷ []) other each = All-head (IsWithout byte) word [] each
joined_without byte (word ∷ next ∷ words) other each =
    All-append (λ b. b ≢ byte) word (46 ∷ join_with_byte 46 (next ∷ words))
    (All-head (IsWithout byte) word (next ∷ words) each)
    (All-cons (λ b. b ≢ byte) 46 (join_with_byte 46 (next ∷ words)) other
    (joined_without byte (next ∷ words) other (All-tail (IsWithout byte) word (next ∷ words) each)))

-- a path has no byte that is neither a `.` nor one of a word
pub path_without : (byte : ℕ) (path : List ℕ) → 46 ≢ byte → is_word_byte byte ≡ false → is_path path ≡ true
    → IsWithout byte path
path_without byte path other none is =
    subst (IsWithout byte) (join_with_byte-slice_split 46 path)
    (joined_without byte (slice_split is_dot path) other
    (All-weaker (λ w. is_word w ≡ true) (IsWithout byte) (λ w passes. word_without byte w none passes)
    (slice_split is_dot path) (all_pass is_word (slice_split is_dot path) is)))

-- ---- bytes within a word of a line
-- a byte that is neither a space nor a line feed
abbrev pub is_inner : ℕ → Bool
is_inner byte = not (nat_eq 32 byte) && not (nat_eq 10 byte)

abbrev pub NoSpace : List ℕ → Type 0
NoSpace word = All (λ byte. nat_eq 32 byte ≡ false) word

pub inner : (byte : ℕ) → byte ≢ 32 → byte ≢ 10 → is_inner byte ≡ true
inner byte space feed =
    ap₂ (λ a b. not a && not b) (ne_eqb 32 byte (λ same. space (sym same))) (ne_eqb 10 byte (λ same. feed (sym same)))

all_inner : (word : List ℕ) → IsWithout 32 word → IsWithout 10 word → list_all is_inner word ≡ true
all_inner [] spaces feeds = refl
all_inner (byte ∷ word) spaces feeds =
    ap₂ (λ a b. a && b) (inner byte (All-head (λ b. b ≢ 32) byte word spaces) (All-head (λ b. b ≢ 10) byte word feeds))
    (all_inner word (All-tail (λ b. b ≢ 32) byte word spaces) (All-tail (λ b. b ≢ 10) byte word feeds))

-- what an inner byte is not
not_space : (byte : ℕ) → is_inner byte ≡ true → nat_eq 32 byte ≡ false
not_space byte passes = not-true (nat_eq 32 byte) (and_parts (not (nat_eq 32 byte)) (not (nat_eq 10 byte)) passes).0

not_feed : (byte : ℕ) → is_inner byte ≡ true → byte ≢ 10
not_feed byte passes same =
    eqb-false 10 byte (not-true (nat_eq 10 byte)
    (and_parts (not (nat_eq 32 byte)) (not (nat_eq 10 byte)) passes).1) (sym same)

pub no_space : (word : List ℕ) → list_all is_inner word ≡ true → NoSpace word
no_space word passes =
    All-weaker (λ b. is_inner b ≡ true) (λ b. nat_eq 32 b ≡ false) not_space word (all_pass is_inner word passes)

pub no_feed : (word : List ℕ) → list_all is_inner word ≡ true → IsLine word
no_feed word passes = All-weaker (λ b. is_inner b ≡ true) (λ b. b ≢ 10) not_feed word (all_pass is_inner word passes)

pub word_inner : (word : List ℕ) → is_word word ≡ true → list_all is_inner word ≡ true
word_inner word is = all_inner word (word_without 32 word refl is) (word_without 10 word refl is)

pub path_inner : (path : List ℕ) → is_path path ≡ true → list_all is_inner path ≡ true
path_inner path is =
    all_inner path (path_without 32 path (λ same. absurd (omega (arith, same))) refl is)
    (path_without 10 path (λ same. absurd (omega (arith, same))) refl is)

-- ---- the last separator
has_separator : (byte : ℕ) (xs ys : List ℕ) → IsWithout byte (xs ++ byte ∷ ys) → ⊥
has_separator byte [] ys without = All-head (λ b. b ≢ byte) byte ys without refl
has_separator byte (x ∷ xs) ys without = has_separator byte xs ys (All-tail (λ b. b ≢ byte) x (xs ++ byte ∷ ys) without)

-- if no separator follows it, a text splits uniquely at its last separator
pub splits_at_last : (byte : ℕ) (xs ys us vs : List ℕ) → IsWithout byte ys → IsWithout byte vs
    → xs ++ byte ∷ ys ≡ us ++ byte ∷ vs → (xs ≡ us) × (ys ≡ vs)
splits_at_last byte [] ys [] vs left right same = (refl, cc)
splits_at_last byte [] ys (u ∷ us) vs left right same =
    let tail : ys ≡ us ++ byte ∷ vs = cc in
    absurd (has_separator byte us vs (subst (IsWithout byte) tail left))
splits_at_last byte (x ∷ xs) ys [] vs left right same =
    let tail : xs ++ byte ∷ ys ≡ vs = cc in
    absurd (has_separator byte xs ys (subst (IsWithout byte) (sym tail) right))
splits_at_last byte (x ∷ xs) ys (u ∷ us) vs left right same =
    let head : x ≡ u = cc in
    let tail : xs ++ byte ∷ ys ≡ us ++ byte ∷ vs = cc in
    let rest = splits_at_last byte xs ys us vs left right tail in
    let front : xs ≡ us = rest.0 in
    (cc, rest.1)
