-- Words with a space between each two, cut at their spaces again.
use Rattle.std.proofs.Common.{◌≡◌, ◌≢◌, ℕ, nat_eq, Bool, true, not, ◌&&◌, List, [], ◌∷◌, length, refl, ap, ap₂, ◌∙◌}
use Rattle.std.proofs.Common.{arith}
use Rattle.std.specs.List.{list_all, join_with_byte}
use Rattle.std.proofs.lemmas.Bool.{and_parts, eqb-true, false_from_ne_true}
use Rattle.std.proofs.lemmas.List.Elements.{All-nil, All-cons, All-append}
use Rattle.std.proofs.lemmas.List.Splits.{slice_split_none, slice_split_at}
use Rattle.pals_model.specs.proof.CompositionLaws.TextLines.{IsLine}
use Rattle.pals_model.proofs.WordBytes.{is_inner, no_space, no_feed}
use Rattle.pals_runs.specs.JournalLines.{spaced}
use Rattle.run_laws.specs.LineForms.{is_there, words_of}

-- ---- plain words
-- a word of one or more such bytes
abbrev pub is_plain : List ℕ → Bool
is_plain word = list_all is_inner word && is_there word

pub there_cons : (byte : ℕ) (word : List ℕ) → is_there (byte ∷ word) ≡ true
there_cons byte word =
    ap not
    (false_from_ne_true (nat_eq (length (byte ∷ word)) 0)
    (λ same. let none : length (byte ∷ word) ≡ 0 = eqb-true (length (byte ∷ word)) 0 same in absurd (omega arith)))

-- ---- lines of plain words
pub data ArePlain : List (List ℕ) → Type 0 where
  end : ArePlain []
  before : {word : List ℕ} {words : List (List ℕ)} → is_plain word ≡ true → ArePlain words → ArePlain (word ∷ words)

-- the words between the spaces are these
pub words_are : (word : List ℕ) (words : List (List ℕ)) → ArePlain (word ∷ words)
    → words_of (spaced (word ∷ words)) ≡ word ∷ words
words_are word [] (before plain rest) =
    let parts = and_parts (list_all is_inner word) (is_there word) plain in
    slice_split_none (nat_eq 32) word (no_space word parts.0)
words_are word (next ∷ words) (before plain rest) =
    let parts = and_parts (list_all is_inner word) (is_there word) plain in
    slice_split_at (nat_eq 32) word 32 (join_with_byte 32 (next ∷ words)) (no_space word parts.0) refl
    ∙ ap (λ ws. word ∷ ws) (words_are next words rest)

-- none is empty
pub all_there : (words : List (List ℕ)) → ArePlain words → list_all is_there words ≡ true
all_there [] end = refl
all_there (word ∷ words) (before plain rest) =
    let parts = and_parts (list_all is_inner word) (is_there word) plain in
    ap₂ (λ a b. a && b) parts.1 (all_there words rest)

-- and nowhere is a line feed
pub is_one_line : (words : List (List ℕ)) → ArePlain words → IsLine (spaced words)
is_one_line [] end = All-nil (λ b. b ≢ 10)
is_one_line (word ∷ []) (before plain rest) = no_feed word (and_parts (list_all is_inner word) (is_there word) plain).0
is_one_line (word ∷ next ∷ words) (before plain rest) =
    All-append (λ b. b ≢ 10) word (32 ∷ join_with_byte 32 (next ∷ words))
    (no_feed word (and_parts (list_all is_inner word) (is_there word) plain).0)
    (All-cons (λ b. b ≢ 10) 32 (join_with_byte 32 (next ∷ words)) (λ same. absurd (omega (arith, same)))
    (is_one_line (next ∷ words) rest))
