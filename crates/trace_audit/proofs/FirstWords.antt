-- The first word of a line and the rest, as `split_once` cuts them.
use Rattle.std.proofs.Common.{◌≡◌, ◌≢◌, ◌∙◌, ℕ, ◌<◌, ◌≤◌, nat_eq, false, List, [], ◌∷◌, length, All, Option, Some, None}
use Rattle.std.proofs.Common.{refl, sym, ap, arith, get_or}
use Rattle.std.specs.Option.{MatchOption}
use Rattle.std.specs.List.{slice_split}
use Rattle.std.proofs.lemmas.Bool.{eqb-true, false_from_ne_true}
use Rattle.std.proofs.lemmas.List.Elements.{All-from_get_or}
use Rattle.std.proofs.lemmas.List.Splits.{length-slice_split, slice_split_none, slice_split_at}
use Rattle.std.proofs.lemmas.Str.Pattern.{IsSplitOnceResult, split_parts}
use denote.Ref.{Bor}
use Rattle.list_lemmas.proofs.Numbers.{nat_eq-swapped}
use Rattle.run_laws.specs.LineForms.{LineForm, at_end, words_of}
use Rattle.trace_audit.specs.proof.RemainingWords.{is_space}

-- ---- the space on either side

pub same_words : (line : List ℕ) → slice_split is_space line ≡ words_of line
same_words line = λ i. slice_split (λ b. nat_eq-swapped b 32 i) line

-- ---- a line cut at its first space
differs : (b : ℕ) → b ≢ 32 → nat_eq 32 b ≡ false
differs b other = false_from_ne_true (nat_eq 32 b) (λ same. other (sym (eqb-true 32 b same)))

no_space : (xs : List ℕ) → ((i : ℕ) → i < length xs → get_or xs i 0 ≢ 32) → All (λ b. nat_eq 32 b ≡ false) xs
no_space xs free = All-from_get_or (λ b. nat_eq 32 b ≡ false) xs 0 (λ i within. differs (get_or xs i 0) (free i within))

first_word : (line : List ℕ) (r : Option (Bor (List ℕ) × Bor (List ℕ))) → IsSplitOnceResult 32 line r
    → MatchOption r (words_of line ≡ line ∷ []) (λ x. words_of line ≡ x.0.now ∷ words_of x.1.now)
first_word line None cut =
    slice_split_none (nat_eq 32) line (no_space line (split_parts 32 line None cut (omega arith)))
first_word line (Some x) cut =
    let parts = split_parts 32 line (Some x) cut (omega arith) in
    ap (λ l. slice_split (nat_eq 32) l) parts.0
    ∙ slice_split_at (nat_eq 32) x.0.now 32 x.1.now (no_space x.0.now parts.1) refl

pub uncut : (line : List ℕ) → IsSplitOnceResult 32 line None → words_of line ≡ line ∷ []
uncut line cut = first_word line None cut

pub cut_once : (line : List ℕ) (word more : Bor (List ℕ)) → IsSplitOnceResult 32 line (Some (word, more))
    → words_of line ≡ word.now ∷ words_of more.now
cut_once line word more cut = first_word line (Some (word, more)) cut

-- ---- the end of a line
none_left : (form : LineForm) (words : List (List ℕ)) → 1 ≤ length words → at_end form words ≡ None
none_left form [] some = absurd (omega arith)
none_left form (word ∷ words) some = refl

pub words_left : (form : LineForm) (rest : List ℕ) → at_end form (words_of rest) ≡ None
words_left form rest = none_left form (words_of rest) (let size = length-slice_split (nat_eq 32) rest in omega arith)
