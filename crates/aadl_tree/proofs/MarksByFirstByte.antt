-- A search for a keyword or symbol succeeds among the ones that begin with its first byte. For the look-up of marks.
use Rattle.std.proofs.Common.{◌≡◌, ◌==◌, ◌<◌, ℕ, Bool, true, false, cond, refl, ap, sym, List, [], ◌∷◌, length, Some}
use Rattle.std.proofs.Common.{None, zero, suc, arith}
use Rattle.std.specs.Prelude.{slice_index, ◌↔◌, IsTrue}
use Rattle.std.specs.List.{find, filter}
use Rattle.std.specs.Str.{bytes_eq, str_eq_ignore_ascii_case, str_to_ascii_lowercase}
use Rattle.std.specs.Char.{to_ascii_lowercase}
use Rattle.std.proofs.lemmas.Bool.{eq-eqb, eqb-true}
use Rattle.std.proofs.lemmas.Slice.Eq.{bytes_eq-Decides}
use Rattle.aadl_tree.specs.KeywordsAndSymbols.{mark_text, keywords, keyword_of, symbols, symbol_of}
use Rattle.aadl_tree.specs.proof.MarksByFirstByte.{keywords_from, symbols_from}

kept : {A : Type 0} (p : A → Bool) (x : A) (xs ys : List A) (a b : Bool) → p x ≡ a → (a ≡ true → b ≡ true)
    → find p xs ≡ find p ys → cond a (Some x) (find p xs) ≡ find p (cond b (x ∷ ys) ys)
kept p x xs ys true true e h same = rw e refl
kept p x xs ys true false e h same = absurd (let bad = h refl in cc)
kept p x xs ys false true e h same = rw e same
kept p x xs ys false false e h same = same

-- a search ignores elements that never match
find_kept : {A : Type 0} (p q : A → Bool) (xs : List A) → ((x : A) → p x ≡ true → q x ≡ true)
    → find p xs ≡ find p (filter q xs)
find_kept p q [] h = refl
find_kept p q (x ∷ xs) h = kept p x xs (filter q xs) (p x) (q x) refl (h x) (find_kept p q xs h)

first_lower : (a b : List ℕ) → 0 < length a → str_to_ascii_lowercase a ≡ str_to_ascii_lowercase b
    → to_ascii_lowercase (slice_index b 0) ≡ to_ascii_lowercase (slice_index a 0)
first_lower [] b h e = absurd (omega arith)
first_lower (x ∷ xs) [] h e = absurd cc
first_lower (x ∷ xs) (y ∷ ys) h e = cc

pub keyword_kept : (inside : Bool) (word : List ℕ) → 0 < length word
    → keyword_of inside word
    ≡ find (λ m. str_eq_ignore_ascii_case word (mark_text m))
    (keywords_from inside (to_ascii_lowercase (slice_index word 0)))
unfolding keywords_from
keyword_kept inside word h =
    find_kept (λ m. str_eq_ignore_ascii_case word (mark_text m))
    (λ m. to_ascii_lowercase (slice_index (mark_text m) 0) == to_ascii_lowercase (slice_index word 0))
    (keywords inside)
    (λ m e. eq-eqb _ _ (first_lower word (mark_text m) h
    ((bytes_eq-Decides (str_to_ascii_lowercase word) (str_to_ascii_lowercase (mark_text m))).0 e)))

pub symbol_kept : (bytes : List ℕ)
    → symbol_of bytes ≡ find (λ m. bytes_eq bytes (mark_text m)) (symbols_from (slice_index bytes 0))
unfolding symbols_from
symbol_kept bytes =
    find_kept (λ m. bytes_eq bytes (mark_text m)) (λ m. slice_index (mark_text m) 0 == slice_index bytes 0) symbols
    (λ m e. eq-eqb _ _ (ap (λ b. slice_index b 0) (sym ((bytes_eq-Decides bytes (mark_text m)).0 e))))

pub no_keyword : (inside : Bool) (word : List ℕ) → (length word == 0) ≡ true → keyword_of inside word ≡ None
no_keyword true [] h = refl
no_keyword false [] h = refl
no_keyword inside (x ∷ xs) h = absurd (let none = eqb-true (length (x ∷ xs)) 0 h in omega arith)

pub no_symbol : (bytes : List ℕ) → (length bytes == 0) ≡ true → symbol_of bytes ≡ None
no_symbol [] h = refl
no_symbol (x ∷ xs) h = absurd (let none = eqb-true (length (x ∷ xs)) 0 h in omega arith)

pub some_bytes : (n : ℕ) → (n == 0) ≡ false → 0 < n
some_bytes zero h = absurd cc
some_bytes (suc n) h = omega arith

unspelled_by : (a b : List ℕ) (found same : Bool) → IsTrue found ↔ (str_to_ascii_lowercase a ≡ str_to_ascii_lowercase b)
    → found ≡ false → str_eq_ignore_ascii_case a b ≡ same → same ≡ false
unspelled_by a b found true test wrong e =
    absurd (let yes = test.1 ((bytes_eq-Decides (str_to_ascii_lowercase a) (str_to_ascii_lowercase b)).0 e) in cc)
unspelled_by a b found false test wrong e = refl

-- bytes that differ even without regard to case
pub unspelled : (a b : List ℕ) (found : Bool) → IsTrue found ↔ (str_to_ascii_lowercase a ≡ str_to_ascii_lowercase b)
    → found ≡ false → str_eq_ignore_ascii_case a b ≡ false
unspelled a b found test wrong = unspelled_by a b found (str_eq_ignore_ascii_case a b) test wrong refl
