-- The longest run of word bytes that begins with a letter is a word.
use Rattle.std.proofs.Common.{◌≡◌, ℕ, suc, ◌+◌, ◌<◌, Bool, true, false, cond, ◌&&◌, ◌∙◌, ap, ap₂, refl, List, [], ◌∷◌}
use Rattle.std.proofs.Common.{length, take, get_or, arith, nat_le}
use Rattle.std.specs.Prelude.{take_while}
use Rattle.std.specs.List.{list_all, prefix_len}
use Rattle.std.specs.Char.{is_ascii_alphabetic}
use Rattle.std.proofs.lemmas.List.Folds.{length-prefix_len}
use Rattle.aadl_lex.specs.declared.token.TheConstants.{NAME_BYTES}
use Rattle.aadl_lex.specs.Rules.{is_in_word, run, is_word}

take_run : (p : ℕ → Bool) (s : List ℕ) → take (run p s) s ≡ take_while p s
take_run p s = ap (λ n. take n s) (length-prefix_len p s)

-- one more passing byte at the front
taken_front : (n c : ℕ) (cs : List ℕ) → take (1 + n) (c ∷ cs) ≡ c ∷ take n cs
taken_front n c cs = let e : 1 + n ≡ suc n = omega arith in ap (λ m. take m (c ∷ cs)) e

all_front : (p : ℕ → Bool) (b : Bool) (c : ℕ) (cs : List ℕ) → p c ≡ b → list_all p (take (prefix_len p cs) cs) ≡ true
    → list_all p (take (cond b (1 + prefix_len p cs) 0) (c ∷ cs)) ≡ true
all_front p true c cs e all = ap (list_all p) (taken_front (prefix_len p cs) c cs) ∙ ap₂ (λ x y. x && y) e all
all_front p false c cs e all = refl

all_run : (p : ℕ → Bool) (s : List ℕ) → list_all p (take_while p s) ≡ true
all_run p [] = refl
all_run p (c ∷ cs) = all_front p (p c) c cs refl (all_run p cs)

pub all_taken : (p : ℕ → Bool) (s : List ℕ) → list_all p (take (run p s) s) ≡ true
all_taken p s = ap (list_all p) (take_run p s) ∙ all_run p s

-- a letter is a byte of words
letter_in_word : (c : ℕ) → is_ascii_alphabetic c ≡ true → is_in_word c ≡ true
letter_in_word c h = rw h refl

front_of_run : (p : ℕ → Bool) (c : ℕ) (cs : List ℕ) → p c ≡ true → get_or (take_while p (c ∷ cs)) 0 0 ≡ c
front_of_run p c cs h =
    ap (λ b. get_or (take (cond b (1 + prefix_len p cs) 0) (c ∷ cs)) 0 0) h
    ∙ ap (λ l. get_or l 0 0) (taken_front (prefix_len p cs) c cs)

pub run_is_word : (s : List ℕ) → 0 < length s → is_ascii_alphabetic (get_or s 0 0) ≡ true
    → nat_le (run is_in_word s) NAME_BYTES ≡ true → is_word (take (run is_in_word s) s) ≡ true
run_is_word [] some letter short = absurd (omega arith)
run_is_word (c ∷ cs) some letter short =
    let front : is_ascii_alphabetic (get_or (take_while is_in_word (c ∷ cs)) 0 0) ≡ true =
    ap is_ascii_alphabetic (front_of_run is_in_word c cs (letter_in_word c letter)) ∙ letter in
    ap is_word (take_run is_in_word (c ∷ cs))
    ∙ ap₂ (λ x y. (x && y) && nat_le (run is_in_word (c ∷ cs)) NAME_BYTES) front
    (all_run is_in_word (c ∷ cs)) ∙ short
