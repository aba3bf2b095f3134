-- The spots of a list of terminals: the first one and the following ones. Each word among the terminals is a word,
-- also after one more terminal is added, and its bytes are a text.
use Rattle.std.proofs.Common.{◌≡◌, ℕ, zero, suc, ◌+◌, ◌<◌, ◌≤◌, true, ◌∙◌, sym, ap, List, [], ◌∷◌, ◌++◌, length, get_or}
use Rattle.std.proofs.Common.{drop, refl, arith, add-one, drop-cons, ◌&&◌}
use Rattle.std.specs.List.{list_all, All}
use Rattle.std.specs.Char.{is_ascii_alphabetic}
use Rattle.std.proofs.lemmas.List.{get_or_past}
use Rattle.std.specs.Prelude.{nat_le, nat_lt, Result, Ok, Err}
use Rattle.std.specs.Result.{MatchResult, IsOk}
use Rattle.std.specs.Str.{IsUtf8}
use Rattle.std.proofs.lemmas.Str.{IsUtf8-from_ascii}
use Rattle.std.proofs.lemmas.Bool.Decides.{nat_tests}
use Rattle.std.proofs.lemmas.List.Sums.{AllPass-from_list_all}
use Rattle.std.proofs.lemmas.List.Elements.{All-append}
use Rattle.std.specs.Cmp.{first_so, second_so}
use Rattle.list_lemmas.proofs.Booleans.{by_test}
use Rattle.aadl_lex.specs.declared.token.TheConstants.{NAME_BYTES}
use Rattle.aadl_lex.specs.Rules.{is_word, is_in_word}
use Rattle.aadl_grammar.specs.declared.terminal.Terminal.{Terminal}
use Rattle.aadl_grammar.specs.declared.terminal.TerminalClass.TheVariants as t
use Rattle.aadl_grammar.specs.proof.TerminalViews.{spot_of, spots_of, is_word_at, AreWords}

-- one terminal, and the terminals after it
pub spots_cons : (text : List ℕ) (ts : List Terminal) (at : ℕ) (d : Terminal) → at < length ts
    → spots_of text (drop at ts) ≡ spot_of text (get_or ts at d) ∷ spots_of text (drop (at + 1) ts)
spots_cons text ts at d less =
    ap (spots_of text) (drop-cons ts at d less)
    ∙ ap (λ n. spot_of text (get_or ts at d) ∷ spots_of text (drop n ts)) (sym (add-one at))

pub spots_past : (text : List ℕ) (ts : List Terminal) (at : ℕ) → length ts ≤ at → spots_of text (drop at ts) ≡ []
spots_past text [] zero le = refl
spots_past text [] (suc at) le = refl
spots_past text (x ∷ ts) zero le = absurd (omega arith)
spots_past text (x ∷ ts) (suc at) le = spots_past text ts at (omega arith)

pub words_push : (text : List ℕ) (ts : List Terminal) (x : Terminal) → AreWords text ts
    → (x.kind ≡ t.Word → is_word_at text x ≡ true) → AreWords text (ts ++ x ∷ [])
words_push text ts x all one =
    All-append (λ (y : Terminal). y.kind ≡ t.Word → is_word_at text y ≡ true) ts (x ∷ []) all only where
      only : All (λ (y : Terminal). y.kind ≡ t.Word → is_word_at text y ≡ true) (x ∷ [])
      only zero d less = one
      only (suc k) d less = absurd (omega arith)

byte_in_word : (c : ℕ) → is_in_word c ≡ true → c < 128
byte_in_word c h = grind (arith, nat_tests)

-- the bytes of words are ASCII, so a word is a text
pub word_is_text : (s : List ℕ) → is_word s ≡ true → IsUtf8 s
word_is_text s h =
    let all =
    AllPass-from_list_all is_in_word s
    (second_so (is_ascii_alphabetic (get_or s 0 0)) (list_all is_in_word s)
    (first_so (is_ascii_alphabetic (get_or s 0 0) && list_all is_in_word s)
    (nat_le (length s) NAME_BYTES) h)) in
    IsUtf8-from_ascii s (λ i.
    by_test (nat_lt i (length s)) (get_or s i 0 < 128)
    (λ less. let l : i < length s = grind (arith, nat_tests) in byte_in_word (get_or s i 0) (all i 0 l))
    (λ past. let le : length s ≤ i = grind (arith, nat_tests) in let e = get_or_past s i 0 le in omega arith))

pub ok_of : {X E : Type 0} (r : Result X E) (P : X → Type 0) (U : Type 0) (Q : E → Type 0)
    → MatchResult r P (λ e. (¬ U) × Q e) → U → IsOk r
ok_of (Ok x) P U Q m u = refl
ok_of (Err e) P U Q m u = absurd (m.0 u)

pub some_left : (text : List ℕ) (ts : List Terminal) (at : ℕ) → at < length ts → 0 < length (spots_of text (drop at ts))
some_left text [] at less = absurd (omega arith)
some_left text (x ∷ ts) zero less = omega arith
some_left text (x ∷ ts) (suc at) less = some_left text ts at (omega arith)
