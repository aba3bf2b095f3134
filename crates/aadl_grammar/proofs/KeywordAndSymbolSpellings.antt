-- A keyword or symbol of a text is read as the same one if it has its canonical spelling; and a keyword is not a name
-- of an annex.
use Rattle.std.proofs.Common.{◌≡◌, ℕ, Bool, true, false, ◌∙◌, sym, ap, refl, List, [], ◌∷◌, map, length, arith, Option}
use Rattle.std.proofs.Common.{Some}
use Rattle.std.specs.Prelude.{codes, if◌then◌else◌}
use Rattle.std.specs.List.{find}
use Rattle.std.specs.Str.{bytes_eq, str_eq_ignore_ascii_case, str_to_ascii_lowercase}
use Rattle.std.proofs.lemmas.Bool.{false_from_ne_true}
use Rattle.std.proofs.lemmas.Slice.Eq.{bytes_eq-Decides}
use Rattle.std.proofs.lemmas.Option.{same_Some}
use Rattle.list_lemmas.proofs.Elements.{find-passes}
use Rattle.aadl_lex.specs.declared.token.TokenKind.TheVariants.{Word, Symbol}
use Rattle.aadl_lex.specs.declared.rules.Reading.{Reading}
use Rattle.aadl_lex.specs.declared.rules.Reading.TheVariants.{Outside, AfterName, Inside}
use Rattle.aadl_lex.specs.Rules.{after}
use Rattle.aadl_tree.specs.declared.mark.Mark.{Mark}
use Rattle.aadl_tree.specs.declared.mark.Mark.TheVariants as k
use Rattle.aadl_tree.specs.KeywordsAndSymbols.{mark_text, keywords, symbols, keyword_of, symbol_of}
use Rattle.aadl_tree.specs.Terminals.{mark}
use Rattle.aadl_grammar.proofs.HeadsAndTails.{heads, tails}
use Rattle.aadl_grammar.proofs.PossibleTerminals.{is_inside, behind}
use Rattle.aadl_grammar.proofs.TerminalRelexing.{keyword_then, symbol_then}

find_by : (f : Mark → Option Mark) (x m : Mark) (b : Bool) (y : Option Mark) → f x ≡ Some x
    → (y ≡ Some m → f m ≡ Some m) → (if b then Some x else y) ≡ Some m → f m ≡ Some m
find_by f x m true y here go e = let same : x ≡ m = same_Some x m e in sym (ap f same) ∙ here ∙ ap Some same
find_by f x m false y here go e = go e

-- an element found in a list that f fixes is fixed
find_fixed : (f : Mark → Option Mark) (q : Mark → Bool) (xs : List Mark) (m : Mark) → map f xs ≡ map Some xs
    → find q xs ≡ Some m → f m ≡ Some m
find_fixed f q [] m e h = absurd cc
find_fixed f q (x ∷ xs) m e h =
    find_by f x m (q x) (find q xs) (heads (f x) (Some x) (map f xs) (map Some xs) e)
    (λ g. find_fixed f q xs m (tails (f x) (Some x) (map f xs) (map Some xs) e) g) h

passes_by : (q : Mark → Bool) (x m : Mark) (b : Bool) (y : Option Mark) → q x ≡ b → (y ≡ Some m → q m ≡ true)
    → (if b then Some x else y) ≡ Some m → q m ≡ true
passes_by q x m true y here go e = sym (ap q (same_Some x m e)) ∙ here
passes_by q x m false y here go e = go e

keywords_read : (inside : Bool)
    → map (λ m. keyword_of inside (mark_text m)) (keywords inside) ≡ map Some (keywords inside)
keywords_read true = refl
keywords_read false = refl

pub keyword_fixed : (inside : Bool) (b : List ℕ) (m : Mark) → keyword_of inside b ≡ Some m
    → keyword_of inside (mark_text m) ≡ Some m
keyword_fixed inside b m e =
    find_fixed (λ x. keyword_of inside (mark_text x)) (λ x. str_eq_ignore_ascii_case b (mark_text x)) (keywords inside)
    m (keywords_read inside) e

pub symbol_fixed : (b : List ℕ) (m : Mark) → symbol_of b ≡ Some m → symbol_of (mark_text m) ≡ Some m
symbol_fixed b m e = find_fixed (λ x. symbol_of (mark_text x)) (λ x. bytes_eq b (mark_text x)) symbols m refl e

lower_length : (b : List ℕ) → length (str_to_ascii_lowercase b) ≡ length b
lower_length [] = refl
lower_length (c ∷ b) = let e = lower_length b in omega arith

same_length : (a b : List ℕ) → str_eq_ignore_ascii_case a b ≡ true → length a ≡ length b
same_length a b e =
    let d = bytes_eq-Decides (str_to_ascii_lowercase a) (str_to_ascii_lowercase b) in
    let same : str_to_ascii_lowercase a ≡ str_to_ascii_lowercase b = d.0 e in
    sym (lower_length a) ∙ ap (length {A = ℕ}) same ∙ lower_length b

not_so_long : (m : Mark) → length (mark_text m) ≡ 22 → ⊥
not_so_long k.Package e = omega arith
not_so_long _ e = omega arith

pub no_annex_name : (inside : Bool) (b : List ℕ) (m : Mark) → keyword_of inside b ≡ Some m
    → str_eq_ignore_ascii_case b (codes "behavior_specification") ≡ false
no_annex_name inside b m e =
    let word =
    same_length b (mark_text m)
    (find-passes (λ x. str_eq_ignore_ascii_case b (mark_text x)) (keywords inside) m e) in
    false_from_ne_true _ (λ h. not_so_long m (sym word ∙ same_length b (codes "behavior_specification") h))

pub keyword_behind : (r : Reading) (b : List ℕ) (m : Mark) → keyword_of (is_inside r) b ≡ Some m
    → after r Word b ≡ behind r (mark m)
keyword_behind Inside b m e = keyword_then Inside m (keyword_fixed true b m e)
keyword_behind Outside b m e =
    let fixed = keyword_fixed false b m e in
    ap (λ x. if x then AfterName else Outside) (no_annex_name false b m e)
    ∙ sym (ap (λ x. if x then AfterName else Outside) (no_annex_name false (mark_text m) m fixed))
    ∙ keyword_then Outside m fixed
keyword_behind AfterName b m e =
    let fixed = keyword_fixed false b m e in
    ap (λ x. if x then AfterName else Outside) (no_annex_name false b m e)
    ∙ sym (ap (λ x. if x then AfterName else Outside) (no_annex_name false (mark_text m) m fixed))
    ∙ keyword_then AfterName m fixed

pub symbol_behind : (r : Reading) (b : List ℕ) (m : Mark) → symbol_of (mark_text m) ≡ Some m
    → after r Symbol b ≡ behind r (mark m)
symbol_behind Outside b m e = symbol_then Outside m e
symbol_behind AfterName b m e = symbol_then AfterName m e
symbol_behind Inside b m e = symbol_then Inside m e
