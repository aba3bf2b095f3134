-- Each symbol token of a text is a symbol of the grammar. For the law `marks_are_read`.
use Rattle.std.proofs.Common.{◌≡◌, Bool, true, false, ◌||◌, ◌∙◌, ℕ, List, [], ◌∷◌, ap, refl}
use Rattle.std.specs.Prelude.{is_some}
use Rattle.std.specs.List.{list_all, list_any}
use Rattle.std.specs.Str.{bytes_eq}
use Rattle.std.proofs.lemmas.Slice.Eq.{bytes_eq-Decides}
use Rattle.std.specs.Cmp.{first_so, second_so}
use Rattle.aadl_lex.specs.proof.TokenSpellings.{symbols, IsSymbol}
use Rattle.aadl_tree.specs.KeywordsAndSymbols.{symbol_of}

known_by : (b x : List ℕ) (same more : Bool) → bytes_eq b x ≡ same → is_some (symbol_of x) ≡ true
    → (more ≡ true → is_some (symbol_of b) ≡ true) → (same || more) ≡ true → is_some (symbol_of b) ≡ true
known_by b x true more e known rest h = let equal : b ≡ x = (bytes_eq-Decides b x).0 e in
    ap (λ y. is_some (symbol_of y)) equal ∙ known
known_by b x false more e known rest h = rest h

known_among : (b : List ℕ) (xs : List (List ℕ)) → list_all (λ x. is_some (symbol_of x)) xs ≡ true
    → list_any (bytes_eq b) xs ≡ true → is_some (symbol_of b) ≡ true
known_among b [] all h = absurd cc
known_among b (x ∷ xs) all h =
    known_by b x (bytes_eq b x) (list_any (bytes_eq b) xs) refl (first_so (is_some (symbol_of x)) _ all)
    (known_among b xs (second_so (is_some (symbol_of x)) _ all)) h

pub symbol_known : (b : List ℕ) → IsSymbol b → is_some (symbol_of b) ≡ true
symbol_known b h = known_among b symbols refl h
