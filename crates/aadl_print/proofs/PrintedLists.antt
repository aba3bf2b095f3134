-- A list that is printed item by item is printed as its parts, in sequence.
use Rattle.std.proofs.Common.{◌≡◌, ◌<◌, ◌≤◌, ◌+◌, ◌-◌, ℕ, ◌∙◌, sym, ap, refl, List, [], ◌∷◌, ◌++◌, length, take, drop}
use Rattle.std.proofs.Common.{get_or, arith, suc}
use Rattle.std.proofs.lemmas.List.{take_all, drop_all}
use Rattle.list_lemmas.proofs.ListOperations.{drop-next}
use Rattle.aadl_tree.specs.SpellingParts.{SpellingPart, token, may}
use Rattle.aadl_print.specs.proof.PrintedText.{Printed, put, printed}

pub printed_append : {P : Type 0} → (before : Printed) (a b : List (SpellingPart P))
    → printed before (a ++ b) ≡ printed (printed before a) b
printed_append before [] b = refl
printed_append before (token kind places ∷ a) b = printed_append (put before kind) a b
printed_append before (may extra ∷ a) b = printed_append before a b

-- One iteration of a loop prints the first of the remaining items.
pub next_written : {A P : Type 0} (parts : List A → List (SpellingPart P)) (here : A → List (SpellingPart P))
    → ((x : A) (xs : List A) → parts (x ∷ xs) ≡ here x ++ parts xs)
    → (xs : List A) (i : ℕ) (x : A) (whole before after : Printed) → i < length xs → x ≡ get_or xs i x
    → whole ≡ printed before (parts (drop i xs)) → after ≡ printed before (here x)
    → whole ≡ printed after (parts (drop (i + 1) xs))
next_written parts here splits xs i x whole before after within is left written =
    left ∙ ap (λ (l : List _). printed before (parts l)) (drop-next xs i x within is)
    ∙ ap (printed before) (splits x (drop (i + 1) xs))
    ∙ printed_append before (here x) (parts (drop (i + 1) xs))
    ∙ ap (λ (p : Printed). printed p (parts (drop (i + 1) xs))) (sym written)

-- After the last iteration no item remains.
pub last_written : {A P : Type 0} (parts : List A → List (SpellingPart P)) (xs : List A) (i : ℕ) (whole now : Printed)
    → length xs ≤ i → parts [] ≡ [] → whole ≡ printed now (parts (drop i xs)) → now ≡ whole
last_written parts xs i whole now past none left =
    sym (left ∙ ap (λ (l : List _). printed now (parts l)) (drop_all i xs past) ∙ ap (printed now) none)

-- A nonempty list.
pub parted : {A : Type 0} (xs : List A) (x : A) → 1 ≤ length xs → x ≡ get_or xs 0 x
    → xs ≡ x ∷ take (length xs - 1) (drop 1 xs)
parted [] x some is = absurd (omega arith)
parted (y ∷ ys) x some is =
    ap (λ (h : _). h ∷ ys) (sym is) ∙ ap (λ (t : List _). x ∷ t) (sym (take_all (suc (length ys) - 1) ys (omega arith)))
