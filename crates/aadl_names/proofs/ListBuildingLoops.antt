-- Loops that build a list by adding items at its end: one turn, and the end.
use Rattle.std.proofs.Common.{◌≡◌, ℕ, ◌+◌, ◌<◌, ◌≤◌, List, ◌∷◌, [], ◌++◌, length, drop, get_or, append_assoc, sym, ap}
use Rattle.std.proofs.Common.{◌∙◌}
use Rattle.std.proofs.lemmas.List.{append-nil, drop_all}
use Rattle.list_lemmas.proofs.ListOperations.{drop-next}

-- One iteration of a loop appends the result of the first remaining item.
pub next_added : {A B : Type 0} (parts : List A → List B) (here : A → List B)
    → ((x : A) (xs : List A) → parts (x ∷ xs) ≡ here x ++ parts xs)
    → (xs : List A) (i : ℕ) (x : A) (whole before after : (List B)) → i < length xs → x ≡ get_or xs i x
    → whole ≡ before ++ parts (drop i xs) → after ≡ before ++ here x → whole ≡ after ++ parts (drop (i + 1) xs)
next_added parts here splits xs i x whole before after within is left more =
    left ∙ (ap (λ l. before ++ parts l) (drop-next xs i x within is)
    ∙ (ap (λ l. before ++ l) (splits x (drop (i + 1) xs))
    ∙ (sym (append_assoc before (here x) (parts (drop (i + 1) xs)))
    ∙ ap (λ l. l ++ parts (drop (i + 1) xs)) (sym more))))

-- Behind the last turn nothing is left to be added.
pub last_added : {A B : Type 0} (parts : List A → List B) (xs : List A) (i : ℕ) (whole now : (List B)) → length xs ≤ i
    → parts [] ≡ []
    → whole ≡ now ++ parts (drop i xs) → now ≡ whole
last_added parts xs i whole now past none left =
    sym (left ∙ (ap (λ l. now ++ parts l) (drop_all i xs past) ∙ (ap (λ l. now ++ l) none ∙ append-nil now)))
