-- For the checks of all declarations: the faults of the declarations, one after another, each with its number.
use Rattle.std.proofs.Common.{◌≡◌, ℕ, ◌+◌, ◌<◌, ◌≤◌, List, [], ◌∷◌, length, drop, get_or, map, Option, Some, sym, ap}
use Rattle.std.proofs.Common.{◌∙◌, zero, suc, arith}
use Rattle.std.proofs.lemmas.List.{drop_all}
use Rattle.std.specs.Prelude.{slice_get}
use Rattle.std.specs.List.{flat_map, enumerate_from}
use Rattle.list_lemmas.proofs.ListOperations.{drop-next}
use Rattle.aadl_names.specs.declared.fault.PackageFault.{PackageFault}
use Rattle.aadl_names.specs.proof.FirstFaultSoFar.{found}
use Rattle.aadl_names.proofs.FirstFaultSoFar.{found_append}

pub next_numbered : {A B : Type 0} (view : A → B) (here : ℕ × B → List PackageFault) (xs : List A) (i : ℕ) (x : A)
    (whole before after : (Option PackageFault))
    → i < length xs → x ≡ get_or xs i x
    → whole ≡ found before (flat_map here (enumerate_from i (map view (drop i xs))))
    → after ≡ found before (here (i, view x))
    → whole ≡ found after (flat_map here (enumerate_from (i + 1) (map view (drop (i + 1) xs))))
next_numbered view here xs i x whole before after within is left more =
    left ∙ (ap (λ l. found before (flat_map here (enumerate_from i (map view l)))) (drop-next xs i x within is)
    ∙ (found_append before (here (i, view x)) (flat_map here (enumerate_from (i + 1) (map view (drop (i + 1) xs))))
    ∙ ap (λ o. found o (flat_map here (enumerate_from (i + 1) (map view (drop (i + 1) xs))))) (sym more)))

pub last_numbered : {A B : Type 0} (view : A → B) (here : ℕ × B → List PackageFault) (xs : List A) (i : ℕ)
    (whole now : (Option PackageFault)) → length xs ≤ i
    → whole ≡ found now (flat_map here (enumerate_from i (map view (drop i xs)))) → now ≡ whole
last_numbered view here xs i whole now past left =
    sym (left ∙ ap (λ l. found now (flat_map here (enumerate_from i (map view l)))) (drop_all i xs past))

-- the element at a number
pub numbered : {A B : Type 0} (view : A → B) (xs : List A) (i : ℕ) (x : A) → i < length xs → x ≡ get_or xs i x
    → slice_get (map view xs) i ≡ Some (view x)
numbered view [] i x within is = absurd (omega arith)
numbered view (y ∷ xs) zero x within is = ap (λ z. Some (view z)) (sym is)
numbered view (y ∷ xs) (suc i) x within is = numbered view xs i x (omega arith) is

-- the image of the element at a number
pub made_of : {A B C : Type 0} (view : A → B) (make : B → C) (xs : List A) (i : ℕ) (x : A) (y : C) → i < length xs
    → x ≡ get_or xs i x
    → ((d : C) → y ≡ get_or (map make (map view xs)) i d) → y ≡ make (view x)
made_of view make [] i x y within is at = absurd (omega arith)
made_of view make (z ∷ xs) zero x y within is at = at y ∙ ap (λ z. make (view z)) (sym is)
made_of view make (z ∷ xs) (suc i) x y within is at = made_of view make xs i x y (omega arith) is at
