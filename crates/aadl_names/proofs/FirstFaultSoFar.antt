-- Loops that keep the first fault so far: one turn, and the end.
use Rattle.std.proofs.Common.{◌≡◌, ◌<◌, ◌≤◌, ◌+◌, ℕ, ◌∙◌, sym, ap, refl, Bool, true, false, List, [], ◌∷◌, ◌++◌, Option}
use Rattle.std.proofs.Common.{length, drop, get_or}
use Rattle.std.proofs.lemmas.List.{drop_all}
use Rattle.list_lemmas.proofs.ListOperations.{drop-next}
use Rattle.aadl_names.specs.declared.fault.PackageFault.{PackageFault}
use Rattle.aadl_names.specs.proof.FirstFaultSoFar.{earlier, found}
use Rattle.aadl_names.specs.DuplicateNames.{wrong_if}

pub found_append : (first : Option PackageFault) (a b : List PackageFault)
    → found first (a ++ b) ≡ found (found first a) b
found_append first [] b = refl
found_append first (x ∷ a) b = found_append (earlier first x) a b

pub wrong_none : (b : Bool) (at : ℕ) → wrong_if b at ≡ [] → b ≡ false
wrong_none true at none = absurd (cc none)
wrong_none false at none = refl

-- One iteration of a loop finds the fault of the first remaining item.
pub next_found : {A : Type 0} (parts : List A → List PackageFault) (here : A → List PackageFault)
    → ((x : A) (xs : List A) → parts (x ∷ xs) ≡ here x ++ parts xs)
    → (xs : List A) (i : ℕ) (x : A) (whole before after : (Option PackageFault)) → i < length xs → x ≡ get_or xs i x
    → whole ≡ found before (parts (drop i xs)) → after ≡ found before (here x)
    → whole ≡ found after (parts (drop (i + 1) xs))
next_found parts here splits xs i x whole before after within is left more =
    left ∙ ap (λ (l : List _). found before (parts l)) (drop-next xs i x within is)
    ∙ ap (found before) (splits x (drop (i + 1) xs))
    ∙ found_append before (here x) (parts (drop (i + 1) xs))
    ∙ ap (λ (p : Option PackageFault). found p (parts (drop (i + 1) xs))) (sym more)

-- After the last iteration no item remains.
pub last_found : {A : Type 0} (parts : List A → List PackageFault) (xs : List A) (i : ℕ)
    (whole now : (Option PackageFault))
    → length xs ≤ i → parts [] ≡ [] → whole ≡ found now (parts (drop i xs)) → now ≡ whole
last_found parts xs i whole now past none left =
    sym (left ∙ ap (λ (l : List _). found now (parts l)) (drop_all i xs past) ∙ ap (found now) none)
