-- The first element that passes a test, where one is added at the end.
use Rattle.std.proofs.Common.{◌≡◌, ℕ, ◌+◌, ◌<◌, ◌≤◌, Bool, cond, List, [], ◌∷◌, ◌++◌, length, Option, Some, None, sym}
use Rattle.std.proofs.Common.{ap, ◌∙◌, arith, add-zero, map, take, get_or}
use Rattle.std.specs.List.{position_from}
use Rattle.std.specs.Option.{option_or}
use Rattle.std.proofs.lemmas.List.{length-map, length-take-le, map_more, take_all}
use Rattle.list_lemmas.proofs.Options.{option_or-cond}
use Rattle.aadl_names.specs.NameResolution.{first_number}

position-push : {X : Type 0} (p : X → Bool) (n : ℕ) (xs : List X) (x : X)
    → position_from p n (xs ++ x ∷ []) ≡ option_or (position_from p n xs) (cond (p x) (Some (n + length xs)) None)
position-push p n [] x = ap (λ m. cond (p x) (Some m) None) (sym (add-zero n))
position-push p n (y ∷ ys) x =
    option_or-cond (p y) n (position_from p (n + 1) ys) _ (cond (p x) (Some (n + length (y ∷ ys))) None)
    (position-push p (n + 1) ys x
    ∙ ap (λ m. option_or (position_from p (n + 1) ys) (cond (p x) (Some m) None)) (omega arith))

first-push : {X : Type 0} (p : X → Bool) (xs : List X) (x : X) (n : ℕ) → n ≡ length xs
    → first_number p (xs ++ x ∷ []) ≡ option_or (first_number p xs) (cond (p x) (Some n) None)
first-push p xs x n e =
    position-push p 0 xs x ∙ ap (λ m. option_or (first_number p xs) (cond (p x) (Some m) None)) (omega arith)

-- one turn of a loop over a list: the first that passes, up to here
pub next_first : {A X : Type 0} (view : A → X) (p : X → Bool) (items : List A) (i : ℕ) (x : A) (old new : Option ℕ)
    → i < length items → x ≡ get_or items i x
    → old ≡ first_number p (map view (take i items)) → new ≡ option_or old (cond (p (view x)) (Some i) None)
    → new ≡ first_number p (map view (take (i + 1) items))
next_first view p items i x old new within is so_far more =
    let grown : map view (take (i + 1) items) ≡ map view (take i items) ++ view x ∷ [] = map_more view items i x within
    ∙ ap (λ y. map view (take i items) ++ view y ∷ []) (sym is) in
    let size : length (map view (take i items)) ≡ i = simp length-map (length-take-le i items (omega arith)) in
    more ∙ (ap (λ o. option_or o (cond (p (view x)) (Some i) None)) so_far
    ∙ (sym (first-push p (map view (take i items)) (view x) i (sym size)) ∙ ap (first_number p) (sym grown)))

pub last_first : {A X : Type 0} (view : A → X) (p : X → Bool) (items : List A) (i : ℕ) (now : Option ℕ)
    → length items ≤ i
    → now ≡ first_number p (map view (take i items)) → now ≡ first_number p (map view items)
last_first view p items i now past so_far = so_far ∙ ap (λ xs. first_number p (map view xs)) (take_all i items past)
