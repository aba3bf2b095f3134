-- For `behaviour_name_tables` and `port_name_tables`: a table of names and their roles that a loop fills, one name
-- after another.
use Rattle.std.proofs.Common.{◌≡◌, ℕ, ◌+◌, ◌<◌, ◌≤◌, Bool, true, false, ◌||◌, List, [], ◌∷◌, length, drop, get_or}
use Rattle.std.proofs.Common.{Option, None, refl, sym, ap, ◌∙◌}
use Rattle.std.proofs.lemmas.List.{drop_all}
use Rattle.std.specs.Option.{option_or}
use Rattle.list_lemmas.proofs.ListOperations.{drop-next}
use Rattle.list_lemmas.proofs.Options.{option_or_assoc, option_or-none}
use Rattle.name_faults.specs.proof.ConditionalValues.{value_if, is_marked}

-- One iteration of the loop adds the role of the first remaining item.
pub next_role : {A V : Type 0} (parts : List A → Option V) (here : A → Option V)
    → ((x : A) (xs : List A) → parts (x ∷ xs) ≡ option_or (here x) (parts xs))
    → (xs : List A) (i : ℕ) (x : A) (whole before after : (Option V)) → i < length xs → x ≡ get_or xs i x
    → whole ≡ option_or before (parts (drop i xs)) → after ≡ option_or before (here x)
    → whole ≡ option_or after (parts (drop (i + 1) xs))
next_role parts here splits xs i x whole before after within is left more =
    left ∙ (ap (λ l. option_or before (parts l)) (drop-next xs i x within is)
    ∙ (ap (option_or before) (splits x (drop (i + 1) xs))
    ∙ (sym (option_or_assoc before (here x) (parts (drop (i + 1) xs)))
    ∙ ap (λ o. option_or o (parts (drop (i + 1) xs))) (sym more))))

-- After the last iteration there is nothing more to add.
pub last_role : {A V : Type 0} (parts : List A → Option V) (xs : List A) (i : ℕ) (whole now : (Option V))
    → length xs ≤ i → parts [] ≡ None
    → whole ≡ option_or now (parts (drop i xs)) → now ≡ whole
last_role parts xs i whole now past none left =
    sym (left ∙ (ap (λ l. option_or now (parts l)) (drop_all i xs past)
    ∙ (ap (option_or now) none ∙ option_or-none now)))

-- membership in one of two lists
pub value_or : {V : Type 0} (value : V) (a b : Bool)
    → value_if value (a || b) ≡ option_or (value_if value a) (value_if value b)
value_or value true b = refl
value_or value false b = refl

pub marked_if : {V : Type 0} (value : V) (b : Bool) → is_marked (value_if value b) ≡ b
marked_if value true = refl
marked_if value false = refl

-- two values for one name in sequence
pub added_twice : {V : Type 0} (value : V) (a b : Bool) (old first whole : (Option V))
    → first ≡ option_or old (value_if value a)
    → whole ≡ option_or first (value_if value b)
    → whole ≡ option_or old (value_if value (a || b))
added_twice value a b old first whole one two =
    two ∙ (ap (λ o. option_or o (value_if value b)) one
    ∙ (option_or_assoc old (value_if value a) (value_if value b) ∙ ap (option_or old) (sym (value_or value a b))))
