-- The lists that arrays and objects stand for.
use Rattle.std.proofs.Common.{◌≡◌, ℕ, ◌<◌, ◌≤◌, ◌+◌, Bool, true, false, ◌&&◌, List, [], ◌∷◌, length, map, drop, get_or}
use Rattle.std.proofs.Common.{refl, sym, ap, ◌∙◌, arith, Global, String}
use Rattle.std.specs.List.{list_all}
use Rattle.std.proofs.lemmas.Grind.{common_steps}
use Rattle.serde_json.specs.Data.{Data}
use Rattle.serde_json.specs.View.{view, items_view, members_view}
use Rattle.serde_json.specs.declared.value.Value.{Value}
use Rattle.scenario_values.specs.FieldValues.{values_in, entries_in, entry_of}

pub values_seen : (vs : List Value) → values_in (items_view vs) ≡ map view vs
values_seen [] = refl
values_seen (v ∷ vs) = ap (λ ds. view v ∷ ds) (values_seen vs)

pub entries_seen : (es : List (String Global × Value)) → entries_in (members_view es) ≡ map entry_of es
entries_seen [] = refl
entries_seen (e ∷ es) = ap (λ ds. entry_of e ∷ ds) (entries_seen es)

-- ---- a test of each value, one after another
pub all_turn : (p : Data → Bool) (xs : List Value) (i : ℕ) (x : Value) (total : Bool) → i < length xs
    → x ≡ get_or xs i x → p (view x) ≡ true → list_all p (map view (drop i xs)) ≡ total
    → list_all p (map view (drop (i + 1) xs)) ≡ total
all_turn p xs i x total within is passes before =
    let split : drop i xs ≡ x ∷ drop (i + 1) xs = grind (arith, common_steps) in
    sym (ap (λ b. b && list_all p (map view (drop (i + 1) xs))) passes)
    ∙ ap (λ ys. list_all p (map view ys)) (sym split) ∙ before

pub all_fails : (p : Data → Bool) (xs : List Value) (i : ℕ) (x : Value) (total : Bool) → i < length xs
    → x ≡ get_or xs i x → p (view x) ≡ false → list_all p (map view (drop i xs)) ≡ total → false ≡ total
all_fails p xs i x total within is fails before =
    let split : drop i xs ≡ x ∷ drop (i + 1) xs = grind (arith, common_steps) in
    sym (ap (λ b. b && list_all p (map view (drop (i + 1) xs))) fails)
    ∙ ap (λ ys. list_all p (map view ys)) (sym split) ∙ before

pub all_done : (p : Data → Bool) (xs : List Value) (i : ℕ) (total : Bool) → length xs ≤ i
    → list_all p (map view (drop i xs)) ≡ total → true ≡ total
all_done p xs i total end before =
    let none : drop i xs ≡ [] = grind (arith, common_steps) in
    ap (λ ys. list_all p (map view ys)) (sym none) ∙ before
