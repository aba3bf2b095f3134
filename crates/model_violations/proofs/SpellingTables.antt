-- For `first_spellings`: the table has the names of the list of first spellings and no others, without regard to
-- case.
use Rattle.std.proofs.Common.{◌≡◌, ◌∙◌, ℕ, ◌+◌, ◌<◌, ◌≤◌, Bool, true, false, cond, ◌||◌, List, [], ◌∷◌, ◌++◌, length}
use Rattle.std.proofs.Common.{drop, get_or, Option, Some, None, refl, sym, ap}
use Rattle.aadl_tree.specs.Names.{same_name}
use Rattle.std.specs.List.{list_any}
use Rattle.std.specs.Option.{is_some, option_or}
use Rattle.std.proofs.lemmas.List.Folds.{list_any-append}
use Rattle.std.proofs.lemmas.List.{drop_all}
use Rattle.list_lemmas.proofs.ListOperations.{drop-next}
use Rattle.aadl_names.specs.proof.NameTables.{value_of}
use Rattle.model_violations.specs.IgnoredProperties.{behind, all_behind}
use Rattle.model_violations.specs.proof.SpellingTables.{KnowsAll}

-- ---- the first of the remaining names
new_behind : (first : List (List ℕ)) (x : List ℕ) → list_any (same_name x) first ≡ false
    → behind first x ≡ first ++ x ∷ []
new_behind first x none = ap (λ b. cond b first (first ++ x ∷ [])) none

known_behind : (first : List (List ℕ)) (x : List ℕ) → list_any (same_name x) first ≡ true → behind first x ≡ first
known_behind first x there = ap (λ b. cond b first (first ++ x ∷ [])) there

test_of : (table : List (List ℕ × ℕ)) (first : List (List ℕ)) (x : List ℕ) (b : Bool) → KnowsAll table first
    → is_some (value_of table x) ≡ b → list_any (same_name x) first ≡ b
test_of table first x b knows is = sym (knows x) ∙ is

pub behind_known : (table : List (List ℕ × ℕ)) (first : List (List ℕ)) (x : List ℕ) (n : ℕ) → KnowsAll table first
    → value_of table x ≡ Some n → first ≡ behind first x
behind_known table first x n knows is = sym (known_behind first x (test_of table first x true knows (ap is_some is)))

pub behind_new : (table : List (List ℕ × ℕ)) (first more : List (List ℕ)) (x : List ℕ) → KnowsAll table first
    → value_of table x ≡ None → more ≡ first ++ x ∷ [] → more ≡ behind first x
behind_new table first more x knows is pushed =
    pushed ∙ sym (new_behind first x (test_of table first x false knows (ap is_some is)))

-- one more of the remaining names
pub turned : (names first more : List (List ℕ)) (i : ℕ) (x : List ℕ) → i < length names → x ≡ get_or names i x
    → more ≡ behind first x
    → all_behind [] names ≡ all_behind first (drop i names) → all_behind [] names ≡ all_behind more (drop (i + 1) names)
turned names first more i x within is added left =
    left ∙ ap (all_behind first) (drop-next names i x within is)
    ∙ ap (λ l. all_behind l (drop (i + 1) names)) (sym added)

-- ---- the table after one more name
some_or : (o : Option ℕ) (b : Bool) (n : ℕ) → is_some (option_or o (cond b (Some n) None)) ≡ (is_some o || b || false)
some_or None true n = refl
some_or None false n = refl
some_or (Some m) true n = refl
some_or (Some m) false n = refl

or_last : (a b : Bool) → (a || b || false) ≡ (a || (b || false))
or_last true b = refl
or_last false true = refl
or_last false false = refl

pub known_more : (old new : List (List ℕ × ℕ)) (first more : List (List ℕ)) (x : List ℕ) (n : ℕ) → KnowsAll old first
    → ((other : List ℕ) → value_of new other ≡ option_or (value_of old other) (cond (same_name other x) (Some n) None))
    → more ≡ first ++ x ∷ [] → KnowsAll new more
known_more old new first more x n knows added pushed = λ other.
    ap is_some (added other) ∙ some_or (value_of old other) (same_name other x) n
    ∙ ap (λ b. b || same_name other x || false) (knows other)
    ∙ or_last (list_any (same_name other) first) (same_name other x)
    ∙ sym (list_any-append (same_name other) first (x ∷ [])) ∙ ap (list_any (same_name other)) (sym pushed)

-- ---- no name remains
pub left_behind : (names : List (List ℕ)) (i : ℕ) (first : List (List ℕ)) → length names ≤ i
    → all_behind [] names ≡ all_behind first (drop i names) → first ≡ all_behind [] names
left_behind names i first past left = sym (left ∙ ap (all_behind first) (drop_all i names past))
