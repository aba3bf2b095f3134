-- For `root_names`: the names of the root's in ports, each listed once, with one feed more.
use Rattle.std.proofs.Common.{◌≡◌, List, [], ◌∷◌, ◌++◌, ℕ, Bool, true, false, append_assoc, ◌∙◌}
use Rattle.std.specs.Prelude.{bytes_eq, if◌then◌else◌}
use Rattle.std.specs.List.{list_any}
use Rattle.indexmap.specs.IndexSet.{insert_key}
use Rattle.pals_model.specs.ComponentInputs.{new_names}

step_by : (b : Bool) (names : List (List ℕ)) (name : List ℕ) (rest total : List (List ℕ))
    → names ++ (if b then new_names names rest else name ∷ new_names (names ++ name ∷ []) rest) ≡ total
    → (if b then names else names ++ name ∷ []) ++ new_names (if b then names else names ++ name ∷ []) rest ≡ total
step_by true names name rest total h = h
step_by false names name rest total h = append_assoc names (name ∷ []) (new_names (names ++ name ∷ []) rest) ∙ h

-- one more name among those so far
pub naming_step : (names : List (List ℕ)) (name : List ℕ) (rest total : List (List ℕ))
    → names ++ new_names names (name ∷ rest) ≡ total
    → insert_key bytes_eq names name ++ new_names (insert_key bytes_eq names name) rest ≡ total
naming_step names name rest total h = step_by (list_any (λ other. bytes_eq name other) names) names name rest total h
