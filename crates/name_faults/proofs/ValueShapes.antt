-- For the checks of shapes: the property values that are times, small numbers or lists of texts.
use Rattle.std.proofs.Common.{◌≡◌, ℕ, Bool, true, false, not, ◌&&◌, Option, Some, None, refl, cond, List, [], ◌∷◌}
use Rattle.std.proofs.Common.{length, ◌≤◌, arith}
use Rattle.std.specs.Option.{is_some}
use Rattle.aadl_tree.specs.Values.{Value, list}
use Rattle.aadl_tree.specs.proof.ValueViews.{values_of}
use Rattle.aadl_names.specs.PropertyValueShapes.{times, only_text, is_initial_text}

pub has_time : (signed : Bool) (a b : Option ℕ)
    → is_some (cond signed None (times a b)) ≡ (not signed && is_some a && is_some b)
has_time true a b = refl
has_time false None b = refl
has_time false (Some n) None = refl
has_time false (Some n) (Some m) = refl

pub small_by : {X : Type 0} (small : Bool) (x : X) → None ≡ cond small (Some x) None → false ≡ small
small_by true x e = absurd (cc e)
small_by false x e = refl

-- a list of two or more values is not a single text
pub no_only_text : (vs : List (Value ℕ)) → 2 ≤ length vs → false ≡ is_initial_text (only_text (list (values_of vs)))
no_only_text [] many = absurd (omega arith)
no_only_text (v ∷ []) many = absurd (omega arith)
no_only_text (v ∷ w ∷ vs) many = refl
