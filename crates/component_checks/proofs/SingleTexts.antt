-- A list of two or more texts is not a single text.
use Rattle.std.proofs.Common.{◌≡◌, ℕ, ◌≤◌, List, [], ◌∷◌, length, None, refl, arith}
use Rattle.aadl_tree.specs.Values.{Value, list}
use Rattle.aadl_tree.specs.proof.ValueViews.{values_of}
use Rattle.aadl_names.specs.PropertyValueShapes.{only_text}

pub no_only_text : (vs : List (Value ℕ)) → 2 ≤ length vs → None ≡ only_text (list (values_of vs))
no_only_text [] many = absurd (omega (arith, many))
no_only_text (v ∷ []) many = absurd (omega (arith, many))
no_only_text (v ∷ w ∷ vs) many = refl
