-- A list of at most one property has no duplicates.
use Rattle.std.proofs.Common.{◌≡◌, ◌&&◌, ℕ, ◌<◌, Bool, true, false, if◌then◌else◌, List, [], ◌∷◌, length, refl, arith}
use Rattle.std.proofs.Common.{map}
use Rattle.std.specs.Prelude.{nat_lt}
use Rattle.std.proofs.lemmas.Bool.{le-ltb}
use Rattle.aadl_tree.specs.Names.{same_name}
use Rattle.aadl_tree.specs.declared.values.Association.{Association}
use Rattle.aadl_tree.specs.proof.ValueViews.{association_view, associations_view}
use Rattle.aadl_tree.specs.Values as plain
use Rattle.aadl_tree.specs.proof.PlaceMaps.{kept_place}
use Rattle.aadl_names.specs.declared.declared_name.SpelledName.{SpelledName}
use Rattle.aadl_names.specs.DuplicateNames.{twice}
use Rattle.aadl_names.specs.RecognisedProperties.{counts, association_entry, property_entries}

never_before : (b : Bool) (n : ℕ) → (b && nat_lt n n) ≡ false
never_before true n = le-ltb n n (grind arith)
never_before false n = refl

one_entry : (x : SpelledName) → twice (x ∷ []) ≡ []
one_entry x = rw (never_before (same_name x.name x.name) x.at)

one_if : (b : Bool) (x : plain.Association ℕ) → twice (map association_entry (if b then x ∷ [] else [])) ≡ []
one_if true x = one_entry (association_entry x)
one_if false x = refl

pub none_twice : (xs : List Association) → length xs < 2
    → twice (property_entries (associations_view kept_place xs)) ≡ []
none_twice [] few = refl
none_twice (x ∷ []) few = one_if (counts (association_view kept_place x)) (association_view kept_place x)
none_twice (x ∷ y ∷ xs) few = absurd (grind arith)
