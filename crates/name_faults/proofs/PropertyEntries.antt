-- The entries of a list of properties are the entry of its first property and the entries of the others.
use Rattle.std.proofs.Common.{◌≡◌, ℕ, Bool, true, false, cond, List, [], ◌∷◌, ◌++◌, map, refl}
use Rattle.aadl_tree.specs.Values.{Association, Associations, no_associations, associate}
use Rattle.aadl_names.specs.RecognisedProperties.{counts, counted, association_entry, property_entries}

one_more : {A B : Type 0} (f : A → B) (b : Bool) (x : A) (xs : List A)
    → map f (cond b (x ∷ xs) xs) ≡ map f (cond b (x ∷ []) []) ++ map f xs
one_more f true x xs = refl
one_more f false x xs = refl

pub entries-cons : (x : Association ℕ) (xs : Associations ℕ)
    → property_entries (associate x xs) ≡ property_entries (associate x no_associations) ++ property_entries xs
entries-cons x xs = one_more association_entry (counts x) x (counted xs)
