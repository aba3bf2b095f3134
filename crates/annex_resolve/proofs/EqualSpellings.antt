-- Two words with one spelling are one name.
use Rattle.std.proofs.Common.{◌≡◌, ℕ, true, List, refl, subst}
use Rattle.std.specs.Str.{str_to_ascii_lowercase}
use Rattle.std.proofs.lemmas.Slice.Eq.{bytes_eq-Decides}
use Rattle.aadl_tree.specs.Names.{same_name}

pub same_spelling : (a b : List ℕ) → a ≡ b → same_name a b ≡ true
same_spelling a b equal = subst (λ c. same_name a c ≡ true) equal
    ((bytes_eq-Decides (str_to_ascii_lowercase a) (str_to_ascii_lowercase a)).1 refl)
