-- The associations of one name in a list of properties, and the first one that counts in several lists.
use Rattle.std.proofs.Common.{◌≡◌, ◌∙◌, ℕ, Bool, true, false, cond, ◌&&◌, ◌++◌, List, [], ◌∷◌, Option, Some, refl, sym}
use Rattle.std.proofs.Common.{ap, find}
use Rattle.std.specs.Option.{option_or, option_and_then}
use Rattle.std.proofs.lemmas.Bool.{false≢true}
use Rattle.list_lemmas.proofs.Options.{option_or-none, option_or_assoc}
use Rattle.aadl_tree.specs.Values.{Association, Associations, associate}
use Rattle.aadl_names.specs.declared.recognised_properties.PropertyName.{PropertyName}
use Rattle.aadl_tree.specs.Declarations.{Implementation, PackageTree}
use Rattle.aadl_names.specs.RecognisedProperties.{counts, is_named, name_of, association_named}
use Rattle.aadl_names.specs.NameResolution.{implementation_at, type_number, type_numbered}
use Rattle.aadl_uses.specs.proof.ImplementationTypes.{type_number_at}
use Rattle.component_checks.specs.PropertyLookup.{type_lists, own_lists, root_lists, first_in}

-- ---- the first of the ones that count
hit_by : {A : Type 0} (p : A → Bool) (x : A) (xs : List A) (b : Bool) → (b && p x) ≡ true
    → find p (cond b (x ∷ xs) xs) ≡ Some x
hit_by p x xs true h = rw h refl
hit_by p x xs false h = absurd (false≢true h)

miss_by : {A : Type 0} (p : A → Bool) (x : A) (xs : List A) (b : Bool) → (b && p x) ≡ false
    → find p (cond b (x ∷ xs) xs) ≡ find p xs
miss_by p x xs true h = rw h refl
miss_by p x xs false h = refl

pub named_here : (name : List ℕ) (x : Association ℕ) (xs : Associations ℕ) → (counts x && is_named name x) ≡ true
    → association_named (associate x xs) name ≡ Some x
named_here name x xs h = hit_by (is_named name) x _ (counts x) h

pub named_later : (name : List ℕ) (x : Association ℕ) (xs : Associations ℕ) → (counts x && is_named name x) ≡ false
    → association_named (associate x xs) name ≡ association_named xs name
named_later name x xs h = miss_by (is_named name) x _ (counts x) h

-- ---- a property of the implementation with a number: its own, or its type's
pub root_given : (tree : PackageTree ℕ) (n : ℕ) (p : PropertyName) (x : Implementation ℕ) (own : Option (Association ℕ))
    → Some x ≡ implementation_at tree n → own ≡ association_named x.properties (name_of p)
    → option_or own (first_in p (type_lists (type_numbered tree (type_number_at tree n))))
    ≡ first_in p (root_lists tree n)
root_given tree n p x own is given =
    let of_type = first_in p (type_lists (type_numbered tree (type_number_at tree n))) in
    ap (λ o. option_or o of_type) given
    ∙ ap (λ o. option_or (association_named x.properties (name_of p))
    (first_in p (type_lists (type_numbered tree (option_and_then (type_number tree) o))))) (sym is)
    ∙ ap (λ o. first_in p (own_lists tree o)) is

-- ---- concatenated lists

pub first_of_one : (p : PropertyName) (xs : Associations ℕ) → first_in p (xs ∷ []) ≡ association_named xs (name_of p)
first_of_one p xs = option_or-none (association_named xs (name_of p))

pub first-append : (p : PropertyName) (a b : List (Associations ℕ))
    → first_in p (a ++ b) ≡ option_or (first_in p a) (first_in p b)
first-append p [] b = refl
first-append p (x ∷ a) b =
    ap (option_or (association_named x (name_of p))) (first-append p a b)
    ∙ sym (option_or_assoc (association_named x (name_of p)) (first_in p a) (first_in p b))
