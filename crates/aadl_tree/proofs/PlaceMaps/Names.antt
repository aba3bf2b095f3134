-- Names and optional parts: mapping the places of the plain tree gives the plain tree with mapped places. For the law
-- that places can be dropped.
use Rattle.std.proofs.Common.{◌≡◌, ℕ, ap, ap₂, refl, List, [], ◌∷◌, map, Option, Some, None, option_map}
use Rattle.aadl_tree.specs.declared.names.Identifier as source
use Rattle.aadl_tree.specs.declared.names.Name as source_name
use Rattle.aadl_tree.specs.declared.names.Path as source_path
use Rattle.aadl_tree.specs.declared.names.Identifiers as source_identifiers
use Rattle.aadl_tree.specs.declared.names.Reference as source_reference
use Rattle.aadl_tree.specs.Names as n
use Rattle.aadl_tree.specs.proof.PlaceMaps.{identifier_to, name_to, path_to, identifiers_to, reference_to}
use Rattle.aadl_tree.specs.proof.NameViews.{identifier_view, name_view, path_view, identifiers_view, reference_view}

pub each_tied : {A B C : Type 0} (to : B → C) (view : A → B) (after : A → C) → ((x : A) → to (view x) ≡ after x)
    → (xs : List A) → map to (map view xs) ≡ map after xs
each_tied to view after tied [] = refl
each_tied to view after tied (x ∷ xs) = ap₂ (λ y ys. y ∷ ys) (tied x) (each_tied to view after tied xs)

pub perhaps_tied : {A B C : Type 0} (to : B → C) (view : A → B) (after : A → C) → ((x : A) → to (view x) ≡ after x)
    → (x : Option A) → option_map to (option_map view x) ≡ option_map after x
perhaps_tied to view after tied None = refl
perhaps_tied to view after tied (Some x) = ap Some (tied x)

identifiers_mapped : {P Q : Type 0} (f : P → Q) (g : ℕ → P) (xs : List source.Identifier)
    → map (identifier_to f) (map (identifier_view g) xs) ≡ map (identifier_view (λ n. f (g n))) xs
identifiers_mapped f g xs =
    each_tied (identifier_to f) (identifier_view g) (identifier_view (λ n. f (g n))) (λ x. refl) xs

pub identifier_perhaps : {P Q : Type 0} (f : P → Q) (g : ℕ → P) (x : Option source.Identifier)
    → option_map (identifier_to f) (option_map (identifier_view g) x) ≡ option_map (identifier_view (λ n. f (g n))) x
identifier_perhaps f g x =
    perhaps_tied (identifier_to f) (identifier_view g) (identifier_view (λ n. f (g n))) (λ y. refl) x

pub name_tied : {P Q : Type 0} (f : P → Q) (g : ℕ → P) (x : source_name.Name)
    → name_to f (name_view g x) ≡ name_view (λ n. f (g n)) x
name_tied {Q = Q} f g x =
    ap (λ (q : List (n.Identifier Q)). let r : n.Name Q =
    record { first = identifier_view (λ n. f (g n)) x.first; rest = q } in r) (identifiers_mapped f g x.rest.items)

pub path_tied : {P Q : Type 0} (f : P → Q) (g : ℕ → P) (x : source_path.Path)
    → path_to f (path_view g x) ≡ path_view (λ n. f (g n)) x
path_tied {Q = Q} f g x =
    ap (λ (q : List (n.Identifier Q)). let r : n.Path Q =
    record { first = identifier_view (λ n. f (g n)) x.first; rest = q } in r) (identifiers_mapped f g x.rest.items)

pub identifiers_tied : {P Q : Type 0} (f : P → Q) (g : ℕ → P) (x : source_identifiers.Identifiers)
    → identifiers_to f (identifiers_view g x) ≡ identifiers_view (λ n. f (g n)) x
identifiers_tied {Q = Q} f g x =
    ap (λ (q : List (n.Identifier Q)). let r : n.Identifiers Q =
    record { first = identifier_view (λ n. f (g n)) x.first; rest = q } in r) (identifiers_mapped f g x.rest.items)

pub reference_tied : {P Q : Type 0} (f : P → Q) (g : ℕ → P) (x : source_reference.Reference)
    → reference_to f (reference_view g x) ≡ reference_view (λ n. f (g n)) x
reference_tied {Q = Q} f g x =
    ap₂ (λ (q : List (n.Identifier Q)) (i : Option (n.Identifier Q)). let r : n.Reference Q =
    record { qualifiers = q; type_name = identifier_view (λ n. f (g n)) x.type_name; implementation = i } in r)
    (identifiers_mapped f g x.qualifiers.items) (identifier_perhaps f g x.implementation)
