-- Properties and their values: mapping the places of the plain tree gives the plain tree with mapped places. For the
-- law that places can be dropped.
use Rattle.std.proofs.Common.{◌≡◌, ℕ, ◌∙◌, ap, ap₂, sym, subst, refl, List, [], ◌∷◌, map, Option}
use Rattle.aadl_tree.specs.declared.values.Value.{Value}
use Rattle.aadl_tree.specs.declared.values.Value.TheOpen.{Value-F, Association-F}
use Rattle.aadl_tree.specs.declared.values.Value.TheViews.{roll-Value, roll-Association}
use Rattle.aadl_tree.specs.declared.values.Value.TheFolds.{ind-Association, map-Value, map-Association, fold-roll-Value}
use Rattle.aadl_tree.specs.declared.values.Value.TheFolds.{fold-roll-Association}
use Rattle.aadl_tree.specs.declared.values.Association.{Association}
use Rattle.aadl_tree.specs.declared.values.Quantity as source_quantity
use Rattle.aadl_tree.specs.Names as n
use Rattle.aadl_tree.specs.Values as v
use Rattle.aadl_tree.specs.proof.PlaceMaps.{identifier_to, path_to, quantity_to, value_to, values_to, association_to}
use Rattle.aadl_tree.specs.proof.PlaceMaps.{associations_to}
use Rattle.aadl_tree.specs.proof.NameViews.{identifier_view, name_view, path_view}
use Rattle.aadl_tree.specs.proof.ValueViews.{number_view, quantity_view, values_of, associations_of, value_step}
use Rattle.aadl_tree.specs.proof.ValueViews.{association_step, value_view, association_view, associations_view}
use Rattle.aadl_tree.proofs.PlaceMaps.Names.{each_tied, perhaps_tied, name_tied, path_tied, reference_tied}

pub quantity_tied : {P Q : Type 0} (f : P → Q) (g : ℕ → P) (x : source_quantity.Quantity)
    → quantity_to f (quantity_view g x) ≡ quantity_view (λ n. f (g n)) x
quantity_tied {Q = Q} f g x =
    ap (λ (q : Option (n.Identifier Q)). let r : v.Quantity Q = record { number = number_view x.number; unit = q } in r)
    (perhaps_tied (identifier_to f) (λ y. identifier_view g y.value) (λ y. identifier_view (λ n. f (g n)) y.value)
    (λ y. refl) x.unit)

abbrev ValueTied : {P Q : Type 0} → (P → Q) → (ℕ → P) → Value → Type 0
ValueTied f g x = value_to f (value_view g x) ≡ value_view (λ n. f (g n)) x

abbrev AssociationTied : {P Q : Type 0} → (P → Q) → (ℕ → P) → Association → Type 0
AssociationTied f g x = association_to f (association_view g x) ≡ association_view (λ n. f (g n)) x

-- a value or a property with the proof that mapping its places commutes with the view
abbrev V : {P Q : Type 0} → (P → Q) → (ℕ → P) → Type 0
V f g = (x : Value) × ValueTied f g x

abbrev A : {P Q : Type 0} → (P → Q) → (ℕ → P) → Type 0
A f g = (x : Association) × AssociationTied f g x

values_each : {P Q : Type 0} (f : P → Q) (g : ℕ → P) (xs : List (V f g))
    → values_to f (values_of (map (value_view g) (map (λ e. e.0) xs)))
    ≡ values_of (map (value_view (λ n. f (g n))) (map (λ e. e.0) xs))
values_each f g [] = refl
values_each f g (x ∷ xs) = ap₂ v.value x.1 (values_each f g xs)

associations_each : {P Q : Type 0} (f : P → Q) (g : ℕ → P) (xs : List (A f g))
    → associations_to f (associations_of (map (association_view g) (map (λ e. e.0) xs)))
    ≡ associations_of (map (association_view (λ n. f (g n))) (map (λ e. e.0) xs))
associations_each f g [] = refl
associations_each f g (x ∷ xs) = ap₂ v.associate x.1 (associations_each f g xs)

abbrev value_layer : {P Q : Type 0} (f : P → Q) (g : ℕ → P) → Value-F (V f g) (A f g) → Value-F Value Association
value_layer f g y = map-Value (V f g) (A f g) Value Association (λ e. e.0) (λ e. e.0) y

abbrev association_layer : {P Q : Type 0} (f : P → Q) (g : ℕ → P) → Association-F (V f g) (A f g)
    → Association-F Value Association
association_layer f g y = map-Association (V f g) (A f g) Value Association (λ e. e.0) (λ e. e.0) y

abbrev seen_value : {P : Type 0} → (ℕ → P) → Value-F Value Association → Value-F (v.Value P) (v.Association P)
seen_value {P} g x = map-Value Value Association (v.Value P) (v.Association P) (value_view g) (association_view g) x

abbrev seen_association : {P : Type 0} → (ℕ → P) → Association-F Value Association
    → Association-F (v.Value P) (v.Association P)
seen_association {P} g x =
    map-Association Value Association (v.Value P) (v.Association P) (value_view g) (association_view g) x

value_by : {P Q : Type 0} (f : P → Q) (g : ℕ → P) (y : Value-F (V f g) (A f g))
    → value_to f (value_step g (seen_value g (value_layer f g y)))
    ≡ value_step (λ n. f (g n)) (seen_value (λ n. f (g n)) (value_layer f g y))
value_by f g (Value-F.List xs) = ap v.list (values_each f g xs.items)
value_by f g (Value-F.Record xs) = ap v.fields (associations_each f g xs.items)
value_by f g (Value-F.Text bytes) = refl
value_by f g (Value-F.Reference x) = ap v.reference (path_tied f g x.value)
value_by f g (Value-F.Classifier x) = ap v.classifier (reference_tied f g x.value)
value_by f g (Value-F.Named x) = ap v.named (reference_tied f g x.value)
value_by f g (Value-F.Number low high) =
    ap₂ v.number (quantity_tied f g low)
    (perhaps_tied (quantity_to f) (λ x. quantity_view g x.value) (λ x. quantity_view (λ n. f (g n)) x.value)
    (λ x. quantity_tied f g x.value) high)

association_by : {P Q : Type 0} (f : P → Q) (g : ℕ → P) (y : Association-F (V f g) (A f g))
    → association_to f (association_step g (seen_association g (association_layer f g y)))
    ≡ association_step (λ n. f (g n)) (seen_association (λ n. f (g n)) (association_layer f g y))
association_by {Q = Q} f g y =
    ap (λ q. v.association q y.operator y.constant (value_to f (value_view g y.value.0))
    (map (path_to f) (map (path_view g) y.applies_to.items))) (name_tied f g y.name)
    ∙ ap (λ q. v.association (name_view (λ n. f (g n)) y.name) y.operator y.constant q
    (map (path_to f) (map (path_view g) y.applies_to.items))) y.value.1
    ∙ ap (λ q. v.association (name_view (λ n. f (g n)) y.name) y.operator y.constant
    (value_view (λ n. f (g n)) y.value.0) q)
    (each_tied (path_to f) (path_view g) (path_view (λ n. f (g n))) (path_tied f g) y.applies_to.items)

value_rolled : {P Q : Type 0} (f : P → Q) (g : ℕ → P) (x : Value-F Value Association) (y : Value-F (V f g) (A f g))
    → value_layer f g y ≡ x → ValueTied f g (roll-Value x)
value_rolled {P} {Q} f g x y is =
    let z = value_layer f g y in
    subst (λ w. ValueTied f g (roll-Value w)) is (
    ap (value_to f) (fold-roll-Value (v.Value P) (v.Association P) (value_step g) (association_step g) z)
    ∙ value_by f g y
    ∙ sym (fold-roll-Value (v.Value Q) (v.Association Q) (value_step (λ n. f (g n)))
    (association_step (λ n. f (g n))) z))

association_rolled : {P Q : Type 0} (f : P → Q) (g : ℕ → P) (x : Association-F Value Association)
    (y : Association-F (V f g) (A f g)) → association_layer f g y ≡ x → AssociationTied f g (roll-Association x)
association_rolled {P} {Q} f g x y is =
    let z = association_layer f g y in
    subst (λ w. AssociationTied f g (roll-Association w)) is (
    ap (association_to f) (fold-roll-Association (v.Value P) (v.Association P) (value_step g) (association_step g) z)
    ∙ association_by f g y
    ∙ sym (fold-roll-Association (v.Value Q) (v.Association Q) (value_step (λ n. f (g n)))
    (association_step (λ n. f (g n))) z))

association_tied : {P Q : Type 0} (f : P → Q) (g : ℕ → P) (x : Association) → AssociationTied f g x
association_tied f g = ind-Association (ValueTied f g) (AssociationTied f g) (value_rolled f g) (association_rolled f g)

pub associations_tied : {P Q : Type 0} (f : P → Q) (g : ℕ → P) (xs : List Association)
    → associations_to f (associations_view g xs) ≡ associations_view (λ n. f (g n)) xs
associations_tied f g [] = refl
associations_tied f g (x ∷ xs) = ap₂ v.associate (association_tied f g x) (associations_tied f g xs)
