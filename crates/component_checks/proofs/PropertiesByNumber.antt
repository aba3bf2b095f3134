-- For ComponentProperties: the properties of a component from one list after another, by its numbers.
use Rattle.std.proofs.Common.{◌≡◌, ◌∙◌, ℕ, ◌+◌, ◌<◌, Bool, List, [], ◌∷◌, ◌++◌, length, take, get_or, reverse}
use Rattle.std.proofs.Common.{append_assoc, Option, Some, None, refl, sym, ap, map}
use Rattle.std.specs.Prelude.{flat_map, option_map, slice_get}
use Rattle.std.specs.Option.{option_or, option_and_then}
use Rattle.std.proofs.lemmas.List.{reverse-append}
use Rattle.std.proofs.lemmas.Option.{slice_get-map, get_or_from_slice_get, slice_get-get_or}
use Rattle.aadl_tree.specs.Values.{Associations}
use Rattle.aadl_tree.specs.Declarations.{Subcomponent, Implementation, Declaration, PackageTree}
use Rattle.aadl_names.specs.declared.recognised_properties.PropertyName.TheVariants.{Period, Dispatch}
use Rattle.aadl_names.specs.NameResolution.{type_in, implementation_in, implementation_at, subcomponents_of}
use Rattle.aadl_names.specs.NameResolution.{connections_of, type_number, type_of, referred, target_of}
use Rattle.aadl_uses.specs.declared.thread_locations.SubAt.{SubAt}
use Rattle.aadl_uses.specs.ContainmentAndUse.{sub_at, below}
use Rattle.aadl_uses.specs.proof.ImplementationTypes.{type_number_at}
use Rattle.annex_resolve.proofs.ResolvedTermsAndSums.{take_next}
use Rattle.component_checks.specs.declared.component_properties.ComponentProperties.{ComponentProperties}
use Rattle.component_checks.specs.PropertyLookup.{type_lists, own_lists, sub_lists, lists_at, lists_along, root_lists}
use Rattle.component_checks.specs.PropertyLookup.{first_in}
use Rattle.component_checks.specs.proof.ChainProperties as carried
use Rattle.component_checks.specs.proof.ChainProperties.{carried_by, connections_carried}
use Rattle.component_checks.specs.proof.ComponentProperties.{period_at, dispatch_at, timed_by, nearer, type_timed}
use Rattle.component_checks.specs.proof.ComponentProperties.{own_timed, sub_timed, subs_timed, or_nothing, or_none}
use Rattle.component_checks.specs.proof.ComponentProperties.{numbered, numbered_in}
use Rattle.component_checks.proofs.NamedAssociations.{first-append}

map_or : {A B : Type 0} (f : A → B) (a b : Option A)
    → option_map f (option_or a b) ≡ option_or (option_map f a) (option_map f b)
map_or f None b = refl
map_or f (Some a) b = refl

timed : Option (Option ℕ) → Option Bool → ComponentProperties
timed period periodic = record { period = period; periodic = periodic }

-- concatenated lists
pub timed_append : (a b : List (Associations ℕ)) → timed_by (a ++ b) ≡ nearer (timed_by a) (timed_by b)
unfolding timed
timed_append a b =
    let period : period_at (first_in Period (a ++ b))
    ≡ option_or (period_at (first_in Period a)) (period_at (first_in Period b)) =
    ap period_at (first-append Period a b) ∙ map_or _ (first_in Period a) (first_in Period b) in
    let periodic : dispatch_at (first_in Dispatch (a ++ b))
    ≡ option_or (dispatch_at (first_in Dispatch a)) (dispatch_at (first_in Dispatch b)) =
    ap dispatch_at (first-append Dispatch a b) ∙ map_or _ (first_in Dispatch a) (first_in Dispatch b) in
    ap (λ x. timed x (dispatch_at (first_in Dispatch (a ++ b)))) period
    ∙ ap (timed (option_or (period_at (first_in Period a)) (period_at (first_in Period b)))) periodic

-- ---- by numbers
of_type : (d : Option (Declaration ℕ)) → or_nothing (option_map type_timed d) ≡ timed_by (type_lists (type_in d))
of_type None = refl
of_type (Some d) = refl

pub types_numbered : (ds : List (Declaration ℕ)) (number : Option ℕ)
    → numbered (map type_timed ds) number
    ≡ timed_by (type_lists (option_and_then (λ n. type_in (slice_get ds n)) number))
types_numbered ds None = refl
types_numbered ds (Some n) = ap or_nothing (slice_get-map type_timed ds n) ∙ of_type (slice_get ds n)

of_own : (tree : PackageTree ℕ) (d : Option (Declaration ℕ))
    → or_nothing (option_map (own_timed tree) d) ≡ timed_by (own_lists tree (implementation_in d))
of_own tree None = refl
of_own tree (Some d) = refl

pub own_numbered : (tree : PackageTree ℕ) (number : Option ℕ)
    → numbered (map (own_timed tree) tree.declarations) number
    ≡ timed_by (own_lists tree (option_and_then (implementation_at tree) number))
own_numbered tree None = refl
own_numbered tree (Some n) =
    ap or_nothing (slice_get-map (own_timed tree) tree.declarations n) ∙ of_own tree (slice_get tree.declarations n)

of_sub : (tree : PackageTree ℕ) (sub : Option (Subcomponent ℕ))
    → or_nothing (option_map (sub_timed tree) sub) ≡ timed_by (sub_lists tree sub)
of_sub tree None = refl
of_sub tree (Some sub) = refl

of_subs : (tree : PackageTree ℕ) (d : Option (Declaration ℕ))
    → or_none (option_map (subs_timed tree) d) ≡ map (sub_timed tree) (subcomponents_of (implementation_in d))
of_subs tree None = refl
of_subs tree (Some d) = refl

pub subs_numbered : (tree : PackageTree ℕ) (at : SubAt)
    → numbered_in (map (subs_timed tree) tree.declarations) at.declaration at.sub ≡ timed_by (lists_at tree at)
subs_numbered tree at =
    let d = slice_get tree.declarations at.declaration in
    ap (λ l. or_nothing (slice_get (or_none l) at.sub))
    (slice_get-map (subs_timed tree) tree.declarations at.declaration)
    ∙ ap (λ l. or_nothing (slice_get l at.sub)) (of_subs tree d)
    ∙ ap or_nothing (slice_get-map (sub_timed tree) (subcomponents_of (implementation_in d)) at.sub)
    ∙ of_sub tree (slice_get (subcomponents_of (implementation_in d)) at.sub)

-- ---- of connections
of_connections : (d : Option (Declaration ℕ))
    → carried.or_none (option_map connections_carried d)
    ≡ map (λ c. carried_by c.properties) (connections_of (implementation_in d))
of_connections None = refl
of_connections (Some d) = refl

pub connections_numbered : (tree : PackageTree ℕ) (n i : ℕ)
    → carried.carried_at (map connections_carried tree.declarations) n i
    ≡ option_map (λ c. carried_by c.properties) (slice_get (connections_of (implementation_at tree n)) i)
connections_numbered tree n i =
    let d = slice_get tree.declarations n in
    ap (λ l. slice_get (carried.or_none l) i) (slice_get-map connections_carried tree.declarations n)
    ∙ ap (λ l. slice_get l i) (of_connections d)
    ∙ slice_get-map (λ c. carried_by c.properties) (connections_of (implementation_in d)) i

-- ---- a list, and the properties by number after it
behind_list : (lists : List (Associations ℕ)) (xs : Associations ℕ) (own behind said result : ComponentProperties)
    → own ≡ timed_by (xs ∷ []) → behind ≡ said → said ≡ timed_by lists
    → result ≡ nearer own behind → result ≡ timed_by (xs ∷ lists)
behind_list lists xs own behind said result is_own is_behind is_said is =
    is ∙ ap (λ t. nearer t behind) is_own ∙ ap (nearer (timed_by (xs ∷ []))) (is_behind ∙ is_said)
    ∙ sym (timed_append (xs ∷ []) lists)

pub own_is : (tree : PackageTree ℕ) (n : ℕ) (x : Implementation ℕ) (types : List ComponentProperties)
    (number : Option ℕ)
    (own behind result : ComponentProperties) → types ≡ map type_timed tree.declarations
    → Some x ≡ implementation_at tree n → number ≡ type_number_at tree n → own ≡ timed_by (x.properties ∷ [])
    → behind ≡ numbered types number → result ≡ nearer own behind
    → result ≡ timed_by (root_lists tree n)
own_is tree n x types number own behind result are declared names is_own is_behind is =
    behind_list (type_lists (type_of tree x)) x.properties own behind (numbered types number) result is_own is_behind
    (ap (λ l. numbered l number) are
    ∙ ap (numbered (map type_timed tree.declarations))
    (names ∙ ap (option_and_then (type_number tree)) (sym declared))
    ∙ types_numbered tree.declarations (type_number tree x)) is
    ∙ ap (λ o. timed_by (own_lists tree o)) declared

pub sub_is : (tree : PackageTree ℕ) (at : SubAt) (x : Subcomponent ℕ) (owns : List ComponentProperties)
    (number : Option ℕ)
    (own behind result : ComponentProperties) → owns ≡ map (own_timed tree) tree.declarations
    → Some x ≡ sub_at tree at.declaration at.sub → number ≡ below tree at.declaration at.sub
    → own ≡ timed_by (x.properties ∷ []) → behind ≡ numbered owns number → result ≡ nearer own behind
    → result ≡ timed_by (lists_at tree at)
sub_is tree at x owns number own behind result are declared names is_own is_behind is =
    behind_list (own_lists tree (target_of tree x)) x.properties own behind (numbered owns number) result
    is_own is_behind
    (ap (λ l. numbered l number) are
    ∙ ap (numbered (map (own_timed tree) tree.declarations))
    (names ∙ ap (option_and_then (λ (s : Subcomponent ℕ). referred tree s.classifier)) (sym declared))
    ∙ own_numbered tree (referred tree x.classifier)) is
    ∙ ap (λ o. timed_by (sub_lists tree o)) declared

-- ---- one component further in
along_next : (tree : PackageTree ℕ) (root : ℕ) (subs : List SubAt) (i : ℕ) (x : SubAt) → i < length subs
    → x ≡ get_or subs i x
    → lists_along tree root (take (i + 1) subs) ≡ lists_at tree x ++ lists_along tree root (take i subs)
along_next tree root subs i x within is =
    let front = reverse (take i subs) in
    let turned : reverse (take (i + 1) subs) ≡ x ∷ front = ap reverse (take_next subs i x within is)
    ∙ reverse-append (take i subs) (x ∷ []) in
    ap (λ l. flat_map (lists_at tree) l ++ root_lists tree root) turned
    ∙ append_assoc (lists_at tree x) (flat_map (lists_at tree) front) (root_lists tree root)

pub along_turn : (tree : PackageTree ℕ) (root : ℕ) (subs : List SubAt) (i : ℕ) (none : SubAt) → i < length subs
    → nearer (timed_by (lists_at tree (get_or subs i none))) (timed_by (lists_along tree root (take i subs)))
    ≡ timed_by (lists_along tree root (take (i + 1) subs))
along_turn tree root subs i none within =
    let x = get_or subs i none in
    sym (ap timed_by (along_next tree root subs i x within
    (sym (get_or_from_slice_get subs i x x (slice_get-get_or subs i none within))))
    ∙ timed_append (lists_at tree x) (lists_along tree root (take i subs)))
