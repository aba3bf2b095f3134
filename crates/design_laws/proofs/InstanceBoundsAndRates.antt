-- The root's period and bounds, and the rates of threads, of an instance model without findings.
use Rattle.std.proofs.Common.{◌≡◌, ◌∙◌, ℕ, ◌/◌, ◌≤◌, nat_eq, nat_le, nat_lt, Bool, true, false, not, cond, List, []}
use Rattle.std.proofs.Common.{◌∷◌, ◌++◌, reverse, Option, Some, None, refl, sym, ap, subst, arith}
use Rattle.std.specs.Prelude.{flat_map, slice_get}
use Rattle.std.specs.List.{AllByRecursion}
use Rattle.std.specs.Option.{option_and_then, is_some}
use Rattle.std.proofs.lemmas.Bool.{false≢true}
use Rattle.std.proofs.lemmas.Bool.Decides.{nat_tests}
use Rattle.std.proofs.lemmas.List.{reverse-reverse}
use Rattle.std.proofs.lemmas.Option.{option_and_then_some}
use Rattle.list_lemmas.proofs.Elements.{AllByRecursion-append}
use Rattle.list_lemmas.proofs.ElementPositions.{flat_map-nil_at}
use Rattle.list_lemmas.proofs.ListOperations.{append_is_nil_right, append_is_nil_left}
use Rattle.list_lemmas.proofs.Numbers.{nat_eq-swapped, nat_eq-self}
use Rattle.list_lemmas.proofs.Options.{some_by_test}
use Rattle.pals_base.specs.declared.period_bound_and_releases.Gamma.{Gamma}
use Rattle.pals_base.specs.PeriodBoundAndReleases.{least_period}
use Rattle.pals_model.specs.DesignRules.{IsGamma}
use Rattle.aadl_tree.specs.declared.declarations.Category.{Category}
use Rattle.aadl_tree.specs.Values.{Association}
use Rattle.aadl_tree.specs.Declarations.{Subcomponent, Declaration, type, TypeDeclaration, Implementation}
use Rattle.aadl_tree.specs.Declarations.{implementation, PackageTree}
use Rattle.aadl_names.specs.declared.recognised_properties.PropertyName.{PropertyName}
use Rattle.aadl_names.specs.declared.recognised_properties.PropertyName.TheVariants.{Period, Skew, Execution, Network}
use Rattle.aadl_names.specs.declared.recognised_properties.PropertyHolder.TheVariants as holders
use Rattle.aadl_names.specs.DuplicateNames.{wrong_if}
use Rattle.aadl_names.specs.BehaviourAnnexes.{behaviours}
use Rattle.aadl_names.specs.RecognisedProperties.{recognised, list_faults}
use Rattle.aadl_names.specs.NameResolution.{implementation_in, implementation_at, subcomponents_of, type_in}
use Rattle.aadl_names.specs.NameResolution.{type_numbered, type_number, referred, target_of, is_root}
use Rattle.aadl_names.specs.PackageNameFaults.{may_contain, names_faults, subcomponent_faults, connection_faults}
use Rattle.aadl_names.specs.PackageNameFaults.{heading_faults, variables_faults, stray_faults, port_faults}
use Rattle.aadl_names.specs.PackageNameFaults.{outer_faults}
use Rattle.aadl_names.specs.PackageNameFaults.{annex_faults, is_same_number, package_faults}
use Rattle.aadl_names.specs.PackageNameFaults as naming
use Rattle.aadl_uses.specs.ContainmentAndUse.{sub_at, below, number_at_path}
use Rattle.aadl_uses.specs.declared.thread_locations.SubAt.{SubAt}
use Rattle.aadl_uses.specs.ThreadLocations.{sub_in, subs_along, thread_at}
use Rattle.aadl_uses.specs.proof.OrderedLists.{Among}
use Rattle.aadl_instance.specs.InstancesByPaths.{InstanceParts, IsFlat}
use Rattle.annex_resolve.specs.FindingRecords.{found_if}
use Rattle.design_laws.proofs.EmptyFindingLists.{is_right, not_wrong}
use Rattle.component_checks.specs.BoundsAndRates.{within_hour, range_within, not_zero, in_order, gamma_by}
use Rattle.component_checks.specs.BoundsAndRates as numbers
use Rattle.component_checks.specs.PeriodAndAdaptorFindings.{bound_findings, period_findings}
use Rattle.design_laws.proofs.BoundsAndRates.{gamma_fits, IsRateOf, one_rate_fits, leaves_time, least_is_some}
use Rattle.design_laws.proofs.BoundsAndRates.{rate_from}
use Rattle.annex_resolve.specs.declared.violation.TheConstants.{NO_PERIOD, NOT_PERIODIC, GAMMA_MISSING, GAMMA_ORDER}
use Rattle.component_checks.specs.PropertyLookup.{type_lists, own_lists, sub_lists, lists_at, root_lists, lists_along}
use Rattle.component_checks.specs.PropertyLookup.{first_in}
use Rattle.component_checks.specs.Times.{time_at, range_at, shown, list_big}
use Rattle.component_checks.specs.TypeFindings.{port_findings}
use Rattle.component_checks.specs.ThreadRatesAndFindings.{root_period, own_period, is_periodic, thread_place}
use Rattle.component_checks.specs.ThreadRatesAndFindings.{thread_rate, thread_findings}
use Rattle.component_checks.specs.RootFindings.{at_root, root_skew, root_range, root_gamma, root_place, missing}
use Rattle.component_checks.specs.RootFindings.{missing_bound, missing_findings, is_zero, is_reversed, place_of}
use Rattle.component_checks.specs.RootFindings.{zero_skew, reversed_range, order_findings, root_findings}
use Rattle.model_violations.specs.IgnoredProperties.{is_number, is_root_type}
use Rattle.model_violations.specs.ConnectionsAndCarriers.{carries}
use Rattle.model_violations.specs.ConnectionFindings.{connections_findings}
use Rattle.model_violations.specs.UsedDeclarations.{IsUse}
use Rattle.model_violations.specs.DeclarationFindings.{sub_findings}
use Rattle.model_violations.specs.DeclarationFindings as uses
use Rattle.model_violations.specs.Violations.{shown_by, used_findings, carriers_of}
use Rattle.design_laws.proofs.SoundInstanceParts.{names_clean, declared_at, implementation_clean, type_clean, is_used}
use Rattle.design_laws.proofs.SoundInstanceParts.{declaration_clean}
use Rattle.design_laws.proofs.InstanceBehaviours.{first_is}
use Rattle.design_laws.proofs.PropertyTimes.{period_at_sub, period_at, skew_at, execution_at, network_at, IsGood}
use Rattle.design_laws.proofs.PropertyTimes.{LooksGood, looks_good, first_good, first_behind, IsTime, period_good}
use Rattle.design_laws.proofs.PropertyTimes.{skew_good, execution_good, network_good}

-- ---- equality of numbers is symmetric

flag_by : (tree : PackageTree ℕ) (o : Option ℕ) (m : ℕ) → is_same_number o m ≡ is_number m o
flag_by tree None m = refl
flag_by tree (Some k) m = nat_eq-swapped k m

root_flag : (tree : PackageTree ℕ) (o : Option (Implementation ℕ)) (m : ℕ)
    → is_same_number (naming.root_type tree o) m ≡ is_number m (option_and_then (type_number tree) o)
root_flag tree None m = refl
root_flag tree (Some x) m = flag_by tree (type_number tree x) m

-- ---- no faults of one declaration
pub record PartsClean (tree : PackageTree ℕ) (root n : ℕ) (x : Implementation ℕ) : Type 0 where
  pub subs : flat_map (subcomponent_faults tree x.category) x.subcomponents ≡ []
  pub connections : flat_map (connection_faults tree x) x.connections ≡ []
  pub properties : list_faults (holders.Declaration x.category (nat_eq n root)) x.properties ≡ []

pub parts_clean : (tree : PackageTree ℕ) (root n : ℕ) (x : Implementation ℕ) → package_faults tree root ≡ []
    → slice_get tree.declarations n ≡ Some (implementation x) → PartsClean tree root n x
parts_clean tree root n x none is =
    let h = heading_faults tree x in
    let s = flat_map (subcomponent_faults tree x.category) x.subcomponents in
    let c = flat_map (connection_faults tree x) x.connections in
    let l = list_faults (holders.Declaration x.category (nat_eq root n)) x.properties in
    let v = flat_map variables_faults x.annexes in
    let outer = append_is_nil_left (outer_faults tree (nat_eq root n) x) (annex_faults tree x (behaviours x.annexes))
    (declaration_clean tree root n (implementation x) none is) in
    let fourth = append_is_nil_left (h ++ s ++ c ++ l) v outer in
    let third = append_is_nil_left (h ++ s ++ c) l fourth in
    record {
      subs = append_is_nil_right h s (append_is_nil_left (h ++ s) c third);
      connections = append_is_nil_right (h ++ s) c third;
      properties = subst (λ b. list_faults (holders.Declaration x.category b) x.properties ≡ []) (nat_eq-swapped root n)
          (append_is_nil_right (h ++ s ++ c) l fourth);
    }

type_properties : (tree : PackageTree ℕ) (root m : ℕ) (t : TypeDeclaration ℕ) → package_faults tree root ≡ []
    → slice_get tree.declarations m ≡ Some (type t)
    → list_faults (holders.Declaration t.category (is_root_type tree root m)) t.properties ≡ []
type_properties tree root m t none is =
    let flag = is_same_number (naming.root_type tree (implementation_in (slice_get tree.declarations root))) m in
    let p = flat_map port_faults t.features in
    let l = list_faults (holders.Declaration t.category flag) t.properties in
    let whole = declaration_clean tree root m (type t) none is in
    let front =
    append_is_nil_left _ (flat_map stray_faults t.annexes)
    (append_is_nil_left _ (flat_map variables_faults t.annexes) whole) in
    subst (λ b. list_faults (holders.Declaration t.category b) t.properties ≡ [])
    (root_flag tree (implementation_at tree root) m)
    (append_is_nil_right _ l front)

-- ---- some association
module _ {tree : PackageTree ℕ} {name : List ℕ} {parts : InstanceParts} (flat : IsFlat tree name parts)
    (used : ℕ → Bool)
    (is_use : IsUse tree parts.root used) (none : used_findings tree (shown_by tree parts) used ≡ []) where
  -- ---- the properties that an implementation in use and its type give
  module _ (p : PropertyName) (n : ℕ) (x : Implementation ℕ) (in_use : used n ≡ true)
      (is : slice_get tree.declarations n ≡ Some (implementation x))
      (known : Among (recognised (holders.Declaration x.category (nat_eq n parts.root))) p) where
    own_good : LooksGood p x.properties
    own_good =
        let faults = parts_clean tree parts.root n x (names_clean flat) is in
        let whole = implementation_clean tree (shown_by tree parts) used none n x in_use is in
        let big = list_big (holders.Declaration x.category (nat_eq n parts.root)) x.properties in
        let subs = flat_map sub_findings x.subcomponents in
        let connections = connections_findings tree (carries (carriers_of (shown_by tree parts))) n x in
        looks_good (holders.Declaration x.category (nat_eq n parts.root)) p x.properties known faults.properties
        (append_is_nil_left big subs
        (append_is_nil_left (big ++ subs) connections
        (append_is_nil_left (big ++ subs ++ connections) (uses.thread_findings tree x) whole)))

    module _ (type_known : (m : ℕ) (t : TypeDeclaration ℕ) → type_number tree x ≡ Some m
        → Among (recognised (holders.Declaration t.category (is_root_type tree parts.root m))) p) where
      type_good : (m : ℕ) (t : TypeDeclaration ℕ) → type_number tree x ≡ Some m
          → slice_get tree.declarations m ≡ Some (type t)
          → LooksGood p t.properties
      type_good m t number type_is =
          let whole = type_clean tree (shown_by tree parts) used none n m x t in_use is number type_is in
          looks_good (holders.Declaration t.category (is_root_type tree parts.root m)) p t.properties
          (type_known m t number)
          (type_properties tree parts.root m t (names_clean flat) type_is)
          (append_is_nil_right (flat_map port_findings t.features) (list_big (holders.Declaration t.category
          (is_root_type tree parts.root m)) t.properties) whole)

      types_by : (m : ℕ) (d : Option (Declaration ℕ)) → type_number tree x ≡ Some m → slice_get tree.declarations m ≡ d
          → AllByRecursion (LooksGood p) (type_lists (type_in d))
      types_by m None number d_is = tt
      types_by m (Some (implementation y)) number d_is = tt
      types_by m (Some (type t)) number d_is = (type_good m t number d_is, tt)

      types_good : (o : Option ℕ) → type_number tree x ≡ o
          → AllByRecursion (LooksGood p) (type_lists (type_numbered tree o))
      types_good None number = tt
      types_good (Some m) number = types_by m (slice_get tree.declarations m) number refl

      pub both_good : AllByRecursion (LooksGood p) (own_lists tree (Some x))
      both_good = (own_good, types_good (type_number tree x) refl)

  -- ---- the properties that a subcomponent gives
  periods_good : (n : ℕ) (x : Implementation ℕ) → used n ≡ true → implementation_at tree n ≡ Some x
      → AllByRecursion (LooksGood Period) (own_lists tree (Some x))
  periods_good n x in_use is =
      both_good Period n x in_use (declared_at tree n x is) (period_at x.category (nat_eq n parts.root))
      (λ m t _. period_at t.category (is_root_type tree parts.root m))

  periods_of : (n : ℕ) (o : Option (Implementation ℕ)) → used n ≡ true → implementation_at tree n ≡ o
      → AllByRecursion (LooksGood Period) (own_lists tree o)
  periods_of n None in_use is = tt
  periods_of n (Some x) in_use is = periods_good n x in_use is

  sub_good : (n k : ℕ) (x : Implementation ℕ) (sub : Subcomponent ℕ) → used n ≡ true → implementation_at tree n ≡ Some x
      → slice_get x.subcomponents k ≡ Some sub → LooksGood Period sub.properties
  sub_good n k x sub in_use is sub_is =
      let decl = declared_at tree n x is in
      let faults = flat_map-nil_at (subcomponent_faults tree x.category) x.subcomponents k sub
      (parts_clean tree parts.root n x (names_clean flat) decl).subs sub_is in
      let whole = implementation_clean tree (shown_by tree parts) used none n x in_use decl in
      let big = list_big (holders.Declaration x.category (nat_eq n parts.root)) x.properties in
      let subs = flat_map sub_findings x.subcomponents in
      let connections = connections_findings tree (carries (carriers_of (shown_by tree parts))) n x in
      let here = append_is_nil_right big subs (append_is_nil_left (big ++ subs) connections
      (append_is_nil_left (big ++ subs ++ connections) (uses.thread_findings tree x) whole)) in
      looks_good (holders.Subcomponent sub.category) Period sub.properties (period_at_sub sub.category)
      (append_is_nil_right (wrong_if (not (may_contain x.category sub.category)) sub.name.at
      ++ names_faults tree sub sub.classifier.implementation)
      (list_faults (holders.Subcomponent sub.category) sub.properties) faults)
      (flat_map-nil_at sub_findings x.subcomponents k sub here sub_is)

  sub_by : (n k m : ℕ) (o : Option (Implementation ℕ)) (sub : Subcomponent ℕ) → used n ≡ true
      → implementation_at tree n ≡ o
      → slice_get (subcomponents_of o) k ≡ Some sub → LooksGood Period sub.properties
  sub_by n k m None sub in_use is sub_is = absurd (cc sub_is)
  sub_by n k m (Some x) sub in_use is sub_is = sub_good n k x sub in_use is sub_is

  -- ---- along a path
  at_good : (n k m : ℕ) (path : List ℕ) → number_at_path tree parts.root path ≡ Some n → below tree n k ≡ Some m
      → number_at_path tree parts.root (k ∷ path) ≡ Some m
      → AllByRecursion (LooksGood Period) (lists_at tree (record { declaration = n; sub = k }))
  at_good n k m path stands step next =
      option_and_then_some (λ (sub : Subcomponent ℕ). referred tree sub.classifier) (sub_at tree n k) m step
      (λ sub sub_is target.
      let here =
      sub_by n k m (implementation_at tree n) sub (is_used tree parts.root used is_use path n stands) refl sub_is in
      let inner =
      periods_of m (implementation_at tree m) (is_used tree parts.root used is_use (k ∷ path) m next) refl in
      let same : target_of tree sub ≡ implementation_at tree m = ap (option_and_then (implementation_at tree)) target in
      subst (λ o. AllByRecursion (LooksGood Period) (sub_lists tree o)) (sym sub_is)
      (here, subst (λ o. AllByRecursion (LooksGood Period) (own_lists tree o)) (sym same) inner))

  along_good : (path : List ℕ) (n : ℕ) → number_at_path tree parts.root path ≡ Some n
      → AllByRecursion (LooksGood Period) (flat_map (lists_at tree) (subs_along tree parts.root path))
  along_good [] n stands = tt
  along_good (k ∷ path) n stands =
      option_and_then_some (λ m. below tree m k) (number_at_path tree parts.root path) n stands
      (λ m before step.
      let here : SubAt = record { declaration = m; sub = k } in
      let rest = subs_along tree parts.root path in
      let added : subs_along tree parts.root (k ∷ path) ≡ here ∷ rest = ap (λ o. sub_in o k ++ rest) before in
      subst (λ l. AllByRecursion (LooksGood Period) (flat_map (lists_at tree) l)) (sym added)
      (AllByRecursion-append (LooksGood Period) (lists_at tree here) (flat_map (lists_at tree) rest)
      (at_good m k n path before step stands)
      (along_good path m before)))

  -- ---- the root
  root_by : (d : Declaration ℕ) → is_root name d ≡ true → (x : Implementation ℕ) × (d ≡ implementation x)
  root_by (type x) passes = absurd (false≢true passes)
  root_by (implementation x) passes = (x, refl)

  pub root_there : (x : Implementation ℕ) × (implementation_at tree parts.root ≡ Some x)
  root_there =
      let f = first_is (is_root name) 0 parts.root tree.declarations flat.root in
      let r = root_by f.one f.passes in
      let e : f.place ≡ parts.root = let h = f.number in omega (arith, h) in
      (r.0, ap implementation_in (ap (slice_get tree.declarations) (sym e) ∙ (f.is ∙ ap Some r.1)))

  root_used : used parts.root ≡ true
  root_used = is_used tree parts.root used is_use [] parts.root refl

  type_flag : (x : Implementation ℕ) (m : ℕ) → implementation_at tree parts.root ≡ Some x → type_number tree x ≡ Some m
      → is_root_type tree parts.root m ≡ true
  type_flag x m is number =
      ap (λ o. is_number m (option_and_then (type_number tree) o)) is ∙ (ap (is_number m) number ∙ nat_eq-self m)

  root_good : (p : PropertyName) → ((c : Category) → Among (recognised (holders.Declaration c true)) p)
      → AllByRecursion (LooksGood p) (root_lists tree parts.root)
  root_good p known =
      let x = root_there.0 in
      let is = root_there.1 in
      let flag : nat_eq parts.root parts.root ≡ true = nat_eq-self parts.root in
      let own : Among (recognised (holders.Declaration x.category (nat_eq parts.root parts.root))) p = subst
      (λ b. Among (recognised (holders.Declaration x.category b)) p) (sym flag) (known x.category) in
      subst (λ o. AllByRecursion (LooksGood p) (own_lists tree o)) (sym is)
      (both_good p parts.root x root_used (declared_at tree parts.root x is) own
      (λ m t number. subst (λ b. Among (recognised (holders.Declaration t.category b)) p)
      (sym (type_flag x m is number)) (known t.category)))

  -- the value of a property that the root gives
  pub record Gives (p : PropertyName) : Type 0 where
    pub association : Association ℕ
    pub is : at_root tree parts.root p ≡ Some association
    pub good : IsGood p association

  gives : (p : PropertyName) → ((c : Category) → Among (recognised (holders.Declaration c true)) p)
      → is_some (at_root tree parts.root p) ≡ true
      → Gives p
  gives p known some =
      let a = some_by_test (at_root tree parts.root p) some in
      record {
        association = a.0;
        is = a.1;
        good = first_good p (root_lists tree parts.root) a.0 (root_good p known) a.1;
      }

  module _ (rate : ℕ) (clean : root_findings tree parts.root rate ≡ []) where
    all_missing : missing_findings tree parts.root ≡ []
    all_missing = append_is_nil_left (missing_findings tree parts.root) (order_findings tree parts.root)
        (append_is_nil_left (missing_findings tree parts.root ++ order_findings tree parts.root) _ clean)

    all_ordered : order_findings tree parts.root ≡ []
    all_ordered = append_is_nil_right (missing_findings tree parts.root) (order_findings tree parts.root)
        (append_is_nil_left (missing_findings tree parts.root ++ order_findings tree parts.root) _ clean)

    has_period : is_some (at_root tree parts.root Period) ≡ true
    has_period =
        let a = missing tree parts.root NO_PERIOD [] Period in
        let b = missing_bound tree parts.root Skew in
        let c = missing_bound tree parts.root Execution in
        let d = missing_bound tree parts.root Network in
        is_right (is_some (at_root tree parts.root Period)) (root_place tree parts.root) NO_PERIOD []
        (append_is_nil_left a b (append_is_nil_left (a ++ b) c (append_is_nil_left (a ++ b ++ c) d all_missing)))

    has_skew : is_some (at_root tree parts.root Skew) ≡ true
    has_skew =
        let a = missing tree parts.root NO_PERIOD [] Period in
        let b = missing_bound tree parts.root Skew in
        let c = missing_bound tree parts.root Execution in
        let d = missing_bound tree parts.root Network in
        is_right (is_some (at_root tree parts.root Skew)) (root_place tree parts.root) GAMMA_MISSING (shown Skew)
        (append_is_nil_right a b (append_is_nil_left (a ++ b) c (append_is_nil_left (a ++ b ++ c) d all_missing)))

    has_execution : is_some (at_root tree parts.root Execution) ≡ true
    has_execution =
        let a = missing tree parts.root NO_PERIOD [] Period in
        let b = missing_bound tree parts.root Skew in
        let c = missing_bound tree parts.root Execution in
        let d = missing_bound tree parts.root Network in
        is_right (is_some (at_root tree parts.root Execution)) (root_place tree parts.root) GAMMA_MISSING
        (shown Execution)
        (append_is_nil_right (a ++ b) c (append_is_nil_left (a ++ b ++ c) d all_missing))

    has_network : is_some (at_root tree parts.root Network) ≡ true
    has_network =
        let a = missing tree parts.root NO_PERIOD [] Period in
        let b = missing_bound tree parts.root Skew in
        let c = missing_bound tree parts.root Execution in
        let d = missing_bound tree parts.root Network in
        is_right (is_some (at_root tree parts.root Network)) (root_place tree parts.root) GAMMA_MISSING (shown Network)
        (append_is_nil_right (a ++ b ++ c) d all_missing)

    -- ---- the period
    pub root_time : (n : ℕ) × IsTime (root_period tree parts.root) n
    root_time =
        let g = gives Period (λ c. period_at c true) has_period in
        let t = period_good g.association g.good in
        (t.0, subst (λ o. IsTime (option_and_then within_hour (time_at o)) t.0) (sym g.is) t.2)

    -- ---- the bounds
    skew_by : (o : Option ℕ) (n : ℕ) → o ≡ Some n → is_zero o ≡ false → option_and_then not_zero o ≡ Some n
    skew_by None n is some = absurd (cc is)
    skew_by (Some k) n is some = ap (λ b. cond b None (Some k)) some ∙ is

    root_skew_is : (n : ℕ) × (root_skew tree parts.root ≡ Some n)
    root_skew_is =
        let g = gives Skew skew_at has_skew in
        let t = skew_good g.association g.good in
        let given = option_and_then within_hour (time_at (at_root tree parts.root Skew)) in
        let is : given ≡ Some t.0 = ap (λ o. option_and_then within_hour (time_at o)) g.is ∙ t.2.is in
        let a = zero_skew (at_root tree parts.root Skew) in
        let b = reversed_range Execution (at_root tree parts.root Execution) in
        let c = reversed_range Network (at_root tree parts.root Network) in (
          t.0,
          skew_by given t.0 is (not_wrong (is_zero given) (place_of (at_root tree parts.root Skew)) GAMMA_ORDER
              (shown Skew)
              (append_is_nil_left a b (append_is_nil_left (a ++ b) c all_ordered))),
        )

    ordered : (low high : ℕ) → nat_lt high low ≡ false → nat_le low high ≡ true
    ordered low high e = grind (arith, nat_tests)

    range_by : (o : Option (ℕ × ℕ)) (r : ℕ × ℕ) → o ≡ Some r → is_reversed o ≡ false
        → option_and_then in_order o ≡ Some r
    range_by None r is some = absurd (cc is)
    range_by (Some q) r is some = ap (λ b. cond b (Some q) None) (ordered q.0 q.1 some) ∙ is

    execution_is : (r : ℕ × ℕ) × (root_range tree parts.root Execution ≡ Some r)
    execution_is =
        let g = gives Execution execution_at has_execution in
        let t = execution_good g.association g.good in
        let given = option_and_then range_within (range_at (at_root tree parts.root Execution)) in
        let is : given ≡ Some t.0 = ap (λ o. option_and_then range_within (range_at o)) g.is ∙ t.1 in
        let a = zero_skew (at_root tree parts.root Skew) in
        let b = reversed_range Execution (at_root tree parts.root Execution) in
        let c = reversed_range Network (at_root tree parts.root Network) in (
          t.0,
          range_by given t.0 is (not_wrong (is_reversed given) (place_of (at_root tree parts.root Execution))
              GAMMA_ORDER (shown Execution)
              (append_is_nil_right a b (append_is_nil_left (a ++ b) c all_ordered))),
        )

    network_is : (r : ℕ × ℕ) × (root_range tree parts.root Network ≡ Some r)
    network_is =
        let g = gives Network network_at has_network in
        let t = network_good g.association g.good in
        let given = option_and_then range_within (range_at (at_root tree parts.root Network)) in
        let is : given ≡ Some t.0 = ap (λ o. option_and_then range_within (range_at o)) g.is ∙ t.1 in
        let a = zero_skew (at_root tree parts.root Skew) in
        let b = reversed_range Execution (at_root tree parts.root Execution) in
        let c = reversed_range Network (at_root tree parts.root Network) in (
          t.0,
          range_by given t.0 is (not_wrong (is_reversed given) (place_of (at_root tree parts.root Network)) GAMMA_ORDER
              (shown Network)
              (append_is_nil_right (a ++ b) c all_ordered)),
        )

    gamma_from : (eps : Option ℕ) (alpha mu : Option (ℕ × ℕ)) (n : ℕ) (a m : ℕ × ℕ) → eps ≡ Some n → alpha ≡ Some a
        → mu ≡ Some m
        → (g : Gamma) × (gamma_by eps alpha mu ≡ Some g)
    gamma_from None alpha mu n a m x y z = absurd (cc x)
    gamma_from (Some e) None mu n a m x y z = absurd (cc y)
    gamma_from (Some e) (Some b) None n a m x y z = absurd (cc z)
    gamma_from (Some e) (Some b) (Some c) n a m x y z =
        (record { eps = e; alpha_min = b.0; alpha_max = b.1; mu_min = c.0; mu_max = c.1 }, refl)

    pub root_bounds : (g : Gamma) × (root_gamma tree parts.root ≡ Some g)
    root_bounds =
        gamma_from (root_skew tree parts.root) (root_range tree parts.root Execution)
        (root_range tree parts.root Network) root_skew_is.0 execution_is.0 network_is.0 root_skew_is.1 execution_is.1
        network_is.1

    pub bounds_keep : IsGamma root_bounds.0
    bounds_keep = gamma_fits (time_at (at_root tree parts.root Skew)) (range_at (at_root tree parts.root Execution))
        (range_at (at_root tree parts.root Network)) root_bounds.0 root_bounds.1

    pub enough : least_period root_bounds.0 rate ≤ root_time.0
    enough =
        let place = place_of (at_root tree parts.root Period) in
        let here = append_is_nil_right (missing_findings tree parts.root ++ order_findings tree parts.root)
        (bound_findings place (root_period tree parts.root) (root_gamma tree parts.root) rate) clean in
        leaves_time place root_time.0 root_bounds.0 rate
        (subst (λ o. bound_findings place (Some root_time.0) o rate ≡ []) root_bounds.1
        (subst (λ o. bound_findings place o (root_gamma tree parts.root) rate ≡ []) root_time.1.is here))

    pub some_time : 1 ≤ root_time.0
    some_time = let least = least_is_some root_bounds.0 rate bounds_keep in let h = enough in omega (arith, least, h)

    -- ---- the rate of a thread
    own_is : (path : List ℕ) (n : ℕ) → number_at_path tree parts.root path ≡ Some n
        → (p : ℕ) × (own_period tree parts.root (reverse (subs_along tree parts.root path)) ≡ Some p)
    own_is path n stands =
        let lists = flat_map (lists_at tree) (subs_along tree parts.root path) ++ root_lists tree parts.root in
        let good =
        AllByRecursion-append (LooksGood Period) (flat_map (lists_at tree) (subs_along tree parts.root path))
        (root_lists tree parts.root)
        (along_good path n stands) (root_good Period (λ c. period_at c true)) in
        let a =
        some_by_test (first_in Period lists)
        (first_behind Period (flat_map (lists_at tree) (subs_along tree parts.root path))
        (root_lists tree parts.root) has_period) in
        let t = period_good a.0 (first_good Period lists a.0 good a.1) in
        let same : lists_along tree parts.root (reverse (subs_along tree parts.root path)) ≡ lists = ap
        (λ l. flat_map (lists_at tree) l ++ root_lists tree parts.root)
        (reverse-reverse (subs_along tree parts.root path)) in (
          t.0,
          ap (λ l. option_and_then within_hour (time_at (first_in Period l))) same
              ∙ (ap (λ o. option_and_then within_hour (time_at o)) a.1 ∙ t.2.is),
        )

    pub rate_is : (path : List ℕ) (n : ℕ) → number_at_path tree parts.root path ≡ Some n
        → thread_findings tree parts.root (thread_at tree parts.root path) ≡ []
        → (k : ℕ) × (thread_rate tree parts.root (thread_at tree parts.root path) ≡ Some k) × IsRateOf root_time.0 k
    rate_is path n stands none_here' =
        let thread = thread_at tree parts.root path in
        let p = own_is path n stands in
        let t = root_time in
        let place = thread_place tree thread in
        let here = append_is_nil_right (found_if (not (is_periodic tree thread.subs)) place NOT_PERIODIC thread.path)
        (period_findings place thread.path (root_period tree parts.root) (own_period tree parts.root thread.subs))
        none_here' in
        let given = subst (λ o. period_findings place thread.path (Some t.0) o ≡ []) p.1
        (subst (λ o. period_findings place thread.path o (own_period tree parts.root thread.subs) ≡ []) t.1.is here) in
        let rate_of' : numbers.rate_of (Some t.0) (Some p.0) ≡ Some (t.0 / p.0) =
        rate_from place thread.path t.0 p.0 some_time given in (
          t.0 / p.0,
          ap (λ o. numbers.rate_of o (own_period tree parts.root thread.subs)) t.1.is
              ∙ (ap (numbers.rate_of (Some t.0)) p.1 ∙ rate_of'),
          one_rate_fits t.0 (Some p.0) (t.0 / p.0) rate_of',
        )
