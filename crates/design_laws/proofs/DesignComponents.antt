-- The components of an instance model without findings.
use Rattle.std.proofs.Common.{◌≡◌, ◌≢◌, ◌∙◌, inl, inr, ℕ, ◌≤◌, max, Bool, List, [], ◌∷◌, map, length, fold, codes}
use Rattle.std.proofs.Common.{Option, Some, None, AllPairs, refl, sym, ap, subst, arith, length-append}
use Rattle.aadl_tree.specs.Names.{identifiers, listed_in}
use Rattle.std.specs.Prelude.{flat_map, slice_get, All, IsTrue}
use Rattle.std.specs.List.{AllByRecursion}
use Rattle.std.specs.Option.{option_and_then}
use Rattle.std.proofs.lemmas.List.{length-map}
use Rattle.std.proofs.lemmas.List.Elements.{recursion_from_All}
use Rattle.std.proofs.lemmas.Option.{same_Some}
use Rattle.list_lemmas.proofs.Numbers.{le_from_not_lt}
use Rattle.list_lemmas.proofs.PairwiseProperties.{pairs_from}
use Rattle.pals_base.specs.declared.limits.TheConstants.{PORTS, VARIABLES, STATES, COMPONENTS, PATH_BYTES}
use Rattle.pals_base.specs.declared.behaviour.BehaviourParts.{BehaviourParts}
use Rattle.pals_base.specs.Names.{is_path}
use Rattle.pals_base.specs.BehaviourRules.{IsBehaviour}
use Rattle.pals_model.specs.declared.design.Component.{Component}
use Rattle.pals_model.specs.DesignRules as model
use Rattle.aadl_tree.specs.Annexes.{VariableDeclaration, StateDeclaration, AnnexTree}
use Rattle.aadl_tree.specs.Declarations.{Implementation, PackageTree}
use Rattle.aadl_names.specs.BehaviourAnnexes as names
use Rattle.aadl_names.specs.NameResolution.{implementation_at, ports_of}
use Rattle.aadl_uses.specs.ContainmentAndUse.{number_at_path}
use Rattle.aadl_uses.specs.ThreadsBelow.{IsThreadOf, IsThreadAt, PathBefore}
use Rattle.aadl_names.specs.BehaviourAnnexes.{first_behaviour}
use Rattle.aadl_uses.specs.ThreadLocations.{spelled_path, thread_at}
use Rattle.aadl_instance.specs.BehaviourSizes.{count_in, variable_count, state_count}
use Rattle.aadl_instance.specs.InstancesByPaths.{InstanceParts, IsFlat}
use Rattle.annex_resolve.specs.ExpressionTypesAndFindings.{kind_named}
use Rattle.annex_resolve.specs.BehavioursAndFindings.{state_at, states_in, states_of, declared, behaviour_of}
use Rattle.component_checks.specs.RootFindings.{root_findings}
use Rattle.component_checks.specs.ThreadRatesAndFindings.{thread_rate, thread_findings, greater_rate, greatest_rate}
use Rattle.model_violations.specs.PortsAndVariables.{ins_in, outs_in, first_of, variable_of, variables_in, variables_of}
use Rattle.model_violations.specs.PortsAndVariables.{named_of, var_of, values_of, scope_of}
use Rattle.model_violations.specs.ThreadBehaviours.{first_annex, behaviour_by, behaviour_in}
use Rattle.model_violations.proofs.PortAndVariableLists.{ports_both}
use Rattle.design_laws.specs.proof.PackageNames.{AreNamed}
use Rattle.design_laws.proofs.ElementAndPairwiseProperties.{all_unmapped}
use Rattle.design_laws.proofs.PairwiseDistinctNames.{all_none}
use Rattle.design_laws.proofs.BoundsAndRates.{IsRateOf}
use Rattle.model_violations.specs.UsedDeclarations.{IsUse}
use Rattle.model_violations.specs.Violations.{shown_by, used_findings}
use Rattle.design_laws.specs.InstanceDesigns.{component_by, component_in, thread_behaviour}
use Rattle.design_laws.proofs.SoundInstanceParts.{names_clean, not_over, declared_at}
use Rattle.design_laws.proofs.InstanceBehaviours.{ThreadLaw, ThreadIs, thread_is, root_no_thread, thread_behaves}
use Rattle.design_laws.proofs.InstanceBehaviours.{seen_behaviour}
use Rattle.design_laws.proofs.InstanceBoundsAndRates.{root_time, rate_is}
use Rattle.design_laws.proofs.PathTexts.{path_is, paths_differ, before_other}
use Rattle.design_laws.proofs.MatchedLists.{Zipped, Made, all_made, zipped_length, all_zipped, pairs_zipped}

-- ---- the sizes of a behaviour
variables_by : (vs : List (VariableDeclaration ℕ)) → length (flat_map variables_in vs) ≡ length
    (flat_map (λ (v : VariableDeclaration ℕ). identifiers v.names) vs)
variables_by [] = refl
variables_by (v ∷ vs) =
    let a = length-append (variables_in v) (flat_map variables_in vs) in
    let b = length-append (identifiers v.names) (flat_map (λ (w : VariableDeclaration ℕ). identifiers w.names) vs) in
    let c = length-map (identifiers v.names) (variable_of (kind_named v.data_type) (first_of v)) in
    let d = variables_by vs in
    omega (arith, a, b, c, d)

states_by : (ss : List (StateDeclaration ℕ)) → length (flat_map states_in ss) ≡ length
    (flat_map (λ (s : StateDeclaration ℕ). identifiers s.names) ss)
states_by [] = refl
states_by (s ∷ ss) =
    let a = length-append (states_in s) (flat_map states_in ss) in
    let b = length-append (identifiers s.names) (flat_map (λ (t : StateDeclaration ℕ). identifiers t.names) ss) in
    let c = length-map (identifiers s.names) (state_at s) in
    let d = states_by ss in
    omega (arith, a, b, c, d)

variables_counted : (o : Option (List (VariableDeclaration ℕ))) → length (flat_map variables_in (listed_in o)) ≡ length
    (flat_map (λ (v : VariableDeclaration ℕ). identifiers v.names) (listed_in o))
variables_counted None = refl
variables_counted (Some vs) = variables_by vs

states_counted : (o : Option (List (StateDeclaration ℕ))) → length (flat_map states_in (listed_in o)) ≡ length
    (flat_map (λ (s : StateDeclaration ℕ). identifiers s.names) (listed_in o))
states_counted None = refl
states_counted (Some ss) = states_by ss

first_counted : {X : Type 0} (of : AnnexTree ℕ → List X) (bs : List (ℕ × AnnexTree ℕ)) (b : ℕ × AnnexTree ℕ)
    → slice_get bs 0 ≡ Some b
    → count_in of (first_behaviour bs) ≡ length (of b.1)
first_counted of [] b is = absurd (cc is)
first_counted of (c ∷ bs) b is = ap (λ (d : ℕ × AnnexTree ℕ). length (of d.1)) (same_Some c b is)

module _ {tree : PackageTree ℕ} {name : List ℕ} {parts : InstanceParts} (flat : IsFlat tree name parts) (path : List ℕ)
    (x : Implementation ℕ)
    (thread : IsThreadOf tree parts.root path x) where
  few_ports : length (ports_of tree x) ≤ PORTS
  few_ports = le_from_not_lt PORTS (length (ports_of tree x)) (λ more. not_over flat 7 (codes "ports")
      (inr (inr (inl (refl, refl, (path, x, thread, more))))))

  few_variables : variable_count x ≤ VARIABLES
  few_variables = le_from_not_lt VARIABLES (variable_count x) (λ more. not_over flat 8 (codes "variables")
      (inr (inr (inr (inl (refl, refl, (path, x, thread, more)))))))

  few_states : state_count x ≤ STATES
  few_states = le_from_not_lt STATES (state_count x) (λ more. not_over flat 9 (codes "states")
      (inr (inr (inr (inr (inl (refl, refl, (path, x, thread, more))))))))

  pub short_path : length (spelled_path tree parts.root path) ≤ PATH_BYTES
  short_path = le_from_not_lt PATH_BYTES (length (spelled_path tree parts.root path))
      (λ more. not_over flat 10 (codes "path") (inr (inr (inr (inr (inr (refl, refl, (path, x, thread, more))))))))

  small_by : (b : ℕ × AnnexTree ℕ) → first_annex x ≡ Some b
      → model.IsSmall (behaviour_of (values_of tree x b.1) (scope_of tree x b.1) b.1)
  small_by b first = record {
    ports =
        let ins = length-map (ins_in (ports_of tree x)) named_of in
        let outs = length-map (outs_in (ports_of tree x)) named_of in
        let both = ports_both (ports_of tree x) in
        let few = few_ports in
        omega (arith, ins, outs, both, few);
    vars =
        let vars = length-map (variables_of b.1) var_of in
        let same = variables_counted b.1.variables in
        let count = first_counted names.variables_of (names.behaviours x.annexes) b first in
        let few = few_variables in
        omega (arith, vars, same, count, few);
    states =
        let states = length-map (states_of b.1) declared in
        let same = states_counted b.1.states in
        let count = first_counted names.states_of (names.behaviours x.annexes) b first in
        let few = few_states in
        omega (arith, states, same, count, few);
  }

  small_of : (o : Option (ℕ × AnnexTree ℕ)) (b : BehaviourParts) → first_annex x ≡ o → behaviour_by tree x o ≡ Some b
      → model.IsSmall b
  small_of None b first is = absurd (cc is)
  small_of (Some a) b first is =
      subst model.IsSmall (same_Some (behaviour_of (values_of tree x a.1) (scope_of tree x a.1) a.1) b is)
      (small_by a first)

  pub is_small : (b : BehaviourParts) → behaviour_in tree x ≡ Some b → model.IsSmall b
  is_small b is = small_of (first_annex x) b refl is

-- ---- components
module _ {tree : PackageTree ℕ} {name : List ℕ} {parts : InstanceParts} (flat : IsFlat tree name parts)
    (used : ℕ → Bool)
    (is_use : IsUse tree parts.root used) (none : used_findings tree (shown_by tree parts) used ≡ [])
    (rate : ℕ) (clean : root_findings tree parts.root rate ≡ []) (threads : flat_map (thread_findings tree parts.root)
    (map (thread_at tree parts.root) parts.threads) ≡ []) (named : AreNamed tree)
    (law : ThreadLaw) where
  -- a component of the design, by its path
  pub record IsOf (path : List ℕ) (c : Component) : Type 0 where
    pub thread : ThreadIs tree parts.root path
    pub path_is : c.path ≡ spelled_path tree parts.root path
    pub rate_seen : thread_rate tree parts.root (thread_at tree parts.root path) ≡ Some c.rate
    pub rate_fits : IsRateOf (root_time flat used is_use none rate clean).0 c.rate
    pub seen : behaviour_in tree thread.component ≡ Some c.behaviour
    pub keeps : IsBehaviour c.behaviour

  component_at_path : (path : List ℕ) → IsThreadAt tree parts.root path
      → thread_findings tree parts.root (thread_at tree parts.root path) ≡ []
      → (c : Component) × (component_in tree parts.root (thread_at tree parts.root path) ≡ Some c) × IsOf path c
  component_at_path path at found =
      let t = thread_is flat path at in
      let r = rate_is flat used is_use none rate clean path t.number t.stands found in
      let b = thread_behaves flat used is_use none named law path t in
      let thread = thread_at tree parts.root path in (
        record { path = thread.path; rate = r.0; behaviour = b.behaviour },
        ap (λ o. component_by thread.path o (thread_behaviour tree thread)) r.1
            ∙ ap (component_by thread.path (Some r.0)) (seen_behaviour flat used is_use none named law path t b),
        record { thread = t; path_is = refl; rate_seen = r.1; rate_fits = r.2; seen = b.is_behaviour; keeps = b.keeps },
      )

  each_there : (paths : List (List ℕ)) → AllByRecursion (IsThreadAt tree parts.root) paths
      → AllByRecursion (λ path. thread_findings tree parts.root (thread_at tree parts.root path) ≡ []) paths
      → AllByRecursion (λ path. (c : Component)
      × (component_in tree parts.root (thread_at tree parts.root path) ≡ Some c) × IsOf path c) paths
  each_there [] at found = tt
  each_there (path ∷ paths) at found = (component_at_path path at.0 found.0, each_there paths at.1 found.1)

  pub components : Made (λ path. component_in tree parts.root (thread_at tree parts.root path)) IsOf parts.threads
  components =
      all_made (λ path. component_in tree parts.root (thread_at tree parts.root path)) IsOf parts.threads
      (each_there parts.threads (recursion_from_All (IsThreadAt tree parts.root) parts.threads flat.threads.each)
      (all_unmapped (λ t. thread_findings tree parts.root t ≡ []) (thread_at tree parts.root) parts.threads
      (all_none (thread_findings tree parts.root) (map (thread_at tree parts.root) parts.threads) threads)))

  pub thread_of : (path : List ℕ) → (t : ThreadIs tree parts.root path) → IsThreadOf tree parts.root path t.component
  thread_of path t = (ap (option_and_then (implementation_at tree)) t.stands ∙ t.is_component, t.is_thread)

  path_by : (path : List ℕ) → (t : ThreadIs tree parts.root path) → IsTrue (is_path (spelled_path tree parts.root path))
  path_by [] t = absurd (root_no_thread flat t)
  path_by (s ∷ path) t = path_is tree named.words parts.root s path t.number t.stands

  component_keeps : (path : List ℕ) (c : Component) → IsOf path c
      → model.IsComponent (root_time flat used is_use none rate clean).0 c
  component_keeps path c is = record {
    path = subst (λ p. IsTrue (is_path p)) (sym is.path_is) (path_by path is.thread);
    path_size =
        subst (λ p. length p ≤ PATH_BYTES) (sym is.path_is)
        (short_path flat path is.thread.component (thread_of path is.thread));
    rate = (is.rate_fits.low, is.rate_fits.high);
    divides = is.rate_fits.divides;
    small = is_small flat path is.thread.component (thread_of path is.thread) c.behaviour is.seen;
    behaviour = is.keeps;
  }

  few_components : length components.all ≤ COMPONENTS
  few_components =
      let same = zipped_length IsOf parts.threads components.all components.each in
      let few = le_from_not_lt COMPONENTS (length parts.threads) (λ more. not_over flat 5 (codes "components")
      (inl (
        refl,
        refl,
        record {
          some = parts.threads;
          each = flat.threads.each;
          in_order = flat.threads.in_order;
          many = more;
        },
      ))) in
      omega (arith, same, few)

  differ_by : (p q : List ℕ) (m n : ℕ) → number_at_path tree parts.root p ≡ Some m
      → number_at_path tree parts.root q ≡ Some n
      → ThreadIs tree parts.root p
      → ThreadIs tree parts.root q
      → spelled_path tree parts.root p ≡ spelled_path tree parts.root q → p ≡ q
  differ_by [] q m n first second a b same = absurd (root_no_thread flat a)
  differ_by (s ∷ p) [] m n first second a b same = absurd (root_no_thread flat b)
  differ_by (s ∷ p) (t ∷ q) m n first second a b same =
      paths_differ tree named.words parts.root (λ k x is. named.differ parts.root k x (names_clean flat)
      (declared_at tree k x is)) s t p q m n first second same

  other_paths : (p q : List ℕ) (a b : Component) → PathBefore p q → IsOf p a → IsOf q b → a.path ≢ b.path
  other_paths p q a b before x y same =
      absurd (before_other p q before
      (differ_by p q x.thread.number y.thread.number x.thread.stands y.thread.stands x.thread y.thread
      (sym x.path_is ∙ (same ∙ y.path_is))))

  pub components_keep : All (model.IsComponent (root_time flat used is_use none rate clean).0) components.all
  components_keep =
      all_zipped IsOf (model.IsComponent (root_time flat used is_use none rate clean).0) component_keeps parts.threads
      components.all components.each

  pub components_few : length components.all ≤ COMPONENTS
  components_few = few_components

  pub components_differ : AllPairs (λ (a b : Component). a.path ≢ b.path) components.all
  components_differ =
      pairs_zipped IsOf PathBefore (λ (a b : Component). a.path ≢ b.path) other_paths parts.threads components.all
      (pairs_from PathBefore parts.threads flat.threads.in_order) components.each

  -- ---- the maximum rate
  rates_by : (k : ℕ) (paths : List (List ℕ)) (cs : List Component) → Zipped IsOf paths cs
      → fold greater_rate k (map (λ path. thread_rate tree parts.root (thread_at tree parts.root path)) paths) ≡ fold
      (λ n (c : Component). max n c.rate) k cs
  rates_by k [] [] h = refl
  rates_by k [] (c ∷ cs) h = absurd h
  rates_by k (path ∷ paths) [] h = absurd h
  rates_by k (path ∷ paths) (c ∷ cs) h =
      ap (λ o. fold greater_rate (greater_rate k o)
      (map (λ p. thread_rate tree parts.root (thread_at tree parts.root p)) paths)) h.0.rate_seen
      ∙ rates_by (max k c.rate) paths cs h.1

  pub greatest_is : greatest_rate
      (map (λ path. thread_rate tree parts.root (thread_at tree parts.root path)) parts.threads) ≡
      model.greatest_rate components.all
  greatest_is = rates_by 1 parts.threads components.all components.each
