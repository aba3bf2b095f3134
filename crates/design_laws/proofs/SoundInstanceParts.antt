-- If an instance model has no fault and no findings, no part of it has a finding, and neither does the first
-- behaviour of a thread.
use Rattle.std.proofs.Common.{◌≡◌, ◌∙◌, inl, inr, ℕ, zero, suc, ◌+◌, Bool, true, List, [], ◌∷◌, ◌++◌, Some, refl, sym}
use Rattle.std.proofs.Common.{ap, subst, arith, Contains, map}
use Rattle.std.specs.Prelude.{flat_map, slice_get}
use Rattle.std.specs.List.{list_any, enumerate_from}
use Rattle.std.proofs.lemmas.Option.{same_Some, option_and_then_some}
use Rattle.std.proofs.lemmas.Bool.{or_left, or_right, and_from as both}
use Rattle.list_lemmas.proofs.ListOperations.{append_is_nil_right, append_is_nil_left}
use Rattle.list_lemmas.proofs.Numbers.{nat_eq-self}
use Rattle.aadl_tree.specs.Declarations.{type, TypeDeclaration, Implementation, implementation, PackageTree}
use Rattle.aadl_tree.specs.Declarations.{Declaration}
use Rattle.aadl_names.specs.declared.fault.PackageFault.{PackageFault}
use Rattle.aadl_names.specs.declared.fault.PackageFault.TheVariants.{TooMany, WrongKind}
use Rattle.aadl_names.specs.NameResolution.{implementation_at, type_number, is_thread}
use Rattle.aadl_names.specs.PackageNameFaults.{package_faults, behaviour_faults, annex_faults, declaration_faults}
use Rattle.aadl_names.specs.PackageNameFaults.{wrong_names}
use Rattle.aadl_uses.specs.ContainmentAndUse.{number_at_path, component_at}
use Rattle.aadl_chains.proofs.PermittedConnections.{implementation_in-some}
use Rattle.aadl_instance.specs.Faults.{IsOver, FoundIn}
use Rattle.aadl_instance.specs.InstancesByPaths.{InstanceParts, IsFlat}
use Rattle.design_laws.proofs.EmptyFindingLists.{none_at}
use Rattle.design_laws.proofs.PairwiseDistinctNames.{where_true}
use Rattle.model_violations.specs.IgnoredProperties.{is_number, is_root_type}
use Rattle.component_checks.specs.RootFindings.{root_findings}
use Rattle.component_checks.specs.ThreadRatesAndFindings.{greatest_rate, thread_findings}
use Rattle.model_violations.specs.ConnectionsAndCarriers.{carries}
use Rattle.model_violations.specs.ChainFindings.{link_findings, feed_findings, tap_findings}
use Rattle.model_violations.specs.UsedDeclarations.{IsUse, uses_type, type_used}
use Rattle.model_violations.specs.DeclarationFindings.{type_findings, implementation_findings, declaration_findings}
use Rattle.model_violations.specs.Violations.{ShownInstance, rates_of, carriers_of, chain_findings, used_findings}
use Rattle.model_violations.specs.Violations.{findings}
use Rattle.aadl_tree.specs.Annexes.{AnnexTree}
use Rattle.aadl_names.specs.BehaviourAnnexes as names
use Rattle.aadl_names.specs.DuplicatesByNamespace.{twice_names}
use Rattle.design_laws.proofs.DeclaredStates.{of_thread}

-- ---- no fault
nothing_in : {X : Type 0} (xs : List X) → ((x : X) → Contains xs x → ⊥) → xs ≡ []
nothing_in [] none = refl
nothing_in (x ∷ xs) none = absurd (none x (0, omega arith, refl))

module _ {tree : PackageTree ℕ} {name : List ℕ} {parts : InstanceParts} (flat : IsFlat tree name parts) where
  pub not_found : (line : ℕ) (fault : PackageFault) → FoundIn tree parts.root line fault → ⊥
  not_found line fault found = flat.sound line fault (inr (parts.root, flat.root, found))

  pub names_clean : package_faults tree parts.root ≡ []
  names_clean = nothing_in (package_faults tree parts.root) (λ fault found. not_found 2 fault (inl (refl, found)))

  pub not_over : (line : ℕ) (what : List ℕ) → IsOver tree parts.root line what → ⊥
  not_over line what over = not_found line (TooMany what) (inr (inr (inr (what, over, refl))))

-- ---- no findings
pub record NoFindings (tree : PackageTree ℕ) (s : ShownInstance) (used : ℕ → Bool) : Type 0 where
  pub root : root_findings tree s.root (greatest_rate (rates_of tree s)) ≡ []
  pub threads : flat_map (thread_findings tree s.root) s.threads ≡ []
  pub links : flat_map (link_findings tree s.threads (rates_of tree s)) s.links ≡ []
  pub feeds : flat_map (feed_findings tree s.threads (rates_of tree s)) s.feeds ≡ []
  pub taps : flat_map (tap_findings tree s.threads) s.taps ≡ []
  pub declarations : used_findings tree s used ≡ []

pub all_parts : (tree : PackageTree ℕ) (s : ShownInstance) (used : ℕ → Bool) → findings tree s used ≡ []
    → NoFindings tree s used
unfolding findings
all_parts tree s used none =
    let root = root_findings tree s.root (greatest_rate (rates_of tree s)) in
    let threads = flat_map (thread_findings tree s.root) s.threads in
    let links = flat_map (link_findings tree s.threads (rates_of tree s)) s.links in
    let feeds = flat_map (feed_findings tree s.threads (rates_of tree s)) s.feeds in
    let taps = flat_map (tap_findings tree s.threads) s.taps in
    let chains = chain_findings tree s (rates_of tree s) in
    let front = append_is_nil_left (root ++ threads ++ chains) (used_findings tree s used) none in
    let first = append_is_nil_left (root ++ threads) chains front in
    let second = append_is_nil_right (root ++ threads) chains front in
    let both = append_is_nil_left (links ++ feeds) taps second in
    record {
      root = append_is_nil_left root threads first;
      threads = append_is_nil_right root threads first;
      links = append_is_nil_left links feeds both;
      feeds = append_is_nil_right links feeds both;
      taps = append_is_nil_right (links ++ feeds) taps second;
      declarations = append_is_nil_right (root ++ threads ++ chains) (used_findings tree s used) none;
    }

-- ---- declarations in use
pub declared_at : (tree : PackageTree ℕ) (n : ℕ) (x : Implementation ℕ) → implementation_at tree n ≡ Some x
    → slice_get tree.declarations n ≡ Some (implementation x)
declared_at tree n x is = implementation_in-some (slice_get tree.declarations n) x is

any_numbered : {X : Type 0} (p : ℕ × X → Bool) (from : ℕ) (xs : List X) (n : ℕ) (x : X) → slice_get xs n ≡ Some x
    → p (from + n, x) ≡ true
    → list_any p (enumerate_from from xs) ≡ true
any_numbered p from [] n x is passes = absurd (cc is)
any_numbered p from (y ∷ xs) zero x is passes =
    let zero' : from + 0 ≡ from = omega arith in
    or_left (p (from, y)) (list_any p (enumerate_from (from + 1) xs)) (ap (λ z. p (from, z)) (same_Some y x is)
    ∙ (ap (λ k. p (k, x)) (sym zero') ∙ passes))
any_numbered p from (y ∷ xs) (suc n) x is passes =
    let next : (from + 1) + n ≡ from + suc n = omega arith in
    or_right (p (from, y)) (list_any p (enumerate_from (from + 1) xs))
    (any_numbered p (from + 1) xs n x is (ap (λ k. p (k, x)) next ∙ passes))

module _ (tree : PackageTree ℕ) (s : ShownInstance) (used : ℕ → Bool) (none : used_findings tree s used ≡ []) where
  pub implementation_clean : (n : ℕ) (x : Implementation ℕ) → used n ≡ true
      → slice_get tree.declarations n ≡ Some (implementation x)
      → implementation_findings tree s.root (carries (carriers_of s)) n x ≡ []
  implementation_clean n x in_use is =
      let zero' : 0 + n ≡ n = omega arith in
      let here =
      none_at (declaration_findings tree s.root used (type_used tree used) (carries (carriers_of s))) 0
      tree.declarations none n
      (implementation x) is in
      where_true (used n) (implementation_findings tree s.root (carries (carriers_of s)) n x) in_use
      (subst (λ k. declaration_findings tree s.root used (type_used tree used) (carries (carriers_of s))
      (k, implementation x) ≡ []) zero' here)

  pub type_is_used : (n m : ℕ) (x : Implementation ℕ) → used n ≡ true
      → slice_get tree.declarations n ≡ Some (implementation x)
      → type_number tree x ≡ Some m → type_used tree used m ≡ true
  type_is_used n m x in_use is number =
      let zero' : 0 + n ≡ n = omega arith in
      any_numbered (uses_type tree used m) 0 tree.declarations n (implementation x) is
      (ap (λ k. uses_type tree used m (k, implementation x)) zero'
      ∙ both (used n) (is_number m (type_number tree x)) in_use
      (ap (is_number m) number ∙ nat_eq-self m))

  pub type_clean : (n m : ℕ) (x : Implementation ℕ) (t : TypeDeclaration ℕ) → used n ≡ true
      → slice_get tree.declarations n ≡ Some (implementation x) → type_number tree x ≡ Some m
      → slice_get tree.declarations m ≡ Some (type t) → type_findings (is_root_type tree s.root m) t ≡ []
  type_clean n m x t in_use is number type_is =
      let zero' : 0 + m ≡ m = omega arith in
      let here =
      none_at (declaration_findings tree s.root used (type_used tree used) (carries (carriers_of s))) 0
      tree.declarations none m
      (type t) type_is in
      where_true (type_used tree used m) (type_findings (is_root_type tree s.root m) t)
      (type_is_used n m x in_use is number)
      (subst (λ k. declaration_findings tree s.root used (type_used tree used) (carries (carriers_of s)) (k, type t)
      ≡ []) zero' here)

-- ---- the declaration at a path
pub record StandsAt (tree : PackageTree ℕ) (root : ℕ) (path : List ℕ) (x : Implementation ℕ) : Type 0 where
  pub number : ℕ
  pub stands : number_at_path tree root path ≡ Some number
  pub is : implementation_at tree number ≡ Some x

pub stands_at : (tree : PackageTree ℕ) (root : ℕ) (path : List ℕ) (x : Implementation ℕ)
    → component_at tree root path ≡ Some x
    → StandsAt tree root path x
stands_at tree root path x e = option_and_then_some (implementation_at tree) (number_at_path tree root path) x e
    (λ n stands is. record { number = n; stands = stands; is = is })

pub is_used : (tree : PackageTree ℕ) (root : ℕ) (used : ℕ → Bool) → IsUse tree root used → (path : List ℕ) (n : ℕ)
    → number_at_path tree root path ≡ Some n → used n ≡ true
is_used tree root used is_use path n stands = (is_use n).1 (path, stands)

first_faults : (tree : PackageTree ℕ) (x : Implementation ℕ) (bs : List (ℕ × AnnexTree ℕ)) (b : ℕ × AnnexTree ℕ)
    → slice_get bs 0 ≡ Some b
    → is_thread x.category ≡ true → annex_faults tree x bs ≡ []
    → behaviour_faults tree x b.1 ≡ []
first_faults tree x [] b is thread none = absurd (cc is)
first_faults tree x (c ∷ bs) b is thread none =
    let same : c ≡ b = cc is in
    let others = map (λ (d : ℕ × AnnexTree ℕ). WrongKind d.0) in
    subst (λ (d : ℕ × AnnexTree ℕ). behaviour_faults tree x d.1 ≡ []) same
    (of_thread (is_thread x.category) (behaviour_faults tree x c.1) (others bs) (others (c ∷ bs)) thread none)

pub declaration_clean : (tree : PackageTree ℕ) (root n : ℕ) (d : Declaration ℕ) → package_faults tree root ≡ []
    → slice_get tree.declarations n ≡ Some d → declaration_faults tree root (n, d) ≡ []
unfolding wrong_names
declaration_clean tree root n d none is =
    let all = append_is_nil_right _ (flat_map (declaration_faults tree root) (enumerate_from 0 tree.declarations))
    (append_is_nil_left (wrong_names tree root) (twice_names tree) none) in
    let here = none_at (declaration_faults tree root) 0 tree.declarations all n d is in
    let zero' : 0 + n ≡ n = omega arith in
    subst (λ k. declaration_faults tree root (k, d) ≡ []) zero' here

pub first_clean : (tree : PackageTree ℕ) (root n : ℕ) (x : Implementation ℕ) (b : ℕ × AnnexTree ℕ)
    → package_faults tree root ≡ []
    → slice_get tree.declarations n ≡ Some (implementation x) → is_thread x.category ≡ true
    → slice_get (names.behaviours x.annexes) 0 ≡ Some b → behaviour_faults tree x b.1 ≡ []
first_clean tree root n x b none is thread first =
    first_faults tree x (names.behaviours x.annexes) b first thread
    (append_is_nil_right _ (annex_faults tree x (names.behaviours x.annexes))
    (declaration_clean tree root n (implementation x) none is))
