-- The behaviours of the threads of an instance model without findings.
use Rattle.std.proofs.Common.{◌≡◌, ◌∙◌, ℕ, suc, ◌+◌, Bool, true, false, cond, List, [], ◌∷◌, ◌++◌, map, reverse, Option}
use Rattle.std.proofs.Common.{Some, None, refl, sym, ap, subst, arith}
use Rattle.aadl_tree.specs.Names.{same_name}
use Rattle.std.specs.Prelude.{flat_map, slice_get, All}
use Rattle.std.specs.List.{position_from}
use Rattle.std.specs.Option.{option_and_then}
use Rattle.std.proofs.lemmas.Bool.{false≢true, and_parts as parts}
use Rattle.std.proofs.lemmas.List.{reverse-append}
use Rattle.std.proofs.lemmas.List.Elements.{All-map, All-weaker}
use Rattle.std.proofs.lemmas.Option.{same_Some, option_and_then_some}
use Rattle.list_lemmas.proofs.ListOperations.{append_is_nil_right, append_is_nil_left}
use Rattle.list_lemmas.proofs.ElementPositions.{slice_get-last}
use Rattle.list_lemmas.proofs.Options.{option_and_then_assoc}
use Rattle.pals_base.specs.BehaviourRules.{IsBehaviour}
use Rattle.aadl_tree.specs.declared.declarations.Category.{Category}
use Rattle.aadl_tree.specs.declared.declarations.Category.TheVariants as categories
use Rattle.aadl_tree.specs.Declarations.{Declaration, type, Implementation, implementation, Subcomponent, PackageTree}
use Rattle.aadl_names.specs.NameResolution.{is_thread, is_system, is_root, implementation_at, features_of, type_in}
use Rattle.aadl_names.specs.NameResolution.{type_numbered, type_number, ports_of, target_of, referred}
use Rattle.aadl_names.specs.PackageNameFaults.{package_faults}
use Rattle.aadl_names.specs.QualifiedNameSpellings.{spelled_implementation}
use Rattle.aadl_uses.specs.ContainmentAndUse.{sub_at, below, number_at_path, component_at}
use Rattle.aadl_uses.specs.ThreadsBelow.{IsThreadAt}
use Rattle.aadl_uses.specs.declared.thread_locations.SubAt.{SubAt}
use Rattle.aadl_uses.specs.ThreadLocations.{sub_in, subs_along, thread_at}
use Rattle.aadl_instance.specs.InstancesByPaths.{InstanceParts, IsFlat}
use Rattle.component_checks.specs.PropertyLookup.{sub_of, innermost}
use Rattle.component_checks.specs.TypeFindings.{port_findings}
use Rattle.model_violations.specs.ChainEnds.{component_of}
use Rattle.model_violations.specs.ThreadBehaviours as threads
use Rattle.design_laws.specs.proof.PackageNames.{HasWords, NamesDiffer, AreNamed}
use Rattle.design_laws.proofs.PairwiseDistinctNames.{where_true}
use Rattle.design_laws.specs.proof.ThreadBehaviours.{Behaves}
use Rattle.model_violations.specs.UsedDeclarations.{IsUse}
use Rattle.model_violations.specs.DeclarationFindings.{thread_findings}
use Rattle.model_violations.specs.Violations.{shown_by, used_findings}
use Rattle.design_laws.specs.InstanceDesigns.{thread_behaviour, HasRules}
use Rattle.design_laws.proofs.SoundInstanceParts.{names_clean, declared_at, implementation_clean, type_clean, stands_at}
use Rattle.design_laws.proofs.SoundInstanceParts.{is_used}

-- ---- the component at a path is the one of its innermost subcomponent

innermost_last : (tree : PackageTree ℕ) (front : List SubAt) (x : SubAt)
    → innermost tree (front ++ x ∷ []) ≡ sub_of tree x
innermost_last tree front x = ap (option_and_then (sub_of tree)) (slice_get-last front x)

component_by : (tree : PackageTree ℕ) (root s : ℕ) (path : List ℕ) (n : ℕ) → number_at_path tree root path ≡ Some n
    → innermost tree (reverse (subs_along tree root (s ∷ path))) ≡ sub_at tree n s
component_by tree root s path n stands =
    let here : SubAt = record { declaration = n; sub = s } in
    let along : reverse (subs_along tree root (s ∷ path)) ≡ reverse (subs_along tree root path) ++ here ∷ [] =
    ap (λ o. reverse (sub_in o s ++ subs_along tree root path)) stands
    ∙ reverse-append (here ∷ []) (subs_along tree root path) in
    ap (innermost tree) along ∙ innermost_last tree (reverse (subs_along tree root path)) here

pub component_is : (tree : PackageTree ℕ) (root s : ℕ) (path : List ℕ) (n : ℕ) → number_at_path tree root path ≡ Some n
    → component_of tree (thread_at tree root (s ∷ path)) ≡ component_at tree root (s ∷ path)
component_is tree root s path n stands =
    let sub = component_by tree root s path n stands in
    ap (option_and_then (target_of tree)) sub
    ∙ (sym (option_and_then_assoc (λ (x : Subcomponent ℕ). referred tree x.classifier) (implementation_at tree)
    (sub_at tree n s))
    ∙ sym (ap (λ o. option_and_then (implementation_at tree) (option_and_then (λ k. below tree k s) o)) stands))

-- ---- the root is not a thread
pub record FirstIs {X : Type 0} (p : X → Bool) (from n : ℕ) (xs : List X) : Type 0 where
  pub place : ℕ
  pub one : X
  pub number : n ≡ from + place
  pub is : slice_get xs place ≡ Some one
  pub passes : p one ≡ true

first_by : {X : Type 0} (p : X → Bool) (from n : ℕ) (x : X) (xs : List X) (b : Bool) (rest : Option ℕ) → p x ≡ b
    → (rest ≡ Some n → FirstIs p (from + 1) n xs) → cond b (Some from) rest ≡ Some n → FirstIs p from n (x ∷ xs)
first_by p from n x xs true rest test later is = let e : from ≡ n = same_Some from n is in record {
  place = 0;
  one = x;
  number = omega
      (arith, e);
  is = refl;
  passes = test;
}
first_by p from n x xs false rest test later is =
    let h = later is in
    let e = h.number in
    record { place = suc h.place; one = h.one; number = omega (arith, e); is = h.is; passes = h.passes }

pub first_is : {X : Type 0} (p : X → Bool) (from n : ℕ) (xs : List X) → position_from p from xs ≡ Some n
    → FirstIs p from n xs
first_is p from n [] is = absurd (cc is)
first_is p from n (x ∷ xs) is =
    first_by p from n x xs (p x) (position_from p (from + 1) xs) refl (first_is p (from + 1) n xs) is

system_no_thread : (c : Category) → is_system c ≡ true → is_thread c ≡ true → ⊥
system_no_thread categories.System system thread = false≢true thread
system_no_thread categories.Process system thread = false≢true thread
system_no_thread categories.Thread system thread = false≢true system

root_system : (name : List ℕ) (d : Declaration ℕ) (x : Implementation ℕ) → d ≡ implementation x → is_root name d ≡ true
    → is_system x.category ≡ true
root_system name (type y) x is passes = absurd (false≢true passes)
root_system name (implementation y) x is passes =
    let e : y ≡ x = cc is in
    subst (λ (z : Implementation ℕ). is_system z.category ≡ true) e (parts (is_system y.category)
    (same_name name (spelled_implementation y.name)) passes).0

pub root_is : {tree : PackageTree ℕ} {name : List ℕ} {parts : InstanceParts} → IsFlat tree name parts
    → (x : Implementation ℕ)
    → implementation_at tree parts.root ≡ Some x → is_system x.category ≡ true
root_is {tree} {name} {parts} flat x is =
    let f = first_is (is_root name) 0 parts.root tree.declarations flat.root in
    let e : f.place ≡ parts.root = let h = f.number in omega (arith, h) in
    let here : slice_get tree.declarations parts.root ≡ Some f.one = ap (slice_get tree.declarations) (sym e) ∙ f.is in
    root_system name f.one x (same_Some f.one (implementation x) (sym here ∙ declared_at tree parts.root x is)) f.passes

-- ---- threads
pub record ThreadIs (tree : PackageTree ℕ) (root : ℕ) (path : List ℕ) : Type 0 where
  pub component : Implementation ℕ
  pub number : ℕ
  pub is_component : implementation_at tree number ≡ Some component
  pub stands : number_at_path tree root path ≡ Some number
  pub is_thread : is_thread component.category ≡ true
  pub seen : component_of tree (thread_at tree root path) ≡ Some component

thread_by : {tree : PackageTree ℕ} {name : List ℕ} {parts : InstanceParts} → IsFlat tree name parts
    → (path : List ℕ) (x : Implementation ℕ)
    → component_at tree parts.root path ≡ Some x → is_thread x.category ≡ true
    → ThreadIs tree parts.root path
thread_by {tree} {name} {parts} flat [] x e thread = absurd (system_no_thread x.category (root_is flat x e) thread)
thread_by {tree} {name} {parts} flat (s ∷ path) x e thread =
    let at = stands_at tree parts.root (s ∷ path) x e in
    option_and_then_some (λ n. below tree n s) (number_at_path tree parts.root path) at.number at.stands
    (λ n stands _. record {
      component = x;
      number = at.number;
      is_component = at.is;
      stands = at.stands;
      is_thread = thread;
      seen = component_is tree parts.root s path n stands ∙ e;
    })

pub thread_is : {tree : PackageTree ℕ} {name : List ℕ} {parts : InstanceParts} → IsFlat tree name parts
    → (path : List ℕ)
    → IsThreadAt tree parts.root path → ThreadIs tree parts.root path
thread_is flat path t = thread_by flat path t.0 t.1.0 t.1.1

-- ---- no findings in them
-- a thread's implementation without findings has a behaviour
abbrev pub ThreadLaw : Type 0
ThreadLaw =
    (tree : PackageTree ℕ) (root n : ℕ) (x : Implementation ℕ) → HasWords tree → NamesDiffer tree x
    → package_faults tree root ≡ []
    → slice_get tree.declarations n ≡ Some (implementation x)
    → is_thread x.category ≡ true → flat_map port_findings (ports_of tree x) ≡ []
    → threads.implementation_findings tree x ≡ [] → Behaves tree x

module _ {tree : PackageTree ℕ} {name : List ℕ} {parts : InstanceParts} (flat : IsFlat tree name parts)
    (used : ℕ → Bool)
    (is_use : IsUse tree parts.root used) (none : used_findings tree (shown_by tree parts) used ≡ []) where
  ports_by : (n m : ℕ) (x : Implementation ℕ) (d : Option (Declaration ℕ)) → used n ≡ true
      → slice_get tree.declarations n ≡ Some (implementation x) → type_number tree x ≡ Some m
      → slice_get tree.declarations m ≡ d
      → flat_map port_findings (features_of (type_in d)) ≡ []
  ports_by n m x None in_use is number d_is = refl
  ports_by n m x (Some (implementation y)) in_use is number d_is = refl
  ports_by n m x (Some (type t)) in_use is number d_is =
      append_is_nil_left (flat_map port_findings t.features) _
      (type_clean tree (shown_by tree parts) used none n m x t in_use is number d_is)

  ports_at : (n : ℕ) (x : Implementation ℕ) (o : Option ℕ) → used n ≡ true
      → slice_get tree.declarations n ≡ Some (implementation x)
      → type_number tree x ≡ o → flat_map port_findings (features_of (type_numbered tree o)) ≡ []
  ports_at n x None in_use is number = refl
  ports_at n x (Some m) in_use is number = ports_by n m x (slice_get tree.declarations m) in_use is number refl

  -- the ports of each implementation in use have types
  pub ports_clean : (n : ℕ) (x : Implementation ℕ) → used n ≡ true
      → slice_get tree.declarations n ≡ Some (implementation x)
      → flat_map port_findings (ports_of tree x) ≡ []
  ports_clean n x in_use is = ports_at n x (type_number tree x) in_use is refl

  module _ (named : AreNamed tree) (law : ThreadLaw) where
    -- each thread has a behaviour
    pub thread_behaves : (path : List ℕ) → (t : ThreadIs tree parts.root path) → Behaves tree t.component
    thread_behaves path t =
        let is = declared_at tree t.number t.component t.is_component in
        let in_use = is_used tree parts.root used is_use path t.number t.stands in
        let whole = implementation_clean tree (shown_by tree parts) used none t.number t.component in_use is in
        let own =
        where_true (is_thread t.component.category) (threads.implementation_findings tree t.component) t.is_thread
        (append_is_nil_right _ (thread_findings tree t.component) whole) in
        law tree parts.root t.number t.component named.words
        (named.differ parts.root t.number t.component (names_clean flat) is)
        (names_clean flat) is t.is_thread (ports_clean t.number t.component in_use is) own

    pub seen_behaviour : (path : List ℕ) → (t : ThreadIs tree parts.root path) → (b : Behaves tree t.component)
        → thread_behaviour tree (thread_at tree parts.root path) ≡ Some b.behaviour
    seen_behaviour path t b = ap (option_and_then (threads.behaviour_in tree)) t.seen ∙ b.is_behaviour

    rules_at : (path : List ℕ) → IsThreadAt tree parts.root path → HasRules tree (thread_at tree parts.root path)
    rules_at path at =
        let t = thread_is flat path at in
        let b = thread_behaves path t in
        λ c is. subst IsBehaviour (same_Some b.behaviour c (sym (seen_behaviour path t b) ∙ is)) b.keeps

    pub have_rules : All (HasRules tree) (map (thread_at tree parts.root) parts.threads)
    have_rules =
        All-map (HasRules tree) (thread_at tree parts.root) parts.threads
        (All-weaker (IsThreadAt tree parts.root) (λ path. HasRules tree (thread_at tree parts.root path)) rules_at
        parts.threads flat.threads.each)

-- the root is not a thread
pub root_no_thread : {tree : PackageTree ℕ} {name : List ℕ} {parts : InstanceParts} → IsFlat tree name parts
    → ThreadIs tree parts.root [] → ⊥
root_no_thread {tree} {name} {parts} flat t =
    let same : parts.root ≡ t.number = same_Some parts.root t.number t.stands in
    system_no_thread t.component.category
    (root_is flat t.component (ap (implementation_at tree) same ∙ t.is_component)) t.is_thread
