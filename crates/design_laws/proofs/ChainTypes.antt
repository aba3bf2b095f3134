-- The types of ports along a connection chain without findings.
use Rattle.std.proofs.Common.{◌≡◌, ◌∙◌, ℕ, ◌+◌, Bool, true, List, [], ◌∷◌, ◌++◌, Option, Some, None, refl, sym, ap}
use Rattle.std.proofs.Common.{subst, arith}
use Rattle.std.specs.Prelude.{slice_get, option_map}
use Rattle.std.specs.Option.{option_and_then, is_some}
use Rattle.std.proofs.lemmas.Bool.{false≢true}
use Rattle.std.proofs.lemmas.Option.{option_and_then_some}
use Rattle.list_lemmas.proofs.ElementPositions.{flat_map-nil_at}
use Rattle.list_lemmas.proofs.ListOperations.{append_is_nil_right, append_is_nil_left}
use Rattle.list_lemmas.proofs.Options.{option_map-parts, some_by_test, option_and_then_assoc}
use Rattle.pals_base.specs.declared.behaviour.Kind.{Kind}
use Rattle.pals_base.specs.declared.behaviour.Kind.TheVariants.{Integer, Boolean}
use Rattle.aadl_tree.specs.Names.{Identifier, same_name}
use Rattle.aadl_tree.specs.Declarations.{Feature, Subcomponent, ConnectionEnd, Implementation, PackageTree}
use Rattle.aadl_names.specs.declared.numbered_port.NumberedPort.{NumberedPort}
use Rattle.aadl_names.specs.declared.numbered_port.NumberedPort.TheVariants.{Own, Inner}
use Rattle.aadl_names.specs.NameResolution.{implementation_at, subcomponents_of, referred, target_of, ports_of}
use Rattle.aadl_names.specs.NameResolution.{ports_at, port_named, sub_named, inner_ports, inner_end_port, end_port_by}
use Rattle.aadl_names.specs.NameResolution.{end_port}
use Rattle.aadl_uses.specs.ContainmentAndUse.{sub_at, below, number_at_path, component_at}
use Rattle.aadl_chains.specs.Chains.{Port, ConnectionAt, port_at, Goes, Leads, port_of}
use Rattle.aadl_instance.specs.InstancesByPaths.{InstanceParts, IsFlat}
use Rattle.annex_resolve.specs.declared.violation.TheConstants.{BAD_TYPE}
use Rattle.annex_resolve.specs.ExpressionTypesAndFindings.{kind_in, same_kind, fits}
use Rattle.design_laws.proofs.EmptyFindingLists.{none_at, is_right}
use Rattle.component_checks.specs.TypeFindings.{port_findings}
use Rattle.model_violations.specs.ConnectionsAndCarriers.{carries}
use Rattle.model_violations.specs.ConnectionFindings.{site_port, site_kind, kind_at, ends_findings, delay_findings}
use Rattle.model_violations.specs.ConnectionFindings.{connection_findings, connections_findings}
use Rattle.model_violations.specs.UsedDeclarations.{IsUse}
use Rattle.model_violations.specs.DeclarationFindings.{thread_findings}
use Rattle.model_violations.specs.Violations.{shown_by, used_findings, carriers_of}
use Rattle.design_laws.specs.proof.PortKinds.{port_kind}
use Rattle.design_laws.proofs.SoundInstanceParts.{declared_at, implementation_clean, stands_at, is_used}
use Rattle.design_laws.proofs.InstanceBehaviours.{first_is, ports_clean}

-- ---- a declared site has a port
named_there : (ports : List (Feature ℕ)) (word : List ℕ) (p : ℕ) → port_named ports word ≡ Some p
    → (f : Feature ℕ) × (slice_get ports p ≡ Some f)
named_there ports word p is =
    let f = first_is (λ (k : Feature ℕ). same_name word k.name.spelling) 0 p ports is in
    let e : f.place ≡ p = let n = f.number in omega (arith, n) in
    (f.one, ap (slice_get ports) (sym e) ∙ f.is)

module _ (tree : PackageTree ℕ) (x : Implementation ℕ) where
  own_there : (word : List ℕ) (s : NumberedPort) → option_map Own (port_named (ports_of tree x) word) ≡ Some s
      → (f : Feature ℕ) × (site_port tree x s ≡ Some f)
  own_there word s e =
      let m = option_map-parts Own (port_named (ports_of tree x) word) s e in
      let f = named_there (ports_of tree x) word m.0 m.1 in
      (f.0, ap (site_port tree x) (sym m.2) ∙ f.1)

  inner_there : (word : List ℕ) (k : ℕ) (s : NumberedPort) → inner_end_port tree x word k ≡ Some s
      → (f : Feature ℕ) × (site_port tree x s ≡ Some f)
  inner_there word k s e =
      let m = option_map-parts (Inner k) (port_named (inner_ports tree x k) word) s e in
      let f = named_there (inner_ports tree x k) word m.0 m.1 in
      (f.0, ap (site_port tree x) (sym m.2) ∙ f.1)

  there_by : (first : Identifier ℕ) (second : Option (Identifier ℕ)) (s : NumberedPort)
      → end_port_by tree x first second ≡ Some s
      → (f : Feature ℕ) × (site_port tree x s ≡ Some f)
  there_by first None s e = own_there first.spelling s e
  there_by first (Some port) s e =
      option_and_then_some (inner_end_port tree x port.spelling) (sub_named x.subcomponents first.spelling) s e
      (λ k _ is. inner_there port.spelling k s is)

  pub site_there : (end : ConnectionEnd ℕ) (s : NumberedPort) → end_port tree x end ≡ Some s
      → (f : Feature ℕ) × (site_port tree x s ≡ Some f)
  unfolding end_port
  site_there end s e = there_by end.first end.second s e

-- ---- the port of a site is a port of the component at the site
module _ (tree : PackageTree ℕ) (root : ℕ) where
  site_is : (path : List ℕ) (n : ℕ) (x : Implementation ℕ) (s : NumberedPort) → number_at_path tree root path ≡ Some n
      → implementation_at tree n ≡ Some x
      → port_of tree root (port_at path s) ≡ site_port tree x s
  site_is path n x (Own p) stands is =
      ap (λ o. slice_get (ports_at tree o) p) (ap (option_and_then (implementation_at tree)) stands ∙ is)
  site_is path n x (Inner s p) stands is =
      ap (λ o. slice_get (ports_at tree o) p)
      (ap (λ o. option_and_then (implementation_at tree) (option_and_then (λ k. below tree k s) o)) stands
      ∙ (option_and_then_assoc (λ (k : Subcomponent ℕ). referred tree k.classifier) (implementation_at tree)
      (sub_at tree n s)
      ∙ ap (λ o. option_and_then (target_of tree) (slice_get (subcomponents_of o) s)) is))

  source_there : (place : ConnectionAt) (from to : Port) → (g : Goes tree root place from to)
      → (f : Feature ℕ) × (port_of tree root from ≡ Some f)
  source_there place from to g =
      let f = site_there tree g.component g.link.source g.source g.is_source in (
        f.0,
        ap (port_of tree root) g.leaves
            ∙ (site_is place.path g.number g.component g.source g.stands g.is_component ∙ f.1),
      )

  target_there : (place : ConnectionAt) (from to : Port) → (g : Goes tree root place from to)
      → (f : Feature ℕ) × (port_of tree root to ≡ Some f)
  target_there place from to g =
      let f = site_there tree g.component g.link.target g.target g.is_target in (
        f.0,
        ap (port_of tree root) g.enters
            ∙ (site_is place.path g.number g.component g.target g.stands g.is_component ∙ f.1),
      )

  -- both ends of a connection chain are ports
  pub first_there : (c : ConnectionAt) (cs : List ConnectionAt) (from to : Port) → Leads tree root (c ∷ cs) from to
      → (f : Feature ℕ) × (port_of tree root from ≡ Some f)
  first_there c [] from to l =
      let f = source_there c l.0 to l.2 in
      (f.0, ap (port_of tree root) l.1 ∙ f.1)
  first_there c (d ∷ cs) from to l = first_there d cs from l.0 l.1

  pub last_there : (c : ConnectionAt) (cs : List ConnectionAt) (from to : Port) → Leads tree root (c ∷ cs) from to
      → (f : Feature ℕ) × (port_of tree root to ≡ Some f)
  last_there c cs from to l = target_there c l.0 to l.2

-- ---- types that fit are equal
same_by : (a b : Kind) → same_kind a b ≡ true → a ≡ b
same_by Integer Integer e = refl
same_by Integer Boolean e = absurd (false≢true e)
same_by Boolean Integer e = absurd (false≢true e)
same_by Boolean Boolean e = refl

same_kinds : (a b : Option Kind) (k l : Kind) → a ≡ Some k → b ≡ Some l → fits a b ≡ true → a ≡ b
same_kinds None b k l first second e = absurd (cc first)
same_kinds (Some a) None k l first second e = absurd (cc second)
same_kinds (Some a) (Some b) k l first second e = ap Some (same_by a b e)

-- ---- along a connection chain
module _ {tree : PackageTree ℕ} {name : List ℕ} {parts : InstanceParts} (flat : IsFlat tree name parts)
    (used : ℕ → Bool)
    (is_use : IsUse tree parts.root used) (none : used_findings tree (shown_by tree parts) used ≡ []) where
  typed_by : (path : List ℕ) (p : ℕ) (o : Option (Implementation ℕ)) (f : Feature ℕ)
      → component_at tree parts.root path ≡ o
      → slice_get (ports_at tree o) p ≡ Some f → (k : Kind) × (kind_in f.data_type ≡ Some k)
  typed_by path p None f stands is = absurd (cc is)
  typed_by path p (Some x) f stands is =
      let at = stands_at tree parts.root path x stands in
      let clean =
      ports_clean flat used is_use none at.number x (is_used tree parts.root used is_use path at.number at.stands)
      (declared_at tree at.number x at.is) in
      some_by_test (kind_in f.data_type) (is_right (is_some (kind_in f.data_type)) f.name.at BAD_TYPE []
      (flat_map-nil_at port_findings (ports_of tree x) p f clean is))

  -- each port of the design has a type
  pub typed : (p : Port) (f : Feature ℕ) → port_of tree parts.root p ≡ Some f
      → (k : Kind) × (kind_in f.data_type ≡ Some k)
  typed p f is = typed_by p.path p.port (component_at tree parts.root p.path) f refl is

  pub kind_there : (p : Port) (f : Feature ℕ) → port_of tree parts.root p ≡ Some f
      → (k : Kind) × (port_kind tree parts.root p ≡ Some k)
  kind_there p f is = let k = typed p f is in
      (k.0, ap (option_and_then (λ (g : Feature ℕ). kind_in g.data_type)) is ∙ k.1)

  ends_fit : (place : ConnectionAt) (from to : Port) → (g : Goes tree parts.root place from to)
      → fits (site_kind tree g.component g.target) (site_kind tree g.component g.source) ≡ true
  ends_fit place from to g =
      let x = g.component in
      let c = g.link in
      let n = g.number in
      let carried = carries (carriers_of (shown_by tree parts)) in
      let whole =
      implementation_clean tree (shown_by tree parts) used none n x
      (is_used tree parts.root used is_use place.path n g.stands)
      (declared_at tree n x g.is_component) in
      let all =
      append_is_nil_right _ (connections_findings tree carried n x)
      (append_is_nil_left _ (thread_findings tree x) whole) in
      let zero' : 0 + place.connection ≡ place.connection = omega arith in
      let here = none_at (connection_findings tree carried n x) 0 x.connections all place.connection c g.is_link in
      let one =
      append_is_nil_left (ends_findings tree x c) (delay_findings c)
      (append_is_nil_left (ends_findings tree x c ++ delay_findings c) _ here) in
      let right = is_right (fits (kind_at tree x c.target) (kind_at tree x c.source)) c.name.at BAD_TYPE [] one in
      subst (λ o. fits (option_and_then (site_kind tree x) o) (site_kind tree x g.source) ≡ true) g.is_target
      (subst (λ o. fits (kind_at tree x c.target) (option_and_then (site_kind tree x) o) ≡ true) g.is_source right)

  one_kind : (place : ConnectionAt) (from to : Port) → Goes tree parts.root place from to
      → port_kind tree parts.root from ≡ port_kind tree parts.root to
  one_kind place from to g =
      let source : port_kind tree parts.root from ≡ site_kind tree g.component g.source =
      ap (port_kind tree parts.root) g.leaves ∙ ap (option_and_then (λ (f : Feature ℕ). kind_in f.data_type))
      (site_is tree parts.root place.path g.number g.component g.source g.stands g.is_component) in
      let target : port_kind tree parts.root to ≡ site_kind tree g.component g.target =
      ap (port_kind tree parts.root) g.enters ∙ ap (option_and_then (λ (f : Feature ℕ). kind_in f.data_type))
      (site_is tree parts.root place.path g.number g.component g.target g.stands g.is_component) in
      let a = source_there tree parts.root place from to g in
      let b = target_there tree parts.root place from to g in
      let j = kind_there from a.0 a.1 in
      let k = kind_there to b.0 b.1 in
      source ∙ (sym (same_kinds (site_kind tree g.component g.target) (site_kind tree g.component g.source) k.0 j.0
      (sym target ∙ k.1)
      (sym source ∙ j.1) (ends_fit place from to g)) ∙ sym target)

  -- all ports of a connection chain have one type
  pub kinds_along : (cs : List ConnectionAt) (from to : Port) → Leads tree parts.root cs from to
      → port_kind tree parts.root from ≡ port_kind tree parts.root to
  kinds_along [] from to l = ap (port_kind tree parts.root) l
  kinds_along (c ∷ cs) from to l = kinds_along cs from l.0 l.1 ∙ one_kind c l.0 to l.2
