-- Links and feeds are in the order of their targets, and distinct ports of the root have distinct names, so feeds of
-- one name have one type.
use Rattle.std.proofs.Common.{◌≡◌, ◌≢◌, ◌∙◌, inl, inr, ◌⊎◌, ℕ, ◌+◌, ◌*◌, ◌<◌, nat_lt, true, false, List, [], ◌++◌}
use Rattle.std.proofs.Common.{reverse, Some, sym, ap, subst, arith}
use Rattle.aadl_tree.specs.Names.{same_name}
use Rattle.std.specs.Prelude.{slice_get}
use Rattle.std.proofs.lemmas.Bool.{cases_order, ltb-true}
use Rattle.std.proofs.lemmas.Option.{same_Some, slice_get_within}
use Rattle.list_lemmas.proofs.Numbers.{ne_from_lt}
use Rattle.list_lemmas.proofs.Booleans.{or_and_cases}
use Rattle.list_lemmas.proofs.PairwiseProperties.{Pairs, pairs_from}
use Rattle.pals_base.specs.declared.limits.TheConstants.{PORTS}
use Rattle.pals_model.specs.declared.design.DesignParts.{DesignParts}
use Rattle.pals_model.specs.DesignRules as model
use Rattle.aadl_tree.specs.Declarations.{Feature, Implementation, PackageTree}
use Rattle.aadl_names.specs.DuplicateNames.{entry_of}
use Rattle.aadl_names.specs.NameResolution.{implementation_at, ports_at, ports_of}
use Rattle.aadl_names.specs.DuplicatesByNamespace.{port_entries, member_entries}
use Rattle.aadl_uses.specs.ContainmentAndUse.{component_at}
use Rattle.aadl_uses.specs.ThreadsBelow.{IsThreadAt, path_before}
use Rattle.aadl_chains.specs.Chains.{Port, port_of, is_in}
use Rattle.aadl_chains.specs.LinksFeedsAndTaps.{OtherTarget, CarriedChain, same_path, TargetBefore}
use Rattle.aadl_chains.proofs.SamePaths.{same_path-true}
use Rattle.aadl_instance.specs.InstancesByPaths.{InstanceParts, IsFlat}
use Rattle.aadl_instance.specs.InstancesByNumbers.{node_at, port_number}
use Rattle.component_checks.specs.TypeFindings as types
use Rattle.design_laws.specs.proof.PackageNames.{NamesDiffer}
use Rattle.design_laws.proofs.PairwiseDistinctNames.{one_name, Differs}
use Rattle.design_laws.proofs.ElementAndPairwiseProperties.{pairs_at, pairs_first, pairs_unmapped}
use Rattle.design_laws.proofs.MatchedLists.{Zipped}
use Rattle.design_laws.proofs.PathTexts.{before_other}
use Rattle.design_laws.proofs.PortAndThreadNumbers.{count_less, numbers_rise}
use Rattle.design_laws.proofs.ChainEndPortsInDesigns.{IsComponentAt, in_port, in_number, port_is, in_way}
use Rattle.design_laws.proofs.CarriedChainsInDesigns.{node_of}

-- ---- places of in ports
place_rises : (m n a b : ℕ) → m < n → a < PORTS → PORTS * m + a < PORTS * n + b
place_rises m n a b lt within = omega (arith, lt, within)

place_by_port : (m n a b : ℕ) → m ≡ n → a < b → PORTS * m + a < PORTS * n + b
place_by_port m n a b e lt = omega (arith, e, lt)

one_place : (m n a b : ℕ) → a < PORTS → b < PORTS → PORTS * m + a ≡ PORTS * n + b → (m ≡ n) × (a ≡ b)
one_place m n a b first second e = (omega (arith, first, second, e), omega (arith, first, second, e))

module _ {tree : PackageTree ℕ} {name : List ℕ} {parts : InstanceParts} (flat : IsFlat tree name parts)
    (design : DesignParts)
    (sits : Zipped (IsComponentAt tree parts.root) parts.threads design.components) where
  -- an in port of a thread
  pub record InPort (p : Port) : Type 0 where
    pub thread : IsThreadAt tree parts.root p.path
    pub port : Feature ℕ
    pub is : port_of tree parts.root p ≡ Some port
    pub goes : is_in tree parts.root p ≡ true

  few : (p : Port) → InPort p → port_number tree parts.root p < PORTS
  few p i =
      let at = node_of flat design sits p.path i.thread in
      let h = slice_get_within at.component.behaviour.ins (port_number tree parts.root p) _
      (in_port tree parts.root parts.threads design.components p i.port at i.is i.goes) in
      let small = at.sits.small in
      omega (arith, h, small)

  by_paths : (p q : Port) → InPort p → InPort q → path_before (reverse p.path) (reverse q.path) ≡ true
      → model.port_place (node_at parts.threads p.path).0 (port_number tree parts.root p)
      < model.port_place (node_at parts.threads q.path).0
      (port_number tree parts.root q)
  by_paths p q i j before =
      let a = node_of flat design sits p.path i.thread in
      let b = node_of flat design sits q.path j.thread in
      let rises = numbers_rise parts.threads flat.threads.in_order p.path q.path a.node b.node before in
      let m = a.node.number in
      let n = b.node.number in
      place_rises (node_at parts.threads p.path).0 (node_at parts.threads q.path).0 (port_number tree parts.root p)
      (port_number tree parts.root q) (omega (arith, rises, m, n)) (few p i)

  -- two in ports of one thread
  by_ports : (path : List ℕ) (a b : ℕ) → InPort (record { path = path; port = a })
      → InPort (record { path = path; port = b }) → a < b
      → port_number tree parts.root (record { path = path; port = a })
      < port_number tree parts.root (record { path = path; port = b })
  by_ports path a b i j lt =
      let at = node_of flat design sits path i.thread in
      let p : Port = record { path = path; port = a } in
      let q : Port = record { path = path; port = b } in
      let ports = ports_of tree at.sits.thread.component in
      let first = in_number tree parts.root parts.threads design.components p i.port at i.is i.goes in
      let second = in_number tree parts.root parts.threads design.components q j.port at j.is j.goes in
      let less =
      count_less types.is_in ports a b i.port lt
      (port_is tree parts.root parts.threads design.components p i.port at i.is)
      (in_way tree parts.root parts.threads design.components p i.port at i.is i.goes) in
      omega (arith, first, second, less)

  same_thread : (p q : Port) → InPort p → InPort q → p.path ≡ q.path → p.port < q.port
      → port_number tree parts.root p < port_number tree parts.root q
  same_thread p q i j e lt =
      let turned : InPort (record { path = p.path; port = q.port }) =
      subst (λ l. InPort (record { path = l; port = q.port })) (sym e) j in
      subst (λ l. port_number tree parts.root p < port_number tree parts.root (record { path = l; port = q.port })) e
      (by_ports p.path p.port q.port i turned lt)

  -- ---- the order of targets
  pub targets_rise : (a b : CarriedChain) → InPort a.to → InPort b.to → TargetBefore a b
      → model.port_place (node_at parts.threads a.to.path).0 (port_number tree parts.root a.to) < model.port_place
      (node_at parts.threads b.to.path).0 (port_number tree parts.root b.to)
  targets_rise a b i j before =
      elim (or_and_cases (path_before (reverse a.to.path) (reverse b.to.path)) (same_path a.to.path b.to.path)
      (nat_lt a.to.port b.to.port) before)
      as (λ _. model.port_place (node_at parts.threads a.to.path).0 (port_number tree parts.root a.to)
      < model.port_place
      (node_at parts.threads b.to.path).0 (port_number tree parts.root b.to)) [
        | inl earlier ↦ by_paths a.to b.to i j earlier
        | inr same ↦
            (let e = same_path-true a.to.path b.to.path same.0 in
            place_by_port (node_at parts.threads a.to.path).0 (node_at parts.threads b.to.path).0
            (port_number tree parts.root a.to)
            (port_number tree parts.root b.to)
            (ap (λ l. (node_at parts.threads l).0) e)
            (same_thread a.to b.to i j e (ltb-true a.to.port b.to.port same.1)))
      ]

  -- ---- one place means one port
  one_path_by : (p q : Port) → InPort p → InPort q → (node_at parts.threads p.path).0 ≡ (node_at parts.threads q.path).0
      → p.path ≡ q.path
  one_path_by p q i j e =
      let a = node_of flat design sits p.path i.thread in
      let b = node_of flat design sits q.path j.thread in
      same_Some p.path q.path (sym a.node.is
      ∙ (ap (slice_get parts.threads) (sym a.node.number ∙ (e ∙ b.node.number)) ∙ b.node.is))

  one_port_by : (p q : Port) → InPort p → InPort q → p.path ≡ q.path
      → port_number tree parts.root p ≡ port_number tree parts.root q
      → (p.port ≡ q.port) ⊎ ((p.port < q.port) ⊎ (q.port < p.port)) → p.port ≡ q.port
  one_port_by p q i j path number (inl e) = e
  one_port_by p q i j path number (inr (inl lt)) = let h = same_thread p q i j path lt in
      absurd (omega (arith, h, number))
  one_port_by p q i j path number (inr (inr lt)) = let h = same_thread q p j i (sym path) lt in
      absurd (omega (arith, h, number))

  pub one_port : (p q : Port) → InPort p → InPort q
      → model.port_place (node_at parts.threads p.path).0 (port_number tree parts.root p)
      ≡ model.port_place (node_at parts.threads q.path).0
      (port_number tree parts.root q) → p ≡ q
  one_port p q i j e =
      let h =
      one_place (node_at parts.threads p.path).0 (node_at parts.threads q.path).0 (port_number tree parts.root p)
      (port_number tree parts.root q) (few p i) (few q j) e in
      let path = one_path_by p q i j h.0 in
      let port = one_port_by p q i j path h.1 (cases_order p.port q.port) in
      let first : p ≡ record { path = q.path; port = p.port } = ap (λ l. record { path = l; port = p.port }) path in
      first ∙ ap (λ n. record { path = q.path; port = n }) port

-- ---- elements in the order of targets have distinct targets
pub other_target : (a b : CarriedChain) → TargetBefore a b → OtherTarget a b
other_target a b before same =
    elim (or_and_cases (path_before (reverse a.to.path) (reverse b.to.path)) (same_path a.to.path b.to.path)
    (nat_lt a.to.port b.to.port) before) as (λ _. ⊥) [
      | inl earlier ↦ before_other a.to.path b.to.path earlier (ap (λ (p : Port). p.path) same)
      | inr later ↦ ne_from_lt a.to.port b.to.port (ltb-true a.to.port b.to.port later.1)
          (ap (λ (p : Port). p.port) same)
    ]

-- ---- the names of the root's ports
module _ (tree : PackageTree ℕ) (root : ℕ) (x : Implementation ℕ) (is : implementation_at tree root ≡ Some x)
    (differ : NamesDiffer tree x) where
  ports_differ : Pairs (λ (f g : Feature ℕ). same_name f.name.spelling g.name.spelling ≡ false) (ports_of tree x)
  ports_differ =
      let ports = port_entries (ports_of tree x) in
      pairs_unmapped Differs (λ (f : Feature ℕ). entry_of f.name) (ports_of tree x)
      (pairs_first Differs ports (member_entries x) (pairs_from Differs (ports ++ member_entries x) differ.members))

  at_root : (p : Port) (f : Feature ℕ) → p.path ≡ [] → port_of tree root p ≡ Some f
      → slice_get (ports_of tree x) p.port ≡ Some f
  at_root p f e port =
      let here : component_at tree root p.path ≡ Some x = ap (component_at tree root) e ∙ is in
      ap (λ o. slice_get (ports_at tree o) p.port) (sym here) ∙ port

  -- distinct ports have distinct names
  pub other_name : (p q : Port) (f g : Feature ℕ) → p.path ≡ [] → q.path ≡ [] → port_of tree root p ≡ Some f
      → port_of tree root q ≡ Some g
      → p.port < q.port → f.name.spelling ≢ g.name.spelling
  other_name p q f g first second f_is g_is lt e =
      absurd (one_name f.name.spelling g.name.spelling e
      (pairs_at (λ (a b : Feature ℕ). same_name a.name.spelling b.name.spelling ≡ false)
      (ports_of tree x) p.port q.port f g ports_differ lt (at_root p f first f_is) (at_root q g second g_is)))

  one_by : (p q : Port) (f g : Feature ℕ) → p.path ≡ [] → q.path ≡ [] → port_of tree root p ≡ Some f
      → port_of tree root q ≡ Some g
      → f.name.spelling ≡ g.name.spelling
      → (p.port ≡ q.port) ⊎ ((p.port < q.port) ⊎ (q.port < p.port)) → f ≡ g
  one_by p q f g first second f_is g_is e (inl same) =
      same_Some f g (sym (at_root p f first f_is) ∙ (ap (slice_get (ports_of tree x)) same ∙ at_root q g second g_is))
  one_by p q f g first second f_is g_is e (inr (inl lt)) = absurd (other_name p q f g first second f_is g_is lt e)
  one_by p q f g first second f_is g_is e (inr (inr lt)) = absurd (other_name q p g f second first g_is f_is lt (sym e))

  pub one_named : (p q : Port) (f g : Feature ℕ) → p.path ≡ [] → q.path ≡ [] → port_of tree root p ≡ Some f
      → port_of tree root q ≡ Some g
      → f.name.spelling ≡ g.name.spelling → f ≡ g
  one_named p q f g first second f_is g_is e = one_by p q f g first second f_is g_is e (cases_order p.port q.port)
