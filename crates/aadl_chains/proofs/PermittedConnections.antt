-- If the names of a package have no fault, both ends of each connection are declared, and their directions fit.
use Rattle.std.proofs.Common.{◌≡◌, ℕ, Bool, true, false, not, ◌&&◌, nat_eq, List, [], ◌∷◌, ◌++◌, map, slice_get}
use Rattle.std.proofs.Common.{Contains, Option, Some, None, option_map, refl, sym, ap, ◌∙◌, arith}
use Rattle.std.specs.List.{flat_map, enumerate_from}
use Rattle.std.specs.Option.{option_and_then}
use Rattle.std.proofs.lemmas.Bool.{true≢false, not-false, not-true}
use Rattle.std.proofs.lemmas.Option.{same_Some, none-some, option_and_then_some}
use Rattle.list_lemmas.proofs.Elements.{Contains-nil}
use Rattle.list_lemmas.proofs.Options.{option_map-parts}
use Rattle.list_lemmas.proofs.ElementPositions.{flat_map-nil_at, slice_get-from_Contains, slice_get-enumerate_from}
use Rattle.list_lemmas.proofs.ListOperations.{append_is_nil_left, append_is_nil_right}
use Rattle.aadl_tree.specs.declared.declarations.Direction.{Direction}
use Rattle.aadl_tree.specs.declared.declarations.Category.{Category}
use Rattle.aadl_tree.specs.declared.declarations.Category.TheVariants as categories
use Rattle.aadl_tree.specs.Names.{Identifier}
use Rattle.aadl_tree.specs.Declarations.{Feature, Subcomponent, ConnectionEnd, Connection, Implementation, Declaration}
use Rattle.aadl_tree.specs.Declarations.{type, implementation, PackageTree}
use Rattle.aadl_names.specs.declared.recognised_properties.PropertyHolder.TheVariants as holders
use Rattle.aadl_names.specs.declared.numbered_port.NumberedPort.{NumberedPort}
use Rattle.aadl_names.specs.declared.numbered_port.NumberedPort.TheVariants.{Own, Inner}
use Rattle.aadl_names.specs.DuplicateNames.{wrong_if}
use Rattle.aadl_names.specs.RecognisedProperties.{list_faults}
use Rattle.aadl_names.specs.BehaviourAnnexes.{behaviours}
use Rattle.aadl_names.specs.NameResolution.{implementation_in, implementation_at, is_thread, subcomponents_of}
use Rattle.aadl_names.specs.NameResolution.{target_of, referred, port_named, sub_named, inner_ports, inner_end_port}
use Rattle.aadl_names.specs.NameResolution.{end_port_by, end_port, ports_at, ports_of, direction_of, with_direction}
use Rattle.aadl_names.specs.PackageNameFaults.{is_own, goes_in, may_leave, may_enter, end_faults, directed_end_port}
use Rattle.aadl_names.specs.PackageNameFaults.{connection_faults}
use Rattle.aadl_names.specs.PackageNameFaults.{subcomponent_faults, names_faults, may_contain, variables_faults}
use Rattle.aadl_names.specs.PackageNameFaults.{heading_faults, outer_faults, annex_faults, declaration_faults}
use Rattle.aadl_names.specs.PackageNameFaults.{wrong_names}
use Rattle.aadl_names.specs.PackageNameFaults.{package_faults}
use Rattle.aadl_names.proofs.FirstFaultSoFar.{wrong_none}
use Rattle.aadl_uses.specs.ContainmentAndUse.{below}
use Rattle.aadl_uses.specs.proof.ThreadCounts.{is_thread_in}
use Rattle.aadl_uses.specs.declared.connections_by_target.ConnectionPorts.{ConnectionPorts}
use Rattle.aadl_uses.specs.PortsOfConnections.{ports_of_connection, wires_of}
use Rattle.aadl_uses.proofs.DeclarationTables.{listed}
use Rattle.aadl_chains.specs.proof.PortsJoinedInside.{is_in_at}
use Rattle.aadl_chains.specs.proof.PermittedConnections.{MayLeave, MayEnter, NotBothOwn, IsPermitted, ArePermitted}

-- ---- ends
port_there : (may : NumberedPort × Option Direction → Bool) (end : ConnectionEnd ℕ) (at : ℕ)
    (o : Option (NumberedPort × Option Direction)) → end_faults may end at o ≡ []
    → (port : NumberedPort × Option Direction) × (o ≡ Some port) × (may port ≡ true)
port_there may end at None e = absurd (cc e)
port_there may end at (Some port) e = (port, refl, not-false (may port) (wrong_none (not (may port)) at e))

no_port : (name : List ℕ) (p : ℕ) → port_named [] name ≡ Some p → ⊥
no_port name p e = none-some p e

module _ (tree : PackageTree ℕ) (x : Implementation ℕ) where
  -- a port of a subcomponent is a port of an implementation that the subcomponent names
  pub record InnerPort (s p : ℕ) : Type 0 where
    pub sub : Subcomponent ℕ
    pub target : ℕ
    pub named : Implementation ℕ
    pub is_sub : slice_get x.subcomponents s ≡ Some sub
    pub names : referred tree sub.classifier ≡ Some target
    pub is_named : implementation_at tree target ≡ Some named

  inner_by : (s p : ℕ) (name : List ℕ) (o : Option (Implementation ℕ))
      → option_and_then (target_of tree) (slice_get x.subcomponents s) ≡ o
      → port_named (ports_at tree o) name ≡ Some p → InnerPort s p
  inner_by s p name None e is = absurd (no_port name p is)
  inner_by s p name (Some y) e is =
      option_and_then_some (target_of tree) (slice_get x.subcomponents s) y e
      (λ sub h f. option_and_then_some (implementation_at tree) (referred tree sub.classifier) y f
      (λ m g i. record { sub = sub; target = m; named = y; is_sub = h; names = g; is_named = i }))

  same_inner : (t s q p : ℕ) → Inner t q ≡ Inner s p → (t ≡ s) × (q ≡ p)
  same_inner t s q p e = (cc e, cc e)

  inner_site_by : (t s p : ℕ) (name : List ℕ) → inner_end_port tree x name t ≡ Some (Inner s p) → InnerPort s p
  inner_site_by t s p name e =
      let m = option_map-parts (Inner t) (port_named (inner_ports tree x t) name) (Inner s p) e in
      let same = same_inner t s m.0 p m.2 in
      let is : port_named (inner_ports tree x s) name ≡ Some p =
      ap (λ k. port_named (inner_ports tree x k) name) (sym same.0) ∙ (m.1 ∙ ap Some same.1) in
      inner_by s p name (option_and_then (target_of tree) (slice_get x.subcomponents s)) refl is

  by_second : (s p : ℕ) (first : Identifier ℕ) (second : Option (Identifier ℕ))
      → end_port_by tree x first second ≡ Some (Inner s p) → InnerPort s p
  by_second s p first None e = let m =
      option_map-parts Own (port_named (ports_of tree x) first.spelling) (Inner s p) e in let c = m.2 in absurd (cc c)
  by_second s p first (Some port) e =
      option_and_then_some (inner_end_port tree x port.spelling) (sub_named x.subcomponents first.spelling) (Inner s p)
      e
      (λ t h f. inner_site_by t s p port.spelling f)

  inner_port : (s p : ℕ) (end : ConnectionEnd ℕ) → end_port tree x end ≡ Some (Inner s p) → InnerPort s p
  unfolding end_port
  inner_port s p end e = by_second s p end.first end.second e

  module _ (n : ℕ) (is : implementation_at tree n ≡ Some x) where
    below_is : (s p : ℕ) → (i : InnerPort s p) → below tree n s ≡ Some i.target
    below_is s p i =
        ap (λ (o : Option (Implementation ℕ)). option_and_then (λ (sub : Subcomponent ℕ). referred tree sub.classifier)
        (slice_get (subcomponents_of o) s)) is
        ∙ (ap (option_and_then (λ (sub : Subcomponent ℕ). referred tree sub.classifier)) i.is_sub ∙ i.names)

    own_way : (p : ℕ) → is_in_at tree n p ≡ goes_in (direction_of tree x (Own p))
    own_way p = ap (λ o. goes_in (option_map (λ (f : Feature ℕ). f.direction) (slice_get (ports_at tree o) p))) is

    inner_way : (s p : ℕ) → (i : InnerPort s p) → is_in_at tree i.target p ≡ goes_in (direction_of tree x (Inner s p))
    inner_way s p i =
        ap (λ o. goes_in (option_map (λ (f : Feature ℕ). f.direction) (slice_get (ports_at tree o) p))) i.is_named
        ∙ sym (ap (λ (o : Option (Implementation ℕ)).
        goes_in (option_map (λ (f : Feature ℕ). f.direction) (slice_get (ports_at tree o) p)))
        (ap (option_and_then (target_of tree)) i.is_sub
        ∙ (ap (option_and_then (implementation_at tree)) i.names ∙ i.is_named)))

    leaves : (end : ConnectionEnd ℕ) (s : NumberedPort) → end_port tree x end ≡ Some s
        → may_leave (with_direction tree x s) ≡ true → MayLeave tree n s
    leaves end (Own p) e m = own_way p ∙ m
    leaves end (Inner s p) e m = let i = inner_port s p end e in
        (i.target, below_is s p i, inner_way s p i ∙ not-true (goes_in (direction_of tree x (Inner s p))) m)

    enters : (end : ConnectionEnd ℕ) (s : NumberedPort) → end_port tree x end ≡ Some s
        → may_enter (with_direction tree x s) ≡ true → MayEnter tree n s
    enters end (Own p) e m = own_way p ∙ not-true (goes_in (direction_of tree x (Own p))) m
    enters end (Inner s p) e m = let i = inner_port s p end e in (
      i.target,
      below_is s p i,
      inner_way s p i ∙ not-false (goes_in (direction_of tree x (Inner s p)))
          (not-true (not (goes_in (direction_of tree x (Inner s p)))) m),
    )

    not_both : (s t : NumberedPort)
        → (is_own (Some (with_direction tree x s)) && is_own (Some (with_direction tree x t))) ≡ false → NotBothOwn s t
    not_both (Own p) (Own q) e = true≢false e
    not_both (Own p) (Inner t q) e = tt
    not_both (Inner s p) (Own q) e = tt
    not_both (Inner s p) (Inner t q) e = tt

    -- a connection without faults
    pub record Declares (c : Connection ℕ) : Type 0 where
      pub source : NumberedPort
      pub target : NumberedPort
      pub source_is : end_port tree x c.source ≡ Some source
      pub target_is : end_port tree x c.target ≡ Some target
      pub leaves : MayLeave tree n source
      pub enters : MayEnter tree n target
      pub not_both : NotBothOwn source target

    declares : (c : Connection ℕ) → connection_faults tree x c ≡ [] → Declares c
    declares c e =
        let at = c.name.at in
        let a = end_faults may_leave c.source at (directed_end_port tree x c.source) in
        let b = end_faults may_enter c.target at (directed_end_port tree x c.target) in
        let o = wrong_if (is_own (directed_end_port tree x c.source) && is_own (directed_end_port tree x c.target)) at
        in
        let l = list_faults holders.Connection c.properties in
        let front = append_is_nil_left (a ++ b ++ o) l e in
        let third = append_is_nil_right (a ++ b) o front in
        let both = append_is_nil_left (a ++ b) o front in
        let first = append_is_nil_left a b both in
        let second = append_is_nil_right a b both in
        let p = port_there may_leave c.source at (directed_end_port tree x c.source) first in
        let q = port_there may_enter c.target at (directed_end_port tree x c.target) second in
        let s = option_map-parts (with_direction tree x) (end_port tree x c.source) p.0 p.1 in
        let t = option_map-parts (with_direction tree x) (end_port tree x c.target) q.0 q.1 in
        record {
          source = s.0;
          target = t.0;
          source_is = s.1;
          target_is = t.1;
          leaves = leaves c.source s.0 s.1 (ap may_leave s.2 ∙ p.2);
          enters = enters c.target t.0 t.1 (ap may_enter t.2 ∙ q.2);
          not_both = not_both s.0 t.0 (
              ap (λ u. is_own u && is_own (Some (with_direction tree x t.0))) (ap Some s.2 ∙ sym p.1)
              ∙ (ap (λ u. is_own (directed_end_port tree x c.source) && is_own u) (ap Some t.2 ∙ sym q.1)
              ∙ wrong_none (is_own (directed_end_port tree x c.source) && is_own (directed_end_port tree x c.target))
              at third));
        }

    -- the ports of a connection
    wired : (c : Connection ℕ) (wire : ConnectionPorts) → Declares c → ports_of_connection tree x c ≡ wire
        → IsPermitted tree n wire
    wired c wire d e = record {
      source = d.source;
      target = d.target;
      source_is = ap (λ (w : ConnectionPorts). w.source) (sym e) ∙ d.source_is;
      target_is = ap (λ (w : ConnectionPorts). w.target) (sym e) ∙ d.target_is;
      leaves = d.leaves;
      enters = d.enters;
      not_both = d.not_both;
    }

    no_subs : (s p : ℕ) → is_thread x.category ≡ true
        → flat_map (subcomponent_faults tree x.category) x.subcomponents ≡ [] → InnerPort s p → ⊥
    no_subs s p thread clean i =
        let sub = i.sub in
        let f : subcomponent_faults tree x.category sub ≡ [] =
        flat_map-nil_at (subcomponent_faults tree x.category) x.subcomponents s sub clean i.is_sub in
        let a = wrong_if (not (may_contain x.category sub.category)) sub.name.at in
        let b = names_faults tree sub sub.classifier.implementation in
        let first =
        append_is_nil_left a b (append_is_nil_left (a ++ b)
        (list_faults (holders.Subcomponent sub.category) sub.properties) f) in
        contains_nothing x.category sub.category thread (not-false (may_contain x.category sub.category)
        (wrong_none (not (may_contain x.category sub.category)) sub.name.at first))
      where
        contains_nothing : (a b : Category) → is_thread a ≡ true → may_contain a b ≡ true → ⊥
        contains_nothing categories.System b t m = true≢false (sym t)
        contains_nothing categories.Process b t m = true≢false (sym t)
        contains_nothing categories.Thread b t m = true≢false (sym m)

    no_connection : (c : Connection ℕ) → is_thread x.category ≡ true
        → flat_map (subcomponent_faults tree x.category) x.subcomponents ≡ [] → Declares c → ⊥
    no_connection c thread clean d = by d.source d.target d.source_is d.target_is d.not_both
      where
        by : (s t : NumberedPort) → end_port tree x c.source ≡ Some s → end_port tree x c.target ≡ Some t
            → NotBothOwn s t → ⊥
        by (Own p) (Own q) e f b = b
        by (Own p) (Inner t q) e f b = no_subs t q thread clean (inner_port t q c.target f)
        by (Inner s p) t e f b = no_subs s p thread clean (inner_port s p c.source e)

-- ---- declarations
pub implementation_in-some : (o : Option (Declaration ℕ)) (x : Implementation ℕ) → implementation_in o ≡ Some x
    → o ≡ Some (implementation x)
implementation_in-some None x e = absurd (none-some x e)
implementation_in-some (Some (type y)) x e = absurd (none-some x e)
implementation_in-some (Some (implementation y)) x e = ap (λ z. Some (implementation z)) (same_Some y x e)

module _ (tree : PackageTree ℕ) (root : ℕ) (clean : package_faults tree root ≡ []) where
  all_clean : flat_map (declaration_faults tree root) (enumerate_from 0 tree.declarations) ≡ []
  unfolding wrong_names
  all_clean = append_is_nil_right _ _ (append_is_nil_left (wrong_names tree root) _ clean)

  clean_at : (n : ℕ) (x : Implementation ℕ) → implementation_at tree n ≡ Some x
      → outer_faults tree (nat_eq root n) x ≡ []
  clean_at n x e =
      let d : slice_get (enumerate_from 0 tree.declarations) n ≡ Some (n, implementation x) =
      slice_get-enumerate_from 0 tree.declarations n n (implementation x) (omega arith)
      (implementation_in-some (slice_get tree.declarations n) x e) in
      append_is_nil_left (outer_faults tree (nat_eq root n) x) (annex_faults tree x (behaviours x.annexes))
      (flat_map-nil_at (declaration_faults tree root) (enumerate_from 0 tree.declarations) n (n, implementation x)
      all_clean d)

  pub record CleanParts (x : Implementation ℕ) : Type 0 where
    pub subs : flat_map (subcomponent_faults tree x.category) x.subcomponents ≡ []
    pub links : flat_map (connection_faults tree x) x.connections ≡ []

  parts : (n : ℕ) (x : Implementation ℕ) → implementation_at tree n ≡ Some x → CleanParts x
  parts n x e =
      let h = heading_faults tree x in
      let s = flat_map (subcomponent_faults tree x.category) x.subcomponents in
      let c = flat_map (connection_faults tree x) x.connections in
      let l = list_faults (holders.Declaration x.category (nat_eq root n)) x.properties in
      let v = flat_map variables_faults x.annexes in
      let front = append_is_nil_left (h ++ s ++ c) l (append_is_nil_left (h ++ s ++ c ++ l) v (clean_at n x e)) in
      record {
        subs = append_is_nil_right h s (append_is_nil_left (h ++ s) c front);
        links = append_is_nil_right (h ++ s) c front;
      }

  declares_at : (n k : ℕ) (x : Implementation ℕ) (c : Connection ℕ) → (e : implementation_at tree n ≡ Some x)
      → slice_get x.connections k ≡ Some c
      → Declares tree x n e c
  declares_at n k x c e is =
      declares tree x n e c (flat_map-nil_at (connection_faults tree x) x.connections k c (parts n x e).links is)

  each_by : (n : ℕ) (wire : ConnectionPorts) (o : Option (Implementation ℕ)) → implementation_at tree n ≡ o
      → (h : Contains (wires_of tree o) wire)
      → IsPermitted tree n wire
  each_by n wire None e h = absurd (Contains-nil wire h)
  each_by n wire (Some x) e h =
      let l =
      listed (ports_of_connection tree x) x.connections h.0 wire
      (slice_get-from_Contains (wires_of tree (Some x)) wire h) in
      wired tree x n e l.0 wire (declares_at n h.0 x l.0 e l.1) l.2

  threads_by : (n : ℕ) (o : Option (Implementation ℕ)) → implementation_at tree n ≡ o → is_thread_in o ≡ true
      → wires_of tree o ≡ []
  threads_by n None e t = refl
  threads_by n (Some x) e t = by x.connections refl
    where
      by : (cs : List (Connection ℕ)) → x.connections ≡ cs → map (ports_of_connection tree x) cs ≡ []
      by [] f = refl
      by (c ∷ cs) f =
          absurd (no_connection tree x n e c t (parts n x e).subs (declares_at n 0 x c e (ap (λ l. slice_get l 0) f)))

  pub declared : ArePermitted tree
  declared = record {
    each = λ n wire h. each_by n wire (implementation_at tree n) refl h;
    threads = λ n t. threads_by n (implementation_at tree n) refl t;
  }
