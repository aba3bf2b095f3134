-- The ports of threads at the ends of connection chains, as the design numbers them.
use Rattle.std.proofs.Common.{◌≡◌, ◌∙◌, ℕ, ◌+◌, ◌≤◌, true, false, not, List, map, length, take, Option, Some, None}
use Rattle.std.proofs.Common.{Contains, refl, sym, ap}
use Rattle.std.specs.Prelude.{slice_get, filter, count_by, option_map}
use Rattle.std.specs.Option.{option_and_then}
use Rattle.std.proofs.lemmas.Bool.{false≢true, not_from_false}
use Rattle.std.proofs.lemmas.Option.{same_Some, slice_get-map}
use Rattle.pals_base.specs.declared.limits.TheConstants.{PORTS}
use Rattle.pals_base.specs.declared.behaviour.BehaviourParts.{BehaviourParts}
use Rattle.pals_model.specs.declared.design.Component.{Component}
use Rattle.aadl_tree.specs.declared.declarations.Direction.{Direction}
use Rattle.aadl_tree.specs.declared.declarations.Direction.TheVariants as directions
use Rattle.aadl_tree.specs.Annexes.{AnnexTree}
use Rattle.aadl_tree.specs.Declarations.{Feature, Implementation, PackageTree}
use Rattle.aadl_names.specs.NameResolution.{implementation_at, ports_of, ports_at}
use Rattle.aadl_names.specs.PackageNameFaults.{goes_in}
use Rattle.aadl_uses.specs.ContainmentAndUse.{component_at}
use Rattle.aadl_uses.specs.ThreadLocations.{thread_at}
use Rattle.aadl_chains.specs.Chains.{Port, port_of, is_in}
use Rattle.aadl_instance.specs.declared.chain.ChainEnd.TheVariants.{Thread}
use Rattle.aadl_instance.specs.InstancesByNumbers.{same_direction, node_at, goes_as, port_number}
use Rattle.annex_resolve.specs.ExpressionTypesAndFindings.{kind_in}
use Rattle.annex_resolve.specs.BehavioursAndFindings.{behaviour_of}
use Rattle.component_checks.specs.TypeFindings as types
use Rattle.component_checks.specs.ThreadRatesAndFindings.{thread_rate}
use Rattle.model_violations.specs.ChainEnds.{thread_in, flat, end_kind, end_rate}
use Rattle.model_violations.specs.PortsAndVariables as values
use Rattle.model_violations.specs.PortsAndVariables.{ins_in, outs_in, named_of}
use Rattle.model_violations.specs.ThreadBehaviours.{first_annex, behaviour_by, behaviour_in}
use Rattle.design_laws.proofs.InstanceBehaviours.{ThreadIs}
use Rattle.design_laws.proofs.MatchedLists.{Zipped, zipped_at}
use Rattle.design_laws.proofs.PortAndThreadNumbers.{kept_at, IsNode, is_node}

-- ---- the ports of a behaviour
behaviour_ports : (tree : PackageTree ℕ) (x : Implementation ℕ) (o : Option (ℕ × AnnexTree ℕ)) (b : BehaviourParts)
    → behaviour_by tree x o ≡ Some b
    → (b.ins ≡ map named_of (ins_in (ports_of tree x))) × (b.outs ≡ map named_of (outs_in (ports_of tree x)))
behaviour_ports tree x None b is = absurd (cc is)
behaviour_ports tree x (Some a) b is =
    let e = same_Some (behaviour_of (values.values_of tree x a.1) (values.scope_of tree x a.1) a.1) b is in
    (ap (λ (c : BehaviourParts). c.ins) (sym e), ap (λ (c : BehaviourParts). c.outs) (sym e))

-- ---- the direction of a port
in_test : (d : Direction) → goes_in (Some d) ≡ true → (fs : List (Feature ℕ))
    → count_by (λ (o : Feature ℕ). same_direction d o.direction) fs ≡ count_by types.is_in fs
in_test directions.In is fs = refl
in_test directions.Out is fs = absurd (false≢true is)

out_test : (d : Direction) → goes_in (Some d) ≡ false → (fs : List (Feature ℕ))
    → count_by (λ (o : Feature ℕ). same_direction d o.direction) fs ≡ count_by (λ o. not (types.is_in o)) fs
out_test directions.In is fs = absurd (false≢true (sym is))
out_test directions.Out is fs = refl

-- ---- the component of the design for the thread at a path
pub record IsComponentAt (tree : PackageTree ℕ) (root : ℕ) (path : List ℕ) (c : Component) : Type 0 where
  pub thread : ThreadIs tree root path
  pub rate_seen : thread_rate tree root (thread_at tree root path) ≡ Some c.rate
  pub seen : behaviour_in tree thread.component ≡ Some c.behaviour
  pub small : length c.behaviour.ins + length c.behaviour.outs ≤ PORTS

module _ (tree : PackageTree ℕ) (root : ℕ) (threads : List (List ℕ)) (cs : List Component) where
  -- the thread at a path has a number, and the component of that number exists
  pub record AtNode (path : List ℕ) : Type 0 where
    pub node : IsNode threads path
    pub component : Component
    pub is : slice_get cs node.place ≡ Some component
    pub sits : IsComponentAt tree root path component

  pub at_node : Zipped (IsComponentAt tree root) threads cs → (path : List ℕ) → Contains threads path → AtNode path
  at_node zipped path among =
      let n = is_node threads path among in
      let z = zipped_at (IsComponentAt tree root) threads cs n.place path zipped n.is in
      record { node = n; component = z.0; is = z.1; sits = z.2 }

  module _ (p : Port) (f : Feature ℕ) (at : AtNode p.path) (is : port_of tree root p ≡ Some f) where
    x : Implementation ℕ
    x = at.sits.thread.component

    component_is : component_at tree root p.path ≡ Some at.sits.thread.component
    component_is = ap (option_and_then (implementation_at tree)) at.sits.thread.stands ∙ at.sits.thread.is_component

    pub port_is : slice_get (ports_of tree at.sits.thread.component) p.port ≡ Some f
    port_is = ap (λ o. slice_get (ports_at tree o) p.port) (sym component_is) ∙ is

    direction_is : is_in tree root p ≡ goes_in (Some f.direction)
    direction_is = ap (λ o. goes_in (option_map (λ (g : Feature ℕ). g.direction) o)) is

    number_is : port_number tree root p ≡ count_by (λ (o : Feature ℕ). same_direction f.direction o.direction)
        (take p.port (ports_of tree at.sits.thread.component))
    number_is = ap (λ o. count_by (goes_as o) (take p.port (ports_at tree (component_at tree root p.path)))) is
        ∙ ap (λ o. count_by (goes_as (Some f)) (take p.port (ports_at tree o))) component_is

    -- ---- an in port
    pub in_way : is_in tree root p ≡ true → types.is_in f ≡ true
    in_way goes = sym direction_is ∙ goes

    pub in_number : is_in tree root p ≡ true
        → port_number tree root p ≡ count_by types.is_in (take p.port (ports_of tree at.sits.thread.component))
    in_number goes =
        number_is ∙ in_test f.direction (in_way goes) (take p.port (ports_of tree at.sits.thread.component))

    in_listed : is_in tree root p ≡ true
        → slice_get (filter types.is_in (ports_of tree at.sits.thread.component)) (port_number tree root p) ≡ Some f
    in_listed goes =
        let way = sym direction_is ∙ goes in
        ap (slice_get (filter types.is_in (ports_of tree at.sits.thread.component))) (number_is
        ∙ in_test f.direction way (take p.port (ports_of tree at.sits.thread.component)))
        ∙ kept_at types.is_in (ports_of tree at.sits.thread.component) p.port f port_is way

    pub in_port : is_in tree root p ≡ true
        → slice_get at.component.behaviour.ins (port_number tree root p) ≡ Some (named_of (values.port_of f))
    in_port goes =
        let kept = filter types.is_in (ports_of tree at.sits.thread.component) in
        ap (λ l. slice_get l (port_number tree root p)) (behaviour_ports tree at.sits.thread.component
        (first_annex at.sits.thread.component) at.component.behaviour at.sits.seen).0
        ∙ (slice_get-map named_of (map values.port_of kept) (port_number tree root p)
        ∙ (ap (option_map named_of)
        (slice_get-map values.port_of kept (port_number tree root p)
        ∙ ap (option_map values.port_of) (in_listed goes))))

    pub in_seen : is_in tree root p ≡ true → end_kind tree (map (thread_at tree root) threads)
        (Thread (node_at threads p.path) (port_number tree root p)) ≡ kind_in f.data_type
    in_seen goes =
        let node : slice_get (map (thread_at tree root) threads) (node_at threads p.path).0
        ≡ Some (thread_at tree root p.path) =
        ap (slice_get (map (thread_at tree root) threads)) at.node.number
        ∙ (slice_get-map (thread_at tree root) threads at.node.place
        ∙ ap (option_map (thread_at tree root)) at.node.is) in
        ap (λ o. option_and_then (λ (g : Feature ℕ). kind_in g.data_type)
        (thread_in tree o (port_number tree root p))) node
        ∙ (ap (λ o. option_and_then (λ (g : Feature ℕ). kind_in g.data_type)
        (slice_get (filter types.is_in (ports_at tree o)) (port_number tree root p))) at.sits.thread.seen
        ∙ ap (option_and_then (λ (g : Feature ℕ). kind_in g.data_type)) (in_listed goes))

    -- ---- an out port
    pub out_port : is_in tree root p ≡ false
        → slice_get at.component.behaviour.outs (port_number tree root p) ≡ Some (named_of (values.port_of f))
    out_port goes =
        let way = sym direction_is ∙ goes in
        let kept = filter (λ o. not (types.is_in o)) (ports_of tree at.sits.thread.component) in
        let listed : slice_get kept (port_number tree root p) ≡ Some f =
        ap (slice_get kept) (number_is
        ∙ out_test f.direction way (take p.port (ports_of tree at.sits.thread.component)))
        ∙ kept_at (λ o. not (types.is_in o)) (ports_of tree at.sits.thread.component) p.port f port_is
        (not_from_false (types.is_in f) way) in
        ap (λ l. slice_get l (port_number tree root p)) (behaviour_ports tree at.sits.thread.component
        (first_annex at.sits.thread.component) at.component.behaviour at.sits.seen).1
        ∙ (slice_get-map named_of (map values.port_of kept) (port_number tree root p)
        ∙ (ap (option_map named_of)
        (slice_get-map values.port_of kept (port_number tree root p) ∙ ap (option_map values.port_of) listed)))

  -- ---- the rate at an end
  pub rate_at : (path : List ℕ) (n : ℕ) → (at : AtNode path)
      → end_rate (map (thread_rate tree root) (map (thread_at tree root) threads))
      (Thread (node_at threads path) n) ≡ Some at.component.rate
  rate_at path n at =
      let read : slice_get (map (thread_rate tree root) (map (thread_at tree root) threads)) (node_at threads path).0
      ≡ Some
      (thread_rate tree root (thread_at tree root path)) =
      ap (slice_get (map (thread_rate tree root) (map (thread_at tree root) threads))) at.node.number
      ∙ (slice_get-map (thread_rate tree root) (map (thread_at tree root) threads) at.node.place
      ∙ ap (option_map (thread_rate tree root)) (slice_get-map (thread_at tree root) threads at.node.place
      ∙ ap (option_map (thread_at tree root)) at.node.is)) in
      ap flat read ∙ at.sits.rate_seen

  -- ---- the number in the design
  pub component_there : (path : List ℕ) → (at : AtNode path) → slice_get cs (node_at threads path).0 ≡ Some at.component
  component_there path at = ap (slice_get cs) at.node.number ∙ at.is
