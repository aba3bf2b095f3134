-- The implementation with a number: look-ups by its number, and the ports that its connections join.
use Rattle.std.proofs.Common.{◌≡◌, ◌∙◌, ℕ, Option, Some, None, refl, ap, slice_get, map, option_map}
use Rattle.std.specs.Option.{option_and_then}
use Rattle.list_lemmas.proofs.Options.{option_and_then_assoc}
use Rattle.aadl_tree.specs.Declarations.{Subcomponent, Connection, Implementation, PackageTree}
use Rattle.aadl_tree.specs.declared.declarations.Direction.{Direction}
use Rattle.aadl_names.specs.declared.fault.PackageFault.{PackageFault}
use Rattle.aadl_names.specs.declared.numbered_port.NumberedPort.{NumberedPort}
use Rattle.aadl_names.specs.declared.numbered_port.NumberedPort.TheVariants.{Own, Inner}
use Rattle.aadl_names.specs.NameResolution.{implementation_in, implementation_at, subcomponents_of, type_number}
use Rattle.aadl_names.specs.NameResolution.{type_numbered, referred, target_of, features_of, direction_in}
use Rattle.aadl_names.specs.NameResolution.{direction_of, with_direction}
use Rattle.aadl_names.specs.proof.FirstFaultSoFar.{found}
use Rattle.aadl_names.specs.PackageNameFaults.{root_type, directed_end_port, joined_faults, connection_faults}
use Rattle.aadl_uses.specs.declared.connections_by_target.ConnectionPorts.{ConnectionPorts}
use Rattle.aadl_uses.specs.ContainmentAndUse.{below}
use Rattle.aadl_uses.specs.PortsOfConnections.{ports_of_connection, wires_of, connection_ports_at}
use Rattle.aadl_uses.specs.proof.ImplementationTypes.{type_number_by, type_number_at}
use Rattle.name_faults.specs.proof.NumberedImplementations.{StandsAt}

pub of_root : (tree : PackageTree ℕ) (x : Option (Implementation ℕ)) → type_number_by tree x ≡ root_type tree x
of_root tree None = refl
of_root tree (Some x) = refl

module _ (tree : PackageTree ℕ) (n : ℕ) (x : Implementation ℕ) (stands : StandsAt tree n x) where
  pub type_is : type_number_at tree n ≡ type_number tree x
  type_is = ap (λ d. type_number_by tree (implementation_in d)) stands

  below_by : (s : ℕ) → below tree n s
      ≡ option_and_then (λ (sub : Subcomponent ℕ). referred tree sub.classifier) (slice_get x.subcomponents s)
  below_by s =
      ap (λ d. option_and_then (λ (sub : Subcomponent ℕ). referred tree sub.classifier)
      (slice_get (subcomponents_of (implementation_in d)) s)) stands

  pub below_is : (s : ℕ) (sub : Subcomponent ℕ) → slice_get x.subcomponents s ≡ Some sub
      → below tree n s ≡ referred tree sub.classifier
  below_is s sub is = below_by s ∙ ap (option_and_then (λ (sub : Subcomponent ℕ). referred tree sub.classifier)) is

  pub wires_are : connection_ports_at tree n ≡ map (ports_of_connection tree x) x.connections
  wires_are = ap (λ d. wires_of tree (implementation_in d)) stands

  pub own_direction : (p : ℕ)
      → direction_in (features_of (type_numbered tree (type_number_at tree n))) p ≡ direction_of tree x (Own p)
  own_direction p = ap (λ t. direction_in (features_of (type_numbered tree t)) p) type_is

  type_below_is : (s : ℕ) → option_and_then (type_number_at tree) (below tree n s)
      ≡ option_and_then (type_number tree) (option_and_then (target_of tree) (slice_get x.subcomponents s))
  type_below_is s =
      ap (option_and_then (type_number_at tree)) (below_by s)
      ∙ option_and_then_assoc (λ (sub : Subcomponent ℕ). referred tree sub.classifier) (type_number_at tree)
      (slice_get x.subcomponents s)
      ∙ by (slice_get x.subcomponents s)
    where
      by : (o : Option (Subcomponent ℕ))
          → option_and_then (λ (sub : Subcomponent ℕ).
          option_and_then (type_number_at tree) (referred tree sub.classifier)) o
          ≡ option_and_then (type_number tree) (option_and_then (target_of tree) o)
      by None = refl
      by (Some sub) = inner (referred tree sub.classifier)
        where
          inner : (t : Option ℕ) → option_and_then (type_number_at tree) t
              ≡ option_and_then (type_number tree) (option_and_then (implementation_at tree) t)
          inner None = refl
          inner (Some m) = refl

  pub inner_direction : (s p : ℕ)
      → direction_in (features_of (type_numbered tree (option_and_then (type_number_at tree) (below tree n s)))) p
      ≡ direction_of tree x (Inner s p)
  inner_direction s p = ap (λ t. direction_in (features_of (type_numbered tree t)) p) (type_below_is s)

-- the findings from the ports that a connection joins
module _ (tree : PackageTree ℕ) (x : Implementation ℕ) (c : Connection ℕ) (w : ConnectionPorts)
    (is : w ≡ ports_of_connection tree x c) where
  pub joined : (old new : Option PackageFault) (source target : Option (NumberedPort × Option Direction))
      → source ≡ option_map (with_direction tree x) w.source
      → target ≡ option_map (with_direction tree x) w.target → new ≡ found old (joined_faults c source target)
      → new ≡ found old (connection_faults tree x c)
  joined old new source target from to more =
      more ∙ ap (λ s. found old (joined_faults c s target))
      (from ∙ ap (λ (v : ConnectionPorts). option_map (with_direction tree x) v.source) is)
      ∙ ap (λ t. found old (joined_faults c (directed_end_port tree x c.source) t))
      (to ∙ ap (λ (v : ConnectionPorts). option_map (with_direction tree x) v.target) is)
