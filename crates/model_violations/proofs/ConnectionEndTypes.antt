-- For `site_kind` and `wire_at`: the types of the two ports that a connection joins, by the numbers of the
-- declarations.
use Rattle.std.proofs.Common.{◌≡◌, ◌∙◌, ℕ, Some, slice_get, option_map, sym, ap}
use Rattle.std.specs.Option.{option_and_then}
use Rattle.std.proofs.lemmas.Option.{same_Some, slice_get-map}
use Rattle.list_lemmas.proofs.Options.{option_and_then_assoc}
use Rattle.aadl_tree.specs.Declarations.{Subcomponent, Connection, Implementation, PackageTree}
use Rattle.aadl_names.specs.declared.numbered_port.NumberedPort.TheVariants.{Own, Inner}
use Rattle.aadl_names.specs.NameResolution.{features_of, implementation_at, subcomponents_of, referred, target_of}
use Rattle.aadl_names.specs.NameResolution.{type_number, type_numbered}
use Rattle.aadl_uses.specs.declared.connections_by_target.ConnectionPorts.{ConnectionPorts}
use Rattle.aadl_uses.specs.ContainmentAndUse.{below}
use Rattle.aadl_uses.specs.PortsOfConnections.{ports_of_connection, wires_of, connection_ports_at}
use Rattle.aadl_uses.specs.proof.ImplementationTypes.{type_number_at}
use Rattle.model_violations.specs.ConnectionFindings.{kind_numbered, site_kind}
use Rattle.model_violations.specs.proof.NumberedConnections.{IsConnection}

-- the target of a subcomponent, by the numbers of both
pub target_below : (tree : PackageTree ℕ) (n s : ℕ)
    → option_and_then (implementation_at tree) (below tree n s)
    ≡ option_and_then (target_of tree) (slice_get (subcomponents_of (implementation_at tree n)) s)
target_below tree n s =
    option_and_then_assoc (λ (sub : Subcomponent ℕ). referred tree sub.classifier) (implementation_at tree)
    (slice_get (subcomponents_of (implementation_at tree n)) s)

-- ---- the type of a port, own or of a subcomponent
module _ (tree : PackageTree ℕ) (n : ℕ) (x : Implementation ℕ) (is : implementation_at tree n ≡ Some x) where
  pub own_kind : (p : ℕ) → kind_numbered (features_of (type_numbered tree (type_number_at tree n))) p
      ≡ site_kind tree x (Own p)
  own_kind p = ap (λ o. kind_numbered (features_of (type_numbered tree (option_and_then (type_number tree) o))) p) is

  pub inner_kind : (s p : ℕ)
      → kind_numbered (features_of (type_numbered tree (option_and_then (type_number_at tree) (below tree n s)))) p
      ≡ site_kind tree x (Inner s p)
  inner_kind s p =
      ap (λ o. kind_numbered (features_of (type_numbered tree o)) p)
      (sym (option_and_then_assoc (implementation_at tree) (type_number tree) (below tree n s))
      ∙ ap (option_and_then (type_number tree))
      (target_below tree n s ∙ ap (λ o. option_and_then (target_of tree) (slice_get (subcomponents_of o) s)) is))

-- ---- a connection of a declaration joins the ports that its ends name
pub wire_is : (tree : PackageTree ℕ) (n i : ℕ) (x : Implementation ℕ) (c : Connection ℕ) → IsConnection tree n i x c
    → slice_get (connection_ports_at tree n) i ≡ Some (ports_of_connection tree x c)
wire_is tree n i x c is =
    ap (λ o. slice_get (wires_of tree o) i) is.declared ∙ slice_get-map (ports_of_connection tree x) x.connections i
    ∙ ap (option_map (ports_of_connection tree x)) is.listed

pub joined : (tree : PackageTree ℕ) (n i : ℕ) (x : Implementation ℕ) (c : Connection ℕ) (w : ConnectionPorts)
    → IsConnection tree n i x c → slice_get (connection_ports_at tree n) i ≡ Some w → w ≡ ports_of_connection tree x c
joined tree n i x c w is found = same_Some w (ports_of_connection tree x c) (sym found ∙ wire_is tree n i x c is)
