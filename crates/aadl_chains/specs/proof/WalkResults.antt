-- The upward trace from a port, on paths with the outermost subcomponent first, as in the code.
use Rattle.std.specs.Prelude.{ℕ, List, take, reverse, Option, Some, None, option_map}
use Rattle.aadl_tree.specs.Declarations.{PackageTree}
use Rattle.aadl_names.specs.declared.numbered_port.NumberedPort.TheVariants.{Inner}
use Rattle.aadl_uses.specs.proof.IncomingConnections.{connection_into}
use Rattle.aadl_chains.specs.declared.chain_tracing.ChainStart.{ChainStart}
use Rattle.aadl_chains.specs.declared.chain_tracing.ChainRoute.{ChainRoute}
use Rattle.aadl_chains.specs.declared.chain_tracing.ConnectionInto.{ConnectionInto}
use Rattle.aadl_chains.specs.declared.chain_tracing.CrossConnection.{CrossConnection}
use Rattle.aadl_chains.specs.declared.chain_tracing.WalkResult.{WalkResult}
use Rattle.aadl_chains.specs.proof.UpwardWalks.{Crossing, WalkEnd, nowhere, at_root, crosses}
use Rattle.aadl_chains.specs.declared.chain_tracing.ChainStart.TheVariants as begins
use Rattle.aadl_chains.specs.declared.chain_tracing.WalkResult.TheVariants as ends

-- the first connection into a port of a subcomponent
abbrev pub entry : PackageTree ℕ → Option ℕ → ℕ → ℕ → Option ConnectionInto
entry tree None s port = None
entry tree (Some n) s port =
    option_map (λ from. record { declaration = n; connection = from.0; source = from.1 })
    (connection_into tree n (Inner s port))

abbrev pub crossing : List ℕ → CrossConnection → Crossing
crossing path c =
    record {
      path = reverse (take c.depth path);
      declaration = c.declaration;
      connection = c.connection;
      sub = c.sub;
      port = c.port;
    }

-- the end of the trace
abbrev pub climbed : List ℕ → WalkResult → WalkEnd
climbed path ends.Nowhere = nowhere
climbed path (ends.Root last port) = at_root last port
climbed path (ends.Crossing c) = crosses (crossing path c)

-- the connection chain from a port of the root through a connection, if there is one
abbrev pub route_from_root : ℕ → Option ℕ → ℕ → Option ChainRoute
route_from_root root None port = None
route_from_root root (Some connection) port =
    Some (record { begin = begins.Root port; declaration = root; connection = connection })

abbrev pub route_from : Option ChainStart → ℕ → ℕ → Option ChainRoute
route_from None declaration connection = None
route_from (Some begin) declaration connection =
    Some (record { begin = begin; declaration = declaration; connection = connection })
