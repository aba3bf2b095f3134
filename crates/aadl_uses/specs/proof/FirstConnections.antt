-- The first connection into a port.
use Rattle.std.specs.Prelude.{ℕ, Bool, false, nat_lt, List, Option, Some, None}
use Rattle.aadl_names.specs.declared.numbered_port.NumberedPort.{NumberedPort}
use Rattle.aadl_names.specs.NameResolution.{first_number}
use Rattle.aadl_uses.specs.declared.connections_by_target.ConnectionPorts.{ConnectionPorts}
use Rattle.aadl_uses.specs.proof.NumbersByPort.{is_port}

abbrev pub first_into : List ConnectionPorts → NumberedPort → Option ℕ
first_into wires target = first_number (λ wire. is_port target wire.target) wires

-- a first number exists and is below the other
abbrev pub is_before : Option ℕ → ℕ → Bool
is_before None n = false
is_before (Some first) n = nat_lt first n
