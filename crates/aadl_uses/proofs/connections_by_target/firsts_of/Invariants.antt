use Rattle.std.proofs.Common.{◌≡◌, drop}
use Rattle.std.specs.List.{position_from}
use Rattle.std.specs.Option.{option_or}
use Rattle.aadl_names.specs.declared.numbered_port.NumberedPort.{NumberedPort}
use Rattle.aadl_uses.specs.proof.NumbersByPort.{is_port, number_of}
use Rattle.aadl_uses.specs.proof.FirstConnections.{first_into}
use Rattle.aadl_uses.proofs.connections_by_target.firsts_of.Given as goal

-- the first one may be among the remaining connections
abbrev pub invariant-loop-number : goal.invariant-loop-number
invariant-loop-number l = (target : NumberedPort) → option_or (number_of l.firsts.entries target)
    (position_from (λ w. is_port target w.target) l.number (drop l.number l.wires)) ≡ first_into l.wires target
