use Rattle.std.proofs.Common.{◌≡◌, ◌++◌, map, take}
use Rattle.pals_model.specs.RoundTexts.{text_of}
use Rattle.code_listing.specs.Listings.{port_line}
use Rattle.code_listing.proofs.component.add_ports.Given as goal

-- the lines so far
abbrev pub invariant-loop-port : goal.invariant-loop-port
invariant-loop-port l = l.out.items ≡ l.fn.out.items ++ text_of (map (port_line l.word) (take l.port-index l.ports))
