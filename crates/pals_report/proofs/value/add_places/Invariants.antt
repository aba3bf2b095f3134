use Rattle.std.proofs.Common.{◌≡◌, ◌++◌, take, codes}
use Rattle.std.specs.List.{flat_map}
use Rattle.pals_model.specs.RoundTexts.{port_text}
use Rattle.pals_report.proofs.value.add_places.Given as goal

-- a comma and each value, for the values so far
abbrev pub invariant-loop-port : goal.invariant-loop-port
invariant-loop-port l =
    l.out.items ≡ l.initial.out.items ++ flat_map (λ p. codes "," ++ port_text l.kind p) (take l.port-index l.rest)
