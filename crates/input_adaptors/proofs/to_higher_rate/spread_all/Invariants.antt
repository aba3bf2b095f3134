use Rattle.std.proofs.Common.{◌≡◌, ◌++◌, drop}
use Rattle.std.specs.List.{flat_map}
use Rattle.pals_base.specs.Adaptors.{spread}
use Rattle.input_adaptors.proofs.to_higher_rate.spread_all.Given as goal

-- the places so far, and the places of the remaining values
abbrev pub invariant-loop-value : goal.invariant-loop-value
invariant-loop-value l =
    l.tuple ++ flat_map (spread l.adaptor l.m) (drop l.value-index l.values) ≡ flat_map (spread l.adaptor l.m) l.values
