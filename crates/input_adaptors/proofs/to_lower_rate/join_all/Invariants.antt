use Rattle.std.proofs.Common.{◌≡◌, ◌++◌, ◌-◌, map}
use Rattle.pals_base.specs.Adaptors.{joined, groups}
use Rattle.input_adaptors.proofs.to_lower_rate.join_all.Given as goal

-- the places so far, and the places of the remaining groups
abbrev pub invariant-loop-group_number : goal.invariant-loop-group_number
invariant-loop-group_number l =
    l.tuple ++ map (joined l.adaptor) (groups (l.count - l._group_number) l.m l.rest)
    ≡ map (joined l.adaptor) (groups l.count l.m l.fn.places)
