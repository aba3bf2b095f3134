use Rattle.std.proofs.Common.{◌≡◌, map, take, drop, vec_len, string_bytes}
use Rattle.scenario_values.specs.proof.NameTables.{Numbers}
use Rattle.scenario_values.proofs.design_names.numbers.Given as goal

-- the last names are in the table, and the others remain
abbrev pub invariant-loop-name : goal.invariant-loop-name
invariant-loop-name l =
    (l.names.items ≡ take (vec_len l.names) l.initial.names.items)
    × Numbers l.table (vec_len l.names) (map string_bytes (drop (vec_len l.names) l.initial.names.items))

abbrev pub decreases-loop-name : goal.decreases-loop-name
decreases-loop-name l = vec_len l.names
