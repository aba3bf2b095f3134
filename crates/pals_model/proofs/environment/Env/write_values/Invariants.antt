use Rattle.std.proofs.Common.{◌≡◌, ℕ, ◌<◌, slice_index_or}
use Rattle.pals_base.specs.declared.basic_types.PortValue.{PortValue}
use Rattle.pals_model.specs.ComponentInputs.{values_at}
use Rattle.pals_model.proofs.environment.Env.write_values.Given as goal

-- the values so far are the round's
abbrev pub invariant-loop-at : goal.invariant-loop-at
invariant-loop-at l =
    (k : ℕ) (d : PortValue) → k < l.at → slice_index_or l.values k d ≡ slice_index_or (values_at l.self l.round) k d
