use Rattle.std.specs.Prelude.{◌≡◌, take}
use Rattle.run_laws.specs.LineForms.{spelled}
use Rattle.trace_audit.proofs.numerals.spelled.Given as goal

-- what the digits before this one spell
abbrev pub invariant-loop-at : goal.invariant-loop-at
invariant-loop-at l = l.number ≡ spelled (take l.at l.word)
