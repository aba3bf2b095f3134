use Rattle.std.proofs.Common.{◌≡◌, ◌≤◌, drop}
use Rattle.aadl_lex.specs.Rules.{decimal_from, decimal, most}
use Rattle.model_violations.proofs.declared_variables.number_of.Given as goal

abbrev pub invariant-loop-byte : goal.invariant-loop-byte
invariant-loop-byte l = record {
  small : l.value ≤ most;
  same : decimal_from l.value (drop l.byte-index l.digits) ≡ decimal l.digits;
}
