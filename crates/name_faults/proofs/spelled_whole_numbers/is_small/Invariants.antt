use Rattle.std.proofs.Common.{◌≡◌, ◌≤◌, drop}
use Rattle.aadl_lex.specs.Rules.{decimal_from, decimal, most}
use Rattle.name_faults.proofs.spelled_whole_numbers.is_small.Given as goal

abbrev pub invariant-loop-byte : goal.invariant-loop-byte
invariant-loop-byte l = record {
  small : l.value ≤ most;
  same : decimal_from l.value (drop l.byte-index l.text) ≡ decimal l.text;
}
