use Rattle.std.proofs.Common.{◌≡◌, ◌+◌, drop}
use Rattle.aadl_lex.specs.Rules.{whole_len}
use Rattle.name_faults.proofs.spelled_whole_numbers.whole_len.Given as goal

abbrev pub invariant-loop-at : goal.invariant-loop-at
invariant-loop-at l = whole_len l.text ≡ l.at + whole_len (drop l.at l.text)
