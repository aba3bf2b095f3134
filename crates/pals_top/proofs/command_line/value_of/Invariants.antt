use Rattle.std.proofs.Common.{◌≡◌, ◌<◌, ◌≤◌, ◌^◌, take}
use Rattle.pals_top.specs.CommandWords.{value_of}
use Rattle.pals_top.proofs.command_line.value_of.Given as goal

-- the number of the digits so far
abbrev pub invariant-loop-digit : goal.invariant-loop-digit
invariant-loop-digit l = record {
  few : l.digit-index ≤ 6;
  small : l.value < 10 ^ l.digit-index;
  value : l.value ≡ value_of (take l.digit-index l.digits);
}
