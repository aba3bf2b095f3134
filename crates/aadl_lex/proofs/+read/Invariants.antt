use Rattle.std.proofs.Common.{length, ◌-◌, ◌≤◌, ◌++◌, List}
use Rattle.aadl_lex.specs.declared.fault.LexFault.{LexFault}
use Rattle.aadl_lex.specs.declared.token.Token.{Token}
use Rattle.aadl_lex.specs.TokensAndFirstFaults.{Lexes, Adds, Faults}
use Rattle.aadl_lex.proofs.+read.Given as goal

-- a body is shorter than the text around it
abbrev pub decreases-read : goal.decreases-read
decreases-read l = length l.text.now

abbrev pub invariant-loop-at : goal.invariant-loop-at
invariant-loop-at l = record {
  within : l.at ≤ length l.text;
  -- the tokens of the rest, appended to the tokens so far, are the tokens of the text
  tokens : (ts : List Token) → Lexes l.reading l.text l.at ts
      → Adds l.fn.reading l.text l.fn.at l.fn.found.items (l.found.items ++ ts);
  faults : (fault : LexFault) → Faults l.reading l.text l.at fault → Faults l.fn.reading l.text l.fn.at fault;
}

abbrev pub decreases-loop-at : goal.decreases-loop-at
decreases-loop-at l = length l.text - l.at
