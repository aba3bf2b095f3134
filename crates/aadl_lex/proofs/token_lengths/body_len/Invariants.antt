use Rattle.std.proofs.Common.{◌≡◌, drop}
use Rattle.aadl_lex.specs.Rules.{body_len, close_from}
use Rattle.aadl_lex.proofs.token_lengths.body_len.Given as goal

abbrev pub invariant-loop-at : goal.invariant-loop-at
invariant-loop-at l = close_from l.at (drop l.at l.text) ≡ body_len l.text
