use Rattle.std.proofs.Common.{◌≡◌, ◌++◌, drop}
use Rattle.aadl_tree.specs.Terminals.{spots_from}
use Rattle.aadl_grammar.specs.proof.TerminalViews.{spots_of, AreWords}
use Rattle.aadl_grammar.proofs.terminal.resolve.Given as goal

abbrev pub invariant-loop-token : goal.invariant-loop-token
invariant-loop-token l = record {
  spots : spots_from l.fn.inside l.text l.tokens
      ≡ spots_of l.text l.found.items ++ spots_from l.within l.text (drop l.token-index l.tokens);
  words : AreWords l.text l.found.items;
}
