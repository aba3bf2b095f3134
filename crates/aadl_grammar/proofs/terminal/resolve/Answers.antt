use Rattle.std.proofs.Common.{arith, rules}
use Rattle.std.proofs.lemmas.Grind.{common_steps}
use Rattle.aadl_grammar.proofs.TerminalViews.{words_push}
use Rattle.aadl_grammar.proofs.terminal.resolve.Goals as goal

pub loop-token-preserved : goal.loop-token-preserved
loop-token-preserved c = record {
  spots = first_of (search rules, grind arith, grind (arith, common_steps));
  words =
      rw c.in_ok-push.ensures.items
      (words_push c.args.text.now c.loop-token.found.items _ c.loop-token.invariant.words
      (λ e. rw (c.in_ok-start.ensures, c.in_ok-end.ensures)
      (c.requires c.loop-token.token-index _ (omega arith) (c.terminal_kind-kind.ensures.word e))));
}
