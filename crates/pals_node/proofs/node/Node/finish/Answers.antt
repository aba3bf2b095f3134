use Rattle.std.proofs.Common.{ap, sym, ◌∙◌}
use Rattle.std.proofs.lemmas.Bool.{false≢true}
use Rattle.pals_node.specs.proof.NodeAndJobValues.{JobValue}
use Rattle.pals_node.proofs.node.Node.finish.Goals as goal

pub returns-clause-ok : goal.returns-clause-ok
returns-clause-ok c = record {
  running = c.in_ok-finish_here.ensures.ok.0;
  finishes = c.in_ok-finish_here.ensures.ok.1;
  used = λ is. false≢true (sym c.if-is_own.false ∙ c.is_own.ensures.1
      (ap (λ (j : JobValue). j.work.node) is, ap (λ (j : JobValue). j.code) is));
}
