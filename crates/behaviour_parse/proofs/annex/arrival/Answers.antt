use Rattle.std.proofs.Common.{◌∙◌, ◌∷◌, arith}
use Rattle.aadl_grammar.proofs.ParserFaults.{along, exits, no_reads}
use Rattle.aadl_grammar.proofs.PartSequences.{nothing, then, marked}
use Rattle.aadl_tree.specs.declared.mark.Mark.TheVariants as k
use Rattle.aadl_grammar.specs.proof.GrammarSymbols as s
use Rattle.aadl_grammar.specs.proof.StackMachine.{move, depth}
use Rattle.behaviour_parse.proofs.annex.arrival.Goals as goal

pub returns-in_err-target : goal.returns-in_err-target
unfolding move depth
returns-in_err-target c = record {
  runs =
      λ outer below h. exits _ _ _ _ _ _ _ c.from_residual.ensures.1
      (c.in_err-target.ensures.runs outer (s.effect ∷ s.only k.Semicolon ∷ below) (omega arith));
  reads = no_reads _ _ _ c.from_residual.ensures.1;
}

pub returns-in_err-effect : goal.returns-in_err-effect
unfolding move depth
returns-in_err-effect c = record {
  runs =
      λ outer below h. exits _ _ _ _ _ _ _ c.from_residual-in_err-effect.ensures.1
      (along _ _ _ (c.in_ok-target.ensures.runs outer (s.effect ∷ s.only k.Semicolon ∷ below) (omega arith))
      (c.in_err-effect.ensures.runs outer (s.only k.Semicolon ∷ below) (omega arith)));
  reads = no_reads _ _ _ c.from_residual-in_err-effect.ensures.1;
}

pub returns-in_err-end : goal.returns-in_err-end
unfolding move depth
returns-in_err-end c = record {
  runs =
      λ outer below h. exits _ _ _ _ _ _ _ c.from_residual-in_err-end.ensures.1
      (along _ _ _ (c.in_ok-target.ensures.runs outer (s.effect ∷ s.only k.Semicolon ∷ below) (omega arith)
      ∙ c.in_ok-effect.ensures.runs outer (s.only k.Semicolon ∷ below) (omega arith))
      (c.in_err-end.ensures.runs outer (below) (omega arith)));
  reads = no_reads _ _ _ c.from_residual-in_err-end.ensures.1;
}

pub returns : goal.returns
unfolding move depth
returns c = record {
  runs = λ outer below h. c.in_ok-target.ensures.runs outer (s.effect ∷ s.only k.Semicolon ∷ below) (omega arith)
      ∙ c.in_ok-effect.ensures.runs outer (s.only k.Semicolon ∷ below) (omega arith)
      ∙ c.in_ok-end.ensures.runs outer (below) (omega arith);
  reads =
      then c.in_ok-target.ensures.reads (then c.in_ok-effect.ensures.reads (marked c.in_ok-end.ensures.reads nothing));
}
