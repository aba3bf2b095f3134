use Rattle.std.proofs.Common.{◌∙◌, ◌∷◌, arith}
use Rattle.aadl_grammar.proofs.ParserFaults.{along, exits, no_reads}
use Rattle.aadl_grammar.proofs.PartSequences.{then}
use Rattle.aadl_grammar.specs.proof.GrammarSymbols as s
use Rattle.aadl_grammar.specs.proof.StackMachine.{move, depth}
use Rattle.behaviour_parse.proofs.annex.body.Goals as goal

pub returns-in_err-variables : goal.returns-in_err-variables
unfolding move depth
returns-in_err-variables c = record {
  runs =
      λ outer below h. exits _ _ _ _ _ _ _ c.from_residual.ensures.1
      (c.in_err-variables.ensures.runs outer (s.states ∷ s.transitions ∷ below) (omega arith));
  reads = no_reads _ _ _ c.from_residual.ensures.1;
}

pub returns-in_err-states : goal.returns-in_err-states
unfolding move depth
returns-in_err-states c = record {
  runs =
      λ outer below h. exits _ _ _ _ _ _ _ c.from_residual-in_err-states.ensures.1
      (along _ _ _ (c.in_ok-variables.ensures.runs outer (s.states ∷ s.transitions ∷ below) (omega arith))
      (c.in_err-states.ensures.runs outer (s.transitions ∷ below) (omega arith)));
  reads = no_reads _ _ _ c.from_residual-in_err-states.ensures.1;
}

pub returns-in_err-transitions : goal.returns-in_err-transitions
unfolding move depth
returns-in_err-transitions c = record {
  runs =
      λ outer below h. exits _ _ _ _ _ _ _ c.from_residual-in_err-transitions.ensures.1
      (along _ _ _ (c.in_ok-variables.ensures.runs outer (s.states ∷ s.transitions ∷ below) (omega arith)
      ∙ c.in_ok-states.ensures.runs outer (s.transitions ∷ below) (omega arith))
      (c.in_err-transitions.ensures.runs outer (below) (omega arith)));
  reads = no_reads _ _ _ c.from_residual-in_err-transitions.ensures.1;
}

pub returns : goal.returns
unfolding move depth
returns c = record {
  runs = λ outer below h. c.in_ok-variables.ensures.runs outer (s.states ∷ s.transitions ∷ below) (omega arith)
      ∙ c.in_ok-states.ensures.runs outer (s.transitions ∷ below) (omega arith)
      ∙ c.in_ok-transitions.ensures.runs outer (below) (omega arith);
  reads = then c.in_ok-variables.ensures.reads (then c.in_ok-states.ensures.reads c.in_ok-transitions.ensures.reads);
}
