use Rattle.std.proofs.Common.{◌∙◌, [], refl, arith}
use Rattle.aadl_grammar.specs.proof.ParserAnswers.{here}
use Rattle.aadl_grammar.proofs.TopSymbolMoves.{omits_unless, enters_as}
use Rattle.aadl_grammar.proofs.ParserFaults.{along, exits, no_reads}
use Rattle.aadl_grammar.proofs.PartSequences.{nothing}
use Rattle.aadl_grammar.specs.proof.GrammarSymbols as s
use Rattle.aadl_grammar.specs.proof.StackMachine.{move, depth}
use Rattle.behaviour_parse.proofs.annex.effect.Goals as goal

pub returns-in_default : goal.returns-in_default
unfolding move depth
returns-in_default c = record {
  runs =
      λ outer below h. omits_unless outer c.args.reader.now.end s.effect (below) (here c.args.reader.now c.args.at) refl
      (c.in_default.ensures, tt);
  reads = nothing;
}

pub returns-in_err-found : goal.returns-in_err-found
unfolding move depth
returns-in_err-found c = record {
  runs =
      λ outer below h. exits _ _ _ _ _ _ _ c.from_residual.ensures.1
      (along _ _ _ (enters_as outer c.args.reader.now.end s.effect s.block ([]) (below) refl refl c.in-Some.ensures
      refl) (c.in_err-found.ensures.runs outer (below) (omega arith)));
  reads = no_reads _ _ _ c.from_residual.ensures.1;
}

pub returns : goal.returns
unfolding move depth
returns c = record {
  runs =
      λ outer below h. enters_as outer c.args.reader.now.end s.effect s.block ([]) (below) refl refl
      c.in-Some.ensures refl
      ∙ c.in_ok-found.ensures.runs outer (below) (omega arith);
  reads = c.in_ok-found.ensures.reads;
}
