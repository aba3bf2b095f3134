use Rattle.std.proofs.Common.{◌∙◌, arith, refl}
use Rattle.aadl_grammar.specs.proof.GrammarSymbols as s
use Rattle.aadl_grammar.specs.proof.StackMachine.{move, depth}
use Rattle.aadl_grammar.specs.proof.ParserAnswers.{here}
use Rattle.aadl_grammar.proofs.TopSymbolMoves.{takes_row, omits_unless}
use Rattle.aadl_grammar.proofs.ParserFaults.{exits, no_reads, along}
use Rattle.aadl_grammar.proofs.PartSequences.{nothing, marked}
use Rattle.aadl_grammar.proofs.names.dot_identifier.Goals as goal

pub returns-in_default : goal.returns-in_default
returns-in_default c =
    record {
      runs = λ outer below h.
          omits_unless outer c.args.reader.now.end s.dot_identifier below (here c.args.reader.now c.args.at) refl
          (c.in_default.ensures, tt);
      reads = nothing;
    }

pub returns-in_err-found : goal.returns-in_err-found
unfolding move depth
returns-in_err-found c = record {
  runs =
      λ outer below h. exits _ _ _ _ _ _ _ c.from_residual.ensures.1
      (along _ _ _ (takes_row outer c.args.reader.now.end s.dot_identifier below c.in-Some.ensures refl (omega arith))
      (c.in_err-found.ensures.runs outer below (omega arith)));
  reads = no_reads _ _ _ c.from_residual.ensures.1;
}

pub returns : goal.returns
unfolding move depth
returns c = record {
  runs =
      λ outer below h. takes_row outer c.args.reader.now.end s.dot_identifier below c.in-Some.ensures refl (omega arith)
      ∙ c.in_ok-found.ensures.runs outer below (omega arith);
  reads = marked c.in-Some.ensures c.in_ok-found.ensures.reads;
}
