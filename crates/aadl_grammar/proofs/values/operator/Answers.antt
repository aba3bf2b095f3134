use Rattle.std.proofs.Common.{◌∙◌, ap, sym, refl, arith}
use Rattle.aadl_grammar.specs.proof.ParserAnswers.{here}
use Rattle.aadl_grammar.proofs.TopSymbolMoves.{takes_row, refuses_unless}
use Rattle.aadl_grammar.proofs.PartSequences.{nothing, marked}
use Rattle.aadl_grammar.specs.proof.GrammarSymbols as s
use Rattle.aadl_grammar.specs.proof.StackMachine.{move, depth, syntax_at}
use Rattle.aadl_grammar.proofs.values.operator.Goals as goal

pub returns-in-Some : goal.returns-in-Some
unfolding move depth
returns-in-Some c = record {
  runs = λ outer below h. takes_row outer c.args.reader.now.end s.operator (below) c.in-Some.ensures refl (omega arith);
  reads = marked c.in-Some.ensures nothing;
}

pub returns-in-Some-take : goal.returns-in-Some-take
unfolding move depth
returns-in-Some-take c = record {
  runs =
      λ outer below h. takes_row outer c.args.reader.now.end s.operator (below) c.in-Some-take.ensures refl
      (omega arith);
  reads = marked c.in-Some-take.ensures nothing;
}

pub returns-in-None : goal.returns-in-None
unfolding move depth
returns-in-None c = record {
  runs =
      λ outer below h. refuses_unless outer c.args.reader.now.end s.operator (below) (here c.args.reader.now c.args.at)
      refl (c.in_default.ensures, (c.in-None.ensures, tt))
      ∙ ap syntax_at (sym c.place.ensures);
  reads = tt;
}
