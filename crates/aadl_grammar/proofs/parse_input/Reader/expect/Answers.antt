use Rattle.std.proofs.Common.{◌∙◌, ap, sym, refl, arith}
use Rattle.aadl_grammar.specs.proof.GrammarSymbols as s
use Rattle.aadl_grammar.specs.proof.StackMachine.{depth, syntax_at}
use Rattle.aadl_grammar.specs.proof.ParserAnswers.{here}
use Rattle.aadl_grammar.proofs.TopSymbolMoves.{takes_row, refuses_unless, only_takes}
use Rattle.aadl_grammar.proofs.parse_input.Reader.expect.Goals as goal

pub returns-in-Some : goal.returns-in-Some
unfolding depth
returns-in-Some c = record {
  runs =
      λ outer below h. takes_row outer c.args.self.now.end (s.only c.args.mark) below c.in-Some.ensures
      (only_takes c.args.mark) (omega arith);
  reads = c.in-Some.ensures;
}

pub returns-in-None : goal.returns-in-None
returns-in-None c = record {
  runs =
      λ outer below h. refuses_unless outer c.args.self.now.end (s.only c.args.mark) below
      (here c.args.self.now c.args.at) refl (c.in-None.ensures, tt) ∙ ap syntax_at (sym c.place.ensures);
  reads = tt;
}
