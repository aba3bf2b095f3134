use Rattle.std.proofs.Common.{◌∙◌, ap, sym, refl, arith}
use Rattle.aadl_grammar.specs.proof.ParserAnswers.{here}
use Rattle.aadl_grammar.proofs.TopSymbolMoves.{takes_row, refuses_unless}
use Rattle.aadl_grammar.proofs.PartSequences.{nothing, marked}
use Rattle.aadl_parse.proofs.CategoryMoves.{category_moves}
use Rattle.aadl_grammar.specs.proof.GrammarSymbols as s
use Rattle.aadl_grammar.specs.proof.StackMachine.{move, depth, syntax_at}
use Rattle.aadl_parse.proofs.declaration_members.expect_category.Goals as goal

pub returns-in-Some : goal.returns-in-Some
unfolding move depth
returns-in-Some c = record {
  runs =
      λ outer below h. takes_row outer c.args.reader.now.end s.category below (c.in-Some.ensures)
      (category_moves c.in-Some.found.0) (omega arith);
  reads = marked c.in-Some.ensures nothing;
}

pub returns-in-None : goal.returns-in-None
unfolding move depth
returns-in-None c = record {
  runs =
      λ outer below h. refuses_unless outer c.args.reader.now.end s.category below (here c.args.reader.now c.args.at)
      refl c.in-None.ensures
      ∙ ap syntax_at (sym c.place.ensures);
  reads = tt;
}
