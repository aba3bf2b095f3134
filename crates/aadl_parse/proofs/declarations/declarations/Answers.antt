use Rattle.std.proofs.Common.{◌∙◌, ◌∷◌, sym, refl, arith}
use Rattle.aadl_grammar.specs.proof.ParserAnswers.{here}
use Rattle.aadl_grammar.proofs.TopSymbolMoves.{takes_row, omits_unless}
use Rattle.aadl_grammar.proofs.ParserFaults.{along, exits, no_reads}
use Rattle.aadl_grammar.proofs.PartSequences.{respelled, pushed, shorter, placed_at}
use Rattle.aadl_tree.specs.Declarations.{declaration_parts}
use Rattle.aadl_tree.specs.proof.DeclarationViews.{declaration_view}
use Rattle.aadl_tree.specs.proof.PlaceMaps.{kept_place}
use Rattle.aadl_parse.proofs.CategoryMoves.{declaration_moves}
use Rattle.aadl_grammar.specs.proof.GrammarSymbols as s
use Rattle.aadl_grammar.specs.proof.StackMachine.{move, depth}
use Rattle.aadl_parse.proofs.declarations.declarations.Goals as goal

pub returns-in_err-rest : goal.returns-in_err-rest
unfolding move depth
returns-in_err-rest c = record {
  runs =
      λ outer below h. exits _ _ _ _ _ _ _ c.from_residual.ensures.1
      (along _ _ _ (c.loop-category.invariant.runs outer below (omega arith)
      ∙ takes_row outer c.args.reader.now.end s.declarations below c.in-Some.ensures
      (declaration_moves c.in-Some.category) (omega arith))
      (c.in_err-rest.ensures.runs outer (s.declarations ∷ below) (omega arith)));
  reads = no_reads _ _ _ c.from_residual.ensures.1;
}

pub loop-category-preserved : goal.loop-category-preserved
unfolding move depth
loop-category-preserved c = record {
  runs = λ outer below h. c.loop-category.invariant.runs outer below (omega arith)
      ∙ takes_row outer c.args.reader.now.end s.declarations below c.in-Some.ensures
      (declaration_moves c.in-Some.category) (omega arith)
      ∙ c.in_ok-rest.ensures.runs outer (s.declarations ∷ below) (omega arith);
  reads =
      pushed declaration_parts (declaration_view kept_place) c.loop-category.found.items c.push.new.self.items
      c.declared.result c.in_ok-push.ensures.items c.loop-category.invariant.reads
      (respelled (sym c.declared.ensures)
      (placed_at c.place-place.result c.args.reader.now.end c.in-Some.ensures c.place-place.ensures
      c.in_ok-rest.ensures.reads));
}

pub loop-category-smaller : goal.loop-category-smaller
unfolding move depth
loop-category-smaller c = shorter c.in-Some.ensures c.in_ok-rest.ensures.reads

pub returns : goal.returns
unfolding move depth
returns c = record {
  runs = λ outer below h. c.loop-category.invariant.runs outer below (omega arith)
      ∙ omits_unless outer c.args.reader.now.end s.declarations (below) (here c.args.reader.now c.loop-category.next)
      refl (c.in_default.ensures);
  reads = c.loop-category.invariant.reads;
}
