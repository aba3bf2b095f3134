use Rattle.std.proofs.Common.{◌∙◌, ◌∷◌, refl, arith}
use Rattle.aadl_grammar.specs.proof.ParserAnswers.{here}
use Rattle.aadl_grammar.proofs.TopSymbolMoves.{takes_row, omits_unless}
use Rattle.aadl_grammar.proofs.ParserFaults.{along, exits, no_reads}
use Rattle.aadl_grammar.proofs.PartSequences.{nothing, then, marked, pushed, shorter}
use Rattle.aadl_tree.specs.Declarations.{with_parts}
use Rattle.aadl_tree.specs.proof.DeclarationViews.{with_view}
use Rattle.aadl_tree.specs.proof.PlaceMaps.{kept_place}
use Rattle.aadl_tree.specs.declared.mark.Mark.TheVariants as k
use Rattle.aadl_grammar.specs.proof.GrammarSymbols as s
use Rattle.aadl_grammar.specs.proof.StackMachine.{move, depth}
use Rattle.aadl_parse.proofs.whole_package.withs.Goals as goal

pub returns-in_err-first : goal.returns-in_err-first
unfolding move depth
returns-in_err-first c = record {
  runs =
      λ outer below h. exits _ _ _ _ _ _ _ c.from_residual.ensures.1
      (along _ _ _ (c.loop-keyword.invariant.runs outer below (omega arith)
      ∙ takes_row outer c.args.reader.now.end s.withs (below) c.in-Some.ensures refl (omega arith))
      (c.in_err-first.ensures.runs outer (s.more_names ∷ s.only k.Semicolon ∷ s.withs ∷ below) (omega arith)));
  reads = no_reads _ _ _ c.from_residual.ensures.1;
}

pub returns-in_err-others : goal.returns-in_err-others
unfolding move depth
returns-in_err-others c = record {
  runs =
      λ outer below h. exits _ _ _ _ _ _ _ c.from_residual-in_err-others.ensures.1
      (along _ _ _ (c.loop-keyword.invariant.runs outer below (omega arith)
      ∙ takes_row outer c.args.reader.now.end s.withs (below) c.in-Some.ensures refl (omega arith)
      ∙ c.in_ok-first.ensures.runs outer (s.more_names ∷ s.only k.Semicolon ∷ s.withs ∷ below) (omega arith))
      (c.in_err-others.ensures.runs outer (s.only k.Semicolon ∷ s.withs ∷ below) (omega arith)));
  reads = no_reads _ _ _ c.from_residual-in_err-others.ensures.1;
}

pub returns-in_err-end : goal.returns-in_err-end
unfolding move depth
returns-in_err-end c = record {
  runs =
      λ outer below h. exits _ _ _ _ _ _ _ c.from_residual-in_err-end.ensures.1
      (along _ _ _ (c.loop-keyword.invariant.runs outer below (omega arith)
      ∙ takes_row outer c.args.reader.now.end s.withs (below) c.in-Some.ensures refl (omega arith)
      ∙ c.in_ok-first.ensures.runs outer (s.more_names ∷ s.only k.Semicolon ∷ s.withs ∷ below) (omega arith)
      ∙ c.in_ok-others.ensures.runs outer (s.only k.Semicolon ∷ s.withs ∷ below) (omega arith))
      (c.in_err-end.ensures.runs outer (s.withs ∷ below) (omega arith)));
  reads = no_reads _ _ _ c.from_residual-in_err-end.ensures.1;
}

pub loop-keyword-preserved : goal.loop-keyword-preserved
unfolding move depth
loop-keyword-preserved c = record {
  runs = λ outer below h. c.loop-keyword.invariant.runs outer below (omega arith)
      ∙ takes_row outer c.args.reader.now.end s.withs (below) c.in-Some.ensures refl (omega arith)
      ∙ c.in_ok-first.ensures.runs outer (s.more_names ∷ s.only k.Semicolon ∷ s.withs ∷ below) (omega arith)
      ∙ c.in_ok-others.ensures.runs outer (s.only k.Semicolon ∷ s.withs ∷ below) (omega arith)
      ∙ c.in_ok-end.ensures.runs outer (s.withs ∷ below) (omega arith);
  reads =
      pushed with_parts (with_view kept_place) c.loop-keyword.found.items c.push.new.self.items
      (record { first = c.in_ok-first.first; rest = c.in_ok-others.others }) c.in_ok-push.ensures.items
      c.loop-keyword.invariant.reads
      (marked c.in-Some.ensures
      (then (then c.in_ok-first.ensures.reads c.in_ok-others.ensures.reads)
      (marked c.in_ok-end.ensures.reads nothing)));
}

pub loop-keyword-smaller : goal.loop-keyword-smaller
unfolding move depth
loop-keyword-smaller c =
    shorter c.in-Some.ensures
    (then (then c.in_ok-first.ensures.reads c.in_ok-others.ensures.reads) (marked c.in_ok-end.ensures.reads nothing))

pub returns : goal.returns
unfolding move depth
returns c = record {
  runs = λ outer below h. c.loop-keyword.invariant.runs outer below (omega arith)
      ∙ omits_unless outer c.args.reader.now.end s.withs (below) (here c.args.reader.now c.loop-keyword.rest) refl
      (c.in_default.ensures, tt);
  reads = c.loop-keyword.invariant.reads;
}
