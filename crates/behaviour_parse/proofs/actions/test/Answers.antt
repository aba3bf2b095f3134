use Rattle.std.proofs.Common.{◌∙◌, ◌∷◌, ap, sym, refl, arith}
use Rattle.aadl_grammar.specs.proof.ParserAnswers.{here}
use Rattle.aadl_grammar.proofs.TopSymbolMoves.{takes_row, deep_row, refuses_unless}
use Rattle.aadl_grammar.proofs.ParserFaults.{along, exits, no_reads, too_deep}
use Rattle.aadl_grammar.proofs.PartSequences.{nothing, then, marked}
use Rattle.aadl_tree.specs.declared.mark.Mark.TheVariants as k
use Rattle.aadl_grammar.specs.proof.GrammarSymbols as s
use Rattle.aadl_grammar.specs.proof.StackMachine.{move, depth, syntax_at}
use Rattle.behaviour_parse.proofs.actions.test.Goals as goal

pub returns-in_default : goal.returns-in_default
unfolding move depth
returns-in_default c = record {
  runs =
      λ outer below h. refuses_unless outer c.args.reader.now.end s.test (below) (here c.args.reader.now c.args.at) refl
      (c.in_default.ensures, tt)
      ∙ ap syntax_at (sym c.place.ensures);
  reads = tt;
}

pub returns-in_err-inner : goal.returns-in_err-inner
unfolding move depth
returns-in_err-inner c = record {
  runs =
      λ outer below h. exits _ _ _ _ _ _ _ c.from_residual.ensures.1
      (too_deep _ _ _ c.in_err-inner.ensures.1
      (deep_row outer c.args.reader.now.end s.test (below) c.in-Some.ensures refl
      (omega (arith, c.in_err-inner.ensures.0))));
  reads = no_reads _ _ _ c.from_residual.ensures.1;
}

pub returns-in_err-found : goal.returns-in_err-found
unfolding move depth
returns-in_err-found c = record {
  runs =
      λ outer below h. exits _ _ _ _ _ _ _ c.from_residual-in_err-found.ensures.1
      (along _ _ _ (takes_row outer c.args.reader.now.end s.test (below) c.in-Some.ensures refl
      (omega (arith, c.in_ok-inner.ensures)))
      (c.in_err-found.ensures.runs outer (s.only k.ParenClose ∷ below) (omega (arith, c.in_ok-inner.ensures))));
  reads = no_reads _ _ _ c.from_residual-in_err-found.ensures.1;
}

pub returns-in_err-end : goal.returns-in_err-end
unfolding move depth
returns-in_err-end c = record {
  runs =
      λ outer below h. exits _ _ _ _ _ _ _ c.from_residual-in_err-end.ensures.1
      (along _ _ _ (takes_row outer c.args.reader.now.end s.test (below) c.in-Some.ensures refl
      (omega (arith, c.in_ok-inner.ensures))
      ∙ c.in_ok-found.ensures.runs outer (s.only k.ParenClose ∷ below) (omega (arith, c.in_ok-inner.ensures)))
      (c.in_err-end.ensures.runs outer (below) (omega (arith, c.in_ok-inner.ensures))));
  reads = no_reads _ _ _ c.from_residual-in_err-end.ensures.1;
}

pub returns : goal.returns
unfolding move depth
returns c = record {
  runs =
      λ outer below h. takes_row outer c.args.reader.now.end s.test (below) c.in-Some.ensures refl
      (omega (arith, c.in_ok-inner.ensures))
      ∙ c.in_ok-found.ensures.runs outer (s.only k.ParenClose ∷ below) (omega (arith, c.in_ok-inner.ensures))
      ∙ c.in_ok-end.ensures.runs outer (below) (omega (arith, c.in_ok-inner.ensures));
  reads = marked c.in-Some.ensures (then c.in_ok-found.ensures.reads (marked c.in_ok-end.ensures.reads nothing));
}
