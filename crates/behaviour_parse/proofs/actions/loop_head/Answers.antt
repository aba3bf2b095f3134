use Rattle.std.proofs.Common.{◌∙◌, ◌∷◌, ap, sym, refl, arith}
use Rattle.aadl_grammar.specs.proof.ParserAnswers.{here}
use Rattle.aadl_grammar.proofs.TopSymbolMoves.{takes_row, deep_row, refuses_unless}
use Rattle.aadl_grammar.proofs.ParserFaults.{along, exits, no_reads, too_deep}
use Rattle.aadl_grammar.proofs.PartSequences.{nothing, then, marked}
use Rattle.aadl_tree.specs.declared.mark.Mark.TheVariants as k
use Rattle.aadl_grammar.specs.proof.GrammarSymbols as s
use Rattle.aadl_grammar.specs.proof.StackMachine.{move, depth, syntax_at}
use Rattle.behaviour_parse.proofs.actions.loop_head.Goals as goal

pub returns-in_default : goal.returns-in_default
unfolding move depth
returns-in_default c = record {
  runs =
      λ outer below h. refuses_unless outer c.args.reader.now.end s.loop_head (below) (here c.args.reader.now c.args.at)
      refl (c.in_default.ensures, tt)
      ∙ ap syntax_at (sym c.place.ensures);
  reads = tt;
}

pub returns-in_err-_inner : goal.returns-in_err-_inner
unfolding move depth
returns-in_err-_inner c = record {
  runs =
      λ outer below h. exits _ _ _ _ _ _ _ c.from_residual.ensures.1
      (too_deep _ _ _ c.in_err-_inner.ensures.1
      (deep_row outer c.args.reader.now.end s.loop_head (below) c.in-Some.ensures refl
      (omega (arith, c.in_err-_inner.ensures.0))));
  reads = no_reads _ _ _ c.from_residual.ensures.1;
}

pub returns-in_err-variable : goal.returns-in_err-variable
unfolding move depth
returns-in_err-variable c = record {
  runs =
      λ outer below h. exits _ _ _ _ _ _ _ c.from_residual-in_err-variable.ensures.1
      (along _ _ _ (takes_row outer c.args.reader.now.end s.loop_head (below) c.in-Some.ensures refl
      (omega (arith, c.in_ok-_inner.ensures)))
      (c.in_err-variable.ensures.runs outer
      (s.only k.Colon ∷ s.reference ∷ s.only k.In ∷ s.bound ∷ s.only k.Range ∷ s.bound ∷ s.only k.ParenClose
      ∷ below) (omega (arith, c.in_ok-_inner.ensures))));
  reads = no_reads _ _ _ c.from_residual-in_err-variable.ensures.1;
}

pub returns-in_err-colon : goal.returns-in_err-colon
unfolding move depth
returns-in_err-colon c = record {
  runs =
      λ outer below h. exits _ _ _ _ _ _ _ c.from_residual-in_err-colon.ensures.1
      (along _ _ _ (takes_row outer c.args.reader.now.end s.loop_head (below) c.in-Some.ensures refl
      (omega (arith, c.in_ok-_inner.ensures))
      ∙ c.in_ok-variable.ensures.runs outer
      (s.only k.Colon ∷ s.reference ∷ s.only k.In ∷ s.bound ∷ s.only k.Range ∷ s.bound ∷ s.only k.ParenClose
      ∷ below) (omega (arith, c.in_ok-_inner.ensures)))
      (c.in_err-colon.ensures.runs outer
      (s.reference ∷ s.only k.In ∷ s.bound ∷ s.only k.Range ∷ s.bound ∷ s.only k.ParenClose ∷ below)
      (omega (arith, c.in_ok-_inner.ensures))));
  reads = no_reads _ _ _ c.from_residual-in_err-colon.ensures.1;
}

pub returns-in_err-data_type : goal.returns-in_err-data_type
unfolding move depth
returns-in_err-data_type c = record {
  runs =
      λ outer below h. exits _ _ _ _ _ _ _ c.from_residual-in_err-data_type.ensures.1
      (along _ _ _ (takes_row outer c.args.reader.now.end s.loop_head (below) c.in-Some.ensures refl
      (omega (arith, c.in_ok-_inner.ensures))
      ∙ c.in_ok-variable.ensures.runs outer
      (s.only k.Colon ∷ s.reference ∷ s.only k.In ∷ s.bound ∷ s.only k.Range ∷ s.bound ∷ s.only k.ParenClose
      ∷ below) (omega (arith, c.in_ok-_inner.ensures))
      ∙ c.in_ok-colon.ensures.runs outer
      (s.reference ∷ s.only k.In ∷ s.bound ∷ s.only k.Range ∷ s.bound ∷ s.only k.ParenClose ∷ below)
      (omega (arith, c.in_ok-_inner.ensures)))
      (c.in_err-data_type.ensures.runs outer
      (s.only k.In ∷ s.bound ∷ s.only k.Range ∷ s.bound ∷ s.only k.ParenClose ∷ below)
      (omega (arith, c.in_ok-_inner.ensures))));
  reads = no_reads _ _ _ c.from_residual-in_err-data_type.ensures.1;
}

pub returns-in_err-range : goal.returns-in_err-range
unfolding move depth
returns-in_err-range c = record {
  runs =
      λ outer below h. exits _ _ _ _ _ _ _ c.from_residual-in_err-range.ensures.1
      (along _ _ _ (takes_row outer c.args.reader.now.end s.loop_head (below) c.in-Some.ensures refl
      (omega (arith, c.in_ok-_inner.ensures))
      ∙ c.in_ok-variable.ensures.runs outer
      (s.only k.Colon ∷ s.reference ∷ s.only k.In ∷ s.bound ∷ s.only k.Range ∷ s.bound ∷ s.only k.ParenClose
      ∷ below) (omega (arith, c.in_ok-_inner.ensures))
      ∙ c.in_ok-colon.ensures.runs outer
      (s.reference ∷ s.only k.In ∷ s.bound ∷ s.only k.Range ∷ s.bound ∷ s.only k.ParenClose ∷ below)
      (omega (arith, c.in_ok-_inner.ensures))
      ∙ c.in_ok-data_type.ensures.runs outer
      (s.only k.In ∷ s.bound ∷ s.only k.Range ∷ s.bound ∷ s.only k.ParenClose ∷ below)
      (omega (arith, c.in_ok-_inner.ensures)))
      (c.in_err-range.ensures.runs outer (s.bound ∷ s.only k.Range ∷ s.bound ∷ s.only k.ParenClose ∷ below)
      (omega (arith, c.in_ok-_inner.ensures))));
  reads = no_reads _ _ _ c.from_residual-in_err-range.ensures.1;
}

pub returns-in_err-low : goal.returns-in_err-low
unfolding move depth
returns-in_err-low c = record {
  runs =
      λ outer below h. exits _ _ _ _ _ _ _ c.from_residual-in_err-low.ensures.1
      (along _ _ _ (takes_row outer c.args.reader.now.end s.loop_head (below) c.in-Some.ensures refl
      (omega (arith, c.in_ok-_inner.ensures))
      ∙ c.in_ok-variable.ensures.runs outer
      (s.only k.Colon ∷ s.reference ∷ s.only k.In ∷ s.bound ∷ s.only k.Range ∷ s.bound ∷ s.only k.ParenClose
      ∷ below) (omega (arith, c.in_ok-_inner.ensures))
      ∙ c.in_ok-colon.ensures.runs outer
      (s.reference ∷ s.only k.In ∷ s.bound ∷ s.only k.Range ∷ s.bound ∷ s.only k.ParenClose ∷ below)
      (omega (arith, c.in_ok-_inner.ensures))
      ∙ c.in_ok-data_type.ensures.runs outer
      (s.only k.In ∷ s.bound ∷ s.only k.Range ∷ s.bound ∷ s.only k.ParenClose ∷ below)
      (omega (arith, c.in_ok-_inner.ensures))
      ∙ c.in_ok-range.ensures.runs outer (s.bound ∷ s.only k.Range ∷ s.bound ∷ s.only k.ParenClose ∷ below)
      (omega (arith, c.in_ok-_inner.ensures)))
      (c.in_err-low.ensures.runs outer (s.only k.Range ∷ s.bound ∷ s.only k.ParenClose ∷ below)
      (omega (arith, c.in_ok-_inner.ensures))));
  reads = no_reads _ _ _ c.from_residual-in_err-low.ensures.1;
}

pub returns-in_err-dots : goal.returns-in_err-dots
unfolding move depth
returns-in_err-dots c = record {
  runs =
      λ outer below h. exits _ _ _ _ _ _ _ c.from_residual-in_err-dots.ensures.1
      (along _ _ _ (takes_row outer c.args.reader.now.end s.loop_head (below) c.in-Some.ensures refl
      (omega (arith, c.in_ok-_inner.ensures))
      ∙ c.in_ok-variable.ensures.runs outer
      (s.only k.Colon ∷ s.reference ∷ s.only k.In ∷ s.bound ∷ s.only k.Range ∷ s.bound ∷ s.only k.ParenClose
      ∷ below) (omega (arith, c.in_ok-_inner.ensures))
      ∙ c.in_ok-colon.ensures.runs outer
      (s.reference ∷ s.only k.In ∷ s.bound ∷ s.only k.Range ∷ s.bound ∷ s.only k.ParenClose ∷ below)
      (omega (arith, c.in_ok-_inner.ensures))
      ∙ c.in_ok-data_type.ensures.runs outer
      (s.only k.In ∷ s.bound ∷ s.only k.Range ∷ s.bound ∷ s.only k.ParenClose ∷ below)
      (omega (arith, c.in_ok-_inner.ensures))
      ∙ c.in_ok-range.ensures.runs outer (s.bound ∷ s.only k.Range ∷ s.bound ∷ s.only k.ParenClose ∷ below)
      (omega (arith, c.in_ok-_inner.ensures))
      ∙ c.in_ok-low.ensures.runs outer (s.only k.Range ∷ s.bound ∷ s.only k.ParenClose ∷ below)
      (omega (arith, c.in_ok-_inner.ensures)))
      (c.in_err-dots.ensures.runs outer (s.bound ∷ s.only k.ParenClose ∷ below)
      (omega (arith, c.in_ok-_inner.ensures))));
  reads = no_reads _ _ _ c.from_residual-in_err-dots.ensures.1;
}

pub returns-in_err-high : goal.returns-in_err-high
unfolding move depth
returns-in_err-high c = record {
  runs =
      λ outer below h. exits _ _ _ _ _ _ _ c.from_residual-in_err-high.ensures.1
      (along _ _ _ (takes_row outer c.args.reader.now.end s.loop_head (below) c.in-Some.ensures refl
      (omega (arith, c.in_ok-_inner.ensures))
      ∙ c.in_ok-variable.ensures.runs outer
      (s.only k.Colon ∷ s.reference ∷ s.only k.In ∷ s.bound ∷ s.only k.Range ∷ s.bound ∷ s.only k.ParenClose
      ∷ below) (omega (arith, c.in_ok-_inner.ensures))
      ∙ c.in_ok-colon.ensures.runs outer
      (s.reference ∷ s.only k.In ∷ s.bound ∷ s.only k.Range ∷ s.bound ∷ s.only k.ParenClose ∷ below)
      (omega (arith, c.in_ok-_inner.ensures))
      ∙ c.in_ok-data_type.ensures.runs outer
      (s.only k.In ∷ s.bound ∷ s.only k.Range ∷ s.bound ∷ s.only k.ParenClose ∷ below)
      (omega (arith, c.in_ok-_inner.ensures))
      ∙ c.in_ok-range.ensures.runs outer (s.bound ∷ s.only k.Range ∷ s.bound ∷ s.only k.ParenClose ∷ below)
      (omega (arith, c.in_ok-_inner.ensures))
      ∙ c.in_ok-low.ensures.runs outer (s.only k.Range ∷ s.bound ∷ s.only k.ParenClose ∷ below)
      (omega (arith, c.in_ok-_inner.ensures))
      ∙ c.in_ok-dots.ensures.runs outer (s.bound ∷ s.only k.ParenClose ∷ below) (omega (arith, c.in_ok-_inner.ensures)))
      (c.in_err-high.ensures.runs outer (s.only k.ParenClose ∷ below) (omega (arith, c.in_ok-_inner.ensures))));
  reads = no_reads _ _ _ c.from_residual-in_err-high.ensures.1;
}

pub returns-in_err-end : goal.returns-in_err-end
unfolding move depth
returns-in_err-end c = record {
  runs =
      λ outer below h. exits _ _ _ _ _ _ _ c.from_residual-in_err-end.ensures.1
      (along _ _ _ (takes_row outer c.args.reader.now.end s.loop_head (below) c.in-Some.ensures refl
      (omega (arith, c.in_ok-_inner.ensures))
      ∙ c.in_ok-variable.ensures.runs outer
      (s.only k.Colon ∷ s.reference ∷ s.only k.In ∷ s.bound ∷ s.only k.Range ∷ s.bound ∷ s.only k.ParenClose
      ∷ below) (omega (arith, c.in_ok-_inner.ensures))
      ∙ c.in_ok-colon.ensures.runs outer
      (s.reference ∷ s.only k.In ∷ s.bound ∷ s.only k.Range ∷ s.bound ∷ s.only k.ParenClose ∷ below)
      (omega (arith, c.in_ok-_inner.ensures))
      ∙ c.in_ok-data_type.ensures.runs outer
      (s.only k.In ∷ s.bound ∷ s.only k.Range ∷ s.bound ∷ s.only k.ParenClose ∷ below)
      (omega (arith, c.in_ok-_inner.ensures))
      ∙ c.in_ok-range.ensures.runs outer (s.bound ∷ s.only k.Range ∷ s.bound ∷ s.only k.ParenClose ∷ below)
      (omega (arith, c.in_ok-_inner.ensures))
      ∙ c.in_ok-low.ensures.runs outer (s.only k.Range ∷ s.bound ∷ s.only k.ParenClose ∷ below)
      (omega (arith, c.in_ok-_inner.ensures))
      ∙ c.in_ok-dots.ensures.runs outer (s.bound ∷ s.only k.ParenClose ∷ below) (omega (arith, c.in_ok-_inner.ensures))
      ∙ c.in_ok-high.ensures.runs outer (s.only k.ParenClose ∷ below) (omega (arith, c.in_ok-_inner.ensures)))
      (c.in_err-end.ensures.runs outer (below) (omega (arith, c.in_ok-_inner.ensures))));
  reads = no_reads _ _ _ c.from_residual-in_err-end.ensures.1;
}

pub returns : goal.returns
unfolding move depth
returns c = record {
  runs =
      λ outer below h. takes_row outer c.args.reader.now.end s.loop_head (below) c.in-Some.ensures refl
      (omega (arith, c.in_ok-_inner.ensures))
      ∙ c.in_ok-variable.ensures.runs outer
      (s.only k.Colon ∷ s.reference ∷ s.only k.In ∷ s.bound ∷ s.only k.Range ∷ s.bound ∷ s.only k.ParenClose
      ∷ below) (omega (arith, c.in_ok-_inner.ensures))
      ∙ c.in_ok-colon.ensures.runs outer
      (s.reference ∷ s.only k.In ∷ s.bound ∷ s.only k.Range ∷ s.bound ∷ s.only k.ParenClose ∷ below)
      (omega (arith, c.in_ok-_inner.ensures))
      ∙ c.in_ok-data_type.ensures.runs outer
      (s.only k.In ∷ s.bound ∷ s.only k.Range ∷ s.bound ∷ s.only k.ParenClose ∷ below)
      (omega (arith, c.in_ok-_inner.ensures))
      ∙ c.in_ok-range.ensures.runs outer (s.bound ∷ s.only k.Range ∷ s.bound ∷ s.only k.ParenClose ∷ below)
      (omega (arith, c.in_ok-_inner.ensures))
      ∙ c.in_ok-low.ensures.runs outer (s.only k.Range ∷ s.bound ∷ s.only k.ParenClose ∷ below)
      (omega (arith, c.in_ok-_inner.ensures))
      ∙ c.in_ok-dots.ensures.runs outer (s.bound ∷ s.only k.ParenClose ∷ below) (omega (arith, c.in_ok-_inner.ensures))
      ∙ c.in_ok-high.ensures.runs outer (s.only k.ParenClose ∷ below) (omega (arith, c.in_ok-_inner.ensures))
      ∙ c.in_ok-end.ensures.runs outer (below) (omega (arith, c.in_ok-_inner.ensures));
  reads =
      marked c.in-Some.ensures
      (then c.in_ok-variable.ensures.reads
      (marked c.in_ok-colon.ensures.reads
      (then c.in_ok-data_type.ensures.reads
      (marked c.in_ok-range.ensures.reads
      (then c.in_ok-low.ensures.reads
      (marked c.in_ok-dots.ensures.reads
      (then c.in_ok-high.ensures.reads (marked c.in_ok-end.ensures.reads nothing))))))));
}
