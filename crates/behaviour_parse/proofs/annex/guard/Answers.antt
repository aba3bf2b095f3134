use Rattle.std.proofs.Common.{◌∙◌, ◌∷◌, [], refl, arith}
use Rattle.aadl_grammar.specs.proof.ParserAnswers.{here}
use Rattle.aadl_grammar.proofs.TopSymbolMoves.{takes_row, omits_unless, before_closer, misses_at, only_takes}
use Rattle.aadl_grammar.proofs.ParserFaults.{along, exits, no_reads}
use Rattle.aadl_grammar.proofs.PartSequences.{nothing, then, marked}
use Rattle.aadl_grammar.specs.proof.ParseTable.{on, rows}
use Rattle.aadl_tree.specs.declared.mark.Mark.TheVariants as k
use Rattle.aadl_grammar.specs.proof.GrammarSymbols as s
use Rattle.aadl_grammar.specs.proof.StackMachine.{move, depth}
use Rattle.behaviour_parse.proofs.annex.guard.Goals as goal

pub returns-in-Some : goal.returns-in-Some
unfolding move depth
returns-in-Some c = record {
  runs =
      λ outer below h. omits_unless outer c.args.reader.now.end s.guard (s.only k.GuardClose ∷ below)
      (here c.args.reader.now c.args.at) refl (misses_at (rows s.guard) c.in-Some.ensures refl)
      ∙ takes_row outer c.args.reader.now.end (s.only k.GuardClose) (below) c.in-Some.ensures (only_takes k.GuardClose)
      (omega arith);
  reads = marked c.in-Some.ensures nothing;
}

pub returns-in_err-dispatch : goal.returns-in_err-dispatch
unfolding move depth
returns-in_err-dispatch c = record {
  runs =
      λ outer below h. exits _ _ _ _ _ _ _ c.from_residual.ensures.1
      (along _ _ _ (takes_row outer c.args.reader.now.end s.guard (s.only k.GuardClose ∷ below) c.in-Some-take.ensures
      refl (omega arith)) (c.in_err-dispatch.ensures.runs outer (s.only k.GuardClose ∷ below) (omega arith)));
  reads = no_reads _ _ _ c.from_residual.ensures.1;
}

pub returns-in_err-end : goal.returns-in_err-end
unfolding move depth
returns-in_err-end c = record {
  runs =
      λ outer below h. exits _ _ _ _ _ _ _ c.from_residual-in_err-end.ensures.1
      (along _ _ _ (takes_row outer c.args.reader.now.end s.guard (s.only k.GuardClose ∷ below) c.in-Some-take.ensures
      refl (omega arith)
      ∙ c.in_ok-dispatch.ensures.runs outer (s.only k.GuardClose ∷ below) (omega arith))
      (c.in_err-end.ensures.runs outer (below) (omega arith)));
  reads = no_reads _ _ _ c.from_residual-in_err-end.ensures.1;
}

pub returns-in-Some-take : goal.returns-in-Some-take
unfolding move depth
returns-in-Some-take c = record {
  runs =
      λ outer below h. takes_row outer c.args.reader.now.end s.guard (s.only k.GuardClose ∷ below)
      c.in-Some-take.ensures refl (omega arith)
      ∙ c.in_ok-dispatch.ensures.runs outer (s.only k.GuardClose ∷ below) (omega arith)
      ∙ c.in_ok-end.ensures.runs outer (below) (omega arith);
  reads =
      marked c.in-Some-take.ensures (marked c.in_ok-dispatch.ensures.reads (marked c.in_ok-end.ensures.reads nothing));
}

pub returns-in_err-end-2 : goal.returns-in_err-end-2
unfolding move depth
returns-in_err-end-2 c = record {
  runs =
      λ outer below h. exits _ _ _ _ _ _ _ c.from_residual-in_err-end-2.ensures.1
      (along _ _ _ (takes_row outer c.args.reader.now.end s.guard (s.only k.GuardClose ∷ below) c.in-Some-take-2.ensures
      refl (omega arith)) (c.in_err-end-2.ensures.runs outer (below) (omega arith)));
  reads = no_reads _ _ _ c.from_residual-in_err-end-2.ensures.1;
}

pub returns-in-Some-take-2 : goal.returns-in-Some-take-2
unfolding move depth
returns-in-Some-take-2 c = record {
  runs =
      λ outer below h. takes_row outer c.args.reader.now.end s.guard (s.only k.GuardClose ∷ below)
      c.in-Some-take-2.ensures refl (omega arith)
      ∙ c.in_ok-end-2.ensures.runs outer (below) (omega arith);
  reads = marked c.in-Some-take-2.ensures (marked c.in_ok-end-2.ensures.reads nothing);
}

pub returns-in_err-found : goal.returns-in_err-found
unfolding move depth
returns-in_err-found c = record {
  runs =
      λ outer below h. exits _ _ _ _ _ _ _ c.from_residual-in_err-found.ensures.1
      (along _ _ _ (before_closer outer c.args.reader.now.end s.guard s.expression
      (on k.On (s.only k.Dispatch ∷ []) ∷ on k.Otherwise [] ∷ []) [] k.GuardClose below
      (here c.args.reader.now c.args.at) refl refl refl
      (c.in_default-take.ensures, (c.in_default-take-2.ensures, tt)) c.in_default.ensures)
      (c.in_err-found.ensures.runs outer (s.only k.GuardClose ∷ below) (omega arith)));
  reads = no_reads _ _ _ c.from_residual-in_err-found.ensures.1;
}

pub returns-in_err-end-3 : goal.returns-in_err-end-3
unfolding move depth
returns-in_err-end-3 c = record {
  runs =
      λ outer below h. exits _ _ _ _ _ _ _ c.from_residual-in_err-end-3.ensures.1
      (along _ _ _ (before_closer outer c.args.reader.now.end s.guard s.expression
      (on k.On (s.only k.Dispatch ∷ []) ∷ on k.Otherwise [] ∷ []) [] k.GuardClose below
      (here c.args.reader.now c.args.at) refl refl refl
      (c.in_default-take.ensures, (c.in_default-take-2.ensures, tt)) c.in_default.ensures
      ∙ c.in_ok-found.ensures.runs outer (s.only k.GuardClose ∷ below) (omega arith))
      (c.in_err-end-3.ensures.runs outer (below) (omega arith)));
  reads = no_reads _ _ _ c.from_residual-in_err-end-3.ensures.1;
}

pub returns : goal.returns
unfolding move depth
returns c = record {
  runs =
      λ outer below h. before_closer outer c.args.reader.now.end s.guard s.expression
      (on k.On (s.only k.Dispatch ∷ []) ∷ on k.Otherwise [] ∷ []) [] k.GuardClose below
      (here c.args.reader.now c.args.at) refl refl refl (c.in_default-take.ensures, (c.in_default-take-2.ensures, tt))
      c.in_default.ensures
      ∙ c.in_ok-found.ensures.runs outer (s.only k.GuardClose ∷ below) (omega arith)
      ∙ c.in_ok-end-3.ensures.runs outer (below) (omega arith);
  reads = then c.in_ok-found.ensures.reads (marked c.in_ok-end-3.ensures.reads nothing);
}
