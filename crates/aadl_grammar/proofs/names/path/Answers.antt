use Rattle.std.proofs.Common.{◌∙◌, ◌∷◌, [], refl, arith}
use Rattle.aadl_grammar.specs.proof.ParserAnswers.{here}
use Rattle.aadl_grammar.proofs.TopSymbolMoves.{begins_as}
use Rattle.aadl_grammar.proofs.ParserFaults.{along, exits, no_reads}
use Rattle.aadl_grammar.proofs.PartSequences.{then}
use Rattle.aadl_grammar.proofs.ListSymbols.{paths_list}
use Rattle.aadl_grammar.specs.proof.GrammarSymbols as s
use Rattle.aadl_grammar.specs.proof.StackMachine.{move, depth}
use Rattle.aadl_grammar.proofs.names.path.Goals as goal

pub returns-in_err-first : goal.returns-in_err-first
unfolding move depth
returns-in_err-first c = record {
  runs =
      λ outer below h. exits _ _ _ _ _ _ _ c.from_residual.ensures.1
      (along _ _ _ (begins_as outer c.args.reader.now.end s.path s.identifier (s.paths ∷ []) (below)
      (here c.args.reader.now c.args.at) refl refl refl)
      (c.in_err-first.ensures.runs outer (s.paths ∷ below) (omega arith)));
  reads = no_reads _ _ _ c.from_residual.ensures.1;
}

pub returns-in_err-others : goal.returns-in_err-others
unfolding move depth
returns-in_err-others c = record {
  runs =
      λ outer below h. exits _ _ _ _ _ _ _ c.from_residual-in_err-others.ensures.1
      (along _ _ _ (begins_as outer c.args.reader.now.end s.path s.identifier (s.paths ∷ []) (below)
      (here c.args.reader.now c.args.at) refl refl refl
      ∙ c.in_ok-first.ensures.runs outer (s.paths ∷ below) (omega arith))
      ((c.in_err-others.ensures s.paths paths_list).runs outer (below) (omega arith)));
  reads = no_reads _ _ _ c.from_residual-in_err-others.ensures.1;
}

pub returns : goal.returns
unfolding move depth
returns c = record {
  runs =
      λ outer below h. begins_as outer c.args.reader.now.end s.path s.identifier (s.paths ∷ []) (below)
      (here c.args.reader.now c.args.at) refl refl refl
      ∙ c.in_ok-first.ensures.runs outer (s.paths ∷ below) (omega arith)
      ∙ (c.in_ok-others.ensures s.paths paths_list).runs outer (below) (omega arith);
  reads = then c.in_ok-first.ensures.reads (c.in_ok-others.ensures s.paths paths_list).reads;
}
