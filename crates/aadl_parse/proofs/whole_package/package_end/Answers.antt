use Rattle.std.proofs.Common.{◌∙◌, ◌∷◌, [], refl, arith}
use Rattle.aadl_grammar.specs.proof.ParserAnswers.{here}
use Rattle.aadl_grammar.proofs.TopSymbolMoves.{begins_as}
use Rattle.aadl_grammar.proofs.ParserFaults.{along, exits, no_reads}
use Rattle.aadl_grammar.proofs.PartSequences.{nothing, then, marked}
use Rattle.aadl_tree.specs.declared.mark.Mark.TheVariants as k
use Rattle.aadl_grammar.specs.proof.GrammarSymbols as s
use Rattle.aadl_grammar.specs.proof.StackMachine.{move, depth}
use Rattle.aadl_parse.proofs.whole_package.package_end.Goals as goal

pub returns-in_err-keyword : goal.returns-in_err-keyword
unfolding move depth
returns-in_err-keyword c = record {
  runs =
      λ outer below h. exits _ _ _ _ _ _ _ c.from_residual.ensures.1
      (along _ _ _ (begins_as outer c.args.reader.now.end s.package_end (s.only k.End)
      (s.name ∷ s.only k.Semicolon ∷ []) (below) (here c.args.reader.now c.args.at) refl refl refl)
      (c.in_err-keyword.ensures.runs outer (s.name ∷ s.only k.Semicolon ∷ below) (omega arith)));
  reads = no_reads _ _ _ c.from_residual.ensures.1;
}

pub returns-in_err-found : goal.returns-in_err-found
unfolding move depth
returns-in_err-found c = record {
  runs =
      λ outer below h. exits _ _ _ _ _ _ _ c.from_residual-in_err-found.ensures.1
      (along _ _ _ (begins_as outer c.args.reader.now.end s.package_end (s.only k.End)
      (s.name ∷ s.only k.Semicolon ∷ []) (below) (here c.args.reader.now c.args.at) refl refl refl
      ∙ c.in_ok-keyword.ensures.runs outer (s.name ∷ s.only k.Semicolon ∷ below) (omega arith))
      (c.in_err-found.ensures.runs outer (s.only k.Semicolon ∷ below) (omega arith)));
  reads = no_reads _ _ _ c.from_residual-in_err-found.ensures.1;
}

pub returns-in_err-end : goal.returns-in_err-end
unfolding move depth
returns-in_err-end c = record {
  runs =
      λ outer below h. exits _ _ _ _ _ _ _ c.from_residual-in_err-end.ensures.1
      (along _ _ _ (begins_as outer c.args.reader.now.end s.package_end (s.only k.End)
      (s.name ∷ s.only k.Semicolon ∷ []) (below) (here c.args.reader.now c.args.at) refl refl refl
      ∙ c.in_ok-keyword.ensures.runs outer (s.name ∷ s.only k.Semicolon ∷ below) (omega arith)
      ∙ c.in_ok-found.ensures.runs outer (s.only k.Semicolon ∷ below) (omega arith))
      (c.in_err-end.ensures.runs outer (below) (omega arith)));
  reads = no_reads _ _ _ c.from_residual-in_err-end.ensures.1;
}

pub returns : goal.returns
unfolding move depth
returns c = record {
  runs =
      λ outer below h. begins_as outer c.args.reader.now.end s.package_end (s.only k.End)
      (s.name ∷ s.only k.Semicolon ∷ []) (below) (here c.args.reader.now c.args.at) refl refl refl
      ∙ c.in_ok-keyword.ensures.runs outer (s.name ∷ s.only k.Semicolon ∷ below) (omega arith)
      ∙ c.in_ok-found.ensures.runs outer (s.only k.Semicolon ∷ below) (omega arith)
      ∙ c.in_ok-end.ensures.runs outer (below) (omega arith);
  reads =
      marked c.in_ok-keyword.ensures.reads
      (then c.in_ok-found.ensures.reads (marked c.in_ok-end.ensures.reads nothing));
}
