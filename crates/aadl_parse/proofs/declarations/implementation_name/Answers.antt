use Rattle.std.proofs.Common.{◌∙◌, ◌∷◌, [], refl, arith}
use Rattle.aadl_grammar.specs.proof.ParserAnswers.{here}
use Rattle.aadl_grammar.proofs.TopSymbolMoves.{begins_as}
use Rattle.aadl_grammar.proofs.ParserFaults.{along, exits, no_reads}
use Rattle.aadl_grammar.proofs.PartSequences.{then, marked}
use Rattle.aadl_tree.specs.declared.mark.Mark.TheVariants as k
use Rattle.aadl_grammar.specs.proof.GrammarSymbols as s
use Rattle.aadl_grammar.specs.proof.StackMachine.{move, depth}
use Rattle.aadl_parse.proofs.declarations.implementation_name.Goals as goal

pub returns-in_err-component_type : goal.returns-in_err-component_type
unfolding move depth
returns-in_err-component_type c = record {
  runs =
      λ outer below h. exits _ _ _ _ _ _ _ c.from_residual.ensures.1
      (along _ _ _ (begins_as outer c.args.reader.now.end s.implementation_name s.identifier
      (s.only k.Dot ∷ s.identifier ∷ []) (below) (here c.args.reader.now c.args.at) refl refl refl)
      (c.in_err-component_type.ensures.runs outer (s.only k.Dot ∷ s.identifier ∷ below) (omega arith)));
  reads = no_reads _ _ _ c.from_residual.ensures.1;
}

pub returns-in_err-dot : goal.returns-in_err-dot
unfolding move depth
returns-in_err-dot c = record {
  runs =
      λ outer below h. exits _ _ _ _ _ _ _ c.from_residual-in_err-dot.ensures.1
      (along _ _ _ (begins_as outer c.args.reader.now.end s.implementation_name s.identifier
      (s.only k.Dot ∷ s.identifier ∷ []) (below) (here c.args.reader.now c.args.at) refl refl refl
      ∙ c.in_ok-component_type.ensures.runs outer (s.only k.Dot ∷ s.identifier ∷ below) (omega arith))
      (c.in_err-dot.ensures.runs outer (s.identifier ∷ below) (omega arith)));
  reads = no_reads _ _ _ c.from_residual-in_err-dot.ensures.1;
}

pub returns-in_err-implementation : goal.returns-in_err-implementation
unfolding move depth
returns-in_err-implementation c = record {
  runs =
      λ outer below h. exits _ _ _ _ _ _ _ c.from_residual-in_err-implementation.ensures.1
      (along _ _ _ (begins_as outer c.args.reader.now.end s.implementation_name s.identifier
      (s.only k.Dot ∷ s.identifier ∷ []) (below) (here c.args.reader.now c.args.at) refl refl refl
      ∙ c.in_ok-component_type.ensures.runs outer (s.only k.Dot ∷ s.identifier ∷ below) (omega arith)
      ∙ c.in_ok-dot.ensures.runs outer (s.identifier ∷ below) (omega arith))
      (c.in_err-implementation.ensures.runs outer (below) (omega arith)));
  reads = no_reads _ _ _ c.from_residual-in_err-implementation.ensures.1;
}

pub returns : goal.returns
unfolding move depth
returns c = record {
  runs =
      λ outer below h. begins_as outer c.args.reader.now.end s.implementation_name s.identifier
      (s.only k.Dot ∷ s.identifier ∷ []) (below) (here c.args.reader.now c.args.at) refl refl refl
      ∙ c.in_ok-component_type.ensures.runs outer (s.only k.Dot ∷ s.identifier ∷ below) (omega arith)
      ∙ c.in_ok-dot.ensures.runs outer (s.identifier ∷ below) (omega arith)
      ∙ c.in_ok-implementation.ensures.runs outer (below) (omega arith);
  reads =
      then c.in_ok-component_type.ensures.reads (marked c.in_ok-dot.ensures.reads c.in_ok-implementation.ensures.reads);
}
