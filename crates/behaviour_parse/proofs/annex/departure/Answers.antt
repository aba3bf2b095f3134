use Rattle.std.proofs.Common.{◌∙◌, ◌∷◌, [], refl, arith}
use Rattle.aadl_grammar.specs.proof.ParserAnswers.{here}
use Rattle.aadl_grammar.proofs.TopSymbolMoves.{takes_row, begins_past}
use Rattle.aadl_grammar.proofs.ParserFaults.{along, exits, no_reads}
use Rattle.aadl_grammar.proofs.PartSequences.{then, marked}
use Rattle.aadl_grammar.specs.proof.ParseTable.{on}
use Rattle.aadl_tree.specs.declared.mark.Mark.TheVariants as k
use Rattle.aadl_grammar.specs.proof.GrammarSymbols as s
use Rattle.aadl_grammar.specs.proof.StackMachine.{move, depth}
use Rattle.behaviour_parse.proofs.annex.departure.Goals as goal

pub returns-in_err-guard : goal.returns-in_err-guard
unfolding move depth
returns-in_err-guard c = record {
  runs =
      λ outer below h. exits _ _ _ _ _ _ _ c.from_residual.ensures.1
      (along _ _ _ (begins_past outer c.args.reader.now.end s.after_word s.guarded
      (on k.Colon (s.identifier ∷ s.guarded ∷ []) ∷ []) ([]) below (here c.args.reader.now c.args.at) refl refl refl
      (c.in_default.ensures, tt)) (c.in_err-guard.ensures.runs outer below (omega arith)));
  reads = no_reads _ _ _ c.from_residual.ensures.1;
}

pub returns-in_default : goal.returns-in_default
unfolding move depth
returns-in_default c = record {
  runs =
      λ outer below h. begins_past outer c.args.reader.now.end s.after_word s.guarded
      (on k.Colon (s.identifier ∷ s.guarded ∷ []) ∷ []) ([]) below (here c.args.reader.now c.args.at) refl refl refl
      (c.in_default.ensures, tt)
      ∙ c.in_ok-guard.ensures.runs outer below (omega arith);
  reads = c.in_ok-guard.ensures.reads;
}

pub returns-in_err-source : goal.returns-in_err-source
unfolding move depth
returns-in_err-source c = record {
  runs =
      λ outer below h. exits _ _ _ _ _ _ _ c.from_residual-in_err-source.ensures.1
      (along _ _ _ (takes_row outer c.args.reader.now.end s.after_word below c.in-Some.ensures refl (omega arith))
      (c.in_err-source.ensures.runs outer (s.guarded ∷ below) (omega arith)));
  reads = no_reads _ _ _ c.from_residual-in_err-source.ensures.1;
}

pub returns-in_err-guard-2 : goal.returns-in_err-guard-2
unfolding move depth
returns-in_err-guard-2 c = record {
  runs =
      λ outer below h. exits _ _ _ _ _ _ _ c.from_residual-in_err-guard-2.ensures.1
      (along _ _ _ (takes_row outer c.args.reader.now.end s.after_word below c.in-Some.ensures refl (omega arith)
      ∙ c.in_ok-source.ensures.runs outer (s.guarded ∷ below) (omega arith))
      (c.in_err-guard-2.ensures.runs outer below (omega arith)));
  reads = no_reads _ _ _ c.from_residual-in_err-guard-2.ensures.1;
}

pub returns : goal.returns
unfolding move depth
returns c = record {
  runs = λ outer below h. takes_row outer c.args.reader.now.end s.after_word below c.in-Some.ensures refl (omega arith)
      ∙ c.in_ok-source.ensures.runs outer (s.guarded ∷ below) (omega arith)
      ∙ c.in_ok-guard-2.ensures.runs outer below (omega arith);
  reads = then (marked c.in-Some.ensures c.in_ok-source.ensures.reads) c.in_ok-guard-2.ensures.reads;
}
