use Rattle.std.proofs.Common.{◌∙◌, ◌∷◌, [], refl, arith}
use Rattle.aadl_grammar.specs.proof.ParserAnswers.{here}
use Rattle.aadl_grammar.proofs.TopSymbolMoves.{takes_row, begins_past}
use Rattle.aadl_grammar.proofs.ParserFaults.{along, exits, no_reads}
use Rattle.aadl_grammar.proofs.PartSequences.{then, marked}
use Rattle.aadl_grammar.specs.proof.ParseTable.{on}
use Rattle.aadl_grammar.proofs.SignedQuantities.{sign_quantity}
use Rattle.aadl_tree.specs.declared.mark.Mark.TheVariants as k
use Rattle.aadl_grammar.specs.proof.GrammarSymbols as s
use Rattle.aadl_grammar.specs.proof.StackMachine.{move, depth}
use Rattle.aadl_grammar.proofs.values.quantity.Goals as goal

pub returns-in_err-figure : goal.returns-in_err-figure
unfolding move depth
returns-in_err-figure c = record {
  runs =
      λ outer below h. exits _ _ _ _ _ _ _ c.from_residual.ensures.1
      (along _ _ _ (begins_past outer c.args.reader.now.end s.quantity s.figure
      (on k.Plus (s.figure ∷ s.unit ∷ []) ∷ on k.Minus (s.figure ∷ s.unit ∷ []) ∷ []) (s.unit ∷ []) (below)
      (here c.args.reader.now c.args.at) refl refl refl (c.in_default.ensures))
      (c.in_err-figure.ensures.runs outer (s.unit ∷ below) (omega arith)));
  reads = no_reads _ _ _ c.from_residual.ensures.1;
}

pub returns-in_err-unit : goal.returns-in_err-unit
unfolding move depth
returns-in_err-unit c = record {
  runs =
      λ outer below h. exits _ _ _ _ _ _ _ c.from_residual-in_err-unit.ensures.1
      (along _ _ _ (begins_past outer c.args.reader.now.end s.quantity s.figure
      (on k.Plus (s.figure ∷ s.unit ∷ []) ∷ on k.Minus (s.figure ∷ s.unit ∷ []) ∷ []) (s.unit ∷ []) (below)
      (here c.args.reader.now c.args.at) refl refl refl (c.in_default.ensures)
      ∙ c.in_ok-figure.ensures.runs outer (s.unit ∷ below) (omega arith))
      (c.in_err-unit.ensures.runs outer (below) (omega arith)));
  reads = no_reads _ _ _ c.from_residual-in_err-unit.ensures.1;
}

pub returns-in_default : goal.returns-in_default
unfolding move depth
returns-in_default c = record {
  runs =
      λ outer below h. begins_past outer c.args.reader.now.end s.quantity s.figure
      (on k.Plus (s.figure ∷ s.unit ∷ []) ∷ on k.Minus (s.figure ∷ s.unit ∷ []) ∷ []) (s.unit ∷ []) (below)
      (here c.args.reader.now c.args.at) refl refl refl (c.in_default.ensures)
      ∙ c.in_ok-figure.ensures.runs outer (s.unit ∷ below) (omega arith)
      ∙ c.in_ok-unit.ensures.runs outer (below) (omega arith);
  reads = then c.in_ok-figure.ensures.reads c.in_ok-unit.ensures.reads;
}

pub returns-in_err-figure-2 : goal.returns-in_err-figure-2
unfolding move depth
returns-in_err-figure-2 c = record {
  runs =
      λ outer below h. exits _ _ _ _ _ _ _ c.from_residual-in_err-figure-2.ensures.1
      (along _ _ _ (takes_row outer c.args.reader.now.end s.quantity (below) c.in-Some.ensures
      (sign_quantity c.in-Some.sign) (omega arith))
      (c.in_err-figure-2.ensures.runs outer (s.unit ∷ below) (omega arith)));
  reads = no_reads _ _ _ c.from_residual-in_err-figure-2.ensures.1;
}

pub returns-in_err-unit-2 : goal.returns-in_err-unit-2
unfolding move depth
returns-in_err-unit-2 c = record {
  runs =
      λ outer below h. exits _ _ _ _ _ _ _ c.from_residual-in_err-unit-2.ensures.1
      (along _ _ _ (takes_row outer c.args.reader.now.end s.quantity (below) c.in-Some.ensures
      (sign_quantity c.in-Some.sign) (omega arith)
      ∙ c.in_ok-figure-2.ensures.runs outer (s.unit ∷ below) (omega arith))
      (c.in_err-unit-2.ensures.runs outer (below) (omega arith)));
  reads = no_reads _ _ _ c.from_residual-in_err-unit-2.ensures.1;
}

pub returns : goal.returns
unfolding move depth
returns c = record {
  runs =
      λ outer below h. takes_row outer c.args.reader.now.end s.quantity (below) c.in-Some.ensures
      (sign_quantity c.in-Some.sign) (omega arith)
      ∙ c.in_ok-figure-2.ensures.runs outer (s.unit ∷ below) (omega arith)
      ∙ c.in_ok-unit-2.ensures.runs outer (below) (omega arith);
  reads = marked c.in-Some.ensures (then c.in_ok-figure-2.ensures.reads c.in_ok-unit-2.ensures.reads);
}
