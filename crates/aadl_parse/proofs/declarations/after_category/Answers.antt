use Rattle.std.proofs.Common.{◌∙◌, ◌∷◌, ap, sym, refl, arith}
use Rattle.aadl_grammar.specs.proof.ParserAnswers.{here}
use Rattle.aadl_grammar.proofs.TopSymbolMoves.{takes_row, refuses_unless, a_word_at}
use Rattle.aadl_grammar.proofs.ParserFaults.{along, exits, no_reads}
use Rattle.aadl_grammar.proofs.PartSequences.{then, marked, named}
use Rattle.aadl_grammar.specs.proof.GrammarSymbols as s
use Rattle.aadl_grammar.specs.proof.StackMachine.{move, depth, syntax_at}
use Rattle.aadl_parse.proofs.declarations.after_category.Goals as goal

pub returns-in_err-name : goal.returns-in_err-name
unfolding move depth
returns-in_err-name c = record {
  runs =
      λ outer below h. exits _ _ _ _ _ _ _ c.from_residual.ensures.1
      (along _ _ _ (takes_row outer c.args.reader.now.end s.after_category (below) c.in-Some.ensures refl (omega arith))
      (c.in_err-name.ensures.runs outer
      (s.subcomponents ∷ s.connections ∷ s.own_properties ∷ s.annexes ∷ s.implementation_end ∷ below)
      (omega arith)));
  reads = no_reads _ _ _ c.from_residual.ensures.1;
}

pub returns-in_err-subcomponents : goal.returns-in_err-subcomponents
unfolding move depth
returns-in_err-subcomponents c = record {
  runs =
      λ outer below h. exits _ _ _ _ _ _ _ c.from_residual-in_err-subcomponents.ensures.1
      (along _ _ _ (takes_row outer c.args.reader.now.end s.after_category (below) c.in-Some.ensures refl (omega arith)
      ∙ c.in_ok-name.ensures.runs outer
      (s.subcomponents ∷ s.connections ∷ s.own_properties ∷ s.annexes ∷ s.implementation_end ∷ below) (omega arith))
      (c.in_err-subcomponents.ensures.runs outer
      (s.connections ∷ s.own_properties ∷ s.annexes ∷ s.implementation_end ∷ below) (omega arith)));
  reads = no_reads _ _ _ c.from_residual-in_err-subcomponents.ensures.1;
}

pub returns-in_err-connections : goal.returns-in_err-connections
unfolding move depth
returns-in_err-connections c = record {
  runs =
      λ outer below h. exits _ _ _ _ _ _ _ c.from_residual-in_err-connections.ensures.1
      (along _ _ _ (takes_row outer c.args.reader.now.end s.after_category (below) c.in-Some.ensures refl (omega arith)
      ∙ c.in_ok-name.ensures.runs outer
      (s.subcomponents ∷ s.connections ∷ s.own_properties ∷ s.annexes ∷ s.implementation_end ∷ below) (omega arith)
      ∙ c.in_ok-subcomponents.ensures.runs outer
      (s.connections ∷ s.own_properties ∷ s.annexes ∷ s.implementation_end ∷ below) (omega arith))
      (c.in_err-connections.ensures.runs outer (s.own_properties ∷ s.annexes ∷ s.implementation_end ∷ below)
      (omega arith)));
  reads = no_reads _ _ _ c.from_residual-in_err-connections.ensures.1;
}

pub returns-in_err-properties : goal.returns-in_err-properties
unfolding move depth
returns-in_err-properties c = record {
  runs =
      λ outer below h. exits _ _ _ _ _ _ _ c.from_residual-in_err-properties.ensures.1
      (along _ _ _ (takes_row outer c.args.reader.now.end s.after_category (below) c.in-Some.ensures refl (omega arith)
      ∙ c.in_ok-name.ensures.runs outer
      (s.subcomponents ∷ s.connections ∷ s.own_properties ∷ s.annexes ∷ s.implementation_end ∷ below) (omega arith)
      ∙ c.in_ok-subcomponents.ensures.runs outer
      (s.connections ∷ s.own_properties ∷ s.annexes ∷ s.implementation_end ∷ below) (omega arith)
      ∙ c.in_ok-connections.ensures.runs outer (s.own_properties ∷ s.annexes ∷ s.implementation_end ∷ below)
      (omega arith)) (c.in_err-properties.ensures.runs outer (s.annexes ∷ s.implementation_end ∷ below)
      (omega arith)));
  reads = no_reads _ _ _ c.from_residual-in_err-properties.ensures.1;
}

pub returns-in_err-annexes : goal.returns-in_err-annexes
unfolding move depth
returns-in_err-annexes c = record {
  runs =
      λ outer below h. exits _ _ _ _ _ _ _ c.from_residual-in_err-annexes.ensures.1
      (along _ _ _ (takes_row outer c.args.reader.now.end s.after_category (below) c.in-Some.ensures refl (omega arith)
      ∙ c.in_ok-name.ensures.runs outer
      (s.subcomponents ∷ s.connections ∷ s.own_properties ∷ s.annexes ∷ s.implementation_end ∷ below) (omega arith)
      ∙ c.in_ok-subcomponents.ensures.runs outer
      (s.connections ∷ s.own_properties ∷ s.annexes ∷ s.implementation_end ∷ below) (omega arith)
      ∙ c.in_ok-connections.ensures.runs outer (s.own_properties ∷ s.annexes ∷ s.implementation_end ∷ below)
      (omega arith)
      ∙ c.in_ok-properties.ensures.runs outer (s.annexes ∷ s.implementation_end ∷ below) (omega arith))
      (c.in_err-annexes.ensures.runs outer (s.implementation_end ∷ below) (omega arith)));
  reads = no_reads _ _ _ c.from_residual-in_err-annexes.ensures.1;
}

pub returns-in_err-end_name : goal.returns-in_err-end_name
unfolding move depth
returns-in_err-end_name c = record {
  runs =
      λ outer below h. exits _ _ _ _ _ _ _ c.from_residual-in_err-end_name.ensures.1
      (along _ _ _ (takes_row outer c.args.reader.now.end s.after_category (below) c.in-Some.ensures refl (omega arith)
      ∙ c.in_ok-name.ensures.runs outer
      (s.subcomponents ∷ s.connections ∷ s.own_properties ∷ s.annexes ∷ s.implementation_end ∷ below) (omega arith)
      ∙ c.in_ok-subcomponents.ensures.runs outer
      (s.connections ∷ s.own_properties ∷ s.annexes ∷ s.implementation_end ∷ below) (omega arith)
      ∙ c.in_ok-connections.ensures.runs outer (s.own_properties ∷ s.annexes ∷ s.implementation_end ∷ below)
      (omega arith)
      ∙ c.in_ok-properties.ensures.runs outer (s.annexes ∷ s.implementation_end ∷ below) (omega arith)
      ∙ c.in_ok-annexes.ensures.runs outer (s.implementation_end ∷ below) (omega arith))
      (c.in_err-end_name.ensures.runs outer (below) (omega arith)));
  reads = no_reads _ _ _ c.from_residual-in_err-end_name.ensures.1;
}

pub returns-in-Some : goal.returns-in-Some
unfolding move depth
returns-in-Some c = record {
  runs =
      λ outer below h. takes_row outer c.args.reader.now.end s.after_category (below) c.in-Some.ensures refl
      (omega arith)
      ∙ c.in_ok-name.ensures.runs outer
      (s.subcomponents ∷ s.connections ∷ s.own_properties ∷ s.annexes ∷ s.implementation_end ∷ below) (omega arith)
      ∙ c.in_ok-subcomponents.ensures.runs outer
      (s.connections ∷ s.own_properties ∷ s.annexes ∷ s.implementation_end ∷ below) (omega arith)
      ∙ c.in_ok-connections.ensures.runs outer (s.own_properties ∷ s.annexes ∷ s.implementation_end ∷ below)
      (omega arith)
      ∙ c.in_ok-properties.ensures.runs outer (s.annexes ∷ s.implementation_end ∷ below) (omega arith)
      ∙ c.in_ok-annexes.ensures.runs outer (s.implementation_end ∷ below) (omega arith)
      ∙ c.in_ok-end_name.ensures.runs outer (below) (omega arith);
  reads =
      marked c.in-Some.ensures
      (then c.in_ok-name.ensures.reads
      (then c.in_ok-subcomponents.ensures.reads
      (then c.in_ok-connections.ensures.reads
      (then c.in_ok-properties.ensures.reads
      (then c.in_ok-annexes.ensures.reads c.in_ok-end_name.ensures.reads)))));
}

pub returns-in_default-2 : goal.returns-in_default-2
unfolding move depth
returns-in_default-2 c = record {
  runs =
      λ outer below h. refuses_unless outer c.args.reader.now.end s.after_category (below)
      (here c.args.reader.now c.args.at) refl
      (rw c.in_default-2.is at c.in_ok-name-2.ensures.ok, (c.in_default.ensures, tt))
      ∙ ap syntax_at (sym c.place.ensures);
  reads = tt;
}

pub returns-in_err-features : goal.returns-in_err-features
unfolding move depth
returns-in_err-features c = record {
  runs =
      λ outer below h. exits _ _ _ _ _ _ _ c.from_residual-in_err-features.ensures.1
      (along _ _ _ (takes_row outer c.args.reader.now.end s.after_category (below)
      (a_word_at (rw c.in-Some-2.is at c.in_ok-name-2.ensures.ok)) refl (omega arith))
      (c.in_err-features.ensures.runs outer (s.own_properties ∷ s.annexes ∷ s.type_end ∷ below) (omega arith)));
  reads = no_reads _ _ _ c.from_residual-in_err-features.ensures.1;
}

pub returns-in_err-properties-2 : goal.returns-in_err-properties-2
unfolding move depth
returns-in_err-properties-2 c = record {
  runs =
      λ outer below h. exits _ _ _ _ _ _ _ c.from_residual-in_err-properties-2.ensures.1
      (along _ _ _ (takes_row outer c.args.reader.now.end s.after_category (below)
      (a_word_at (rw c.in-Some-2.is at c.in_ok-name-2.ensures.ok)) refl (omega arith)
      ∙ c.in_ok-features.ensures.runs outer (s.own_properties ∷ s.annexes ∷ s.type_end ∷ below) (omega arith))
      (c.in_err-properties-2.ensures.runs outer (s.annexes ∷ s.type_end ∷ below) (omega arith)));
  reads = no_reads _ _ _ c.from_residual-in_err-properties-2.ensures.1;
}

pub returns-in_err-annexes-2 : goal.returns-in_err-annexes-2
unfolding move depth
returns-in_err-annexes-2 c = record {
  runs =
      λ outer below h. exits _ _ _ _ _ _ _ c.from_residual-in_err-annexes-2.ensures.1
      (along _ _ _ (takes_row outer c.args.reader.now.end s.after_category (below)
      (a_word_at (rw c.in-Some-2.is at c.in_ok-name-2.ensures.ok)) refl (omega arith)
      ∙ c.in_ok-features.ensures.runs outer (s.own_properties ∷ s.annexes ∷ s.type_end ∷ below) (omega arith)
      ∙ c.in_ok-properties-2.ensures.runs outer (s.annexes ∷ s.type_end ∷ below) (omega arith))
      (c.in_err-annexes-2.ensures.runs outer (s.type_end ∷ below) (omega arith)));
  reads = no_reads _ _ _ c.from_residual-in_err-annexes-2.ensures.1;
}

pub returns-in_err-end_name-2 : goal.returns-in_err-end_name-2
unfolding move depth
returns-in_err-end_name-2 c = record {
  runs =
      λ outer below h. exits _ _ _ _ _ _ _ c.from_residual-in_err-end_name-2.ensures.1
      (along _ _ _ (takes_row outer c.args.reader.now.end s.after_category (below)
      (a_word_at (rw c.in-Some-2.is at c.in_ok-name-2.ensures.ok)) refl (omega arith)
      ∙ c.in_ok-features.ensures.runs outer (s.own_properties ∷ s.annexes ∷ s.type_end ∷ below) (omega arith)
      ∙ c.in_ok-properties-2.ensures.runs outer (s.annexes ∷ s.type_end ∷ below) (omega arith)
      ∙ c.in_ok-annexes-2.ensures.runs outer (s.type_end ∷ below) (omega arith))
      (c.in_err-end_name-2.ensures.runs outer (below) (omega arith)));
  reads = no_reads _ _ _ c.from_residual-in_err-end_name-2.ensures.1;
}

pub returns : goal.returns
unfolding move depth
returns c = record {
  runs =
      λ outer below h. takes_row outer c.args.reader.now.end s.after_category (below)
      (a_word_at (rw c.in-Some-2.is at c.in_ok-name-2.ensures.ok)) refl (omega arith)
      ∙ c.in_ok-features.ensures.runs outer (s.own_properties ∷ s.annexes ∷ s.type_end ∷ below) (omega arith)
      ∙ c.in_ok-properties-2.ensures.runs outer (s.annexes ∷ s.type_end ∷ below) (omega arith)
      ∙ c.in_ok-annexes-2.ensures.runs outer (s.type_end ∷ below) (omega arith)
      ∙ c.in_ok-end_name-2.ensures.runs outer (below) (omega arith);
  reads =
      then (named (rw c.in-Some-2.is at c.in_ok-name-2.ensures.ok))
      (then c.in_ok-features.ensures.reads
      (then c.in_ok-properties-2.ensures.reads
      (then c.in_ok-annexes-2.ensures.reads c.in_ok-end_name-2.ensures.reads)));
}
