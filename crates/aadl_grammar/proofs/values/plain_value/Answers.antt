use Rattle.std.proofs.Common.{◌∙◌, ◌∷◌, [], ap, sym, refl, arith}
use Rattle.aadl_grammar.specs.proof.ParserAnswers.{here}
use Rattle.aadl_grammar.proofs.TopSymbolMoves.{takes_row, begins_past, acts_as}
use Rattle.aadl_grammar.proofs.ParserFaults.{along, exits, no_reads}
use Rattle.aadl_grammar.proofs.PartSequences.{nothing, then, told, respelled}
use Rattle.aadl_tree.specs.Values.{named, value_parts}
use Rattle.aadl_tree.specs.proof.NameViews.{reference_view}
use Rattle.aadl_tree.specs.proof.PlaceMaps.{kept_place}
use Rattle.aadl_tree.proofs.ValueViews.{view-Text, view-Named, view-Number}
use Rattle.aadl_grammar.proofs.ValueAndPropertyLists.{value_own, starts_at}
use Rattle.aadl_grammar.specs.proof.GrammarSymbols as s
use Rattle.aadl_grammar.specs.proof.StackMachine.{move, depth}
use Rattle.aadl_grammar.proofs.values.plain_value.Goals as goal

pub returns-in-Some : goal.returns-in-Some
unfolding move depth
returns-in-Some c = record {
  runs =
      λ outer below h. takes_row outer c.args.reader.now.end s.value (below)
      (rw c.in-Some.is at c.in_ok-text.ensures.ok) refl (omega arith);
  reads =
      respelled (ap value_parts (sym (view-Text kept_place c.in-Some.text)))
      (told (rw c.in-Some.is at c.in_ok-text.ensures.ok) nothing);
}

pub returns-in_err-named : goal.returns-in_err-named
unfolding move depth
returns-in_err-named c = record {
  runs =
      λ outer below h. exits _ _ _ _ _ _ _ c.from_residual-in_err-named.ensures.1
      (along _ _ _ (acts_as outer c.args.reader.now.end s.value s.reference (below)
      (starts_at (rw c.if-is_word.true at c.is_word.ensures)) refl)
      (c.in_err-named.ensures.runs outer (below) (omega arith)));
  reads = no_reads _ _ _ c.from_residual-in_err-named.ensures.1;
}

pub returns-then-is_word : goal.returns-then-is_word
unfolding move depth
returns-then-is_word c = record {
  runs =
      λ outer below h. acts_as outer c.args.reader.now.end s.value s.reference (below)
      (starts_at (rw c.if-is_word.true at c.is_word.ensures)) refl
      ∙ c.in_ok-named.ensures.runs outer (below) (omega arith);
  reads =
      respelled
      (ap (λ x. value_parts (named (reference_view kept_place x))) (sym c.in_ok-boxed.ensures.ok)
      ∙ ap value_parts (sym (view-Named kept_place c.in_ok-boxed.boxed))) c.in_ok-named.ensures.reads;
}

pub returns-in_err-low : goal.returns-in_err-low
unfolding move depth
returns-in_err-low c = record {
  runs =
      λ outer below h. exits _ _ _ _ _ _ _ c.from_residual-in_err-low.ensures.1
      (along _ _ _ (begins_past outer c.args.reader.now.end s.value s.quantity (value_own) (s.upper ∷ []) (below)
      (here c.args.reader.now c.args.at) refl refl refl
      (rw c.in_default.is at c.in_ok-text.ensures.ok, (rw c.if-is_word.false at c.is_word.ensures, c.requires)))
      (c.in_err-low.ensures.runs outer (s.upper ∷ below) (omega arith)));
  reads = no_reads _ _ _ c.from_residual-in_err-low.ensures.1;
}

pub returns-in_err-high : goal.returns-in_err-high
unfolding move depth
returns-in_err-high c = record {
  runs =
      λ outer below h. exits _ _ _ _ _ _ _ c.from_residual-in_err-high.ensures.1
      (along _ _ _ (begins_past outer c.args.reader.now.end s.value s.quantity (value_own) (s.upper ∷ []) (below)
      (here c.args.reader.now c.args.at) refl refl refl
      (rw c.in_default.is at c.in_ok-text.ensures.ok, (rw c.if-is_word.false at c.is_word.ensures, c.requires))
      ∙ c.in_ok-low.ensures.runs outer (s.upper ∷ below) (omega arith))
      (c.in_err-high.ensures.runs outer (below) (omega arith)));
  reads = no_reads _ _ _ c.from_residual-in_err-high.ensures.1;
}

pub returns : goal.returns
unfolding move depth
returns c = record {
  runs =
      λ outer below h. begins_past outer c.args.reader.now.end s.value s.quantity (value_own) (s.upper ∷ []) (below)
      (here c.args.reader.now c.args.at) refl refl refl
      (rw c.in_default.is at c.in_ok-text.ensures.ok, (rw c.if-is_word.false at c.is_word.ensures, c.requires))
      ∙ c.in_ok-low.ensures.runs outer (s.upper ∷ below) (omega arith)
      ∙ c.in_ok-high.ensures.runs outer (below) (omega arith);
  reads =
      respelled (ap value_parts (sym (view-Number kept_place c.in_ok-low.low c.in_ok-high.high)))
      (then c.in_ok-low.ensures.reads c.in_ok-high.ensures.reads);
}
