use Rattle.std.proofs.Common.{◌∙◌, ap, sym, refl, arith}
use Rattle.aadl_grammar.specs.proof.ParserAnswers.{here}
use Rattle.aadl_grammar.proofs.TopSymbolMoves.{takes_row, refuses_unless, a_word_at}
use Rattle.aadl_grammar.proofs.ParserFaults.{along, exits, no_reads}
use Rattle.aadl_grammar.proofs.PartSequences.{then, marked, named, respelled}
use Rattle.aadl_tree.specs.Actions.{action_parts}
use Rattle.aadl_tree.specs.proof.PlaceMaps.{kept_place}
use Rattle.aadl_tree.proofs.ActionViews.{view-Assign, view-Send}
use Rattle.aadl_grammar.specs.proof.GrammarSymbols as s
use Rattle.aadl_grammar.specs.proof.StackMachine.{move, depth, syntax_at}
use Rattle.behaviour_parse.proofs.actions.plain_action.Goals as goal

pub returns-in_default : goal.returns-in_default
unfolding move depth
returns-in_default c = record {
  runs =
      λ outer below h. refuses_unless outer c.args.reader.now.end s.action (below) (here c.args.reader.now c.args.at)
      refl (rw c.in_default.is at c.in_ok-target.ensures.ok, c.requires)
      ∙ ap syntax_at (sym c.place.ensures);
  reads = tt;
}

pub returns-in_err-value : goal.returns-in_err-value
unfolding move depth
returns-in_err-value c = record {
  runs =
      λ outer below h. exits _ _ _ _ _ _ _ c.from_residual-in_err-value.ensures.1
      (along _ _ _ (takes_row outer c.args.reader.now.end s.action (below)
      (a_word_at (rw c.in-Some.is at c.in_ok-target.ensures.ok)) refl (omega arith)
      ∙ takes_row outer c.args.reader.now.end s.after_target (below) c.in-Some-take.ensures refl (omega arith))
      (c.in_err-value.ensures.runs outer (below) (omega arith)));
  reads = no_reads _ _ _ c.from_residual-in_err-value.ensures.1;
}

pub returns-in-Some-take : goal.returns-in-Some-take
unfolding move depth
returns-in-Some-take c = record {
  runs =
      λ outer below h. takes_row outer c.args.reader.now.end s.action (below)
      (a_word_at (rw c.in-Some.is at c.in_ok-target.ensures.ok)) refl (omega arith)
      ∙ takes_row outer c.args.reader.now.end s.after_target (below) c.in-Some-take.ensures refl (omega arith)
      ∙ c.in_ok-value.ensures.runs outer (below) (omega arith);
  reads =
      respelled (ap action_parts (sym (view-Assign kept_place c.in-Some.target c.in_ok-value.value)))
      (then (named (rw c.in-Some.is at c.in_ok-target.ensures.ok))
      (marked c.in-Some-take.ensures c.in_ok-value.ensures.reads));
}

pub returns-in_default-take-2 : goal.returns-in_default-take-2
unfolding move depth
returns-in_default-take-2 c = record {
  runs =
      λ outer below h. takes_row outer c.args.reader.now.end s.action (below)
      (a_word_at (rw c.in-Some.is at c.in_ok-target.ensures.ok)) refl (omega arith)
      ∙ refuses_unless outer c.args.reader.now.end s.after_target (below) (here c.args.reader.now c.in-Some.next) refl
      (c.in_default-take.ensures, (c.in_default-take-2.ensures, tt))
      ∙ ap syntax_at (sym c.place-in_default-take-2.ensures);
  reads = tt;
}

pub returns-in_err-value-2 : goal.returns-in_err-value-2
unfolding move depth
returns-in_err-value-2 c = record {
  runs =
      λ outer below h. exits _ _ _ _ _ _ _ c.from_residual-in_err-value-2.ensures.1
      (along _ _ _ (takes_row outer c.args.reader.now.end s.action (below)
      (a_word_at (rw c.in-Some.is at c.in_ok-target.ensures.ok)) refl (omega arith)
      ∙ takes_row outer c.args.reader.now.end s.after_target (below) c.in-Some-take-2.ensures refl (omega arith))
      (c.in_err-value-2.ensures.runs outer (below) (omega arith)));
  reads = no_reads _ _ _ c.from_residual-in_err-value-2.ensures.1;
}

pub returns : goal.returns
unfolding move depth
returns c = record {
  runs =
      λ outer below h. takes_row outer c.args.reader.now.end s.action (below)
      (a_word_at (rw c.in-Some.is at c.in_ok-target.ensures.ok)) refl (omega arith)
      ∙ takes_row outer c.args.reader.now.end s.after_target (below) c.in-Some-take-2.ensures refl (omega arith)
      ∙ c.in_ok-value-2.ensures.runs outer (below) (omega arith);
  reads =
      respelled (ap action_parts (sym (view-Send kept_place c.in-Some.target c.in_ok-value-2.value)))
      (then (named (rw c.in-Some.is at c.in_ok-target.ensures.ok))
      (marked c.in-Some-take-2.ensures c.in_ok-value-2.ensures.reads));
}
