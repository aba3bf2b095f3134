use Rattle.std.proofs.Common.{◌∙◌, ◌∷◌, [], ◌++◌, ap, sym, refl, arith}
use Rattle.aadl_grammar.specs.proof.ParserAnswers.{here}
use Rattle.aadl_grammar.proofs.TopSymbolMoves.{takes_row, deep_row, omits_unless, refuses_unless, begins_as}
use Rattle.aadl_grammar.proofs.TopSymbolMoves.{before_closer, misses_at, only_takes}
use Rattle.aadl_grammar.proofs.ParserFaults.{along, exits, no_reads, too_deep}
use Rattle.aadl_grammar.proofs.PartSequences.{nothing, then, marked, respelled, shorter, placed_at}
use Rattle.std.specs.Prelude.{Some, None}
use Rattle.std.proofs.lemmas.List.{append-nil}
use Rattle.aadl_tree.specs.Actions.{otherwise, block, action_parts, actions_parts, mores_parts, otherwise_parts}
use Rattle.aadl_tree.specs.Actions.{block_parts}
use Rattle.aadl_tree.specs.proof.ActionViews.{action_view, actions_view, mores_view, block_view, choice_view, loop_view}
use Rattle.aadl_tree.specs.proof.PlaceMaps.{kept_place}
use Rattle.aadl_tree.proofs.ActionViews.{view-If, view-For, view-actions, view-block}
use Rattle.aadl_grammar.specs.proof.ParseTable.{rows}
use Rattle.behaviour_parse.proofs.ParsedActions.{loop_reads, choice_reads, choice_made, elsifs_push, mores_push, ended}
use Rattle.behaviour_parse.proofs.ParsedActions.{not_ended, begins_from}
use Rattle.aadl_tree.specs.declared.mark.Mark.TheVariants as k
use Rattle.aadl_grammar.specs.proof.GrammarSymbols as s
use Rattle.aadl_grammar.specs.proof.StackMachine.{move, depth, syntax_at}
use Rattle.behaviour_parse.proofs.actions.+action.Goals as goal

pub action-returns-in_err-inner : goal.action-returns-in_err-inner
unfolding move depth
action-returns-in_err-inner t c = record {
  runs =
      λ outer below h. exits _ _ _ _ _ _ _ c.from_residual.ensures.1
      (too_deep _ _ _ c.in_err-inner.ensures.1
      (deep_row outer c.args.reader.now.end s.action (below) c.in-Some.ensures refl
      (omega (arith, c.in_err-inner.ensures.0))));
  reads = no_reads _ _ _ c.from_residual.ensures.1;
}

pub action-returns-in_err-choice : goal.action-returns-in_err-choice
unfolding move depth
action-returns-in_err-choice t c = record {
  runs =
      λ outer below h. exits _ _ _ _ _ _ _ c.from_residual-in_err-choice.ensures.1
      (along _ _ _ (takes_row outer c.args.reader.now.end s.action (below) c.in-Some.ensures refl
      (omega (arith, c.in_ok-inner.ensures)))
      (c.in_err-choice.ensures.runs outer (below) (omega (arith, c.in_ok-inner.ensures))));
  reads = no_reads _ _ _ c.from_residual-in_err-choice.ensures.1;
}

pub action-returns-in-Some : goal.action-returns-in-Some
unfolding move depth
action-returns-in-Some t c = record {
  runs =
      λ outer below h. takes_row outer c.args.reader.now.end s.action (below) c.in-Some.ensures refl
      (omega (arith, c.in_ok-inner.ensures))
      ∙ c.in_ok-choice.ensures.runs outer (below) (omega (arith, c.in_ok-inner.ensures));
  reads =
      respelled (ap action_parts
      (ap (choice_view kept_place) (sym c.in_ok-boxed.ensures.ok) ∙ sym (view-If kept_place c.in_ok-boxed.boxed)))
      (choice_reads c.in_ok-choice.choice c.in-Some.ensures c.in_ok-choice.ensures.reads);
}

pub action-returns-in_err-head : goal.action-returns-in_err-head
unfolding move depth
action-returns-in_err-head t c = record {
  runs =
      λ outer below h. exits _ _ _ _ _ _ _ c.from_residual-in_err-head.ensures.1
      (along _ _ _ (takes_row outer c.args.reader.now.end s.action (below) c.in-Some-take.ensures refl (omega arith))
      (c.in_err-head.ensures.runs outer below (omega arith)));
  reads = no_reads _ _ _ c.from_residual-in_err-head.ensures.1;
}

pub action-returns-in-Some-take : goal.action-returns-in-Some-take
unfolding move depth
action-returns-in-Some-take t c = record {
  runs =
      λ outer below h. takes_row outer c.args.reader.now.end s.action (below) c.in-Some-take.ensures refl (omega arith)
      ∙ c.in_ok-head.ensures.runs outer below (omega arith);
  reads =
      respelled (ap action_parts
      (sym c.turns.ensures ∙ ap (loop_view kept_place) (sym c.in_ok-boxed-2.ensures.ok)
      ∙ sym (view-For kept_place c.in_ok-boxed-2.boxed)))
      (placed_at c.place.result c.args.reader.now.end c.in-Some-take.ensures c.place.ensures
      (loop_reads c.in_ok-head.head (block_parts (block_view kept_place c.in_ok-head.body))
      c.in_ok-head.ensures.reads));
}

pub action-returns : goal.action-returns
unfolding move depth
action-returns t c = c.plain_action.ensures

pub action-plain_action-requires : goal.action-plain_action-requires
action-plain_action-requires t c = (c.in_default.ensures, (c.in_default-take.ensures, tt))

pub repetition-returns-in_err-head : goal.repetition-returns-in_err-head
unfolding move depth
repetition-returns-in_err-head t c = record {
  runs =
      λ outer below h. exits _ _ _ _ _ _ _ c.from_residual.ensures.1
      (c.in_err-head.ensures.runs outer (s.block ∷ below) (omega arith));
  reads = no_reads _ _ _ c.from_residual.ensures.1;
}

pub repetition-returns-in_err-body : goal.repetition-returns-in_err-body
unfolding move depth
repetition-returns-in_err-body t c = record {
  runs =
      λ outer below h. exits _ _ _ _ _ _ _ c.from_residual-in_err-body.ensures.1
      (along _ _ _ (c.in_ok-head.ensures.runs outer (s.block ∷ below) (omega arith))
      (c.in_err-body.ensures.runs outer below (omega arith)));
  reads = no_reads _ _ _ c.from_residual-in_err-body.ensures.1;
}

pub repetition-returns : goal.repetition-returns
unfolding move depth
repetition-returns t c = record {
  runs = λ outer below h. c.in_ok-head.ensures.runs outer (s.block ∷ below) (omega arith)
      ∙ c.in_ok-body.ensures.runs outer below (omega arith);
  reads = then c.in_ok-head.ensures.reads c.in_ok-body.ensures.reads;
}

pub choice-returns-in_err-test : goal.choice-returns-in_err-test
unfolding move depth
choice-returns-in_err-test t c = record {
  runs =
      λ outer below h. exits _ _ _ _ _ _ _ c.from_residual.ensures.1
      (c.in_err-test.ensures.runs outer (s.actions ∷ s.elsifs ∷ s.otherwise ∷ s.end_if ∷ below) (omega arith));
  reads = no_reads _ _ _ c.from_residual.ensures.1;
}

pub choice-returns-in_err-actions : goal.choice-returns-in_err-actions
unfolding move depth
choice-returns-in_err-actions t c = record {
  runs =
      λ outer below h. exits _ _ _ _ _ _ _ c.from_residual-in_err-actions.ensures.1
      (along _ _ _ (c.in_ok-test.ensures.runs outer (s.actions ∷ s.elsifs ∷ s.otherwise ∷ s.end_if ∷ below)
      (omega arith)) (c.in_err-actions.ensures.runs outer (s.elsifs ∷ s.otherwise ∷ s.end_if ∷ below)
      (omega arith)));
  reads = no_reads _ _ _ c.from_residual-in_err-actions.ensures.1;
}

pub choice-returns-in_err-elsifs : goal.choice-returns-in_err-elsifs
unfolding move depth
choice-returns-in_err-elsifs t c = record {
  runs =
      λ outer below h. exits _ _ _ _ _ _ _ c.from_residual-in_err-elsifs.ensures.1
      (along _ _ _ (c.in_ok-test.ensures.runs outer (s.actions ∷ s.elsifs ∷ s.otherwise ∷ s.end_if ∷ below)
      (omega arith)
      ∙ c.in_ok-actions.ensures.runs outer (s.elsifs ∷ s.otherwise ∷ s.end_if ∷ below) (omega arith))
      (c.in_err-elsifs.ensures.runs outer (s.otherwise ∷ s.end_if ∷ below) (omega arith)));
  reads = no_reads _ _ _ c.from_residual-in_err-elsifs.ensures.1;
}

pub choice-returns-in_err-otherwise : goal.choice-returns-in_err-otherwise
unfolding move depth
choice-returns-in_err-otherwise t c = record {
  runs =
      λ outer below h. exits _ _ _ _ _ _ _ c.from_residual-in_err-otherwise.ensures.1
      (along _ _ _ (c.in_ok-test.ensures.runs outer (s.actions ∷ s.elsifs ∷ s.otherwise ∷ s.end_if ∷ below)
      (omega arith)
      ∙ c.in_ok-actions.ensures.runs outer (s.elsifs ∷ s.otherwise ∷ s.end_if ∷ below) (omega arith)
      ∙ c.in_ok-elsifs.ensures.runs outer (s.otherwise ∷ s.end_if ∷ below) (omega arith))
      (c.in_err-otherwise.ensures.runs outer (s.end_if ∷ below) (omega arith)));
  reads = no_reads _ _ _ c.from_residual-in_err-otherwise.ensures.1;
}

pub choice-returns-in_err-close : goal.choice-returns-in_err-close
unfolding move depth
choice-returns-in_err-close t c = record {
  runs =
      λ outer below h. exits _ _ _ _ _ _ _ c.from_residual-in_err-close.ensures.1
      (along _ _ _ (c.in_ok-test.ensures.runs outer (s.actions ∷ s.elsifs ∷ s.otherwise ∷ s.end_if ∷ below)
      (omega arith)
      ∙ c.in_ok-actions.ensures.runs outer (s.elsifs ∷ s.otherwise ∷ s.end_if ∷ below) (omega arith)
      ∙ c.in_ok-elsifs.ensures.runs outer (s.otherwise ∷ s.end_if ∷ below) (omega arith)
      ∙ c.in_ok-otherwise.ensures.runs outer (s.end_if ∷ below) (omega arith)
      ∙ begins_as outer c.args.reader.now.end s.end_if (s.only k.End) (s.closing_if ∷ []) below
      (here c.args.reader.now c.in_ok-otherwise.next) refl refl refl)
      (c.in_err-close.ensures.runs outer (s.closing_if ∷ below) (omega arith)));
  reads = no_reads _ _ _ c.from_residual-in_err-close.ensures.1;
}

pub choice-returns-in_err-end : goal.choice-returns-in_err-end
unfolding move depth
choice-returns-in_err-end t c = record {
  runs =
      λ outer below h. exits _ _ _ _ _ _ _ c.from_residual-in_err-end.ensures.1
      (along _ _ _ (c.in_ok-test.ensures.runs outer (s.actions ∷ s.elsifs ∷ s.otherwise ∷ s.end_if ∷ below)
      (omega arith)
      ∙ c.in_ok-actions.ensures.runs outer (s.elsifs ∷ s.otherwise ∷ s.end_if ∷ below) (omega arith)
      ∙ c.in_ok-elsifs.ensures.runs outer (s.otherwise ∷ s.end_if ∷ below) (omega arith)
      ∙ c.in_ok-otherwise.ensures.runs outer (s.end_if ∷ below) (omega arith)
      ∙ begins_as outer c.args.reader.now.end s.end_if (s.only k.End) (s.closing_if ∷ []) below
      (here c.args.reader.now c.in_ok-otherwise.next) refl refl refl
      ∙ c.in_ok-close.ensures.runs outer (s.closing_if ∷ below) (omega arith)
      ∙ begins_as outer c.args.reader.now.end s.closing_if (s.only k.If) [] below
      (here c.args.reader.now c.in_ok-close.close) refl refl refl)
      (c.in_err-end.ensures.runs outer (below) (omega arith)));
  reads = no_reads _ _ _ c.from_residual-in_err-end.ensures.1;
}

pub choice-returns : goal.choice-returns
unfolding move depth
choice-returns t c = record {
  runs =
      λ outer below h. c.in_ok-test.ensures.runs outer (s.actions ∷ s.elsifs ∷ s.otherwise ∷ s.end_if ∷ below)
      (omega arith)
      ∙ c.in_ok-actions.ensures.runs outer (s.elsifs ∷ s.otherwise ∷ s.end_if ∷ below) (omega arith)
      ∙ c.in_ok-elsifs.ensures.runs outer (s.otherwise ∷ s.end_if ∷ below) (omega arith)
      ∙ c.in_ok-otherwise.ensures.runs outer (s.end_if ∷ below) (omega arith)
      ∙ begins_as outer c.args.reader.now.end s.end_if (s.only k.End) (s.closing_if ∷ []) below
      (here c.args.reader.now c.in_ok-otherwise.next) refl refl refl
      ∙ c.in_ok-close.ensures.runs outer (s.closing_if ∷ below) (omega arith)
      ∙ begins_as outer c.args.reader.now.end s.closing_if (s.only k.If) [] below
      (here c.args.reader.now c.in_ok-close.close) refl refl refl
      ∙ c.in_ok-end.ensures.runs outer (below) (omega arith);
  reads =
      choice_made c.in_ok-test.test c.in_ok-actions.actions c.in_ok-elsifs.elsifs c.in_ok-otherwise.otherwise
      (then c.in_ok-test.ensures.reads
      (then c.in_ok-actions.ensures.reads
      (then c.in_ok-elsifs.ensures.reads
      (then c.in_ok-otherwise.ensures.reads
      (marked c.in_ok-close.ensures.reads (marked c.in_ok-end.ensures.reads nothing))))));
}

pub elsifs-returns-in_err-test : goal.elsifs-returns-in_err-test
unfolding move depth
elsifs-returns-in_err-test t c = record {
  runs =
      λ outer below h. exits _ _ _ _ _ _ _ c.from_residual.ensures.1
      (along _ _ _ (c.loop-behind.invariant.runs outer below (omega arith)
      ∙ takes_row outer c.args.reader.now.end s.elsifs (below) c.in-Some.ensures refl (omega arith))
      (c.in_err-test.ensures.runs outer (s.actions ∷ s.elsifs ∷ below) (omega arith)));
  reads = no_reads _ _ _ c.from_residual.ensures.1;
}

pub elsifs-returns-in_err-actions : goal.elsifs-returns-in_err-actions
unfolding move depth
elsifs-returns-in_err-actions t c = record {
  runs =
      λ outer below h. exits _ _ _ _ _ _ _ c.from_residual-in_err-actions.ensures.1
      (along _ _ _ (c.loop-behind.invariant.runs outer below (omega arith)
      ∙ takes_row outer c.args.reader.now.end s.elsifs (below) c.in-Some.ensures refl (omega arith)
      ∙ c.in_ok-test.ensures.runs outer (s.actions ∷ s.elsifs ∷ below) (omega arith))
      (c.in_err-actions.ensures.runs outer (s.elsifs ∷ below) (omega arith)));
  reads = no_reads _ _ _ c.from_residual-in_err-actions.ensures.1;
}

pub elsifs-loop-behind-preserved : goal.elsifs-loop-behind-preserved
unfolding move depth
elsifs-loop-behind-preserved t c = record {
  runs = λ outer below h. c.loop-behind.invariant.runs outer below (omega arith)
      ∙ takes_row outer c.args.reader.now.end s.elsifs (below) c.in-Some.ensures refl (omega arith)
      ∙ c.in_ok-test.ensures.runs outer (s.actions ∷ s.elsifs ∷ below) (omega arith)
      ∙ c.in_ok-actions.ensures.runs outer (s.elsifs ∷ below) (omega arith);
  reads =
      elsifs_push c.loop-behind.found.items c.push_compact.new.list.items c.in_ok-test.test c.in_ok-actions.actions
      c.in_ok-push_compact.ensures c.loop-behind.invariant.reads
      (marked c.in-Some.ensures (then c.in_ok-test.ensures.reads c.in_ok-actions.ensures.reads));
}

pub elsifs-loop-behind-smaller : goal.elsifs-loop-behind-smaller
unfolding move depth
elsifs-loop-behind-smaller t c =
    shorter c.in-Some.ensures (then c.in_ok-test.ensures.reads c.in_ok-actions.ensures.reads)

pub elsifs-returns : goal.elsifs-returns
unfolding move depth
elsifs-returns t c = record {
  runs = λ outer below h. c.loop-behind.invariant.runs outer below (omega arith)
      ∙ omits_unless outer c.args.reader.now.end s.elsifs (below) (here c.args.reader.now c.loop-behind.rest) refl
      (c.in_default.ensures, tt);
  reads = c.loop-behind.invariant.reads;
}

pub otherwise-returns-in_default : goal.otherwise-returns-in_default
unfolding move depth
otherwise-returns-in_default t c = record {
  runs =
      λ outer below h. omits_unless outer c.args.reader.now.end s.otherwise (below) (here c.args.reader.now c.args.at)
      refl (c.in_default.ensures, tt);
  reads = nothing;
}

pub otherwise-returns-in_err-found : goal.otherwise-returns-in_err-found
unfolding move depth
otherwise-returns-in_err-found t c = record {
  runs =
      λ outer below h. exits _ _ _ _ _ _ _ c.from_residual.ensures.1
      (along _ _ _ (takes_row outer c.args.reader.now.end s.otherwise (below) c.in-Some.ensures refl (omega arith))
      (c.in_err-found.ensures.runs outer (below) (omega arith)));
  reads = no_reads _ _ _ c.from_residual.ensures.1;
}

pub otherwise-returns : goal.otherwise-returns
unfolding move depth
otherwise-returns t c = record {
  runs = λ outer below h. takes_row outer c.args.reader.now.end s.otherwise (below) c.in-Some.ensures refl (omega arith)
      ∙ c.in_ok-found.ensures.runs outer (below) (omega arith);
  reads =
      respelled (ap (λ a. otherwise_parts (otherwise (actions_view kept_place a))) (sym c.in_ok-boxed.ensures.ok))
      (marked c.in-Some.ensures c.in_ok-found.ensures.reads);
}

pub actions-returns-in_err-first : goal.actions-returns-in_err-first
unfolding move depth
actions-returns-in_err-first t c = record {
  runs =
      λ outer below h. exits _ _ _ _ _ _ _ c.from_residual.ensures.1
      (along _ _ _ (begins_as outer c.args.reader.now.end s.actions s.action (s.mores ∷ []) (below)
      (here c.args.reader.now c.args.at) refl refl refl)
      (c.in_err-first.ensures.runs outer (s.mores ∷ below) (omega arith)));
  reads = no_reads _ _ _ c.from_residual.ensures.1;
}

pub actions-loop-behind-init : goal.actions-loop-behind-init
unfolding move depth
actions-loop-behind-init t c = record {
  runs =
      λ outer below h. begins_as outer c.args.reader.now.end s.actions s.action (s.mores ∷ []) (below)
      (here c.args.reader.now c.args.at) refl refl refl
      ∙ c.in_ok-first.ensures.runs outer (s.mores ∷ below) (omega arith);
  reads =
      respelled (sym (ap (λ l. action_parts (action_view kept_place c.in_ok-first.first)
      ++ mores_parts (mores_view kept_place l)) c.new-others.ensures.items
      ∙ append-nil (action_parts (action_view kept_place c.in_ok-first.first)))) c.in_ok-first.ensures.reads;
}

pub actions-returns-then-not-begins_action : goal.actions-returns-then-not-begins_action
unfolding move depth
actions-returns-then-not-begins_action t c = record {
  runs = λ outer below h. c.loop-behind.invariant.runs outer below (omega arith)
      ∙ takes_row outer c.args.reader.now.end s.mores (below) c.in-Some.ensures refl (omega arith)
      ∙ omits_unless outer c.args.reader.now.end s.after_semicolon (below) (here c.args.reader.now c.in-Some.behind)
      refl (rw c.if-not-begins_action.true at c.begins_action.ensures);
  reads =
      respelled (ap actions_parts (sym (view-actions kept_place c.in_ok-first.first c.loop-behind.others)))
      (ended (action_parts (action_view kept_place c.in_ok-first.first))
      (mores_parts (mores_view kept_place c.loop-behind.others.items)) c.loop-behind.invariant.reads
      c.in-Some.ensures);
}

pub actions-returns-in_err-next : goal.actions-returns-in_err-next
unfolding move depth
actions-returns-in_err-next t c = record {
  runs =
      λ outer below h. exits _ _ _ _ _ _ _ c.from_residual-in_err-next.ensures.1
      (along _ _ _ (c.loop-behind.invariant.runs outer below (omega arith)
      ∙ takes_row outer c.args.reader.now.end s.mores (below) c.in-Some.ensures refl (omega arith)
      ∙ begins_from outer c.args.reader.now.end below (rw c.if-not-begins_action.false at c.begins_action.ensures)
      ∙ begins_as outer c.args.reader.now.end s.actions s.action (s.mores ∷ []) (below)
      (here c.args.reader.now c.in-Some.behind) refl refl refl)
      (c.in_err-next.ensures.runs outer (s.mores ∷ below) (omega arith)));
  reads = no_reads _ _ _ c.from_residual-in_err-next.ensures.1;
}

pub actions-loop-behind-preserved : goal.actions-loop-behind-preserved
unfolding move depth
actions-loop-behind-preserved t c = record {
  runs = λ outer below h. c.loop-behind.invariant.runs outer below (omega arith)
      ∙ takes_row outer c.args.reader.now.end s.mores (below) c.in-Some.ensures refl (omega arith)
      ∙ begins_from outer c.args.reader.now.end below (rw c.if-not-begins_action.false at c.begins_action.ensures)
      ∙ begins_as outer c.args.reader.now.end s.actions s.action (s.mores ∷ []) (below)
      (here c.args.reader.now c.in-Some.behind) refl refl refl
      ∙ c.in_ok-next.ensures.runs outer (s.mores ∷ below) (omega arith);
  reads =
      mores_push (action_parts (action_view kept_place c.in_ok-first.first)) c.loop-behind.others.items
      c.push_compact.new.list.items c.in_ok-next.next c.in_ok-push_compact.ensures c.loop-behind.invariant.reads
      (marked c.in-Some.ensures c.in_ok-next.ensures.reads);
}

pub actions-loop-behind-smaller : goal.actions-loop-behind-smaller
unfolding move depth
actions-loop-behind-smaller t c = shorter c.in-Some.ensures c.in_ok-next.ensures.reads

pub actions-returns : goal.actions-returns
unfolding move depth
actions-returns t c = record {
  runs = λ outer below h. c.loop-behind.invariant.runs outer below (omega arith)
      ∙ omits_unless outer c.args.reader.now.end s.mores (below) (here c.args.reader.now c.loop-behind.rest) refl
      (c.in_default.ensures, tt);
  reads =
      respelled (ap actions_parts (sym (view-actions kept_place c.in_ok-first.first c.loop-behind.others)))
      (not_ended (action_parts (action_view kept_place c.in_ok-first.first))
      (mores_parts (mores_view kept_place c.loop-behind.others.items)) c.loop-behind.invariant.reads);
}

pub block-returns-in_default : goal.block-returns-in_default
unfolding move depth
block-returns-in_default t c = record {
  runs =
      λ outer below h. refuses_unless outer c.args.reader.now.end s.block (below) (here c.args.reader.now c.args.at)
      refl (c.in_default.ensures, tt)
      ∙ ap syntax_at (sym c.place.ensures);
  reads = tt;
}

pub block-returns-in_err-inner : goal.block-returns-in_err-inner
unfolding move depth
block-returns-in_err-inner t c = record {
  runs =
      λ outer below h. exits _ _ _ _ _ _ _ c.from_residual.ensures.1
      (too_deep _ _ _ c.in_err-inner.ensures.1
      (deep_row outer c.args.reader.now.end s.block (below) c.in-Some.ensures refl
      (omega (arith, c.in_err-inner.ensures.0))));
  reads = no_reads _ _ _ c.from_residual.ensures.1;
}

pub block-returns-in-Some-take : goal.block-returns-in-Some-take
unfolding move depth
block-returns-in-Some-take t c = record {
  runs =
      λ outer below h. takes_row outer c.args.reader.now.end s.block (below) c.in-Some.ensures refl
      (omega (arith, c.in_ok-inner.ensures))
      ∙ omits_unless outer c.args.reader.now.end s.body (s.only k.BraceClose ∷ below)
      (here c.args.reader.now c.in-Some.next) refl (misses_at (rows s.body) c.in-Some-take.ensures refl)
      ∙ takes_row outer c.args.reader.now.end (s.only k.BraceClose) (below) c.in-Some-take.ensures
      (only_takes k.BraceClose) (omega (arith, c.in_ok-inner.ensures));
  reads =
      respelled (ap block_parts (sym (view-block kept_place None)))
      (marked c.in-Some.ensures (marked c.in-Some-take.ensures nothing));
}

pub block-returns-in_err-found : goal.block-returns-in_err-found
unfolding move depth
block-returns-in_err-found t c = record {
  runs =
      λ outer below h. exits _ _ _ _ _ _ _ c.from_residual-in_err-found.ensures.1
      (along _ _ _ (takes_row outer c.args.reader.now.end s.block (below) c.in-Some.ensures refl
      (omega (arith, c.in_ok-inner.ensures))
      ∙ before_closer outer c.args.reader.now.end s.body s.actions [] [] k.BraceClose below
      (here c.args.reader.now c.in-Some.next) refl refl refl tt c.in_default-take.ensures)
      (c.in_err-found.ensures.runs outer (s.only k.BraceClose ∷ below) (omega (arith, c.in_ok-inner.ensures))));
  reads = no_reads _ _ _ c.from_residual-in_err-found.ensures.1;
}

pub block-returns-in_err-end : goal.block-returns-in_err-end
unfolding move depth
block-returns-in_err-end t c = record {
  runs =
      λ outer below h. exits _ _ _ _ _ _ _ c.from_residual-in_err-end.ensures.1
      (along _ _ _ (takes_row outer c.args.reader.now.end s.block (below) c.in-Some.ensures refl
      (omega (arith, c.in_ok-inner.ensures))
      ∙ before_closer outer c.args.reader.now.end s.body s.actions [] [] k.BraceClose below
      (here c.args.reader.now c.in-Some.next) refl refl refl tt c.in_default-take.ensures
      ∙ c.in_ok-found.ensures.runs outer (s.only k.BraceClose ∷ below) (omega (arith, c.in_ok-inner.ensures)))
      (c.in_err-end.ensures.runs outer (below) (omega (arith, c.in_ok-inner.ensures))));
  reads = no_reads _ _ _ c.from_residual-in_err-end.ensures.1;
}

pub block-returns : goal.block-returns
unfolding move depth
block-returns t c = record {
  runs =
      λ outer below h. takes_row outer c.args.reader.now.end s.block (below) c.in-Some.ensures refl
      (omega (arith, c.in_ok-inner.ensures))
      ∙ before_closer outer c.args.reader.now.end s.body s.actions [] [] k.BraceClose below
      (here c.args.reader.now c.in-Some.next) refl refl refl tt c.in_default-take.ensures
      ∙ c.in_ok-found.ensures.runs outer (s.only k.BraceClose ∷ below) (omega (arith, c.in_ok-inner.ensures))
      ∙ c.in_ok-end.ensures.runs outer (below) (omega (arith, c.in_ok-inner.ensures));
  reads =
      respelled (ap (λ a. block_parts (block a)) (ap (actions_view kept_place) (sym c.in_ok-boxed.ensures.ok))
      ∙ ap block_parts (sym (view-block kept_place (Some c.in_ok-boxed.boxed))))
      (marked c.in-Some.ensures (then c.in_ok-found.ensures.reads (marked c.in_ok-end.ensures.reads nothing)));
}
