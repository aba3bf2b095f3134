use Rattle.std.proofs.Common.{◌∙◌, ◌∷◌, [], ◌++◌, ap, sym, refl, arith}
use Rattle.aadl_grammar.specs.proof.ParserAnswers.{here}
use Rattle.aadl_grammar.proofs.TopSymbolMoves.{takes_row, deep_row, omits_unless, begins_as, enters_as, before_closer}
use Rattle.aadl_grammar.proofs.TopSymbolMoves.{misses_at, flag_runs, only_takes}
use Rattle.aadl_grammar.proofs.ParserFaults.{along, exits, no_reads, too_deep}
use Rattle.aadl_grammar.proofs.PartSequences.{nothing, then, marked, respelled, shorter, flagged}
use Rattle.aadl_tree.specs.SpellingParts.{plain}
use Rattle.aadl_tree.specs.Values.{reference, classifier, value_parts, values_parts, association_parts}
use Rattle.aadl_tree.specs.Values.{associations_parts}
use Rattle.aadl_tree.specs.proof.NameViews.{path_view, reference_view}
use Rattle.aadl_tree.specs.proof.ValueViews.{values_view, associations_view}
use Rattle.aadl_tree.specs.proof.PlaceMaps.{kept_place}
use Rattle.aadl_tree.proofs.ValueViews.{view-List, view-Record, view-Reference, view-Classifier, view-association}
use Rattle.aadl_grammar.specs.proof.ParseTable.{rows}
use Rattle.aadl_grammar.proofs.ValueAndPropertyLists.{values_push, associations_push, with_room, starts_at}
use Rattle.aadl_grammar.proofs.ValueAndPropertyLists.{association_begun}
use Rattle.aadl_tree.specs.declared.mark.Mark.TheVariants as k
use Rattle.aadl_grammar.specs.proof.GrammarSymbols as s
use Rattle.aadl_grammar.specs.proof.StackMachine.{move, depth}
use Rattle.aadl_grammar.proofs.values.+value.Goals as goal

pub values-returns-in-Some : goal.values-returns-in-Some
unfolding move depth
values-returns-in-Some t c = record {
  runs =
      λ outer below h. omits_unless outer c.args.reader.now.end s.values (s.only k.ParenClose ∷ below)
      (here c.args.reader.now c.args.at) refl (misses_at (rows s.values) c.in-Some.ensures refl)
      ∙ takes_row outer c.args.reader.now.end (s.only k.ParenClose) (below) c.in-Some.ensures (only_takes k.ParenClose)
      (omega arith);
  reads =
      respelled (ap (λ l. values_parts (values_view kept_place l) ++ plain k.ParenClose ∷ [])
      (sym c.new-found.ensures.items))
      (marked c.in-Some.ensures nothing);
}

pub values-returns-in_err-first : goal.values-returns-in_err-first
unfolding move depth
values-returns-in_err-first t c = record {
  runs =
      λ outer below h. exits _ _ _ _ _ _ _ c.from_residual.ensures.1
      (along _ _ _ (before_closer outer c.args.reader.now.end s.values s.value [] (s.more_values ∷ []) k.ParenClose
      below (here c.args.reader.now c.args.at) refl refl refl tt c.in_default.ensures)
      (c.in_err-first.ensures.runs outer (s.more_values ∷ s.only k.ParenClose ∷ below) (omega arith)));
  reads = no_reads _ _ _ c.from_residual.ensures.1;
}

pub values-loop-behind-init : goal.values-loop-behind-init
unfolding move depth
values-loop-behind-init t c =
    let one = c.in_ok-push.ensures.items ∙ ap (λ l. l ++ c.in_ok-first.first ∷ []) c.new-found.ensures.items in record {
      runs =
          λ outer below h. before_closer outer c.args.reader.now.end s.values s.value [] (s.more_values ∷ [])
          k.ParenClose below (here c.args.reader.now c.args.at) refl refl refl tt c.in_default.ensures
          ∙ c.in_ok-first.ensures.runs outer (s.more_values ∷ s.only k.ParenClose ∷ below) (omega arith);
      reads =
          respelled (ap (λ l. values_parts (values_view kept_place l)) (sym one))
          (then c.in_ok-first.ensures.reads nothing);
      some = (c.in_ok-first.first, [], one);
    }

pub values-returns-in_err-next : goal.values-returns-in_err-next
unfolding move depth
values-returns-in_err-next t c = record {
  runs =
      λ outer below h. exits _ _ _ _ _ _ _ c.from_residual-in_err-next.ensures.1
      (along _ _ _ (c.loop-behind.invariant.runs outer below (omega arith)
      ∙ takes_row outer c.args.reader.now.end s.more_values (s.only k.ParenClose ∷ below) c.in-Some-take.ensures refl
      (omega arith))
      (c.in_err-next.ensures.runs outer (s.more_values ∷ s.only k.ParenClose ∷ below) (omega arith)));
  reads = no_reads _ _ _ c.from_residual-in_err-next.ensures.1;
}

pub values-loop-behind-preserved : goal.values-loop-behind-preserved
unfolding move depth
values-loop-behind-preserved t c =
    let (first, others, is) = c.loop-behind.invariant.some in record {
      runs = λ outer below h. c.loop-behind.invariant.runs outer below (omega arith)
          ∙ takes_row outer c.args.reader.now.end s.more_values (s.only k.ParenClose ∷ below) c.in-Some-take.ensures
          refl (omega arith)
          ∙ c.in_ok-next.ensures.runs outer (s.more_values ∷ s.only k.ParenClose ∷ below) (omega arith);
      reads =
          values_push c.loop-behind.found.items c.push-in-Some-take.new.self.items first others c.in_ok-next.next is
          c.in_ok-push-2.ensures.items c.loop-behind.invariant.reads
          (marked c.in-Some-take.ensures c.in_ok-next.ensures.reads);
      some = (
        first,
        others ++ c.in_ok-next.next ∷ [],
        c.in_ok-push-2.ensures.items ∙ ap (λ l. l ++ c.in_ok-next.next ∷ []) is,
      );
    }

pub values-loop-behind-smaller : goal.values-loop-behind-smaller
unfolding move depth
values-loop-behind-smaller t c = shorter c.in-Some-take.ensures c.in_ok-next.ensures.reads

pub values-returns-in_err-end : goal.values-returns-in_err-end
unfolding move depth
values-returns-in_err-end t c = record {
  runs =
      λ outer below h. exits _ _ _ _ _ _ _ c.from_residual-in_err-end.ensures.1
      (along _ _ _ (c.loop-behind.invariant.runs outer below (omega arith)
      ∙ omits_unless outer c.args.reader.now.end s.more_values (s.only k.ParenClose ∷ below)
      (here c.args.reader.now c.loop-behind.rest) refl (c.in_default-take.ensures, tt))
      (c.in_err-end.ensures.runs outer (below) (omega arith)));
  reads = no_reads _ _ _ c.from_residual-in_err-end.ensures.1;
}

pub values-returns : goal.values-returns
unfolding move depth
values-returns t c = record {
  runs = λ outer below h. c.loop-behind.invariant.runs outer below (omega arith)
      ∙ omits_unless outer c.args.reader.now.end s.more_values (s.only k.ParenClose ∷ below)
      (here c.args.reader.now c.loop-behind.rest) refl (c.in_default-take.ensures, tt)
      ∙ c.in_ok-end.ensures.runs outer (below) (omega arith);
  reads = then c.loop-behind.invariant.reads (marked c.in_ok-end.ensures.reads nothing);
}

pub value-returns-in_err-inner : goal.value-returns-in_err-inner
unfolding move depth
value-returns-in_err-inner t c = record {
  runs =
      λ outer below h. exits _ _ _ _ _ _ _ c.from_residual.ensures.1
      (too_deep _ _ _ c.in_err-inner.ensures.1
      (deep_row outer c.args.reader.now.end s.value (below) c.in-Some.ensures refl
      (omega (arith, c.in_err-inner.ensures.0))));
  reads = no_reads _ _ _ c.from_residual.ensures.1;
}

pub value-returns-in_err-values : goal.value-returns-in_err-values
unfolding move depth
value-returns-in_err-values t c = record {
  runs =
      λ outer below h. exits _ _ _ _ _ _ _ c.from_residual-in_err-values.ensures.1
      (along _ _ _ (takes_row outer c.args.reader.now.end s.value (below) c.in-Some.ensures refl
      (omega (arith, c.in_ok-inner.ensures)))
      (c.in_err-values.ensures.runs outer (below) (omega (arith, c.in_ok-inner.ensures))));
  reads = no_reads _ _ _ c.from_residual-in_err-values.ensures.1;
}

pub value-returns-in-Some : goal.value-returns-in-Some
unfolding move depth
value-returns-in-Some t c = record {
  runs =
      λ outer below h. takes_row outer c.args.reader.now.end s.value (below) c.in-Some.ensures refl
      (omega (arith, c.in_ok-inner.ensures))
      ∙ c.in_ok-values.ensures.runs outer (below) (omega (arith, c.in_ok-inner.ensures));
  reads =
      respelled (ap value_parts (sym (view-List kept_place c.in_ok-values.values)))
      (marked c.in-Some.ensures c.in_ok-values.ensures.reads);
}

pub value-returns-in_err-inner-2 : goal.value-returns-in_err-inner-2
unfolding move depth
value-returns-in_err-inner-2 t c = record {
  runs =
      λ outer below h. exits _ _ _ _ _ _ _ c.from_residual-in_err-inner-2.ensures.1
      (too_deep _ _ _ c.in_err-inner-2.ensures.1
      (deep_row outer c.args.reader.now.end s.value (below) c.in-Some-take.ensures refl
      (omega (arith, c.in_err-inner-2.ensures.0))));
  reads = no_reads _ _ _ c.from_residual-in_err-inner-2.ensures.1;
}

pub value-returns-in_err-fields : goal.value-returns-in_err-fields
unfolding move depth
value-returns-in_err-fields t c = record {
  runs =
      λ outer below h. exits _ _ _ _ _ _ _ c.from_residual-in_err-fields.ensures.1
      (along _ _ _ (takes_row outer c.args.reader.now.end s.value (below) c.in-Some-take.ensures refl
      (omega (arith, c.in_ok-inner-2.ensures)))
      (c.in_err-fields.ensures.runs outer (s.only k.BracketClose ∷ below)
      (omega (arith, c.in_ok-inner-2.ensures))));
  reads = no_reads _ _ _ c.from_residual-in_err-fields.ensures.1;
}

pub value-returns-in_err-end : goal.value-returns-in_err-end
unfolding move depth
value-returns-in_err-end t c = record {
  runs =
      λ outer below h. exits _ _ _ _ _ _ _ c.from_residual-in_err-end.ensures.1
      (along _ _ _ (takes_row outer c.args.reader.now.end s.value (below) c.in-Some-take.ensures refl
      (omega (arith, c.in_ok-inner-2.ensures))
      ∙ c.in_ok-fields.ensures.runs outer (s.only k.BracketClose ∷ below) (omega (arith, c.in_ok-inner-2.ensures)))
      (c.in_err-end.ensures.runs outer (below) (omega (arith, c.in_ok-inner-2.ensures))));
  reads = no_reads _ _ _ c.from_residual-in_err-end.ensures.1;
}

pub value-returns-in-Some-take : goal.value-returns-in-Some-take
unfolding move depth
value-returns-in-Some-take t c = record {
  runs =
      λ outer below h. takes_row outer c.args.reader.now.end s.value (below) c.in-Some-take.ensures refl
      (omega (arith, c.in_ok-inner-2.ensures))
      ∙ c.in_ok-fields.ensures.runs outer (s.only k.BracketClose ∷ below) (omega (arith, c.in_ok-inner-2.ensures))
      ∙ c.in_ok-end.ensures.runs outer (below) (omega (arith, c.in_ok-inner-2.ensures));
  reads =
      respelled (ap value_parts (sym (view-Record kept_place c.in_ok-fields.fields)))
      (marked c.in-Some-take.ensures (then c.in_ok-fields.ensures.reads (marked c.in_ok-end.ensures.reads nothing)));
}

pub value-returns-in_err-path : goal.value-returns-in_err-path
unfolding move depth
value-returns-in_err-path t c = record {
  runs =
      λ outer below h. exits _ _ _ _ _ _ _ c.from_residual-in_err-path.ensures.1
      (along _ _ _ (takes_row outer c.args.reader.now.end s.value (below) c.in-Some-take-2.ensures refl (omega arith))
      (c.in_err-path.ensures.runs outer (below) (omega arith)));
  reads = no_reads _ _ _ c.from_residual-in_err-path.ensures.1;
}

pub value-returns-in-Some-take-2 : goal.value-returns-in-Some-take-2
unfolding move depth
value-returns-in-Some-take-2 t c = record {
  runs =
      λ outer below h. takes_row outer c.args.reader.now.end s.value (below) c.in-Some-take-2.ensures refl (omega arith)
      ∙ c.in_ok-path.ensures.runs outer (below) (omega arith);
  reads =
      respelled
      (ap (λ x. value_parts (reference (path_view kept_place x))) (sym c.in_ok-boxed.ensures.ok)
      ∙ ap value_parts (sym (view-Reference kept_place c.in_ok-boxed.boxed)))
      (marked c.in-Some-take-2.ensures c.in_ok-path.ensures.reads);
}

pub value-returns-in_err-classifier : goal.value-returns-in_err-classifier
unfolding move depth
value-returns-in_err-classifier t c = record {
  runs =
      λ outer below h. exits _ _ _ _ _ _ _ c.from_residual-in_err-classifier.ensures.1
      (along _ _ _ (takes_row outer c.args.reader.now.end s.value (below) c.in-Some-take-3.ensures refl (omega arith))
      (c.in_err-classifier.ensures.runs outer (below) (omega arith)));
  reads = no_reads _ _ _ c.from_residual-in_err-classifier.ensures.1;
}

pub value-returns-in-Some-take-3 : goal.value-returns-in-Some-take-3
unfolding move depth
value-returns-in-Some-take-3 t c = record {
  runs =
      λ outer below h. takes_row outer c.args.reader.now.end s.value (below) c.in-Some-take-3.ensures refl (omega arith)
      ∙ c.in_ok-classifier.ensures.runs outer (below) (omega arith);
  reads =
      respelled
      (ap (λ x. value_parts (classifier (reference_view kept_place x))) (sym c.in_ok-boxed-2.ensures.ok)
      ∙ ap value_parts (sym (view-Classifier kept_place c.in_ok-boxed-2.boxed)))
      (marked c.in-Some-take-3.ensures c.in_ok-classifier.ensures.reads);
}

pub value-plain_value-requires : goal.value-plain_value-requires
unfolding move depth
value-plain_value-requires t c = (
  c.in_default.ensures,
  (
    c.in_default-take.ensures,
    (c.in_default-take-2.ensures, (c.in_default-take-3.ensures, tt)),
  ),
)

pub value-returns : goal.value-returns
unfolding move depth
value-returns t c = with_room c.args.room c.plain_value.ensures

pub association-returns-in_err-name : goal.association-returns-in_err-name
unfolding move depth
association-returns-in_err-name t c = record {
  runs =
      λ outer below h. exits _ _ _ _ _ _ _ c.from_residual.ensures.1
      (along _ _ _ (begins_as outer c.args.reader.now.end s.association s.name
      (s.operator ∷ s.constant ∷ s.value ∷ s.applies ∷ s.only k.Semicolon ∷ []) (below)
      (here c.args.reader.now c.args.at) refl refl refl)
      (c.in_err-name.ensures.runs outer
      (s.operator ∷ s.constant ∷ s.value ∷ s.applies ∷ s.only k.Semicolon ∷ below) (omega arith)));
  reads = no_reads _ _ _ c.from_residual.ensures.1;
}

pub association-returns-in_err-operator : goal.association-returns-in_err-operator
unfolding move depth
association-returns-in_err-operator t c = record {
  runs =
      λ outer below h. exits _ _ _ _ _ _ _ c.from_residual-in_err-operator.ensures.1
      (along _ _ _ (begins_as outer c.args.reader.now.end s.association s.name
      (s.operator ∷ s.constant ∷ s.value ∷ s.applies ∷ s.only k.Semicolon ∷ []) (below)
      (here c.args.reader.now c.args.at) refl refl refl
      ∙ c.in_ok-name.ensures.runs outer (s.operator ∷ s.constant ∷ s.value ∷ s.applies ∷ s.only k.Semicolon ∷ below)
      (omega arith)) (c.in_err-operator.ensures.runs outer
      (s.constant ∷ s.value ∷ s.applies ∷ s.only k.Semicolon ∷ below) (omega arith)));
  reads = no_reads _ _ _ c.from_residual-in_err-operator.ensures.1;
}

pub association-returns-in_err-value : goal.association-returns-in_err-value
unfolding move depth
association-returns-in_err-value t c = record {
  runs =
      λ outer below h. exits _ _ _ _ _ _ _ c.from_residual-in_err-value.ensures.1
      (along _ _ _ (begins_as outer c.args.reader.now.end s.association s.name
      (s.operator ∷ s.constant ∷ s.value ∷ s.applies ∷ s.only k.Semicolon ∷ []) (below)
      (here c.args.reader.now c.args.at) refl refl refl
      ∙ c.in_ok-name.ensures.runs outer (s.operator ∷ s.constant ∷ s.value ∷ s.applies ∷ s.only k.Semicolon ∷ below)
      (omega arith)
      ∙ c.in_ok-operator.ensures.runs outer (s.constant ∷ s.value ∷ s.applies ∷ s.only k.Semicolon ∷ below)
      (omega arith)
      ∙ flag_runs outer c.args.reader.now.end s.constant (s.value ∷ s.applies ∷ s.only k.Semicolon ∷ below) k.Constant
      c.has-constant.result.0 (here c.args.reader.now c.in_ok-operator.next)
      (here c.args.reader.now c.has-constant.result.1) refl refl refl (omega arith) c.has-constant.ensures)
      (c.in_err-value.ensures.runs outer (s.applies ∷ s.only k.Semicolon ∷ below) (omega arith)));
  reads = no_reads _ _ _ c.from_residual-in_err-value.ensures.1;
}

pub association-returns-in_err-applies_to : goal.association-returns-in_err-applies_to
unfolding move depth
association-returns-in_err-applies_to t c = record {
  runs =
      λ outer below h. exits _ _ _ _ _ _ _ c.from_residual-in_err-applies_to.ensures.1
      (along _ _ _ (begins_as outer c.args.reader.now.end s.association s.name
      (s.operator ∷ s.constant ∷ s.value ∷ s.applies ∷ s.only k.Semicolon ∷ []) (below)
      (here c.args.reader.now c.args.at) refl refl refl
      ∙ c.in_ok-name.ensures.runs outer (s.operator ∷ s.constant ∷ s.value ∷ s.applies ∷ s.only k.Semicolon ∷ below)
      (omega arith)
      ∙ c.in_ok-operator.ensures.runs outer (s.constant ∷ s.value ∷ s.applies ∷ s.only k.Semicolon ∷ below)
      (omega arith)
      ∙ flag_runs outer c.args.reader.now.end s.constant (s.value ∷ s.applies ∷ s.only k.Semicolon ∷ below) k.Constant
      c.has-constant.result.0 (here c.args.reader.now c.in_ok-operator.next)
      (here c.args.reader.now c.has-constant.result.1) refl refl refl (omega arith) c.has-constant.ensures
      ∙ c.in_ok-value.ensures.runs outer (s.applies ∷ s.only k.Semicolon ∷ below) (omega arith))
      (c.in_err-applies_to.ensures.runs outer (s.only k.Semicolon ∷ below) (omega arith)));
  reads = no_reads _ _ _ c.from_residual-in_err-applies_to.ensures.1;
}

pub association-returns-in_err-end : goal.association-returns-in_err-end
unfolding move depth
association-returns-in_err-end t c = record {
  runs =
      λ outer below h. exits _ _ _ _ _ _ _ c.from_residual-in_err-end.ensures.1
      (along _ _ _ (begins_as outer c.args.reader.now.end s.association s.name
      (s.operator ∷ s.constant ∷ s.value ∷ s.applies ∷ s.only k.Semicolon ∷ []) (below)
      (here c.args.reader.now c.args.at) refl refl refl
      ∙ c.in_ok-name.ensures.runs outer (s.operator ∷ s.constant ∷ s.value ∷ s.applies ∷ s.only k.Semicolon ∷ below)
      (omega arith)
      ∙ c.in_ok-operator.ensures.runs outer (s.constant ∷ s.value ∷ s.applies ∷ s.only k.Semicolon ∷ below)
      (omega arith)
      ∙ flag_runs outer c.args.reader.now.end s.constant (s.value ∷ s.applies ∷ s.only k.Semicolon ∷ below) k.Constant
      c.has-constant.result.0 (here c.args.reader.now c.in_ok-operator.next)
      (here c.args.reader.now c.has-constant.result.1) refl refl refl (omega arith) c.has-constant.ensures
      ∙ c.in_ok-value.ensures.runs outer (s.applies ∷ s.only k.Semicolon ∷ below) (omega arith)
      ∙ c.in_ok-applies_to.ensures.runs outer (s.only k.Semicolon ∷ below) (omega arith))
      (c.in_err-end.ensures.runs outer (below) (omega arith)));
  reads = no_reads _ _ _ c.from_residual-in_err-end.ensures.1;
}

pub association-returns : goal.association-returns
unfolding move depth
association-returns t c = record {
  runs =
      λ outer below h. begins_as outer c.args.reader.now.end s.association s.name
      (s.operator ∷ s.constant ∷ s.value ∷ s.applies ∷ s.only k.Semicolon ∷ []) (below)
      (here c.args.reader.now c.args.at) refl refl refl
      ∙ c.in_ok-name.ensures.runs outer (s.operator ∷ s.constant ∷ s.value ∷ s.applies ∷ s.only k.Semicolon ∷ below)
      (omega arith)
      ∙ c.in_ok-operator.ensures.runs outer (s.constant ∷ s.value ∷ s.applies ∷ s.only k.Semicolon ∷ below)
      (omega arith)
      ∙ flag_runs outer c.args.reader.now.end s.constant (s.value ∷ s.applies ∷ s.only k.Semicolon ∷ below) k.Constant
      c.has-constant.result.0 (here c.args.reader.now c.in_ok-operator.next)
      (here c.args.reader.now c.has-constant.result.1) refl refl refl (omega arith) c.has-constant.ensures
      ∙ c.in_ok-value.ensures.runs outer (s.applies ∷ s.only k.Semicolon ∷ below) (omega arith)
      ∙ c.in_ok-applies_to.ensures.runs outer (s.only k.Semicolon ∷ below) (omega arith)
      ∙ c.in_ok-end.ensures.runs outer (below) (omega arith);
  reads =
      respelled (ap association_parts
      (sym (view-association kept_place c.in_ok-name.name c.in_ok-operator.operator c.has-constant.result.0
      c.in_ok-value.value c.in_ok-applies_to.applies_to)))
      (then c.in_ok-name.ensures.reads
      (then c.in_ok-operator.ensures.reads
      (then (flagged k.Constant c.has-constant.result.0 c.has-constant.ensures)
      (then c.in_ok-value.ensures.reads
      (then c.in_ok-applies_to.ensures.reads
      (marked c.in_ok-end.ensures.reads nothing))))));
}

pub associations-returns-in_err-next : goal.associations-returns-in_err-next
unfolding move depth
associations-returns-in_err-next t c = record {
  runs =
      λ outer below h. exits _ _ _ _ _ _ _ c.from_residual-in_err-next.ensures.1
      (along _ _ _ (c.loop-found.invariant.runs outer below (omega arith)
      ∙ enters_as outer c.args.reader.now.end s.associations s.association (s.associations ∷ []) (below) refl refl
      (starts_at (rw c.loop-found-test.true at c.is_word.ensures)) refl)
      (c.in_err-next.ensures.runs outer (s.associations ∷ below) (omega arith)));
  reads = no_reads _ _ _ c.from_residual-in_err-next.ensures.1;
}

pub associations-loop-found-preserved : goal.associations-loop-found-preserved
unfolding move depth
associations-loop-found-preserved t c = record {
  runs = λ outer below h. c.loop-found.invariant.runs outer below (omega arith)
      ∙ enters_as outer c.args.reader.now.end s.associations s.association (s.associations ∷ []) (below) refl refl
      (starts_at (rw c.loop-found-test.true at c.is_word.ensures)) refl
      ∙ c.in_ok-next.ensures.runs outer (s.associations ∷ below) (omega arith);
  reads =
      associations_push c.loop-found.found.items c.push.new.self.items c.in_ok-next.next c.in_ok-push.ensures.items
      c.loop-found.invariant.reads c.in_ok-next.ensures.reads;
}

pub associations-returns : goal.associations-returns
unfolding move depth
associations-returns t c = record {
  runs = λ outer below h. c.loop-found.invariant.runs outer below (omega arith)
      ∙ omits_unless outer c.args.reader.now.end s.associations (below) (here c.args.reader.now c.loop-found.rest) refl
      (rw c.loop-found-test.false at c.is_word.ensures, tt);
  reads =
      respelled (sym (ap (λ l. associations_parts (associations_view kept_place l)) c.shrink_to_fit.ensures.items))
      c.loop-found.invariant.reads;
}

pub associations-loop-found-smaller : goal.associations-loop-found-smaller
unfolding move depth
associations-loop-found-smaller t c = association_begun c.in_ok-next.next c.in_ok-next.ensures.reads
