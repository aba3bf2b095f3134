use mir.Syntax.{w64}
use mir.Val.{to_z, of_z, SFits}
use Rattle.std.proofs.Common.{◌≡◌, ◌∙◌, ◌∷◌, [], ◌++◌, ap, sym, refl, arith, true, false, rules, to_z-of_z, Some, None}
use Rattle.aadl_grammar.specs.proof.ParserAnswers.{here}
use Rattle.aadl_grammar.proofs.TopSymbolMoves.{takes_row, deep_row, omits_unless, refuses_unless, begins_as}
use Rattle.aadl_grammar.proofs.TopSymbolMoves.{begins_past, a_word_at}
use Rattle.aadl_grammar.proofs.ParserFaults.{along, exits, no_reads, too_deep}
use Rattle.aadl_grammar.proofs.PartSequences.{nothing, then, marked, named, respelled, shorter, placed_at}
use Rattle.aadl_tree.specs.SpellingParts.{token}
use Rattle.aadl_tree.specs.Terminals.{whole}
use Rattle.aadl_tree.specs.Expressions.{group, absolute, negated, compared, primary_parts, factor_parts, factors_parts}
use Rattle.aadl_tree.specs.Expressions.{term_parts, terms_parts, sum_parts, relation_parts, relations_parts}
use Rattle.aadl_tree.specs.Expressions.{expression_parts}
use Rattle.aadl_tree.specs.proof.ExpressionViews.{primary_view, factor_view, factors_view, term_view, terms_view}
use Rattle.aadl_tree.specs.proof.ExpressionViews.{sum_view, relation_view, relations_view, expression_view}
use Rattle.aadl_tree.specs.proof.PlaceMaps.{kept_place}
use Rattle.aadl_tree.proofs.ExpressionViews.{view-Whole, view-Truth, view-Named, view-Group, view-Abs, view-Not}
use Rattle.aadl_tree.proofs.ExpressionViews.{view-Plain, view-term, view-sum, view-relation, view-expression}
use Rattle.aadl_grammar.specs.proof.ParseTable.{on}
use Rattle.behaviour_parse.proofs.OperatorsAndOperands.{multiplies, sign_terms, sign_sum, compares, joined}
use Rattle.behaviour_parse.proofs.OperatorsAndOperands.{joined_reads, joined_shorter, factors_push, terms_push}
use Rattle.behaviour_parse.proofs.OperatorsAndOperands.{relations_push}
use Rattle.std.proofs.lemmas.List.{append-nil}
use Rattle.aadl_tree.specs.declared.mark.Mark.TheVariants as k
use Rattle.aadl_grammar.specs.proof.GrammarSymbols as s
use Rattle.aadl_grammar.specs.proof.StackMachine.{move, depth, syntax_at}
use Rattle.behaviour_parse.proofs.expressions.+expression.Goals as goal

pub primary-returns-in_err-deeper : goal.primary-returns-in_err-deeper
unfolding move depth
primary-returns-in_err-deeper t c = record {
  runs =
      λ outer below h. exits _ _ _ _ _ _ _ c.from_residual.ensures.1
      (too_deep _ _ _ c.in_err-deeper.ensures.1
      (deep_row outer c.args.reader.now.end s.primary (below) c.in-Some.ensures refl
      (omega (arith, c.in_err-deeper.ensures.0))));
  reads = no_reads _ _ _ c.from_residual.ensures.1;
}

pub primary-returns-in_err-inner : goal.primary-returns-in_err-inner
unfolding move depth
primary-returns-in_err-inner t c = record {
  runs =
      λ outer below h. exits _ _ _ _ _ _ _ c.from_residual-in_err-inner.ensures.1
      (along _ _ _ (takes_row outer c.args.reader.now.end s.primary (below) c.in-Some.ensures refl
      (omega (arith, c.in_ok-deeper.ensures)))
      (c.in_err-inner.ensures.runs outer (s.only k.ParenClose ∷ below)
      (omega (arith, c.in_ok-deeper.ensures))));
  reads = no_reads _ _ _ c.from_residual-in_err-inner.ensures.1;
}

pub primary-returns-in_err-end : goal.primary-returns-in_err-end
unfolding move depth
primary-returns-in_err-end t c = record {
  runs =
      λ outer below h. exits _ _ _ _ _ _ _ c.from_residual-in_err-end.ensures.1
      (along _ _ _ (takes_row outer c.args.reader.now.end s.primary (below) c.in-Some.ensures refl
      (omega (arith, c.in_ok-deeper.ensures))
      ∙ c.in_ok-inner.ensures.runs outer (s.only k.ParenClose ∷ below) (omega (arith, c.in_ok-deeper.ensures)))
      (c.in_err-end.ensures.runs outer (below) (omega (arith, c.in_ok-deeper.ensures))));
  reads = no_reads _ _ _ c.from_residual-in_err-end.ensures.1;
}

pub primary-returns-in-Some : goal.primary-returns-in-Some
unfolding move depth
primary-returns-in-Some t c = record {
  runs =
      λ outer below h. takes_row outer c.args.reader.now.end s.primary (below) c.in-Some.ensures refl
      (omega (arith, c.in_ok-deeper.ensures))
      ∙ c.in_ok-inner.ensures.runs outer (s.only k.ParenClose ∷ below) (omega (arith, c.in_ok-deeper.ensures))
      ∙ c.in_ok-end.ensures.runs outer (below) (omega (arith, c.in_ok-deeper.ensures));
  reads =
      respelled (ap primary_parts
      (ap (λ v. group c.place-place.result (expression_view kept_place v)) (sym c.in_ok-inner-2.ensures.ok)
      ∙ sym (view-Group kept_place c.place-place.result c.in_ok-inner-2.inner)))
      (placed_at c.place-place.result c.args.reader.now.end c.in-Some.ensures c.place-place.ensures
      (then c.in_ok-inner.ensures.reads (marked c.in_ok-end.ensures.reads nothing)));
}

pub primary-returns-in-Some-take : goal.primary-returns-in-Some-take
unfolding move depth
primary-returns-in-Some-take t c = record {
  runs =
      λ outer below h. takes_row outer c.args.reader.now.end s.primary (below) c.in-Some-take.ensures refl
      (omega arith);
  reads =
      respelled (ap primary_parts (sym (view-Truth kept_place c.place-place.result true)))
      (placed_at c.place-place.result c.args.reader.now.end c.in-Some-take.ensures c.place-place.ensures nothing);
}

pub primary-returns-in-Some-take-2 : goal.primary-returns-in-Some-take-2
unfolding move depth
primary-returns-in-Some-take-2 t c = record {
  runs =
      λ outer below h. takes_row outer c.args.reader.now.end s.primary (below) c.in-Some-take-2.ensures refl
      (omega arith);
  reads =
      respelled (ap primary_parts (sym (view-Truth kept_place c.place-place.result false)))
      (placed_at c.place-place.result c.args.reader.now.end c.in-Some-take-2.ensures c.place-place.ensures nothing);
}

pub primary-returns-in-Some-whole : goal.primary-returns-in-Some-whole
unfolding move depth
primary-returns-in-Some-whole t c = let f : SFits w64 c.in-Some-whole.value = search rules in
    let e : to_z w64 (of_z w64 c.in-Some-whole.value) ≡ c.in-Some-whole.value = grind (arith, to_z-of_z) in record {
      runs =
          λ outer below h. takes_row outer c.args.reader.now.end s.primary (below) c.in-Some-whole.ensures refl
          (omega arith);
      reads =
          respelled (ap (λ z. token (whole z) (c.place-place.result ∷ []) ∷ []) (sym e)
          ∙ ap primary_parts (sym (view-Whole kept_place c.place-place.result
          (to_z w64 (of_z w64 c.in-Some-whole.value)))))
          (placed_at c.place-place.result c.args.reader.now.end c.in-Some-whole.ensures
          c.place-place.ensures nothing);
    }

pub primary-returns-in_default-2 : goal.primary-returns-in_default-2
unfolding move depth
primary-returns-in_default-2 t c = record {
  runs =
      λ outer below h. refuses_unless outer c.args.reader.now.end s.primary (below) (here c.args.reader.now c.args.at)
      refl (
        c.in_default-whole.ensures,
        (
          c.in_default-take.ensures,
          (
            c.in_default-take-2.ensures,
            (rw c.in_default-2.is at c.in_ok-name.ensures.ok, (c.in_default.ensures, tt)),
          ),
        ),
      )
      ∙ ap syntax_at (sym c.place-place.ensures);
  reads = tt;
}

pub primary-returns-in_err-fresh : goal.primary-returns-in_err-fresh
unfolding move depth
primary-returns-in_err-fresh t c = record {
  runs =
      λ outer below h. exits _ _ _ _ _ _ _ c.from_residual-in_err-fresh.ensures.1
      (along _ _ _ (takes_row outer c.args.reader.now.end s.primary (below)
      (a_word_at (rw c.in-Some-2.is at c.in_ok-name.ensures.ok)) refl (omega arith))
      (c.in_err-fresh.ensures.runs outer (below) (omega arith)));
  reads = no_reads _ _ _ c.from_residual-in_err-fresh.ensures.1;
}

pub primary-returns : goal.primary-returns
unfolding move depth
primary-returns t c = record {
  runs =
      λ outer below h. takes_row outer c.args.reader.now.end s.primary (below)
      (a_word_at (rw c.in-Some-2.is at c.in_ok-name.ensures.ok)) refl (omega arith)
      ∙ c.in_ok-fresh.ensures.runs outer (below) (omega arith);
  reads =
      respelled (ap primary_parts (sym (view-Named kept_place c.in-Some-2.name c.in_ok-fresh.fresh)))
      (then (named (rw c.in-Some-2.is at c.in_ok-name.ensures.ok)) c.in_ok-fresh.ensures.reads);
}

pub factor-returns-in_err-operand : goal.factor-returns-in_err-operand
unfolding move depth
factor-returns-in_err-operand t c = record {
  runs =
      λ outer below h. exits _ _ _ _ _ _ _ c.from_residual.ensures.1
      (along _ _ _ (takes_row outer c.args.reader.now.end s.factor (below) c.in-Some.ensures refl (omega arith))
      (c.in_err-operand.ensures.runs outer (below) (omega arith)));
  reads = no_reads _ _ _ c.from_residual.ensures.1;
}

pub factor-returns-in-Some : goal.factor-returns-in-Some
unfolding move depth
factor-returns-in-Some t c = record {
  runs = λ outer below h. takes_row outer c.args.reader.now.end s.factor (below) c.in-Some.ensures refl (omega arith)
      ∙ c.in_ok-operand.ensures.runs outer (below) (omega arith);
  reads =
      respelled (ap (λ x. factor_parts (absolute c.place-place.result (primary_view kept_place x)))
      (sym c.in_ok-boxed.ensures.ok)
      ∙ ap factor_parts (sym (view-Abs kept_place c.place-place.result c.in_ok-boxed.boxed)))
      (placed_at c.place-place.result c.args.reader.now.end c.in-Some.ensures c.place-place.ensures
      c.in_ok-operand.ensures.reads);
}

pub factor-returns-in_err-operand-2 : goal.factor-returns-in_err-operand-2
unfolding move depth
factor-returns-in_err-operand-2 t c = record {
  runs =
      λ outer below h. exits _ _ _ _ _ _ _ c.from_residual-in_err-operand-2.ensures.1
      (along _ _ _ (takes_row outer c.args.reader.now.end s.factor (below) c.in-Some-take.ensures refl (omega arith))
      (c.in_err-operand-2.ensures.runs outer (below) (omega arith)));
  reads = no_reads _ _ _ c.from_residual-in_err-operand-2.ensures.1;
}

pub factor-returns-in-Some-take : goal.factor-returns-in-Some-take
unfolding move depth
factor-returns-in-Some-take t c = record {
  runs =
      λ outer below h. takes_row outer c.args.reader.now.end s.factor (below) c.in-Some-take.ensures refl (omega arith)
      ∙ c.in_ok-operand-2.ensures.runs outer (below) (omega arith);
  reads =
      respelled (ap (λ x. factor_parts (negated c.place-place.result (primary_view kept_place x)))
      (sym c.in_ok-boxed-2.ensures.ok)
      ∙ ap factor_parts (sym (view-Not kept_place c.place-place.result c.in_ok-boxed-2.boxed)))
      (placed_at c.place-place.result c.args.reader.now.end c.in-Some-take.ensures c.place-place.ensures
      c.in_ok-operand-2.ensures.reads);
}

pub factor-returns-in_err-operand-3 : goal.factor-returns-in_err-operand-3
unfolding move depth
factor-returns-in_err-operand-3 t c = record {
  runs =
      λ outer below h. exits _ _ _ _ _ _ _ c.from_residual-in_err-operand-3.ensures.1
      (along _ _ _ (begins_past outer c.args.reader.now.end s.factor s.primary
      (on k.Abs (s.primary ∷ []) ∷ on k.Not (s.primary ∷ []) ∷ []) ([]) (below) (here c.args.reader.now c.args.at)
      refl refl refl (c.in_default.ensures, (c.in_default-take.ensures, tt)))
      (c.in_err-operand-3.ensures.runs outer (below) (omega arith)));
  reads = no_reads _ _ _ c.from_residual-in_err-operand-3.ensures.1;
}

pub factor-returns : goal.factor-returns
unfolding move depth
factor-returns t c = record {
  runs =
      λ outer below h. begins_past outer c.args.reader.now.end s.factor s.primary
      (on k.Abs (s.primary ∷ []) ∷ on k.Not (s.primary ∷ []) ∷ []) ([]) (below) (here c.args.reader.now c.args.at) refl
      refl refl (c.in_default.ensures, (c.in_default-take.ensures, tt))
      ∙ c.in_ok-operand-3.ensures.runs outer (below) (omega arith);
  reads =
      respelled (ap factor_parts (sym (view-Plain kept_place c.in_ok-operand-3.operand)))
      c.in_ok-operand-3.ensures.reads;
}

pub term-returns-in_err-first : goal.term-returns-in_err-first
unfolding move depth
term-returns-in_err-first t c = record {
  runs =
      λ outer below h. exits _ _ _ _ _ _ _ c.from_residual.ensures.1
      (along _ _ _ (begins_as outer c.args.reader.now.end s.term s.factor (s.factors ∷ []) (below)
      (here c.args.reader.now c.args.at) refl refl refl)
      (c.in_err-first.ensures.runs outer (s.factors ∷ below) (omega arith)));
  reads = no_reads _ _ _ c.from_residual.ensures.1;
}

pub term-loop-operator-init : goal.term-loop-operator-init
unfolding move depth
term-loop-operator-init t c = record {
  runs =
      λ outer below h. begins_as outer c.args.reader.now.end s.term s.factor (s.factors ∷ []) (below)
      (here c.args.reader.now c.args.at) refl refl refl
      ∙ c.in_ok-first.ensures.runs outer (s.factors ∷ below) (omega arith);
  reads =
      respelled (sym (ap (λ l. factor_parts (factor_view kept_place c.in_ok-first.first)
      ++ factors_parts (factors_view kept_place l)) c.new-others.ensures.items
      ∙ append-nil (factor_parts (factor_view kept_place c.in_ok-first.first)))) c.in_ok-first.ensures.reads;
}

pub term-returns-in_err-operand : goal.term-returns-in_err-operand
unfolding move depth
term-returns-in_err-operand t c = record {
  runs =
      λ outer below h. exits _ _ _ _ _ _ _ c.from_residual-in_err-operand.ensures.1
      (along _ _ _ (c.loop-operator.invariant.runs outer below (omega arith)
      ∙ takes_row outer c.args.reader.now.end s.factors (below) c.in-Some.ensures (multiplies c.in-Some.operator)
      (omega arith)) (c.in_err-operand.ensures.runs outer (s.factors ∷ below) (omega arith)));
  reads = no_reads _ _ _ c.from_residual-in_err-operand.ensures.1;
}

pub term-loop-operator-preserved : goal.term-loop-operator-preserved
unfolding move depth
term-loop-operator-preserved t c = record {
  runs = λ outer below h. c.loop-operator.invariant.runs outer below (omega arith)
      ∙ takes_row outer c.args.reader.now.end s.factors (below) c.in-Some.ensures (multiplies c.in-Some.operator)
      (omega arith)
      ∙ c.in_ok-operand.ensures.runs outer (s.factors ∷ below) (omega arith);
  reads =
      factors_push (factor_parts (factor_view kept_place c.in_ok-first.first)) c.loop-operator.others.items
      c.push_compact.new.list.items c.in-Some.operator c.in_ok-operand.operand c.in_ok-push_compact.ensures
      c.loop-operator.invariant.reads (marked c.in-Some.ensures c.in_ok-operand.ensures.reads);
}

pub term-loop-operator-smaller : goal.term-loop-operator-smaller
unfolding move depth
term-loop-operator-smaller t c = shorter c.in-Some.ensures c.in_ok-operand.ensures.reads

pub term-returns : goal.term-returns
unfolding move depth
term-returns t c = record {
  runs = λ outer below h. c.loop-operator.invariant.runs outer below (omega arith)
      ∙ omits_unless outer c.args.reader.now.end s.factors (below) (here c.args.reader.now c.loop-operator.rest) refl
      (c.in_default.ensures);
  reads =
      respelled (ap term_parts (sym (view-term kept_place c.in_ok-first.first c.loop-operator.others)))
      c.loop-operator.invariant.reads;
}

pub terms-returns-in_err-first : goal.terms-returns-in_err-first
unfolding move depth
terms-returns-in_err-first t c = record {
  runs =
      λ outer below h. exits _ _ _ _ _ _ _ c.from_residual.ensures.1
      (c.in_err-first.ensures.runs outer (s.terms ∷ below) (omega arith));
  reads = no_reads _ _ _ c.from_residual.ensures.1;
}

pub terms-loop-sign-init : goal.terms-loop-sign-init
unfolding move depth
terms-loop-sign-init t c = record {
  runs = λ outer below h. c.in_ok-first.ensures.runs outer (s.terms ∷ below) (omega arith);
  reads =
      respelled (sym (ap (λ l. term_parts (term_view kept_place c.in_ok-first.first)
      ++ terms_parts (terms_view kept_place l)) c.new-others.ensures.items
      ∙ append-nil (term_parts (term_view kept_place c.in_ok-first.first)))) c.in_ok-first.ensures.reads;
}

pub terms-returns-in_err-next : goal.terms-returns-in_err-next
unfolding move depth
terms-returns-in_err-next t c = record {
  runs =
      λ outer below h. exits _ _ _ _ _ _ _ c.from_residual-in_err-next.ensures.1
      (along _ _ _ (c.loop-sign.invariant.runs outer below (omega arith)
      ∙ takes_row outer c.args.reader.now.end s.terms (below) c.in-Some.ensures (sign_terms c.in-Some.sign)
      (omega arith)) (c.in_err-next.ensures.runs outer (s.terms ∷ below) (omega arith)));
  reads = no_reads _ _ _ c.from_residual-in_err-next.ensures.1;
}

pub terms-loop-sign-preserved : goal.terms-loop-sign-preserved
unfolding move depth
terms-loop-sign-preserved t c = record {
  runs = λ outer below h. c.loop-sign.invariant.runs outer below (omega arith)
      ∙ takes_row outer c.args.reader.now.end s.terms (below) c.in-Some.ensures (sign_terms c.in-Some.sign)
      (omega arith)
      ∙ c.in_ok-next.ensures.runs outer (s.terms ∷ below) (omega arith);
  reads =
      terms_push (term_parts (term_view kept_place c.in_ok-first.first)) c.loop-sign.others.items
      c.push_compact.new.list.items c.in-Some.sign c.in_ok-next.next c.in_ok-push_compact.ensures
      c.loop-sign.invariant.reads (marked c.in-Some.ensures c.in_ok-next.ensures.reads);
}

pub terms-loop-sign-smaller : goal.terms-loop-sign-smaller
unfolding move depth
terms-loop-sign-smaller t c = shorter c.in-Some.ensures c.in_ok-next.ensures.reads

pub terms-returns : goal.terms-returns
unfolding move depth
terms-returns t c = record {
  runs = λ outer below h. c.loop-sign.invariant.runs outer below (omega arith)
      ∙ omits_unless outer c.args.reader.now.end s.terms (below) (here c.args.reader.now c.loop-sign.rest) refl
      (c.in_default.ensures);
  reads = c.loop-sign.invariant.reads;
}

pub sum-returns-in_err-first : goal.sum-returns-in_err-first
unfolding move depth
sum-returns-in_err-first t c = record {
  runs =
      λ outer below h. exits _ _ _ _ _ _ _ c.from_residual.ensures.1
      (along _ _ _ (begins_past outer c.args.reader.now.end s.sum s.term
      (on k.Plus (s.term ∷ s.terms ∷ []) ∷ on k.Minus (s.term ∷ s.terms ∷ []) ∷ []) (s.terms ∷ []) (below)
      (here c.args.reader.now c.args.at) refl refl refl (c.in_default.ensures))
      (c.in_err-first.ensures.runs outer (below) (omega arith)));
  reads = no_reads _ _ _ c.from_residual.ensures.1;
}

pub sum-returns-in_default : goal.sum-returns-in_default
unfolding move depth
sum-returns-in_default t c = record {
  runs =
      λ outer below h. begins_past outer c.args.reader.now.end s.sum s.term
      (on k.Plus (s.term ∷ s.terms ∷ []) ∷ on k.Minus (s.term ∷ s.terms ∷ []) ∷ []) (s.terms ∷ []) (below)
      (here c.args.reader.now c.args.at) refl refl refl (c.in_default.ensures)
      ∙ c.in_ok-first.ensures.runs outer (below) (omega arith);
  reads =
      respelled (ap sum_parts (sym (view-sum kept_place None c.in_ok-first.first c.in_ok-first.rest)))
      c.in_ok-first.ensures.reads;
}

pub sum-returns-in_err-first-2 : goal.sum-returns-in_err-first-2
unfolding move depth
sum-returns-in_err-first-2 t c = record {
  runs =
      λ outer below h. exits _ _ _ _ _ _ _ c.from_residual-in_err-first-2.ensures.1
      (along _ _ _ (takes_row outer c.args.reader.now.end s.sum (below) c.in-Some.ensures (sign_sum c.in-Some.sign)
      (omega arith)) (c.in_err-first-2.ensures.runs outer (below) (omega arith)));
  reads = no_reads _ _ _ c.from_residual-in_err-first-2.ensures.1;
}

pub sum-returns : goal.sum-returns
unfolding move depth
sum-returns t c = record {
  runs =
      λ outer below h. takes_row outer c.args.reader.now.end s.sum (below) c.in-Some.ensures (sign_sum c.in-Some.sign)
      (omega arith)
      ∙ c.in_ok-first-2.ensures.runs outer (below) (omega arith);
  reads =
      respelled (ap sum_parts (sym
      (view-sum kept_place (Some (record { at = c.in_ok-at.at; sign = c.in-Some.sign })) c.in_ok-first-2.first
      c.in_ok-first-2.rest))) (placed_at c.in_ok-at.at c.args.reader.now.end c.in-Some.ensures
      (c.in_ok-at.ensures ∙ c.place-place.ensures) c.in_ok-first-2.ensures.reads);
}

pub relation-returns-in_err-left : goal.relation-returns-in_err-left
unfolding move depth
relation-returns-in_err-left t c = record {
  runs =
      λ outer below h. exits _ _ _ _ _ _ _ c.from_residual.ensures.1
      (along _ _ _ (begins_as outer c.args.reader.now.end s.relation s.sum (s.compared ∷ []) (below)
      (here c.args.reader.now c.args.at) refl refl refl)
      (c.in_err-left.ensures.runs outer (s.compared ∷ below) (omega arith)));
  reads = no_reads _ _ _ c.from_residual.ensures.1;
}

pub relation-returns-in_default : goal.relation-returns-in_default
unfolding move depth
relation-returns-in_default t c = record {
  runs =
      λ outer below h. begins_as outer c.args.reader.now.end s.relation s.sum (s.compared ∷ []) (below)
      (here c.args.reader.now c.args.at) refl refl refl
      ∙ c.in_ok-left.ensures.runs outer (s.compared ∷ below) (omega arith)
      ∙ omits_unless outer c.args.reader.now.end s.compared (below) (here c.args.reader.now c.in_ok-left.next) refl
      (c.in_default.ensures);
  reads =
      respelled (ap relation_parts (sym (view-relation kept_place c.in_ok-left.left None))) c.in_ok-left.ensures.reads;
}

pub relation-returns-in_err-right : goal.relation-returns-in_err-right
unfolding move depth
relation-returns-in_err-right t c = record {
  runs =
      λ outer below h. exits _ _ _ _ _ _ _ c.from_residual-in_err-right.ensures.1
      (along _ _ _ (begins_as outer c.args.reader.now.end s.relation s.sum (s.compared ∷ []) (below)
      (here c.args.reader.now c.args.at) refl refl refl
      ∙ c.in_ok-left.ensures.runs outer (s.compared ∷ below) (omega arith)
      ∙ takes_row outer c.args.reader.now.end s.compared (below) c.in-Some.ensures (compares c.in-Some.operator)
      (omega arith)) (c.in_err-right.ensures.runs outer (below) (omega arith)));
  reads = no_reads _ _ _ c.from_residual-in_err-right.ensures.1;
}

pub relation-returns : goal.relation-returns
unfolding move depth
relation-returns t c = record {
  runs =
      λ outer below h. begins_as outer c.args.reader.now.end s.relation s.sum (s.compared ∷ []) (below)
      (here c.args.reader.now c.args.at) refl refl refl
      ∙ c.in_ok-left.ensures.runs outer (s.compared ∷ below) (omega arith)
      ∙ takes_row outer c.args.reader.now.end s.compared (below) c.in-Some.ensures (compares c.in-Some.operator)
      (omega arith)
      ∙ c.in_ok-right.ensures.runs outer (below) (omega arith);
  reads =
      respelled (ap (λ p. relation_parts
      (compared (sum_view kept_place c.in_ok-left.left) p.0 (sum_view kept_place p.1)))
      (sym c.in_ok-other.ensures.ok)
      ∙ ap relation_parts (sym (view-relation kept_place c.in_ok-left.left (Some c.in_ok-other.other))))
      (then c.in_ok-left.ensures.reads (marked c.in-Some.ensures c.in_ok-right.ensures.reads));
}

pub expression-returns-in_err-first : goal.expression-returns-in_err-first
unfolding move depth
expression-returns-in_err-first t c = record {
  runs =
      λ outer below h. exits _ _ _ _ _ _ _ c.from_residual.ensures.1
      (along _ _ _ (begins_as outer c.args.reader.now.end s.expression s.relation (s.relations ∷ []) (below)
      (here c.args.reader.now c.args.at) refl refl refl)
      (c.in_err-first.ensures.runs outer (s.relations ∷ below) (omega arith)));
  reads = no_reads _ _ _ c.from_residual.ensures.1;
}

pub expression-loop-operator-init : goal.expression-loop-operator-init
unfolding move depth
expression-loop-operator-init t c = record {
  runs =
      λ outer below h. begins_as outer c.args.reader.now.end s.expression s.relation (s.relations ∷ []) (below)
      (here c.args.reader.now c.args.at) refl refl refl
      ∙ c.in_ok-first.ensures.runs outer (s.relations ∷ below) (omega arith);
  reads =
      respelled (sym (ap (λ l. relation_parts (relation_view kept_place c.in_ok-first.first)
      ++ relations_parts (relations_view kept_place l)) c.new-others.ensures.items
      ∙ append-nil (relation_parts (relation_view kept_place c.in_ok-first.first))))
      c.in_ok-first.ensures.reads;
}

pub expression-returns-in_err-next : goal.expression-returns-in_err-next
unfolding move depth
expression-returns-in_err-next t c = record {
  runs =
      λ outer below h. exits _ _ _ _ _ _ _ c.from_residual-in_err-next.ensures.1
      (along _ _ _ (c.loop-operator.invariant.runs outer below (omega arith)
      ∙ joined c.in-Some.operator outer c.args.reader.now.end below (here c.args.reader.now c.loop-operator.rest)
      (here c.args.reader.now c.in-Some.behind) (omega arith) c.in-Some.ensures)
      (c.in_err-next.ensures.runs outer (s.relations ∷ below) (omega arith)));
  reads = no_reads _ _ _ c.from_residual-in_err-next.ensures.1;
}

pub expression-loop-operator-preserved : goal.expression-loop-operator-preserved
unfolding move depth
expression-loop-operator-preserved t c = record {
  runs = λ outer below h. c.loop-operator.invariant.runs outer below (omega arith)
      ∙ joined c.in-Some.operator outer c.args.reader.now.end below (here c.args.reader.now c.loop-operator.rest)
      (here c.args.reader.now c.in-Some.behind) (omega arith) c.in-Some.ensures
      ∙ c.in_ok-next.ensures.runs outer (s.relations ∷ below) (omega arith);
  reads =
      relations_push (relation_parts (relation_view kept_place c.in_ok-first.first)) c.loop-operator.others.items
      c.push_compact.new.list.items c.in-Some.operator c.in_ok-next.next c.in_ok-push_compact.ensures
      c.loop-operator.invariant.reads (joined_reads c.in-Some.operator c.in-Some.ensures c.in_ok-next.ensures.reads);
}

pub expression-loop-operator-smaller : goal.expression-loop-operator-smaller
unfolding move depth
expression-loop-operator-smaller t c =
    joined_shorter c.in-Some.operator (here c.args.reader.now c.loop-operator.rest)
    (here c.args.reader.now c.in-Some.behind) (here c.args.reader.now c.in_ok-next.behind) c.in-Some.ensures
    c.in_ok-next.ensures.reads

pub expression-returns : goal.expression-returns
unfolding move depth
expression-returns t c = record {
  runs = λ outer below h. c.loop-operator.invariant.runs outer below (omega arith)
      ∙ omits_unless outer c.args.reader.now.end s.relations (below) (here c.args.reader.now c.loop-operator.rest) refl
      (c.in_default.ensures);
  reads =
      respelled (ap expression_parts (sym (view-expression kept_place c.in_ok-first.first c.loop-operator.others)))
      c.loop-operator.invariant.reads;
}
