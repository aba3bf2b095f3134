use Rattle.std.proofs.Common.{◌≡◌, ℕ, ◌+◌, ◌*◌, ◌∷◌, ◌++◌, length}
use Rattle.aadl_tree.specs.Expressions.{factor_parts, factors_parts, term_parts, terms_parts, relation_parts}
use Rattle.aadl_tree.specs.Expressions.{relations_parts}
use Rattle.aadl_tree.specs.proof.ExpressionViews.{factor_view, factors_view, term_view, terms_view, relation_view}
use Rattle.aadl_tree.specs.proof.ExpressionViews.{relations_view}
use Rattle.aadl_tree.specs.proof.PlaceMaps.{kept_place}
use Rattle.aadl_tree.specs.declared.nesting_limit.TheConstants.{GREATEST_NESTING}
use Rattle.aadl_grammar.specs.proof.GrammarSymbols as s
use Rattle.aadl_grammar.specs.proof.StackMachine.{Stack, depth, fate}
use Rattle.aadl_grammar.specs.proof.ParserAnswers.{here, Reads}
use Rattle.behaviour_parse.proofs.expressions.+expression.Given as goal

abbrev pub decreases-primary : goal.decreases-primary
decreases-primary l = 8 * l.room + 0

abbrev pub decreases-factor : goal.decreases-factor
decreases-factor l = 8 * l.room + 1

abbrev pub decreases-term : goal.decreases-term
decreases-term l = 8 * l.room + 2

abbrev pub decreases-terms : goal.decreases-terms
decreases-terms l = 8 * l.room + 3

abbrev pub decreases-sum : goal.decreases-sum
decreases-sum l = 8 * l.room + 4

abbrev pub decreases-relation : goal.decreases-relation
decreases-relation l = 8 * l.room + 5

abbrev pub decreases-expression : goal.decreases-expression
decreases-expression l = 8 * l.room + 6

abbrev pub invariant-term-loop-operator : goal.invariant-term-loop-operator
invariant-term-loop-operator l = record {
  runs : (outer : ℕ) (below : Stack) → outer + depth below + l.room ≡ GREATEST_NESTING
      → fate outer l.reader.end (s.term ∷ below) (here l.reader l.at)
      ≡ fate outer l.reader.end (s.factors ∷ below) (here l.reader l.rest);
  reads : Reads (factor_parts (factor_view kept_place l.first)
      ++ factors_parts (factors_view kept_place l.others.items)) (here l.reader l.at) (here l.reader l.rest);
}

abbrev pub decreases-term-loop-operator : goal.decreases-term-loop-operator
decreases-term-loop-operator l = length (here l.reader l.rest)

abbrev pub invariant-terms-loop-sign : goal.invariant-terms-loop-sign
invariant-terms-loop-sign l = record {
  runs : (outer : ℕ) (below : Stack) → outer + depth below + l.room ≡ GREATEST_NESTING
      → fate outer l.reader.end (s.term ∷ s.terms ∷ below) (here l.reader l.at)
      ≡ fate outer l.reader.end (s.terms ∷ below) (here l.reader l.rest);
  reads : Reads (term_parts (term_view kept_place l.first) ++ terms_parts (terms_view kept_place l.others.items))
      (here l.reader l.at) (here l.reader l.rest);
}

abbrev pub decreases-terms-loop-sign : goal.decreases-terms-loop-sign
decreases-terms-loop-sign l = length (here l.reader l.rest)

abbrev pub invariant-expression-loop-operator : goal.invariant-expression-loop-operator
invariant-expression-loop-operator l = record {
  runs : (outer : ℕ) (below : Stack) → outer + depth below + l.room ≡ GREATEST_NESTING
      → fate outer l.reader.end (s.expression ∷ below) (here l.reader l.at)
      ≡ fate outer l.reader.end (s.relations ∷ below) (here l.reader l.rest);
  reads : Reads (relation_parts (relation_view kept_place l.first)
      ++ relations_parts (relations_view kept_place l.others.items)) (here l.reader l.at) (here l.reader l.rest);
}

abbrev pub decreases-expression-loop-operator : goal.decreases-expression-loop-operator
decreases-expression-loop-operator l = length (here l.reader l.rest)
