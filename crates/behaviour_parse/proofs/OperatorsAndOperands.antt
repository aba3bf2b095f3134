-- Operators and the operands after them.
use Rattle.std.proofs.Common.{◌≡◌, ℕ, ◌+◌, ◌<◌, ◌≤◌, ◌∙◌, sym, ap, refl, List, [], ◌∷◌, ◌++◌, length, append_assoc}
use Rattle.std.proofs.Common.{arith}
use Rattle.std.proofs.lemmas.List.{append-nil}
use Rattle.aadl_tree.specs.declared.mark.Mark.TheVariants as k
use Rattle.aadl_tree.specs.declared.expressions.Sign.{Sign}
use Rattle.aadl_tree.specs.declared.expressions.Sign.TheVariants as signs
use Rattle.aadl_tree.specs.declared.expressions.MultiplyOperator.{MultiplyOperator}
use Rattle.aadl_tree.specs.declared.expressions.MultiplyOperator.TheVariants as multiply
use Rattle.aadl_tree.specs.declared.expressions.RelationOperator.{RelationOperator}
use Rattle.aadl_tree.specs.declared.expressions.RelationOperator.TheVariants as compare
use Rattle.aadl_tree.specs.declared.expressions.LogicOperator.{LogicOperator}
use Rattle.aadl_tree.specs.declared.expressions.LogicOperator.TheVariants as logic
use Rattle.aadl_tree.specs.declared.expressions.Factor.{Factor}
use Rattle.aadl_tree.specs.declared.expressions.Term.{Term}
use Rattle.aadl_tree.specs.declared.expressions.Relation.{Relation}
use Rattle.aadl_tree.specs.Terminals.{mark, PlacedTerminal}
use Rattle.aadl_tree.specs.SpellingParts.{SpellingPart, plain}
use Rattle.aadl_tree.specs.Values.{sign_mark}
use Rattle.aadl_tree.specs.Expressions as e
use Rattle.aadl_tree.specs.proof.ExpressionViews.{factor_view, factors_view, term_view, terms_view, relation_view}
use Rattle.aadl_tree.specs.proof.ExpressionViews.{relations_view}
use Rattle.aadl_tree.specs.proof.PlaceMaps.{kept_place}
use Rattle.aadl_tree.specs.declared.nesting_limit.TheConstants.{GREATEST_NESTING}
use Rattle.aadl_grammar.specs.proof.GrammarSymbols as s
use Rattle.aadl_grammar.specs.proof.ParseTable.{on}
use Rattle.aadl_grammar.specs.proof.StackMachine.{Stack, takes, move, depth, fate}
use Rattle.aadl_grammar.specs.proof.ParserAnswers.{Reads}
use Rattle.aadl_grammar.proofs.TopSymbolMoves.{takes_row, begins_past}
use Rattle.aadl_grammar.proofs.PartSequences.{marked, respelled, regroup, shorter}
use Rattle.behaviour_parse.specs.proof.LogicOperators.{Joins}

pub multiplies : (o : MultiplyOperator) → move s.factors (mark (e.multiply_mark o)) ≡ takes (s.factor ∷ s.factors ∷ [])
unfolding move
multiplies multiply.Times = refl
multiplies multiply.Divide = refl
multiplies multiply.Mod = refl
multiplies multiply.Rem = refl

pub sign_terms : (o : Sign) → move s.terms (mark (sign_mark o)) ≡ takes (s.term ∷ s.terms ∷ [])
unfolding move
sign_terms signs.Plus = refl
sign_terms signs.Minus = refl

pub sign_sum : (o : Sign) → move s.sum (mark (sign_mark o)) ≡ takes (s.term ∷ s.terms ∷ [])
unfolding move
sign_sum signs.Plus = refl
sign_sum signs.Minus = refl

pub compares : (o : RelationOperator) → move s.compared (mark (e.relation_mark o)) ≡ takes (s.sum ∷ [])
unfolding move
compares compare.Equal = refl
compares compare.NotEqual = refl
compares compare.Less = refl
compares compare.LessOrEqual = refl
compares compare.Greater = refl
compares compare.GreaterOrEqual = refl

pub joined : (o : LogicOperator) (outer end : ℕ) (below : Stack) (ss rest : List PlacedTerminal)
    → outer + depth below ≤ GREATEST_NESTING → Joins o ss rest
    → fate outer end (s.relations ∷ below) ss ≡ fate outer end (s.relation ∷ s.relations ∷ below) rest
unfolding move depth
joined logic.And outer end below ss rest h (l, miss) =
    takes_row outer end s.relations below l refl (omega arith)
    ∙ begins_past outer end s.after_and s.relation (on k.Then (s.relation ∷ []) ∷ []) [] (s.relations ∷ below) rest
    refl refl refl (miss, tt)
joined logic.Or outer end below ss rest h (l, miss) =
    takes_row outer end s.relations below l refl (omega arith)
    ∙ begins_past outer end s.after_or s.relation (on k.Else (s.relation ∷ []) ∷ []) [] (s.relations ∷ below) rest
    refl refl refl (miss, tt)
joined logic.Xor outer end below ss rest h l = takes_row outer end s.relations below l refl (omega arith)
joined logic.AndThen outer end below ss rest h (mid, l, m) =
    takes_row outer end s.relations below l refl (omega arith)
    ∙ takes_row outer end s.after_and (s.relations ∷ below) m refl (omega arith)
joined logic.OrElse outer end below ss rest h (mid, l, m) =
    takes_row outer end s.relations below l refl (omega arith)
    ∙ takes_row outer end s.after_or (s.relations ∷ below) m refl (omega arith)

pub joined_reads : (o : LogicOperator) {ps : List (SpellingPart ℕ)} {ss mid rest : List PlacedTerminal} → Joins o ss mid
    → Reads ps mid rest → Reads (e.logic_parts o ++ ps) ss rest
joined_reads logic.And (l, miss) a = marked l a
joined_reads logic.Or (l, miss) a = marked l a
joined_reads logic.Xor l a = marked l a
joined_reads logic.AndThen (mid, l, m) a = marked l (marked m a)
joined_reads logic.OrElse (mid, l, m) a = marked l (marked m a)

pub joined_shorter : (o : LogicOperator) {ps : List (SpellingPart ℕ)} (ss mid rest : List PlacedTerminal)
    → Joins o ss mid
    → Reads ps mid rest → length rest < length ss
joined_shorter logic.And ss next rest (l, miss) a = shorter l a
joined_shorter logic.Or ss next rest (l, miss) a = shorter l a
joined_shorter logic.Xor ss next rest l a = shorter l a
joined_shorter logic.AndThen ss next rest (mid, l, m) a = shorter l (marked m a)
joined_shorter logic.OrElse ss next rest (mid, l, m) a = shorter l (marked m a)

factors_listed : (xs : List (MultiplyOperator × Factor)) (o : MultiplyOperator) (x : Factor)
    → e.factors_parts (factors_view kept_place (xs ++ (o, x) ∷ []))
    ≡ e.factors_parts (factors_view kept_place xs)
    ++ (plain (e.multiply_mark o) ∷ e.factor_parts (factor_view kept_place x))
factors_listed [] o x = ap (λ l. plain (e.multiply_mark o) ∷ l) (append-nil (e.factor_parts (factor_view kept_place x)))
factors_listed (y ∷ xs) o x =
    ap (λ l. plain (e.multiply_mark y.0) ∷ (e.factor_parts (factor_view kept_place y.1) ++ l)) (factors_listed xs o x)
    ∙ ap (λ l. plain (e.multiply_mark y.0) ∷ l)
    (sym (append_assoc (e.factor_parts (factor_view kept_place y.1)) (e.factors_parts (factors_view kept_place xs))
    (plain (e.multiply_mark o) ∷ e.factor_parts (factor_view kept_place x))))

pub factors_push : (ps : List (SpellingPart ℕ)) (xs ys : List (MultiplyOperator × Factor)) (o : MultiplyOperator)
    (x : Factor)
    {ss mid rest : List PlacedTerminal} → ys ≡ xs ++ (o, x) ∷ []
    → Reads (ps ++ e.factors_parts (factors_view kept_place xs)) ss mid
    → Reads (plain (e.multiply_mark o) ∷ e.factor_parts (factor_view kept_place x)) mid rest
    → Reads (ps ++ e.factors_parts (factors_view kept_place ys)) ss rest
factors_push ps xs ys o x q a b =
    respelled (ap (λ l. ps ++ l)
    (sym (ap (λ l. e.factors_parts (factors_view kept_place l)) q ∙ factors_listed xs o x)))
    (regroup ps (e.factors_parts (factors_view kept_place xs)) a b)

terms_listed : (xs : List (Sign × Term)) (o : Sign) (x : Term)
    → e.terms_parts (terms_view kept_place (xs ++ (o, x) ∷ []))
    ≡ e.terms_parts (terms_view kept_place xs) ++ (plain (sign_mark o) ∷ e.term_parts (term_view kept_place x))
terms_listed [] o x = ap (λ l. plain (sign_mark o) ∷ l) (append-nil (e.term_parts (term_view kept_place x)))
terms_listed (y ∷ xs) o x =
    ap (λ l. plain (sign_mark y.0) ∷ (e.term_parts (term_view kept_place y.1) ++ l)) (terms_listed xs o x)
    ∙ ap (λ l. plain (sign_mark y.0) ∷ l)
    (sym (append_assoc (e.term_parts (term_view kept_place y.1)) (e.terms_parts (terms_view kept_place xs))
    (plain (sign_mark o) ∷ e.term_parts (term_view kept_place x))))

pub terms_push : (ps : List (SpellingPart ℕ)) (xs ys : List (Sign × Term)) (o : Sign)
    (x : Term) {ss mid rest : List PlacedTerminal}
    → ys ≡ xs ++ (o, x) ∷ [] → Reads (ps ++ e.terms_parts (terms_view kept_place xs)) ss mid
    → Reads (plain (sign_mark o) ∷ e.term_parts (term_view kept_place x)) mid rest
    → Reads (ps ++ e.terms_parts (terms_view kept_place ys)) ss rest
terms_push ps xs ys o x q a b =
    respelled (ap (λ l. ps ++ l) (sym (ap (λ l. e.terms_parts (terms_view kept_place l)) q ∙ terms_listed xs o x)))
    (regroup ps (e.terms_parts (terms_view kept_place xs)) a b)

relations_listed : (xs : List (LogicOperator × Relation)) (o : LogicOperator) (x : Relation)
    → e.relations_parts (relations_view kept_place (xs ++ (o, x) ∷ []))
    ≡ e.relations_parts (relations_view kept_place xs)
    ++ (e.logic_parts o ++ e.relation_parts (relation_view kept_place x))
relations_listed [] o x = ap (λ l. e.logic_parts o ++ l) (append-nil (e.relation_parts (relation_view kept_place x)))
relations_listed (y ∷ xs) o x =
    ap (λ l. e.logic_parts y.0 ++ (e.relation_parts (relation_view kept_place y.1) ++ l)) (relations_listed xs o x)
    ∙ ap (λ l. e.logic_parts y.0 ++ l)
    (sym (append_assoc (e.relation_parts (relation_view kept_place y.1))
    (e.relations_parts (relations_view kept_place xs))
    (e.logic_parts o ++ e.relation_parts (relation_view kept_place x))))
    ∙ sym (append_assoc (e.logic_parts y.0)
    (e.relation_parts (relation_view kept_place y.1) ++ e.relations_parts (relations_view kept_place xs))
    (e.logic_parts o ++ e.relation_parts (relation_view kept_place x)))

pub relations_push : (ps : List (SpellingPart ℕ)) (xs ys : List (LogicOperator × Relation)) (o : LogicOperator)
    (x : Relation)
    {ss mid rest : List PlacedTerminal} → ys ≡ xs ++ (o, x) ∷ []
    → Reads (ps ++ e.relations_parts (relations_view kept_place xs)) ss mid
    → Reads (e.logic_parts o ++ e.relation_parts (relation_view kept_place x)) mid rest
    → Reads (ps ++ e.relations_parts (relations_view kept_place ys)) ss rest
relations_push ps xs ys o x q a b =
    respelled (ap (λ l. ps ++ l)
    (sym (ap (λ l. e.relations_parts (relations_view kept_place l)) q ∙ relations_listed xs o x)))
    (regroup ps (e.relations_parts (relations_view kept_place xs)) a b)
