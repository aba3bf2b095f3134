-- Expressions: mapping the places of the plain tree gives the plain tree with mapped places. For the law that places
-- can be dropped.
use Rattle.std.proofs.Common.{◌≡◌, ℕ, ◌∙◌, ap, ap₂, sym, subst, refl, List, [], ◌∷◌, map, Option, Some, None}
use Rattle.std.proofs.Common.{option_map, Box, Global}
use Rattle.aadl_tree.specs.declared.expressions.Sign.{Sign}
use Rattle.aadl_tree.specs.declared.expressions.LogicOperator.{LogicOperator}
use Rattle.aadl_tree.specs.declared.expressions.RelationOperator.{RelationOperator}
use Rattle.aadl_tree.specs.declared.expressions.MultiplyOperator.{MultiplyOperator}
use Rattle.aadl_tree.specs.declared.expressions.Factor.{Factor}
use Rattle.aadl_tree.specs.declared.expressions.Primary.{Primary}
use Rattle.aadl_tree.specs.declared.expressions.Expression.{Expression}
use Rattle.aadl_tree.specs.declared.expressions.Relation.{Relation}
use Rattle.aadl_tree.specs.declared.expressions.Sum.{Sum}
use Rattle.aadl_tree.specs.declared.expressions.Term.{Term}
use Rattle.aadl_tree.specs.declared.expressions.Factor.TheOpen.{Factor-F, Primary-F, Expression-F, Relation-F, Sum-F}
use Rattle.aadl_tree.specs.declared.expressions.Factor.TheOpen.{Term-F}
use Rattle.aadl_tree.specs.declared.expressions.Factor.TheViews.{roll-Factor, roll-Primary, roll-Expression}
use Rattle.aadl_tree.specs.declared.expressions.Factor.TheViews.{roll-Relation, roll-Sum, roll-Term}
use Rattle.aadl_tree.specs.declared.expressions.Factor.TheFolds.{ind-Expression, map-Factor, map-Primary}
use Rattle.aadl_tree.specs.declared.expressions.Factor.TheFolds.{map-Expression, map-Relation, map-Sum, map-Term}
use Rattle.aadl_tree.specs.declared.expressions.Factor.TheFolds.{fold-roll-Factor, fold-roll-Primary}
use Rattle.aadl_tree.specs.declared.expressions.Factor.TheFolds.{fold-roll-Expression, fold-roll-Relation}
use Rattle.aadl_tree.specs.declared.expressions.Factor.TheFolds.{fold-roll-Sum, fold-roll-Term}
use Rattle.aadl_tree.specs.Expressions as e
use Rattle.aadl_tree.specs.proof.PlaceMaps.{leading_to, primary_to, factor_to, term_to, factors_to, sum_to, terms_to}
use Rattle.aadl_tree.specs.proof.PlaceMaps.{relation_to, expression_to, relations_to}
use Rattle.aadl_tree.specs.proof.ExpressionViews.{leading_view, factors_of, terms_of, relations_of, primary_step}
use Rattle.aadl_tree.specs.proof.ExpressionViews.{factor_step, term_step, sum_step, relation_step, expression_step}
use Rattle.aadl_tree.specs.proof.ExpressionViews.{primary_view, factor_view, term_view, sum_view, relation_view}
use Rattle.aadl_tree.specs.proof.ExpressionViews.{expression_view}
use Rattle.aadl_tree.proofs.PlaceMaps.Names.{perhaps_tied}

abbrev FactorTied : {P Q : Type 0} → (P → Q) → (ℕ → P) → Factor → Type 0
FactorTied f g x = factor_to f (factor_view g x) ≡ factor_view (λ n. f (g n)) x

abbrev PrimaryTied : {P Q : Type 0} → (P → Q) → (ℕ → P) → Primary → Type 0
PrimaryTied f g x = primary_to f (primary_view g x) ≡ primary_view (λ n. f (g n)) x

abbrev ExpressionTied : {P Q : Type 0} → (P → Q) → (ℕ → P) → Expression → Type 0
ExpressionTied f g x = expression_to f (expression_view g x) ≡ expression_view (λ n. f (g n)) x

abbrev RelationTied : {P Q : Type 0} → (P → Q) → (ℕ → P) → Relation → Type 0
RelationTied f g x = relation_to f (relation_view g x) ≡ relation_view (λ n. f (g n)) x

abbrev SumTied : {P Q : Type 0} → (P → Q) → (ℕ → P) → Sum → Type 0
SumTied f g x = sum_to f (sum_view g x) ≡ sum_view (λ n. f (g n)) x

abbrev TermTied : {P Q : Type 0} → (P → Q) → (ℕ → P) → Term → Type 0
TermTied f g x = term_to f (term_view g x) ≡ term_view (λ n. f (g n)) x

-- a tree with the proof that mapping its places commutes with the view
abbrev AFactor : {P Q : Type 0} → (P → Q) → (ℕ → P) → Type 0
AFactor f g = (x : Factor) × FactorTied f g x

abbrev APrimary : {P Q : Type 0} → (P → Q) → (ℕ → P) → Type 0
APrimary f g = (x : Primary) × PrimaryTied f g x

abbrev AExpression : {P Q : Type 0} → (P → Q) → (ℕ → P) → Type 0
AExpression f g = (x : Expression) × ExpressionTied f g x

abbrev ARelation : {P Q : Type 0} → (P → Q) → (ℕ → P) → Type 0
ARelation f g = (x : Relation) × RelationTied f g x

abbrev ASum : {P Q : Type 0} → (P → Q) → (ℕ → P) → Type 0
ASum f g = (x : Sum) × SumTied f g x

abbrev ATerm : {P Q : Type 0} → (P → Q) → (ℕ → P) → Type 0
ATerm f g = (x : Term) × TermTied f g x

abbrev factor_layer : {P Q : Type 0} (f : P → Q) (g : ℕ → P)
    → Factor-F (AFactor f g) (APrimary f g) (AExpression f g) (ARelation f g) (ASum f g) (ATerm f g)
    → Factor-F Factor Primary Expression Relation Sum Term
factor_layer f g y =
    map-Factor (AFactor f g) (APrimary f g) (AExpression f g) (ARelation f g) (ASum f g) (ATerm f g) Factor Primary
    Expression Relation Sum Term (λ u. u.0) (λ u. u.0) (λ u. u.0) (λ u. u.0) (λ u. u.0) (λ u. u.0) y

abbrev seen_factor : {P : Type 0} → (ℕ → P) → Factor-F Factor Primary Expression Relation Sum Term
    → Factor-F (e.Factor P) (e.Primary P) (e.Expression P) (e.Relation P) (e.Sum P) (e.Term P)
seen_factor {P} g x =
    map-Factor Factor Primary Expression Relation Sum Term (e.Factor P) (e.Primary P) (e.Expression P) (e.Relation P)
    (e.Sum P) (e.Term P) (factor_view g) (primary_view g) (expression_view g) (relation_view g) (sum_view g)
    (term_view g) x

abbrev primary_layer : {P Q : Type 0} (f : P → Q) (g : ℕ → P)
    → Primary-F (AFactor f g) (APrimary f g) (AExpression f g) (ARelation f g) (ASum f g) (ATerm f g)
    → Primary-F Factor Primary Expression Relation Sum Term
primary_layer f g y =
    map-Primary (AFactor f g) (APrimary f g) (AExpression f g) (ARelation f g) (ASum f g) (ATerm f g) Factor Primary
    Expression Relation Sum Term (λ u. u.0) (λ u. u.0) (λ u. u.0) (λ u. u.0) (λ u. u.0) (λ u. u.0) y

abbrev seen_primary : {P : Type 0} → (ℕ → P) → Primary-F Factor Primary Expression Relation Sum Term
    → Primary-F (e.Factor P) (e.Primary P) (e.Expression P) (e.Relation P) (e.Sum P) (e.Term P)
seen_primary {P} g x =
    map-Primary Factor Primary Expression Relation Sum Term (e.Factor P) (e.Primary P) (e.Expression P) (e.Relation P)
    (e.Sum P) (e.Term P) (factor_view g) (primary_view g) (expression_view g) (relation_view g) (sum_view g)
    (term_view g) x

abbrev expression_layer : {P Q : Type 0} (f : P → Q) (g : ℕ → P)
    → Expression-F (AFactor f g) (APrimary f g) (AExpression f g) (ARelation f g) (ASum f g) (ATerm f g)
    → Expression-F Factor Primary Expression Relation Sum Term
expression_layer f g y =
    map-Expression (AFactor f g) (APrimary f g) (AExpression f g) (ARelation f g) (ASum f g) (ATerm f g) Factor Primary
    Expression Relation Sum Term (λ u. u.0) (λ u. u.0) (λ u. u.0) (λ u. u.0) (λ u. u.0) (λ u. u.0) y

abbrev seen_expression : {P : Type 0} → (ℕ → P) → Expression-F Factor Primary Expression Relation Sum Term
    → Expression-F (e.Factor P) (e.Primary P) (e.Expression P) (e.Relation P) (e.Sum P) (e.Term P)
seen_expression {P} g x =
    map-Expression Factor Primary Expression Relation Sum Term (e.Factor P) (e.Primary P) (e.Expression P)
    (e.Relation P) (e.Sum P) (e.Term P) (factor_view g) (primary_view g) (expression_view g) (relation_view g)
    (sum_view g) (term_view g) x

abbrev relation_layer : {P Q : Type 0} (f : P → Q) (g : ℕ → P)
    → Relation-F (AFactor f g) (APrimary f g) (AExpression f g) (ARelation f g) (ASum f g) (ATerm f g)
    → Relation-F Factor Primary Expression Relation Sum Term
relation_layer f g y =
    map-Relation (AFactor f g) (APrimary f g) (AExpression f g) (ARelation f g) (ASum f g) (ATerm f g) Factor Primary
    Expression Relation Sum Term (λ u. u.0) (λ u. u.0) (λ u. u.0) (λ u. u.0) (λ u. u.0) (λ u. u.0) y

abbrev seen_relation : {P : Type 0} → (ℕ → P) → Relation-F Factor Primary Expression Relation Sum Term
    → Relation-F (e.Factor P) (e.Primary P) (e.Expression P) (e.Relation P) (e.Sum P) (e.Term P)
seen_relation {P} g x =
    map-Relation Factor Primary Expression Relation Sum Term (e.Factor P) (e.Primary P) (e.Expression P) (e.Relation P)
    (e.Sum P) (e.Term P) (factor_view g) (primary_view g) (expression_view g) (relation_view g) (sum_view g)
    (term_view g) x

abbrev sum_layer : {P Q : Type 0} (f : P → Q) (g : ℕ → P)
    → Sum-F (AFactor f g) (APrimary f g) (AExpression f g) (ARelation f g) (ASum f g) (ATerm f g)
    → Sum-F Factor Primary Expression Relation Sum Term
sum_layer f g y =
    map-Sum (AFactor f g) (APrimary f g) (AExpression f g) (ARelation f g) (ASum f g) (ATerm f g) Factor Primary
    Expression Relation Sum Term (λ u. u.0) (λ u. u.0) (λ u. u.0) (λ u. u.0) (λ u. u.0) (λ u. u.0) y

abbrev seen_sum : {P : Type 0} → (ℕ → P) → Sum-F Factor Primary Expression Relation Sum Term
    → Sum-F (e.Factor P) (e.Primary P) (e.Expression P) (e.Relation P) (e.Sum P) (e.Term P)
seen_sum {P} g x =
    map-Sum Factor Primary Expression Relation Sum Term (e.Factor P) (e.Primary P) (e.Expression P) (e.Relation P)
    (e.Sum P) (e.Term P) (factor_view g) (primary_view g) (expression_view g) (relation_view g) (sum_view g)
    (term_view g) x

abbrev term_layer : {P Q : Type 0} (f : P → Q) (g : ℕ → P)
    → Term-F (AFactor f g) (APrimary f g) (AExpression f g) (ARelation f g) (ASum f g) (ATerm f g)
    → Term-F Factor Primary Expression Relation Sum Term
term_layer f g y =
    map-Term (AFactor f g) (APrimary f g) (AExpression f g) (ARelation f g) (ASum f g) (ATerm f g) Factor Primary
    Expression Relation Sum Term (λ u. u.0) (λ u. u.0) (λ u. u.0) (λ u. u.0) (λ u. u.0) (λ u. u.0) y

abbrev seen_term : {P : Type 0} → (ℕ → P) → Term-F Factor Primary Expression Relation Sum Term
    → Term-F (e.Factor P) (e.Primary P) (e.Expression P) (e.Relation P) (e.Sum P) (e.Term P)
seen_term {P} g x =
    map-Term Factor Primary Expression Relation Sum Term (e.Factor P) (e.Primary P) (e.Expression P) (e.Relation P)
    (e.Sum P) (e.Term P) (factor_view g) (primary_view g) (expression_view g) (relation_view g) (sum_view g)
    (term_view g) x

factors_each : {P Q : Type 0} (f : P → Q) (g : ℕ → P) (xs : List (MultiplyOperator × AFactor f g))
    → factors_to f (factors_of
    (map (λ (x : MultiplyOperator × Factor). (x.0, factor_view g x.1))
    (map (λ (x : MultiplyOperator × AFactor f g). (x.0, x.1.0)) xs)))
    ≡ factors_of (map (λ (x : MultiplyOperator × Factor). (x.0, factor_view (λ n. f (g n)) x.1))
    (map (λ (x : MultiplyOperator × AFactor f g). (x.0, x.1.0)) xs))
factors_each f g [] = refl
factors_each f g (x ∷ xs) = ap₂ (e.factor x.0) x.1.1 (factors_each f g xs)

terms_each : {P Q : Type 0} (f : P → Q) (g : ℕ → P) (xs : List (Sign × ATerm f g))
    → terms_to f (terms_of (map (λ (x : Sign × Term). (x.0, term_view g x.1))
    (map (λ (x : Sign × ATerm f g). (x.0, x.1.0)) xs)))
    ≡ terms_of (map (λ (x : Sign × Term). (x.0, term_view (λ n. f (g n)) x.1))
    (map (λ (x : Sign × ATerm f g). (x.0, x.1.0)) xs))
terms_each f g [] = refl
terms_each f g (x ∷ xs) = ap₂ (e.add x.0) x.1.1 (terms_each f g xs)

relations_each : {P Q : Type 0} (f : P → Q) (g : ℕ → P) (xs : List (LogicOperator × ARelation f g))
    → relations_to f (relations_of
    (map (λ (x : LogicOperator × Relation). (x.0, relation_view g x.1))
    (map (λ (x : LogicOperator × ARelation f g). (x.0, x.1.0)) xs)))
    ≡ relations_of (map (λ (x : LogicOperator × Relation). (x.0, relation_view (λ n. f (g n)) x.1))
    (map (λ (x : LogicOperator × ARelation f g). (x.0, x.1.0)) xs))
relations_each f g [] = refl
relations_each f g (x ∷ xs) = ap₂ (e.join x.0) x.1.1 (relations_each f g xs)

primary_by : {P Q : Type 0} (f : P → Q) (g : ℕ → P)
    (y : Primary-F (AFactor f g) (APrimary f g) (AExpression f g) (ARelation f g) (ASum f g) (ATerm f g))
    → primary_to f (primary_step g (seen_primary g (primary_layer f g y)))
    ≡ primary_step (λ n. f (g n)) (seen_primary (λ n. f (g n)) (primary_layer f g y))
primary_by f g (Primary-F.Whole at n) = refl
primary_by f g (Primary-F.Truth at b) = refl
primary_by f g (Primary-F.Named x fresh) = refl
primary_by f g (Primary-F.Group at x) = ap (e.group (f (g at))) x.value.1

factor_by : {P Q : Type 0} (f : P → Q) (g : ℕ → P)
    (y : Factor-F (AFactor f g) (APrimary f g) (AExpression f g) (ARelation f g) (ASum f g) (ATerm f g))
    → factor_to f (factor_step g (seen_factor g (factor_layer f g y)))
    ≡ factor_step (λ n. f (g n)) (seen_factor (λ n. f (g n)) (factor_layer f g y))
factor_by f g (Factor-F.Abs at x) = ap (e.absolute (f (g at))) x.value.1
factor_by f g (Factor-F.Not at x) = ap (e.negated (f (g at))) x.value.1
factor_by f g (Factor-F.Plain x) = ap e.bare x.1

term_by : {P Q : Type 0} (f : P → Q) (g : ℕ → P)
    (y : Term-F (AFactor f g) (APrimary f g) (AExpression f g) (ARelation f g) (ASum f g) (ATerm f g))
    → term_to f (term_step (seen_term g (term_layer f g y))) ≡ term_step (seen_term (λ n. f (g n)) (term_layer f g y))
term_by f g y = ap₂ e.term y.first.1 (factors_each f g y.rest.items)

sum_by : {P Q : Type 0} (f : P → Q) (g : ℕ → P)
    (y : Sum-F (AFactor f g) (APrimary f g) (AExpression f g) (ARelation f g) (ASum f g) (ATerm f g))
    → sum_to f (sum_step g (seen_sum g (sum_layer f g y)))
    ≡ sum_step (λ n. f (g n)) (seen_sum (λ n. f (g n)) (sum_layer f g y))
sum_by f g y =
    ap (λ q. e.total q (term_to f (term_view g y.first.0))
    (terms_to f (terms_of (map (λ (x : Sign × Term). (x.0, term_view g x.1))
    (map (λ (x : Sign × ATerm f g). (x.0, x.1.0)) y.rest.items)))))
    (perhaps_tied (leading_to f) (leading_view g) (leading_view (λ n. f (g n))) (λ x. refl) y.sign)
    ∙ ap₂ (e.total (option_map (leading_view (λ n. f (g n))) y.sign)) y.first.1 (terms_each f g y.rest.items)

relation_cases : {P Q : Type 0} (f : P → Q) (g : ℕ → P) (left : ASum f g)
    (right : Option (Box (RelationOperator × ASum f g) Global))
    → (let y : Relation-F (AFactor f g) (APrimary f g) (AExpression f g) (ARelation f g) (ASum f g) (ATerm f g) =
    record { left = left; right = right } in
    relation_to f (relation_step (seen_relation g (relation_layer f g y)))
    ≡ relation_step (seen_relation (λ n. f (g n)) (relation_layer f g y)))
relation_cases f g left None = ap e.single left.1
relation_cases f g left (Some r) = ap₂ (λ a b. e.compared a r.value.0 b) left.1 r.value.1.1

relation_by : {P Q : Type 0} (f : P → Q) (g : ℕ → P)
    (y : Relation-F (AFactor f g) (APrimary f g) (AExpression f g) (ARelation f g) (ASum f g) (ATerm f g))
    → relation_to f (relation_step (seen_relation g (relation_layer f g y)))
    ≡ relation_step (seen_relation (λ n. f (g n)) (relation_layer f g y))
relation_by f g y = relation_cases f g y.left y.right

expression_by : {P Q : Type 0} (f : P → Q) (g : ℕ → P)
    (y : Expression-F (AFactor f g) (APrimary f g) (AExpression f g) (ARelation f g) (ASum f g) (ATerm f g))
    → expression_to f (expression_step (seen_expression g (expression_layer f g y)))
    ≡ expression_step (seen_expression (λ n. f (g n)) (expression_layer f g y))
expression_by f g y = ap₂ e.expression y.first.1 (relations_each f g y.rest.items)

factor_rolled : {P Q : Type 0} (f : P → Q) (g : ℕ → P) (x : Factor-F Factor Primary Expression Relation Sum Term)
    (y : Factor-F (AFactor f g) (APrimary f g) (AExpression f g) (ARelation f g) (ASum f g) (ATerm f g))
    → factor_layer f g y ≡ x → FactorTied f g (roll-Factor x)
factor_rolled {P} {Q} f g x y is =
    let z = factor_layer f g y in
    subst (λ w. FactorTied f g (roll-Factor w)) is (
    ap (factor_to f) (fold-roll-Factor (e.Factor P) (e.Primary P) (e.Expression P) (e.Relation P) (e.Sum P) (e.Term P)
    (factor_step g) (primary_step g) expression_step relation_step (sum_step g) term_step z) ∙ factor_by f g y
    ∙ sym (fold-roll-Factor (e.Factor Q) (e.Primary Q) (e.Expression Q) (e.Relation Q) (e.Sum Q) (e.Term Q)
    (factor_step (λ n. f (g n))) (primary_step (λ n. f (g n))) expression_step relation_step
    (sum_step (λ n. f (g n))) term_step z))

primary_rolled : {P Q : Type 0} (f : P → Q) (g : ℕ → P) (x : Primary-F Factor Primary Expression Relation Sum Term)
    (y : Primary-F (AFactor f g) (APrimary f g) (AExpression f g) (ARelation f g) (ASum f g) (ATerm f g))
    → primary_layer f g y ≡ x → PrimaryTied f g (roll-Primary x)
primary_rolled {P} {Q} f g x y is =
    let z = primary_layer f g y in
    subst (λ w. PrimaryTied f g (roll-Primary w)) is (
    ap (primary_to f) (fold-roll-Primary (e.Factor P) (e.Primary P) (e.Expression P) (e.Relation P) (e.Sum P) (e.Term P)
    (factor_step g) (primary_step g) expression_step relation_step (sum_step g) term_step z) ∙ primary_by f g y
    ∙ sym (fold-roll-Primary (e.Factor Q) (e.Primary Q) (e.Expression Q) (e.Relation Q) (e.Sum Q) (e.Term Q)
    (factor_step (λ n. f (g n))) (primary_step (λ n. f (g n))) expression_step relation_step
    (sum_step (λ n. f (g n))) term_step z))

expression_rolled : {P Q : Type 0} (f : P → Q) (g : ℕ → P)
    (x : Expression-F Factor Primary Expression Relation Sum Term)
    (y : Expression-F (AFactor f g) (APrimary f g) (AExpression f g) (ARelation f g) (ASum f g) (ATerm f g))
    → expression_layer f g y ≡ x → ExpressionTied f g (roll-Expression x)
expression_rolled {P} {Q} f g x y is =
    let z = expression_layer f g y in
    subst (λ w. ExpressionTied f g (roll-Expression w)) is (
    ap (expression_to f) (fold-roll-Expression (e.Factor P) (e.Primary P) (e.Expression P) (e.Relation P) (e.Sum P)
    (e.Term P) (factor_step g) (primary_step g) expression_step relation_step (sum_step g) term_step z)
    ∙ expression_by f g y
    ∙ sym (fold-roll-Expression (e.Factor Q) (e.Primary Q) (e.Expression Q) (e.Relation Q) (e.Sum Q) (e.Term Q)
    (factor_step (λ n. f (g n))) (primary_step (λ n. f (g n))) expression_step relation_step
    (sum_step (λ n. f (g n))) term_step z))

relation_rolled : {P Q : Type 0} (f : P → Q) (g : ℕ → P) (x : Relation-F Factor Primary Expression Relation Sum Term)
    (y : Relation-F (AFactor f g) (APrimary f g) (AExpression f g) (ARelation f g) (ASum f g) (ATerm f g))
    → relation_layer f g y ≡ x → RelationTied f g (roll-Relation x)
relation_rolled {P} {Q} f g x y is =
    let z = relation_layer f g y in
    subst (λ w. RelationTied f g (roll-Relation w)) is (
    ap (relation_to f) (fold-roll-Relation (e.Factor P) (e.Primary P) (e.Expression P) (e.Relation P) (e.Sum P)
    (e.Term P) (factor_step g) (primary_step g) expression_step relation_step (sum_step g) term_step z)
    ∙ relation_by f g y
    ∙ sym (fold-roll-Relation (e.Factor Q) (e.Primary Q) (e.Expression Q) (e.Relation Q) (e.Sum Q) (e.Term Q)
    (factor_step (λ n. f (g n))) (primary_step (λ n. f (g n))) expression_step relation_step
    (sum_step (λ n. f (g n))) term_step z))

sum_rolled : {P Q : Type 0} (f : P → Q) (g : ℕ → P) (x : Sum-F Factor Primary Expression Relation Sum Term)
    (y : Sum-F (AFactor f g) (APrimary f g) (AExpression f g) (ARelation f g) (ASum f g) (ATerm f g))
    → sum_layer f g y ≡ x → SumTied f g (roll-Sum x)
sum_rolled {P} {Q} f g x y is =
    let z = sum_layer f g y in
    subst (λ w. SumTied f g (roll-Sum w)) is (
    ap (sum_to f) (fold-roll-Sum (e.Factor P) (e.Primary P) (e.Expression P) (e.Relation P) (e.Sum P) (e.Term P)
    (factor_step g) (primary_step g) expression_step relation_step (sum_step g) term_step z) ∙ sum_by f g y
    ∙ sym (fold-roll-Sum (e.Factor Q) (e.Primary Q) (e.Expression Q) (e.Relation Q) (e.Sum Q) (e.Term Q)
    (factor_step (λ n. f (g n))) (primary_step (λ n. f (g n))) expression_step relation_step
    (sum_step (λ n. f (g n))) term_step z))

term_rolled : {P Q : Type 0} (f : P → Q) (g : ℕ → P) (x : Term-F Factor Primary Expression Relation Sum Term)
    (y : Term-F (AFactor f g) (APrimary f g) (AExpression f g) (ARelation f g) (ASum f g) (ATerm f g))
    → term_layer f g y ≡ x → TermTied f g (roll-Term x)
term_rolled {P} {Q} f g x y is =
    let z = term_layer f g y in
    subst (λ w. TermTied f g (roll-Term w)) is (
    ap (term_to f) (fold-roll-Term (e.Factor P) (e.Primary P) (e.Expression P) (e.Relation P) (e.Sum P) (e.Term P)
    (factor_step g) (primary_step g) expression_step relation_step (sum_step g) term_step z) ∙ term_by f g y
    ∙ sym (fold-roll-Term (e.Factor Q) (e.Primary Q) (e.Expression Q) (e.Relation Q) (e.Sum Q) (e.Term Q)
    (factor_step (λ n. f (g n))) (primary_step (λ n. f (g n))) expression_step relation_step
    (sum_step (λ n. f (g n))) term_step z))

pub expression_tied : {P Q : Type 0} (f : P → Q) (g : ℕ → P) (x : Expression) → ExpressionTied f g x
expression_tied f g =
    ind-Expression (FactorTied f g) (PrimaryTied f g) (ExpressionTied f g) (RelationTied f g) (SumTied f g)
    (TermTied f g) (factor_rolled f g) (primary_rolled f g) (expression_rolled f g) (relation_rolled f g)
    (sum_rolled f g) (term_rolled f g)
