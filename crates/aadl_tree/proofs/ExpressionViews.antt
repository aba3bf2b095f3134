-- The views of expressions, level by level.
use Rattle.std.proofs.Common.{◌≡◌, ◌∙◌, ap, sym, ℕ, ℤ, Bool, Option, Some, None, Vec, Global, Box, rules}
use Rattle.std.specs.Prelude.{option_map}
use Rattle.aadl_tree.specs.declared.names.Identifier.{Identifier}
use Rattle.aadl_tree.specs.declared.expressions.Sign.{Sign}
use Rattle.aadl_tree.specs.declared.expressions.LogicOperator.{LogicOperator}
use Rattle.aadl_tree.specs.declared.expressions.RelationOperator.{RelationOperator}
use Rattle.aadl_tree.specs.declared.expressions.MultiplyOperator.{MultiplyOperator}
use Rattle.aadl_tree.specs.declared.expressions.LeadingSign.{LeadingSign}
use Rattle.aadl_tree.specs.declared.expressions.Factor.{Factor, Abs, Not, Plain, the_lemmas}
use Rattle.aadl_tree.specs.declared.expressions.Factor.{the_lemmas as expression_lemmas}
use Rattle.aadl_tree.specs.declared.expressions.Primary.{Primary, Whole, Truth, Named, Group}
use Rattle.aadl_tree.specs.declared.expressions.Expression.{Expression, roll-Expression}
use Rattle.aadl_tree.specs.declared.expressions.Relation.{Relation, roll-Relation}
use Rattle.aadl_tree.specs.declared.expressions.Sum.{Sum, roll-Sum}
use Rattle.aadl_tree.specs.declared.expressions.Term.{Term, roll-Term}
use Rattle.aadl_tree.specs.declared.expressions.Factor.TheViews.{out-Expression, out-Sum, out-Relation}
use Rattle.aadl_tree.specs.declared.expressions.Factor.TheViews.{roll-out-Relation, out-Term}
use Rattle.aadl_tree.specs.Expressions.{number, truth, named, group, absolute, negated, bare, term, total, expression}
use Rattle.aadl_tree.specs.proof.NameViews.{identifier_view}
use Rattle.aadl_tree.specs.proof.ExpressionViews.{leading_view, primary_view, factor_view, factors_view, term_view}
use Rattle.aadl_tree.specs.proof.ExpressionViews.{terms_view, sum_view, relation_view, sides_view, relations_view}
use Rattle.aadl_tree.specs.proof.ExpressionViews.{expression_view}

pub view-Whole : {P : Type 0} (place : ℕ → P) (at : ℕ) (n : ℤ) → primary_view place (Whole at n) ≡ number (place at) n
view-Whole place at n = search (rules, the_lemmas)

pub view-Truth : {P : Type 0} (place : ℕ → P) (at : ℕ) (b : Bool) → primary_view place (Truth at b) ≡ truth (place at) b
view-Truth place at b = search (rules, the_lemmas)

pub view-Named : {P : Type 0} (place : ℕ → P) (x : Identifier) (fresh : Bool)
    → primary_view place (Named x fresh) ≡ named (identifier_view place x) fresh
view-Named place x fresh = search (rules, the_lemmas)

pub view-Group : {P : Type 0} (place : ℕ → P) (at : ℕ) (e : Box Expression Global)
    → primary_view place (Group at e) ≡ group (place at) (expression_view place e.value)
view-Group place at e = search (rules, the_lemmas)

pub view-Abs : {P : Type 0} (place : ℕ → P) (at : ℕ) (x : Box Primary Global)
    → factor_view place (Abs at x) ≡ absolute (place at) (primary_view place x.value)
view-Abs place at x = search (rules, the_lemmas)

pub view-Not : {P : Type 0} (place : ℕ → P) (at : ℕ) (x : Box Primary Global)
    → factor_view place (Not at x) ≡ negated (place at) (primary_view place x.value)
view-Not place at x = search (rules, the_lemmas)

pub view-Plain : {P : Type 0} (place : ℕ → P) (x : Primary) → factor_view place (Plain x) ≡ bare (primary_view place x)
view-Plain place x = search (rules, the_lemmas)

pub view-term : {P : Type 0} (place : ℕ → P) (first : Factor) (rest : Vec (MultiplyOperator × Factor) Global)
    → term_view place (roll-Term (record { first = first; rest = rest }))
    ≡ term (factor_view place first) (factors_view place rest.items)
view-term place first rest = search (rules, the_lemmas)

pub view-sum : {P : Type 0} (place : ℕ → P) (sign : Option LeadingSign) (first : Term) (rest : Vec (Sign × Term) Global)
    → sum_view place (roll-Sum (record { sign = sign; first = first; rest = rest }))
    ≡ total (option_map (leading_view place) sign) (term_view place first) (terms_view place rest.items)
view-sum place sign first rest = search (rules, the_lemmas)

pub view-relation : {P : Type 0} (place : ℕ → P) (left : Sum) (right : Option (Box (RelationOperator × Sum) Global))
    → relation_view place (roll-Relation (record { left = left; right = right })) ≡ sides_view place left right
view-relation place left None = search (rules, the_lemmas)
view-relation place left (Some right) = search (rules, the_lemmas)

pub view-expression : {P : Type 0} (place : ℕ → P) (first : Relation) (rest : Vec (LogicOperator × Relation) Global)
    → expression_view place (roll-Expression (record { first = first; rest = rest }))
    ≡ expression (relation_view place first) (relations_view place rest.items)
view-expression place first rest = search (rules, the_lemmas)

-- the views of structs, by their fields
pub view-out-sum : {P : Type 0} (place : ℕ → P) (x : Sum)
    → sum_view place x ≡ total (option_map (leading_view place) (out-Sum x).sign) (term_view place (out-Sum x).first)
    (terms_view place (out-Sum x).rest.items)
view-out-sum place x = search (rules, the_lemmas)

pub view-out-relation : {P : Type 0} (place : ℕ → P) (x : Relation)
    → relation_view place x ≡ sides_view place (out-Relation x).left (out-Relation x).right
view-out-relation place x =
    ap (relation_view place) (sym (roll-out-Relation x))
    ∙ view-relation place (out-Relation x).left (out-Relation x).right

pub view-out-expression : {P : Type 0} (place : ℕ → P) (x : Expression)
    → expression_view place x
    ≡ expression (relation_view place (out-Expression x).first) (relations_view place (out-Expression x).rest.items)
view-out-expression place x = search (rules, the_lemmas)

pub view-out-term : {P : Type 0} (place : ℕ → P) (x : Term)
    → term_view place x ≡ term (factor_view place (out-Term x).first) (factors_view place (out-Term x).rest.items)
view-out-term place x = search (rules, expression_lemmas)
