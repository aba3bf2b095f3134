-- The position of the first token of an expression, or of a part of one.
use Rattle.std.specs.Prelude.{Option, Some, None}
use Rattle.aadl_tree.specs.Expressions.{LeadingSign, Primary, number, truth, named, group, Factor, absolute, negated}
use Rattle.aadl_tree.specs.Expressions.{bare, Term, term, Sum, total, Relation, single, compared, Expression}
use Rattle.aadl_tree.specs.Expressions.{expression}

abbrev pub primary_at : {P : Type 0} → Primary P → P
primary_at (number at n) = at
primary_at (truth at b) = at
primary_at (named x fresh) = x.at
primary_at (group at e) = at

abbrev pub factor_at : {P : Type 0} → Factor P → P
factor_at (absolute at x) = at
factor_at (negated at x) = at
factor_at (bare x) = primary_at x

abbrev pub term_at : {P : Type 0} → Term P → P
term_at (term first rest) = factor_at first

-- the place of the sign, if there is one
abbrev pub signed_at : {P : Type 0} → Option (LeadingSign P) → P → P
signed_at None at = at
signed_at (Some sign) at = sign.at

abbrev pub sum_at : {P : Type 0} → Sum P → P
sum_at (total sign first rest) = signed_at sign (term_at first)

abbrev pub relation_at : {P : Type 0} → Relation P → P
relation_at (single x) = sum_at x
relation_at (compared x operator y) = sum_at x

abbrev pub expression_at : {P : Type 0} → Expression P → P
expression_at (expression first rest) = relation_at first
