-- The formula, as a plain tree, that a form stands for.
use Rattle.pals_runs.specs.declared.forms.Form.{Form, Var as source_var, Halted as source_halted, Not', And', Or'}
use Rattle.pals_runs.specs.declared.forms.Form.{Previous', Once', Historically', Since'}
use Rattle.pals_runs.specs.Formula.{Formula, Var, Halted, Not, And, Or, Previous, Once, Historically, Since}

abbrev pub formula_of : Form → Formula
formula_of (source_var node variable op number) = Var node.0 variable op number
formula_of (source_halted node) = Halted node.0
formula_of (Not' place f) = Not (formula_of f)
formula_of (And' place f place' g) = And (formula_of f) (formula_of g)
formula_of (Or' place f place' g) = Or (formula_of f) (formula_of g)
formula_of (Previous' place f) = Previous (formula_of f)
formula_of (Once' place f) = Once (formula_of f)
formula_of (Historically' place f) = Historically (formula_of f)
formula_of (Since' place f place' g) = Since (formula_of f) (formula_of g)
