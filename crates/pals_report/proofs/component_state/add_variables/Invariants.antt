use Rattle.std.proofs.Common.{◌≡◌, ◌++◌, length, take}
use Rattle.pals_model.specs.RoundTexts.{vars_text}
use Rattle.pals_report.proofs.component_state.add_variables.Given as goal

-- the variables so far
abbrev pub invariant-loop-variable : goal.invariant-loop-variable
invariant-loop-variable l =
    l.out.items ≡ l.fn.out.items ++ vars_text (take (length l.yielded) l.variables) (take (length l.yielded) l.values)
