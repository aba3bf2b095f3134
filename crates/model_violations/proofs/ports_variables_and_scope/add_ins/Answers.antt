use Rattle.std.proofs.Common.{◌∙◌, ◌∷◌, [], ◌++◌, ap}
use Rattle.model_violations.specs.PortsAndVariables.{in_entry}
use Rattle.component_checks.proofs.EnumeratedLists.{entries_next}
use Rattle.model_violations.proofs.ports_variables_and_scope.add_ins.Goals as goal

pub loop-at-preserved : goal.loop-at-preserved
loop-at-preserved c =
    entries_next in_entry c.args.ins.now c.loop-at.at c.index-ins-at.result _ c.loop-at.entries _ c.loop-at-test.true
    c.index-ins-at.is c.loop-at.invariant
    (c.in_ok-push.ensures.ok ∙ ap (λ e. c.loop-at.entries ++ e ∷ []) c.in_ok-entry_of.ensures)
