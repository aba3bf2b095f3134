use Rattle.std.proofs.Common.{List, subst}
use Rattle.pals_runs.specs.proof.FormulasOfForms.{formula_of}
use Rattle.run_monitor.specs.declared.flat_form.FlatForm.{FlatForm}
use Rattle.run_monitor.specs.proof.FlatForms.{Adds}
use Rattle.run_monitor.proofs.MonitorStates.{is_new}
use Rattle.run_monitor.proofs.monitor.Monitor.of.Goals as goal

pub returns : goal.returns
returns c =
    let at = c.in_ok-add.field-0 in
    let f = formula_of c.args.form.now in
    is_new c.add.new.forms at f c.from_vec-kept.result c.from_vec-seen.result
    (subst (λ (old : List FlatForm). Adds old c.add.new.forms at f) c.new-forms.ensures c.in_ok-add.ensures)
