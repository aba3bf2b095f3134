use Rattle.std.proofs.Common.{◌∙◌, ap, subst, List, slice_get}
use Rattle.run_monitor.specs.proof.FormBits.{row_of}
use Rattle.run_monitor.specs.proof.MonitorStates.{MonitorState, SeesAll}
use Rattle.run_monitor.specs.declared.flat_form.FlatForm.{FlatForm}
use Rattle.run_monitor.proofs.MonitorStates.{state, sees_all}
use Rattle.run_monitor.proofs.monitor.Monitor.see_all.Goals as goal

pub returns : goal.returns
returns c =
    let inside = c.self.inside in
    let new = c.see_row.new.bits in
    let row = row_of c.args.parts.now in
    subst (λ (s : MonitorState). SeesAll s (state inside.forms inside.begun inside.kept new) row) c.self.view_is
    (sees_all inside.forms inside.begun inside.kept inside.seen new row c.self.invariant.order
    (λ k e is. c.see_row.ensures.each k e (ap (λ (es : List FlatForm). slice_get es k) c.as_slice.ensures.value ∙ is)))
