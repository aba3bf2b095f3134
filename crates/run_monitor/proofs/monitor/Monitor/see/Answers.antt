use Rattle.std.proofs.Common.{◌∙◌, ap, subst, List, slice_get}
use Rattle.run_monitor.specs.proof.MonitorStates.{MonitorState, Sees}
use Rattle.run_monitor.specs.declared.flat_form.FlatForm.{FlatForm}
use Rattle.run_monitor.proofs.MonitorStates.{state, sees}
use Rattle.run_monitor.proofs.monitor.Monitor.see.Goals as goal

pub returns : goal.returns
returns c =
    let inside = c.self.inside in
    let new = c.see_frame.new.bits in
    subst (λ (s : MonitorState).
    Sees s (state inside.forms inside.begun inside.kept new) c.args.node.0 c.args.frame.now) c.self.view_is
    (sees inside.forms inside.begun inside.kept inside.seen new c.args.node.0 c.args.frame.now c.self.invariant.order
    (λ k e is. c.see_frame.ensures.each k e
    (ap (λ (es : List FlatForm). slice_get es k) c.as_slice.ensures.value ∙ is)))
