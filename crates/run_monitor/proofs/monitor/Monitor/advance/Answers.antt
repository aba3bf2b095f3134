use Rattle.std.proofs.Common.{◌∙◌, Bool, true, List, ap, sym, subst, slice_get}
use Rattle.run_monitor.specs.declared.flat_form.FlatForm.{FlatForm}
use Rattle.run_monitor.specs.proof.MonitorStates.{MonitorState, said, Advances}
use Rattle.run_monitor.specs.proof.FormBits.{bit_at, next_bit, AreNext}
use Rattle.run_monitor.proofs.MonitorStates.{state, advances}
use Rattle.run_monitor.proofs.monitor.Monitor.advance.Goals as goal

pub returns : goal.returns
returns c =
    let inside = c.self.inside in
    let bits = c.advance_all.new.bits in
    let rest = c.swap.new.y in
    let answer = c.said.result in
    let each : AreNext inside.forms inside.begun inside.kept inside.seen bits
    = λ k e is.
    c.advance_all.ensures.each k e (ap (λ (es : List FlatForm). slice_get es k) c.as_slice.ensures.value ∙ is)
    ∙ ap (λ (was : List Bool). next_bit e k inside.begun was bits (bit_at inside.seen k)) c.as_slice-2.ensures.value in
    let is = c.said.ensures ∙ ap (λ (bs : List Bool). said (state inside.forms true bs rest)) c.swap.ensures.x_after in
    subst (λ (s : MonitorState). Advances s (state inside.forms true c.swap.new.x rest) answer) c.self.view_is
    (subst (λ (bs : List Bool).
    Advances (state inside.forms inside.begun inside.kept inside.seen) (state inside.forms true bs rest) answer)
    (sym c.swap.ensures.x_after)
    (advances inside.forms inside.begun inside.kept inside.seen bits rest answer c.self.invariant
    c.advance_all.ensures.len each is))
