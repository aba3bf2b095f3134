use Rattle.std.proofs.Common.{◌∙◌, ◌-◌, Bool, List, ap, ap₂, sym}
use Rattle.run_monitor.specs.proof.FormBits.{bit_at}
use Rattle.run_monitor.specs.proof.MonitorStates.{MonitorState, said}
use Rattle.run_monitor.proofs.FlatForms.{length-forms}
use Rattle.run_monitor.proofs.monitor.Monitor.said.Goals as goal

pub returns : goal.returns
returns c =
    let inside = c.self.inside in
    c.bit_at.ensures
    ∙ ap₂ (λ (bits : List Bool) n. bit_at bits (n - 1)) c.as_slice.ensures.value
    (c.len.ensures ∙ sym (length-forms inside.forms))
    ∙ ap (λ (m : MonitorState). said m) c.self.view_is
