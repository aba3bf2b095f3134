use Rattle.std.proofs.Common.{◌≡◌, ◌∙◌, List, ap, sym, subst, not}
use Rattle.std.specs.Prelude.{position}
use Rattle.std.specs.Option.{option_or}
use Rattle.run_monitor.specs.proof.FormBits.{row_of}
use Rattle.run_monitor.specs.FormulaSemantics.{frame_rows}
use Rattle.run_monitor.specs.proof.MonitorStates.{MonitorState, said}
use Rattle.run_monitor.specs.proof.SeveralMonitors.{MonitorsState, HasWatched}
use Rattle.run_monitor.proofs.FrameRowGrowth.{history_has_rounds}
use Rattle.run_monitor.proofs.SeveralMonitors.{at_round, false_in, watch_on, watch_round}
use Rattle.run_monitor.proofs.monitors.Monitors.advance.Goals as goal

pub returns-clause-watches : goal.returns-clause-watches
returns-clause-watches c = λ fs h watched at.
    (let old : MonitorsState =
    record { monitors = c.self.inside.monitors.items; violation = c.self.inside.violation } in
    let new : MonitorsState =
    record { monitors = c.advance_each.new.monitors.items; violation = c.or-self-inside.result } in
    let round = c.args.round in
    let first : new.violation ≡ option_or old.violation (false_in new round)
    = c.or-self-inside.ensures
    ∙ ap (option_or old.violation)
    (c.violation_of.ensures
    ∙ ap (at_round round) (c.first_false-found.ensures
    ∙ ap (λ (ms : List MonitorState). position (λ m. not (said m)) ms) c.as_slice.ensures.value)) in
    watch_on old new round (row_of c.args.parts.now) c.advance_each.ensures first fs h
    (subst (λ (s : MonitorsState). HasWatched s fs h) (sym c.self.view_is) watched) at)

pub returns-clause-composed : goal.returns-clause-composed
returns-clause-composed c = λ design env fs watched is.
    (let new : MonitorsState =
    record { monitors = c.advance_each.new.monitors.items; violation = c.or-self-inside.result } in
    watch_round new design env fs c.args.round (row_of c.args.parts.now) is
    (returns-clause-watches c fs (frame_rows design env c.args.round) watched
    (sym (history_has_rounds design env c.args.round))))
