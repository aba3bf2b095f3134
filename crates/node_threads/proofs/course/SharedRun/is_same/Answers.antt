use Rattle.std.proofs.Common.{map, sym, ap, ◌∙◌}
use Rattle.pals_clock.specs.ClockStates.{ClockState}
use Rattle.node_threads.proofs.RunOutcomes.{same_courses}
use Rattle.node_threads.proofs.course.SharedRun.is_same.Goals as goal

pub returns-then-same_run : goal.returns-then-same_run
returns-then-same_run c = λ is.
    same_courses c.self.inside.bus c.other.inside.bus c.self.inside.lists c.other.inside.lists c.self.inside.notes
    c.other.inside.notes _ _ c.self.view_is c.other.view_is (c.same_run.ensures.0 c.if-same_run.true)
    (sym (ap (map (λ (k : ClockState). k.readings)) c.as_slice.ensures.value) ∙ c.same_lists.ensures is
    ∙ ap (map (λ (k : ClockState). k.readings)) c.as_slice-then-same_run.ensures.value)
