use Rattle.std.proofs.Common.{◌≡◌, sym, ◌∙◌, arith}
use Rattle.std.proofs.lemmas.Grind.{common_steps}
use Rattle.node_threads.specs.proof.SharedCourses.{note_at}
use Rattle.node_threads.proofs.SentSources.{noted_sent}
use Rattle.node_threads.proofs.course.SharedRun.has_sent.Goals as goal

pub returns-in-ClockEnded : goal.returns-in-ClockEnded
returns-in-ClockEnded c = λ is.
    let here : c.index.result.now ≡ note_at c.self.inside.notes c.args.node.0 = grind (arith, common_steps) in
    noted_sent c.self.inside.bus c.self.inside.lists c.self.inside.notes _ c.args.node.0 c.args.rounds _ c.self.view_is
    c.self.invariant (sym here ∙ c.in-ClockEnded.is)
