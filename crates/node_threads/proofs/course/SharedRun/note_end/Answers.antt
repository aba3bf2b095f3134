use Rattle.std.proofs.Common.{List, sym, subst}
use Rattle.node_threads.specs.declared.node_end.NodeNote.{NodeNote}
use Rattle.node_threads.specs.proof.SharedCourses.{course_of, IsCourse, Stays}
use Rattle.node_threads.proofs.ChangesUnderLock.{note_keeps}
use Rattle.node_threads.proofs.course.SharedRun.note_end.Goals as goal

pub invariant_of-self : goal.invariant_of-self
invariant_of-self c =
    subst (λ (ns : List NodeNote). IsCourse (course_of c.self.inside.bus c.self.inside.lists ns)) (sym c.set.ensures)
    (note_keeps c.self.inside.bus c.self.inside.lists c.self.inside.notes _ c.args.node.0 c.args.target c.self.view_is
    c.self.invariant c.requires.is_open c.requires.ended).course

pub returns-clause-stays : goal.returns-clause-stays
returns-clause-stays c =
    subst (λ (ns : List NodeNote). Stays c.args.self.now (course_of c.self.inside.bus c.self.inside.lists ns))
    (sym c.set.ensures)
    (note_keeps c.self.inside.bus c.self.inside.lists c.self.inside.notes _ c.args.node.0 c.args.target c.self.view_is
    c.self.invariant c.requires.is_open c.requires.ended).stays
