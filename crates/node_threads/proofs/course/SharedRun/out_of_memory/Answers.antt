use Rattle.std.proofs.Common.{List, sym, subst}
use Rattle.node_threads.specs.declared.node_end.NodeNote.{NodeNote}
use Rattle.node_threads.specs.proof.SharedCourses.{course_of, IsCourse, Stays}
use Rattle.node_threads.proofs.ChangesUnderLock.{memory_keeps}
use Rattle.node_threads.proofs.course.SharedRun.out_of_memory.Goals as goal

pub invariant_of-self : goal.invariant_of-self
invariant_of-self c =
    subst (λ (ns : List NodeNote). IsCourse (course_of c.close.new.self c.self.inside.lists ns)) (sym c.set.ensures)
    (memory_keeps c.self.inside.bus c.self.inside.lists c.self.inside.notes c.close.new.self _ c.args.node.0
    c.self.view_is c.self.invariant c.requires c.close.ensures).course

pub returns-clause-stays : goal.returns-clause-stays
returns-clause-stays c =
    subst (λ (ns : List NodeNote). Stays c.args.self.now (course_of c.close.new.self c.self.inside.lists ns))
    (sym c.set.ensures)
    (memory_keeps c.self.inside.bus c.self.inside.lists c.self.inside.notes c.close.new.self _ c.args.node.0
    c.self.view_is c.self.invariant c.requires c.close.ensures).stays
