use Rattle.std.proofs.Common.{◌≡◌, List, length, replicate, sym, ap, ◌∙◌, subst}
use Rattle.pals_model.specs.declared.design.Component.{Component}
use Rattle.pals_model.specs.declared.design.DesignParts.{DesignParts}
use Rattle.pals_model.specs.DesignRules.{IsDesign}
use Rattle.node_threads.specs.declared.node_end.NodeNote.{NodeNote}
use Rattle.node_threads.specs.declared.node_end.NodeNote.TheVariants as note
use Rattle.node_threads.specs.proof.SharedCourses.{course_of, IsCourse}
use Rattle.node_threads.proofs.CourseOpenings.{course_opens}
use Rattle.node_threads.proofs.course.SharedRun.new.Goals as goal

pub invariant_of-result : goal.invariant_of-result
invariant_of-result c =
    let b = c.args.bus in
    let components = c.components.ensures.value ∙ ap (λ (d : DesignParts). d.components) c.design.ensures in
    let notes : c.from_vec.result ≡ replicate (length b.run.design.components) note.Open =
    c.from_vec.ensures ∙ c.in_ok-notes.ensures.items_if_clones_equal (λ y same. same)
    ∙ ap (λ (cs : List Component). replicate (length cs) note.Open) components in
    subst (λ (ns : List NodeNote). IsCourse (course_of b c.args.lists ns)) (sym notes)
    (course_opens b c.args.lists c.requires.opening (subst IsDesign c.design.ensures c.components.ensures.rules)
    c.agreement.ensures.rounds c.requires.clocks)
