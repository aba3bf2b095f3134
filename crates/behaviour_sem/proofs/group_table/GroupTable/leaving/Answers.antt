use Rattle.std.proofs.Common.{◌∙◌, sym, ap}
use Rattle.behaviour_sem.specs.proof.GroupedTransitions.{numbers_of}
use Rattle.behaviour_sem.proofs.GroupedTransitions.{no_numbers}
use Rattle.behaviour_sem.proofs.group_table.GroupTable.leaving.Goals as goal

pub returns-in-None : goal.returns-in-None
returns-in-None c =
    no_numbers c.self.inside.groups c.args.state (numbers_of c.args.state 0 c.args.self.now) (sym c.in-None.ensures)
    (c.self.invariant c.args.state ∙ ap (numbers_of c.args.state 0) c.self.view_is)
