use Rattle.std.proofs.Common.{sym}
use Rattle.node_threads.proofs.ThreadSlotLists.{none_slot}
use Rattle.node_threads.proofs.sleepers.Sleepers.slot.Goals as goal

pub returns-in-None : goal.returns-in-None
returns-in-None c = sym (none_slot c.args.self.now.threads c.args.node.0 c.in-None.ensures)
