use Rattle.std.proofs.Common.{sym, rules, tests}
use Rattle.link_buffers.specs.proof.BinarySearch.{IsFirstToFail}
use Rattle.link_buffers.specs.proof.DueQueues.{is_due_at}
use Rattle.link_buffers.proofs.PartitionedLists.{filter_front, count_front}
use Rattle.link_buffers.proofs.DueEntryPositions.{parted_due}
use Rattle.link_buffers.proofs.due_queue.DueQueue.due_count.Goals.{After-partition_point}
use Rattle.link_buffers.proofs.due_queue.DueQueue.due_count.Goals as goal

-- the entries are parted at the count
parts : (c : After-partition_point)
    → IsFirstToFail (is_due_at c.args.reading) c.self.inside.entries.items c.partition_point.result
parts c =
    c.partition_point.ensures.parts (is_due_at c.args.reading) (λ x b k. search (rules, tests))
    (parted_due c.self.inside.entries.items c.args.reading c.self.invariant.1)

pub returns-clause-count : goal.returns-clause-count
returns-clause-count c =
    rw (← c.self.view_is) (count_front (is_due_at c.args.reading) c.self.inside.entries.items c.partition_point.result
    (parts (goal.at.returns-clause-count c).After-partition_point) c.partition_point.ensures.bound)

pub returns-clause-first : goal.returns-clause-first
returns-clause-first c =
    rw (← c.self.view_is) (sym
    (filter_front (is_due_at c.args.reading) c.self.inside.entries.items c.partition_point.result
    (parts (goal.at.returns-clause-first c).After-partition_point) c.partition_point.ensures.bound))
