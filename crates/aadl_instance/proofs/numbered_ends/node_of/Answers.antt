use Rattle.std.proofs.Common.{rules}
use Rattle.std.proofs.lemmas.List.Sorted.{IsPartitionPoint-from_clause}
use Rattle.aadl_uses.specs.ThreadsBelow.{path_before}
use Rattle.aadl_instance.proofs.DepthFirstOrder.{parted, number_found}
use Rattle.aadl_instance.proofs.numbered_ends.node_of.Goals as goal

pub returns : goal.returns
returns c =
    let threads = c.args.threads.now in
    let path = c.args.path.now in
    let point =
    IsPartitionPoint-from_clause (λ thread. path_before thread.items path) _ _
    c.partition_point-before.ensures.partitioned
    (parted threads path c.requires.in_order) (λ a r q k. search rules) in
    number_found threads path c.requires.in_order c.partition_point-before.result point c.requires.among
