use Rattle.std.proofs.Common.{◌≡◌, ◌+◌, ◌^◌, ◌<◌, ◌≤◌, length}
use Rattle.link_buffers.proofs.copy_nodes.CopyNodes.reserve.Given as goal

-- as many nodes are free as the loop has counted, and each that was made is free
abbrev pub invariant-loop : goal.invariant-loop
invariant-loop l =
    (l.counter ≤ length l.self.free) × (length l.fn.self.free ≤ length l.self.free)
    × (length l.self.free + l.fn.self.made ≡ length l.fn.self.free + l.self.made) × (l.self.made < 2 ^ 32)
