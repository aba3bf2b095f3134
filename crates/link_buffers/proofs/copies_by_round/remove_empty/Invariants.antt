use Rattle.std.proofs.Common.{◌≡◌, ◌≤◌, length}
use Rattle.circular_buffer.specs.Buffer.{buffer}
use Rattle.link_buffers.specs.proof.CopiesByRound.{has_copies}
use Rattle.link_buffers.proofs.KeptItems.{turned}
use Rattle.link_buffers.proofs.copies_by_round.remove_empty.Given as goal

-- the rounds that the loop has passed follow the others if they have copies
abbrev pub invariant-loop : goal.invariant-loop
invariant-loop l =
    (l.end ≡ length l.fn.rounds.items) × (length l.rounds.items ≤ l.rounds.capacity)
    × (l.rounds ≡ buffer (turned has_copies l.fn.rounds.items l.counter) l.fn.rounds.capacity)
