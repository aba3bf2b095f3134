use Rattle.std.proofs.Common.{◌≡◌, take, All}
use Rattle.pals_bus.proofs.DueEntriesAndCopies.{IsShort}
use Rattle.pals_bus.proofs.all_due_arrivals.due_messages.Given as goal

-- the first entries that are due are there
abbrev pub invariant-loop-place : goal.invariant-loop-place
invariant-loop-place l = (l.due.items ≡ take l.place l.queue.entries) × All IsShort l.due.items
