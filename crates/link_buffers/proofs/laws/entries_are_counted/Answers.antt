use Rattle.link_buffers.proofs.BufferLaws.{count_with, count_without}
use Rattle.link_buffers.proofs.laws.entries_are_counted.Goals as goal

pub returns-clause-with : goal.returns-clause-with
returns-clause-with c = count_with

pub returns-clause-without : goal.returns-clause-without
returns-clause-without c = count_without
