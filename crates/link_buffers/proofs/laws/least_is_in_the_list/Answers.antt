use Rattle.link_buffers.proofs.BufferLaws.{least_some, least_none}
use Rattle.link_buffers.proofs.laws.least_is_in_the_list.Goals as goal

pub returns-clause-some : goal.returns-clause-some
returns-clause-some c = least_some

pub returns-clause-none : goal.returns-clause-none
returns-clause-none c = least_none
