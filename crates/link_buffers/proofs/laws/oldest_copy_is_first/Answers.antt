use Rattle.pals_model.specs.Flights.{is_of}
use Rattle.link_buffers.proofs.BufferLaws.{first_from_find, none_from_find, without_none}
use Rattle.link_buffers.proofs.laws.oldest_copy_is_first.Goals as goal

pub returns-clause-some : goal.returns-clause-some
returns-clause-some c = λ round copies copy. first_from_find (is_of round) copies copy

pub returns-clause-none : goal.returns-clause-none
returns-clause-none c = λ round copies. none_from_find (is_of round) copies

pub returns-clause-left : goal.returns-clause-left
returns-clause-left c = λ round copies. without_none (is_of round) copies
