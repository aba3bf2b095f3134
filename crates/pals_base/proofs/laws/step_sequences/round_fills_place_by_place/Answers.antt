use Rattle.pals_base.proofs.PartialRoundTuples.{so_far-none, so_far-one_more, so_far-all}
use Rattle.pals_base.proofs.laws.step_sequences.round_fills_place_by_place.Goals as goal

pub returns-clause-none : goal.returns-clause-none
returns-clause-none c = so_far-none

pub returns-clause-next : goal.returns-clause-next
returns-clause-next c = so_far-one_more

pub returns-clause-all : goal.returns-clause-all
returns-clause-all c = so_far-all
