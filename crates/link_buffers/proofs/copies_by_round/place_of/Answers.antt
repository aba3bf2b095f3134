use Rattle.std.proofs.Common.{rules, tests}
use Rattle.std.proofs.Common.{nat_lt}
use Rattle.link_buffers.proofs.CopiesByRound.{parted_by_round}
use Rattle.link_buffers.proofs.copies_by_round.place_of.Goals as goal

pub returns-clause-parts : goal.returns-clause-parts
returns-clause-parts c =
    c.partition_point.ensures.parts (λ entry. nat_lt entry.round c.args.round) (λ x b k. search (rules, tests))
    (parted_by_round c.args.round c.args.rounds.now.items c.requires)
