use Rattle.aadl_tree.proofs.SpellingParts.{spells_append, spells_split, written_append, written_split}
use Rattle.aadl_tree.proofs.laws.parts_are_spelled_in_turn.Goals as goal

pub returns-clause-spelled : goal.returns-clause-spelled
returns-clause-spelled c a b ks rest =
    (spells_split a b ks rest, λ (mid, first, last). spells_append a b ks mid rest first last)

pub returns-clause-written : goal.returns-clause-written
returns-clause-written c a b ss rest =
    (written_split a b ss rest, λ (mid, first, last). written_append a b ss mid rest first last)
