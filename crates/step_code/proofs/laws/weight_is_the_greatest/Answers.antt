use Rattle.step_code.proofs.HeaviestPaths.{no_heavier, one_heaviest}
use Rattle.step_code.proofs.laws.weight_is_the_greatest.Goals as goal

pub returns-clause-none_more : goal.returns-clause-none_more
returns-clause-none_more c = no_heavier

pub returns-clause-one : goal.returns-clause-one
returns-clause-one c = λ parts entry v among. let h = one_heaviest parts entry v among in
    (h.entry, h.attains.rest, h.among, h.attains.path, h.attains.weighs)
