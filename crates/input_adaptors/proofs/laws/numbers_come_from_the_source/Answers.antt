use Rattle.input_adaptors.proofs.NumbersFromSource.{Contains-adapt}
use Rattle.input_adaptors.proofs.laws.numbers_come_from_the_source.Goals as goal

pub returns : goal.returns
returns c = Contains-adapt
