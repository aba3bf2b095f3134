use Rattle.design_laws.proofs.IdentifiersAreWords.{have_words}
use Rattle.design_laws.proofs.names.names_are_words.Goals as goal

pub returns : goal.returns
returns c = λ tree. have_words tree
