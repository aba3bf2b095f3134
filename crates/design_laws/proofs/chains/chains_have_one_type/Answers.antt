use Rattle.design_laws.proofs.ChainTypes.{kinds_along}
use Rattle.design_laws.proofs.chains.chains_have_one_type.Goals as goal

pub returns : goal.returns
returns c =
    λ tree name parts used flat is_use none chain from to leads. kinds_along flat used is_use none chain from to leads
