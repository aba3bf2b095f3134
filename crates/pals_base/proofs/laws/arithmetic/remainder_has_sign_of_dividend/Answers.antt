use Rattle.pals_base.proofs.RemaindersAndModuli.{remainder_of-is}
use Rattle.pals_base.proofs.laws.arithmetic.remainder_has_sign_of_dividend.Goals as goal

pub returns : goal.returns
returns c = remainder_of-is
