use Rattle.pals_base.proofs.RemaindersAndModuli.{modulus_of-is}
use Rattle.pals_base.proofs.laws.arithmetic.modulus_has_sign_of_divisor.Goals as goal

pub returns : goal.returns
returns c = modulus_of-is
