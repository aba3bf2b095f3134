use Rattle.std.proofs.Common.{◌≡◌, ◌∙◌, ap, ℕ, zero, suc, ◌<◌, pos, ℤ, refl, arith}
use Rattle.std.specs.Int.RustNames.{int_div}
use Rattle.pals_base.specs.declared.basic_types.PortValue.TheVariants.{Present}
use Rattle.input_adaptors.specs.proof.PortValuesAsNumbers.{mean_of}
use Rattle.input_adaptors.proofs.Quotient.{quotient_is}
use Rattle.input_adaptors.proofs.group_value.quotient.Goals as goal

mean_of_some : (sum : ℤ) (n : ℕ) → 0 < n → Present (int_div sum (pos n)) ≡ mean_of sum n
mean_of_some sum zero some = absurd (omega arith)
mean_of_some sum (suc n) some = refl

pub returns-else-count-eq0 : goal.returns-else-count-eq0
returns-else-count-eq0 c =
    let some : 0 < c.args.count = omega arith in
    ap Present (quotient_is c.args.sum c.args.count some c.ranges.count.fits c.ranges.sum c.requires.low
    c.requires.high) ∙ mean_of_some c.args.sum c.args.count some
