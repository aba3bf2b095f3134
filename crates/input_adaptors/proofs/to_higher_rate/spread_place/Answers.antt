use Rattle.std.proofs.Common.{◌∙◌, ◌<◌, ◌%◌, sym, ap, arith, slice_index_or}
use Rattle.pals_base.specs.Adaptors.{spread}
use Rattle.pals_base.specs.declared.basic_types.PortValue.TheVariants.{Absent}
use Rattle.input_adaptors.proofs.SpreadValues.{spread-place, spread-none}
use Rattle.input_adaptors.proofs.to_higher_rate.spread_place.Goals as goal

pub returns-then-m-eq0 : goal.returns-then-m-eq0
returns-then-m-eq0 c = sym (spread-none c.args.adaptor c.args.m c.args.step c.args.values.now c.if-m-eq0.true)

pub returns : goal.returns
returns c =
    let some : 0 < c.args.m = omega (arith, c.if-m-eq0.false) in
    c.at_place.ensures
    ∙ ap (λ v. slice_index_or (spread c.args.adaptor c.args.m v) (c.args.step % c.args.m) Absent) c.place-value.ensures
    ∙ sym (spread-place c.args.adaptor c.args.m c.args.step c.args.values.now some)
