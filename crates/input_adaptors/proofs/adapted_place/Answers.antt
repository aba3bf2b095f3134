use Rattle.std.proofs.Common.{◌∙◌, ◌*◌, sym, ap, take, drop, slice_index_or}
use Rattle.pals_base.specs.declared.basic_types.PortValue.TheVariants.{Absent}
use Rattle.pals_base.specs.Adaptors.{adapt, joined}
use Rattle.input_adaptors.proofs.TupleLengthsAndGroups.{joined-place}
use Rattle.input_adaptors.proofs.adapted_place.Goals as goal

pub returns-in-Some-2 : goal.returns-in-Some-2
returns-in-Some-2 c =
    let tuple = c.args.tuple.now in
    let step = c.args.step in
    c.joined_place.ensures
    ∙ ap (λ m. joined c.in-Some-2.adaptor (take m (drop (step * m) tuple))) c.ratio-in-Some-2.ensures
    ∙ sym (joined-place c.in-Some-2.adaptor c.args.p c.args.q step tuple c.if-p-q.false c.requires)
    ∙ ap (λ a. slice_index_or (adapt a c.args.p c.args.q tuple) step Absent) (sym c.in-Some-2.is)
