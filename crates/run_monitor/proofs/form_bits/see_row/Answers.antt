use Rattle.std.proofs.Common.{◌≡◌, ◌∙◌, ◌<◌, Bool, List, length, ap, arith}
use Rattle.std.proofs.lemmas.Grind.{common_steps}
use Rattle.std.proofs.lemmas.Option.{slice_get_within}
use Rattle.run_monitor.specs.declared.flat_form.FlatForm.{FlatForm}
use Rattle.run_monitor.specs.proof.FormBits.{bit_at, row_of, row_bit}
use Rattle.run_monitor.proofs.BitWrites.{stay_more, seen_more}
use Rattle.run_monitor.proofs.form_bits.see_row.Goals as goal

pub loop-at-preserved : goal.loop-at-preserved
loop-at-preserved c =
    let at = c.loop-at.at in
    let before = c.loop-at.bits in
    let form = c.form_at-form.result in
    let bit = c.row_bit-bit.result in
    let f : FlatForm → Bool → Bool = λ e. row_bit e (row_of c.args.parts.now) in
    let within : at < length before = omega (arith, c.loop-at.invariant.len, c.loop-at-test.true) in
    let value : bit ≡ f form (bit_at before at) =
    c.row_bit-bit.ensures ∙ ap (f form)
    (c.bit_at.ensures ∙ ap (λ (bs : List Bool). bit_at bs at) c.as_slice.ensures.value) in
    record {
      len = grind (arith, common_steps);
      seen =
          seen_more f c.args.forms.now before c.args.bits.now c.set.new.self at form bit c.form_at-form.ensures within
          value c.set.ensures
          c.loop-at.invariant.stay c.loop-at.invariant.seen;
      stay = stay_more before c.args.bits.now c.set.new.self at bit c.set.ensures c.loop-at.invariant.stay;
    }

pub returns-clause-each : goal.returns-clause-each
returns-clause-each c = λ k e is.
    (let within = slice_get_within c.args.forms.now k e is in
    c.loop-at.invariant.seen k e (omega (arith, within, c.loop-at-test.false)) is)
