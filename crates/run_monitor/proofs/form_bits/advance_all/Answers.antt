use Rattle.std.proofs.Common.{◌≡◌, ◌∙◌, ◌<◌, Bool, List, length, ap, arith}
use Rattle.std.proofs.lemmas.Grind.{common_steps}
use Rattle.std.proofs.lemmas.Option.{slice_get_within}
use Rattle.run_monitor.specs.proof.FormBits.{bit_at, next_bit}
use Rattle.run_monitor.proofs.BitWrites.{stay_more, advanced_more}
use Rattle.run_monitor.proofs.form_bits.advance_all.Goals as goal

pub loop-at-preserved : goal.loop-at-preserved
loop-at-preserved c =
    let at = c.loop-at.at in
    let before = c.loop-at.bits in
    let form = c.form_at-form.result in
    let kept = c.args.kept.now in
    let within : at < length before = omega (arith, c.loop-at.invariant.len, c.loop-at-test.true) in
    let value : c.next_bit-bit.result ≡ next_bit form at c.args.begun kept before (bit_at before at) =
    c.next_bit-bit.ensures ∙ ap (λ (bs : List Bool). next_bit form at c.args.begun kept bs (bit_at bs at))
    c.as_slice.ensures.value in
    record {
      len = grind (arith, common_steps);
      done =
          advanced_more c.args.begun kept c.args.forms.now before c.args.bits.now c.set.new.self at form
          c.next_bit-bit.result c.requires.order c.form_at-form.ensures within
          value c.set.ensures c.loop-at.invariant.stay c.loop-at.invariant.done;
      stay =
          stay_more before c.args.bits.now c.set.new.self at c.next_bit-bit.result c.set.ensures
          c.loop-at.invariant.stay;
    }

pub returns-clause-each : goal.returns-clause-each
returns-clause-each c = λ k e is.
    (let within = slice_get_within c.args.forms.now k e is in
    c.loop-at.invariant.done k e (omega (arith, within, c.loop-at-test.false)) is)
