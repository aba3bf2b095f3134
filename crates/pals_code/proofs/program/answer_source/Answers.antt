use Rattle.std.proofs.Common.{inr, Err, refl, ap, ◌∙◌}
use Rattle.pals_code.proofs.program.answer_source.Goals as goal

pub returns-in-Err-TooLong-clause-ok : goal.returns-in-Err-TooLong-clause-ok
returns-in-Err-TooLong-clause-ok g c =
    inr (inr (
      refl,
      c.read_all.ensures.too_long
          (c.in-Err-TooLong.is ∙ ap (λ e. Err e) c.in-Err-TooLong.field-0-is),
      refl,
    ))
