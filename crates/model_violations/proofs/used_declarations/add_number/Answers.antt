use Rattle.std.proofs.Common.{◌∙◌, sym, ap}
use Rattle.std.specs.Prelude.{◌||◌}
use Rattle.std.proofs.Math.Bool.{or-false}
use Rattle.model_violations.specs.IgnoredProperties.{is_number}
use Rattle.model_violations.specs.UsedDeclarations.{has}
use Rattle.model_violations.proofs.NumberSets.{has_inserted}
use Rattle.model_violations.proofs.used_declarations.add_number.Goals as goal

pub returns-in_ok-insert-in-Some : goal.returns-in_ok-insert-in-Some
returns-in_ok-insert-in-Some c = λ n.
    has_inserted c.args.numbers.now.keys _ c.in-Some.number n c.in_ok-insert-in-Some.ensures.keys
    ∙ ap (λ o. has c.args.numbers.now.keys n || is_number n o) (sym c.in-Some.is)

pub returns-in-None : goal.returns-in-None
returns-in-None c =
    λ n. sym (or-false (has c.args.numbers.now.keys n))
    ∙ ap (λ o. has c.args.numbers.now.keys n || is_number n o) (sym c.in-None.is)
