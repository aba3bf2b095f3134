use Rattle.std.proofs.Common.{◌≡◌, ◌∙◌, ◌∷◌, [], ◌++◌, Some, None, sym, ap}
use Rattle.aadl_names.specs.proof.NameTables.{value_of}
use Rattle.model_violations.proofs.SpellingTables.{behind_known, behind_new, known_more}
use Rattle.model_violations.proofs.distinct_spellings.add_first.Goals as goal

pub returns-in-Some-clause-first : goal.returns-in-Some-clause-first
returns-in-Some-clause-first c =
    let there : value_of c.args.numbers.now c.args.name.now ≡ Some c.in-Some.field-0 =
    ap (value_of c.args.numbers.now) (sym c.as_str-text.ensures) ∙ sym c.in_ok-known.ensures ∙ c.in-Some.is in
    behind_known c.args.numbers.now c.args.first.now c.args.name.now c.in-Some.field-0 c.requires there

pub returns-in_ok-push-in-None-clause-first : goal.returns-in_ok-push-in-None-clause-first
returns-in_ok-push-in-None-clause-first c =
    let none : value_of c.args.numbers.now c.args.name.now ≡ None =
    ap (value_of c.args.numbers.now) (sym c.as_str-text.ensures) ∙ sym c.in_ok-known.ensures ∙ c.in-None.is in
    behind_new c.args.numbers.now c.args.first.now _ c.args.name.now c.requires none
    (c.in_ok-push-in-None.ensures.ok ∙ ap (λ t. c.args.first.now ++ t ∷ []) c.in_ok-try_clone-in-None.ensures)

pub returns-in_ok-push-in-None-clause-known : goal.returns-in_ok-push-in-None-clause-known
returns-in_ok-push-in-None-clause-known c =
    known_more c.args.numbers.now _ c.args.first.now _ c.as_str-text.result.now _ c.requires c.in_ok-add-in-None.ensures
    (c.in_ok-push-in-None.ensures.ok
    ∙ ap (λ t. c.args.first.now ++ t ∷ []) (c.in_ok-try_clone-in-None.ensures ∙ sym c.as_str-text.ensures))
