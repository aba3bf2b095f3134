use Rattle.std.proofs.Common.{◌≡◌, ◌++◌, ap, ◌∙◌, arith, to_z, of_z, w64}
use Rattle.std.proofs.lemmas.Grind.{common_steps}
use Rattle.std.proofs.lemmas.Int.{to_z-of_z}
use Rattle.std.proofs.lemmas.List.{length_push}
use Rattle.std.proofs.lemmas.Slice.Zip.{zip_turn, zip_end}
use Rattle.std.specs.Slice.Iter.{iter_rest}
use Rattle.std.specs.Iterator.Adapters.{zip_first, zip_second}
use Rattle.pals_model.specs.RoundTexts.{variable_text}
use Rattle.pals_report.proofs.CommaListsAndVariables.{vars_text-turn, vars_text-all}
use Rattle.pals_report.proofs.TextPrefixes.{begins_on_err}
use Rattle.pals_report.proofs.component_state.add_variables.Goals as goal

pub loop-variable-preserved : goal.loop-variable-preserved
loop-variable-preserved c =
    let gives = c.into_iter-variable-iterator.ensures.into_iter_gives in
    let first =
    ap (λ z. iter_rest (zip_first z)) gives ∙ ap iter_rest c.zip-variable-items.ensures.first
    ∙ c.iter.ensures.rest in
    let second = ap (λ z. iter_rest (zip_second z)) gives ∙ c.zip-variable-items.ensures.second.0 in
    let turn =
    zip_turn _ _ c.loop-variable.yielded c.into_iter-variable-iterator.result c.loop-variable.variable-iterator
    c.next.new.self c.next.result first second c.loop-variable.yielded_by _ c.in-Some.is c.next.ensures.steps in
    let number : to_z w64 (of_z w64 c.in-Some.value.now) ≡ c.in-Some.value.now =
    grind (arith, common_steps, to_z-of_z) in
    rw (length_push c.loop-variable.yielded _)
    (vars_text-turn _ _ _ _ _ _ _ _ turn.0 turn.1 turn.2 turn.3 c.loop-variable.invariant
    (c.in_ok-add_variable.ensures.ok
    ∙ ap (λ n. c.loop-variable.out.items ++ variable_text c.in-Some.variable.now n) number))

pub returns-in_err-add_variable-clause-err : goal.returns-in_err-add_variable-clause-err
returns-in_err-add_variable-clause-err c =
    begins_on_err c.from_residual.result _ _ _ _ c.loop-variable.invariant c.in_err-add_variable.ensures.err

pub returns-clause-ok : goal.returns-clause-ok
returns-clause-ok c =
    let gives = c.into_iter-variable-iterator.ensures.into_iter_gives in
    let first =
    ap (λ z. iter_rest (zip_first z)) gives ∙ ap iter_rest c.zip-variable-items.ensures.first
    ∙ c.iter.ensures.rest in
    let second = ap (λ z. iter_rest (zip_second z)) gives ∙ c.zip-variable-items.ensures.second.0 in
    let all =
    zip_end _ _ c.loop-variable.yielded c.into_iter-variable-iterator.result c.loop-variable.variable-iterator
    c.next.new.self c.next.result first second c.loop-variable.yielded_by c.in-None.is c.next.ensures.steps in
    c.loop-variable.invariant ∙ ap (λ t. c.args.out.now.items ++ t) (vars_text-all _ _ _ all)
