use Rattle.std.proofs.Common.{◌≡◌, ◌++◌, OnOk, refl, ap, ◌∙◌, sym, subst}
use Rattle.list_lemmas.proofs.Results.{OnOk-always}
use Rattle.pals_model.specs.Composition.{comp}
use Rattle.pals_model.specs.RoundTexts.{row}
use Rattle.sync_product.specs.proof.ProductStates.{ProductState, advanced}
use Rattle.analysis_texts.proofs.ProductRoundsAndRows.{further, parts_after}
use Rattle.analysis_texts.proofs.sync.add_round.Goals as goal

pub returns-clause-row : goal.returns-clause-row
returns-clause-row c env here at =
    let old = c.args.product.now in
    let shown = c.design.result.now in
    let same : shown ≡ old.design = c.design.ensures ∙ ap (λ (s : ProductState). s.design) c.in_ok-advance.ensures.ok in
    let parts : c.parts.result.now ≡ (advanced old c.args.values.now).parts = c.parts.ensures
    ∙ ap (λ (s : ProductState). s.parts) c.in_ok-advance.ensures.ok in
    let stands = at ∙ ap (λ d. comp d env c.args.round) (sym same) in
    subst (λ d. OnOk c.add_row.result (c.add_row.new.out.items ≡ c.args.text.now.items ++ row d env c.args.round)) same
    (c.add_row.ensures.composed env
    (parts_after shown env c.args.round c.args.values.now old c.parts.result.now (sym same) here stands parts))

pub returns-clause-further : goal.returns-clause-further
returns-clause-further c env here at =
    OnOk-always c.add_row.result _
    (ap (λ (s : ProductState). s.configuration) c.in_ok-advance.ensures.ok
    ∙ further c.args.product.now.design env c.args.round c.args.values.now c.args.product.now refl here at)
