use Rattle.std.proofs.Common.{◌≡◌, ap, ◌∙◌, refl}
use Rattle.sync_product.specs.proof.ProductStates.{ProductState, advanced}
use Rattle.analysis_texts.proofs.ProductRoundsAndRows.{further, row_after}
use Rattle.analysis_texts.proofs.properties.go_on.Goals as goal

pub returns-clause-further : goal.returns-clause-further
returns-clause-further c env here at =
    ap (λ (s : ProductState). s.configuration) c.in_ok-advance.ensures.ok
    ∙ further c.args.product.now.design env c.args.round c.args.values.now c.args.product.now refl here at

pub returns-clause-watches : goal.returns-clause-watches
returns-clause-watches c env fs here at watched =
    let old = c.args.product.now in
    let parts : c.parts.result.now ≡ (advanced old c.args.values.now).parts = c.parts.ensures
    ∙ ap (λ (s : ProductState). s.parts) c.in_ok-advance.ensures.ok in
    c.advance-2.ensures.composed old.design env fs watched
    (row_after env c.args.round c.args.values.now old c.parts.result.now here at parts)
