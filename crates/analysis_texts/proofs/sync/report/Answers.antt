use Rattle.std.proofs.Common.{ap, ◌∙◌, sym}
use Rattle.sync_product.specs.proof.ProductStates.{ProductState}
use Rattle.pals_model.specs.Composition.{comp, opening}
use Rattle.analysis_texts.proofs.sync.report.Goals as goal

pub rows-requires-clause-opening : goal.rows-requires-clause-opening
unfolding comp
rows-requires-clause-opening c =
    ap (λ (s : ProductState). s.configuration) c.in_ok-product.ensures
    ∙ ap (λ (s : ProductState). opening s.design) (sym c.in_ok-product.ensures)
