use Rattle.std.proofs.Common.{◌≡◌, IfOk, ap, ◌∙◌, sym, subst}
use Rattle.pals_model.specs.declared.design.DesignParts.{DesignParts}
use Rattle.sync_product.specs.proof.ProductStates.{ProductState}
use Rattle.pals_model.specs.Composition.{comp, opening}
use Rattle.run_monitor.specs.WatchText.{watch_text}
use Rattle.analysis_texts.specs.MonitoredFormulas.{named}
use Rattle.analysis_texts.proofs.properties.watch.Goals as goal

pub watch_rounds-requires-clause-opening : goal.watch_rounds-requires-clause-opening
unfolding comp
watch_rounds-requires-clause-opening c =
    ap (λ (s : ProductState). s.configuration) c.in_ok-product.ensures
    ∙ ap (λ (s : ProductState). opening s.design) (sym c.in_ok-product.ensures)

pub returns-clause-text : goal.returns-clause-text
returns-clause-text c =
    let same : c.in_ok-product.product.design ≡ c.args.design =
    ap (λ (s : ProductState). s.design) c.in_ok-product.ensures ∙ c.in_ok-new.ensures.ok in
    subst (λ (d : DesignParts).
    IfOk c.watch_rounds.result
    (λ w. w.text.items ≡ watch_text d c.args.env.now c.args.rounds (named c.args.properties.now)))
    same c.watch_rounds.ensures.text
