use Rattle.std.proofs.Common.{◌++◌, [], ◌∷◌, take, ap, ◌∙◌, sym, subst, arith}
use Rattle.std.proofs.lemmas.List.{take_all}
use Rattle.analysis_fields.specs.NamedFormulas.{PropertyValue}
use Rattle.run_monitor.specs.proof.SeveralMonitors.{HasWatched}
use Rattle.analysis_texts.specs.MonitoredFormulas.{formulas}
use Rattle.analysis_texts.proofs.WatchedRounds.{formulas-more}
use Rattle.analysis_texts.proofs.properties.monitors.Goals as goal

pub loop-property-preserved : goal.loop-property-preserved
loop-property-preserved c =
    let properties = c.args.properties.now in
    let at = c.loop-property.property-index in
    let so_far = formulas (take at properties) in
    subst (λ fs. HasWatched c.push.new.self fs [])
    (ap (λ (p : PropertyValue). so_far ++ p.form ∷ []) c.property.view_is
    ∙ sym (formulas-more properties at c.property-item.result c.loop-property-test.true c.property-item.is))
    (c.in_ok-push.ensures.ok so_far c.loop-property.invariant)

pub returns : goal.returns
returns c =
    subst (λ ps. HasWatched c.loop-property.monitors (formulas ps) [])
    (take_all c.loop-property.property-index c.args.properties.now (omega arith)) c.loop-property.invariant
