use Rattle.std.proofs.Common.{◌≡◌, ◌∙◌, ◌≤◌, ℕ, List, [], ◌∷◌, length, sym, ap, ap₂, subst, arith, length-append}
use Rattle.std.specs.Prelude.{slice_index_or}
use Rattle.std.proofs.lemmas.List.{get_or_default}
use Rattle.pals_base.specs.declared.limits.TheConstants.{INSTRUCTIONS}
use Rattle.pals_model.specs.declared.design.Component.{Component}
use Rattle.step_code.specs.proof.CodeMatchesBehaviour.{Means}
use Rattle.step_code.specs.CodeLengths.{code_length}
use Rattle.step_compiler.specs.LaidOutCode.{IsLaidOut}
use Rattle.bus_machine.specs.Plans.{component_at, no_component}
use Rattle.design_codes.specs.OverlongCodes.{length_of}
use Rattle.design_codes.proofs.Codes.{AreFirst, first_more}
use Rattle.design_codes.proofs.compile_all.Goals as goal

pub loop-component-preserved : goal.loop-component-preserved
loop-component-preserved c =
    let design = c.args.design.now in
    let codes = c.loop-component.codes in
    let code = c.in-Ok.code in
    let at = c.loop-component.component-index in
    let count = c.loop-component.invariant.1 in
    let item = c.component-item.result in
    let here : item ≡ component_at design (length codes) =
    c.component-item.is
    ∙ get_or_default c.components-component-items.result.now at item no_component c.loop-component-test.true
    ∙ ap₂ (λ (cs : List Component) (k : ℕ). slice_index_or cs k no_component) c.components-component-items.ensures.value
    (sym count) in
    let means = subst (λ (k : Component). Means code k.behaviour) here c.in-Ok.ensures.means in
    let laid = subst (λ (k : Component). IsLaidOut k.behaviour code) here c.in-Ok.ensures.layout in
    let short = c.parts-verified.ensures.verified.short in
    let long = c.in-Ok.ensures.length in
    let same : code_length item.behaviour ≡ length_of design (length codes) =
    ap (λ (k : Component). code_length k.behaviour) here in
    let size : length_of design (length codes) ≤ INSTRUCTIONS = omega (arith, short, long, same) in
    let pushed = c.in_ok-push-in-Ok.ensures.ok in
    let more = ap length pushed ∙ length-append codes (code ∷ []) in (
      subst (AreFirst design) (sym pushed) (first_more design codes code c.loop-component.invariant.0 laid means size),
      omega (arith, more, count),
    )
