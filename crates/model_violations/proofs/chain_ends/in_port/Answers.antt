use Rattle.std.proofs.Common.{◌≡◌, ◌∙◌, ◌+◌, sym, arith}
use Rattle.aadl_tree.specs.proof.PlaceMaps.{kept_place}
use Rattle.aadl_tree.specs.proof.DeclarationViews.{feature_view}
use Rattle.component_checks.specs.TypeFindings.{is_in}
use Rattle.model_violations.proofs.NthFilteredItem.{found_here, found_later, not_here, nowhere}
use Rattle.model_violations.proofs.chain_ends.in_port.Goals as goal
use Rattle.model_violations.proofs.chain_ends.in_port.Goals.{then-is_in+else-left-eq0, else-is_in}

pub returns-then-left-eq0 : goal.returns-then-left-eq0
returns-then-left-eq0 c =
    let e =
    found_here is_in (feature_view kept_place) c.args.ports.now c.loop-port.port-index c.loop-port.left
    c.port-item.result c.loop-port-test.true c.port-item.is (sym c.is_in.ensures ∙ c.if-is_in.true)
    c.if-left-eq0.true in
    sym e ∙ c.loop-port.invariant

pub loop-port-preserved : goal.loop-port-preserved
loop-port-preserved c =
    elim c.if-is_in.branch [
      | then-is_in+else-left-eq0 w ↦
          let less : c.loop-port.left ≡ c.if-is_in.left + 1 = omega arith in
          sym (found_later is_in (feature_view kept_place) c.args.ports.now c.loop-port.port-index c.loop-port.left
          c.if-is_in.left c.port-item.result c.loop-port-test.true c.port-item.is
          (sym c.is_in.ensures ∙ w.if-is_in.true) less)
          ∙ c.loop-port.invariant
      | else-is_in w ↦
          let e =
          not_here is_in (feature_view kept_place) c.args.ports.now c.loop-port.port-index c.loop-port.left
          c.port-item.result c.loop-port-test.true c.port-item.is (sym c.is_in.ensures ∙ w.if-is_in.false) in
          cc
    ]

pub returns : goal.returns
returns c =
    sym (nowhere is_in (feature_view kept_place) c.args.ports.now c.loop-port.port-index c.loop-port.left
    c.loop-port-test.false) ∙ c.loop-port.invariant
