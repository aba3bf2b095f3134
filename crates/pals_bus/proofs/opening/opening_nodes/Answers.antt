use Rattle.std.proofs.Common.{◌≡◌, ◌∙◌, ◌∷◌, [], ◌++◌, ℕ, length, sym, ap, subst, arith}
use Rattle.pals_node.specs.proof.NodeAndJobValues.{Program, program_of, opening_value}
use Rattle.pals_bus.specs.proof.OpeningNodes.{AreOpening}
use Rattle.pals_bus.proofs.Openings.{opening_one}
use Rattle.pals_bus.proofs.opening.opening_nodes.Goals as goal

pub loop-code-preserved : goal.loop-code-preserved
loop-code-preserved c =
    let design = c.args.design.now in
    let nodes = c.loop-code.nodes.items in
    let code = c.in-Some.code in
    let n = c.in_ok-new.field-0 in
    let size = c.loop-code.nodes.ok.0 in
    let len = c.len.ensures in
    let number : c.len.result ≡ length nodes = omega (arith, size, len) in
    let program = c.in_ok-plan-2.ensures.ok ∙ c.in_ok-plan.ensures ∙ ap (λ (k : ℕ). program_of design k code) number in
    let is : n ≡ opening_value (program_of design (length nodes) code) c.args.rounds = c.in_ok-new.ensures
    ∙ ap (λ (p : Program). opening_value p c.args.rounds) program in
    subst (AreOpening design (c.loop-code.yielded ++ code ∷ []) c.args.rounds) (sym c.in_ok-push.ensures.items)
    (opening_one design c.loop-code.yielded c.args.rounds nodes code n c.loop-code.invariant is)
