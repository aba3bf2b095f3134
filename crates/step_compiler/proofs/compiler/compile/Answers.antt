use Rattle.std.proofs.Common.{◌∙◌, ◌≤◌, length, sym, ap, subst, arith}
use Rattle.pals_base.specs.declared.limits.TheConstants.{INSTRUCTIONS}
use Rattle.pals_base.specs.declared.behaviour.BehaviourParts.{BehaviourParts}
use Rattle.step_code.specs.declared.instr.CodeParts.{CodeParts}
use Rattle.step_code.specs.proof.VerifierRules.{IsVerified}
use Rattle.step_code.specs.proof.CodeMatchesBehaviour.{Means}
use Rattle.step_code.specs.CodeLengths.{length_edges, code_length}
use Rattle.step_compiler.specs.LaidOutCode.{IsLaidOut}
use Rattle.step_compiler.proofs.LayoutLaws.{compiled_is_laid_out}
use Rattle.step_compiler.proofs.CompilerCorrectness.{compiled_means, compiled_length}
use Rattle.step_compiler.proofs.VerifierAcceptance.{compiled_verified, only_memory}
use Rattle.step_compiler.proofs.compiler.compile.Goals as goal

pub returns-in-Ok-clause-layout : goal.returns-in-Ok-clause-layout
returns-in-Ok-clause-layout c =
    let b = c.args.behaviour.now in
    subst (IsLaidOut b) (sym (c.in-Ok.ensures.code ∙ c.in_ok-parts.ensures))
    (compiled_is_laid_out b c.parts.ensures.rules)

pub returns-in-Ok-clause-means : goal.returns-in-Ok-clause-means
returns-in-Ok-clause-means c =
    let b = c.args.behaviour.now in
    let parts = c.in_ok-parts.ensures in
    let means = compiled_means b c.parts.ensures.rules (subst IsVerified parts c.in-Ok.ensures.verified) in
    subst (λ (x : CodeParts). Means x b) (sym (c.in-Ok.ensures.code ∙ parts)) means

pub returns-in-Ok-clause-length : goal.returns-in-Ok-clause-length
returns-in-Ok-clause-length c =
    ap (λ (x : CodeParts). length x.instrs) (c.in-Ok.ensures.code ∙ c.in_ok-parts.ensures)
    ∙ compiled_length c.args.behaviour.now c.parts.ensures.rules

pub refusal-requires : goal.refusal-requires
refusal-requires c =
    let b = c.args.behaviour.now in
    let parts = c.in_ok-parts.ensures in
    let same =
    ap length_edges (c.as_slice.ensures.value ∙ ap (λ (x : BehaviourParts). x.transitions) c.parts.ensures.value) in
    let short : code_length b ≤ INSTRUCTIONS = omega (arith, c.transitions_length-length.ensures, c.if-length.false) in
    let verified = subst IsVerified (sym parts) (compiled_verified b c.parts.ensures.rules short) in
    only_memory c.in_ok-parts.parts c.in-Err.fault verified c.in-Err.ensures.fault
