use Rattle.std.proofs.Common.{◌∙◌, sym, ap, subst}
use Rattle.step_code.specs.proof.StackHeights.{Member}
use Rattle.step_code.specs.SuccessorsAndWeights.{entry_weight}
use Rattle.step_code.specs.CappedWeights.{capped}
use Rattle.step_code.proofs.CappedWeights.{entry_best}
use Rattle.step_code.proofs.weights.entry_weight.Goals as goal

pub bounds-best-place : goal.bounds-best-place
bounds-best-place c =
    (entry_best c.args.parts.now c.args.best.now c.in-Some.place 0 c.requires.verified c.requires.best
    (subst (Member c.args.parts.now.entries) c.in-Some.is c.requires.entry)).0

pub returns-in-Some : goal.returns-in-Some
returns-in-Some c =
    (entry_best c.args.parts.now c.args.best.now c.in-Some.place 0 c.requires.verified c.requires.best
    (subst (Member c.args.parts.now.entries) c.in-Some.is c.requires.entry)).1
    ∙ ap (λ e. capped (entry_weight c.args.parts.now.instrs e)) (sym c.in-Some.is)
