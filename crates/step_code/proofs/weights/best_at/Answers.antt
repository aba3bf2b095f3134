use Rattle.std.proofs.Common.{◌≡◌, ◌∙◌, ◌+◌, Some, map, pos, sym, ap, subst, arith, slice_index_or}
use Rattle.std.specs.Prelude.{slice_get}
use Rattle.std.proofs.lemmas.Option.{slice_get-get_or, get_or_from_slice_get}
use Rattle.step_code.specs.declared.instr.Instr.TheVariants.{Push}
use Rattle.step_code.specs.SuccessorsAndWeights.{forward_successors, greatest, weight_at}
use Rattle.step_code.specs.proof.VerifierIntermediateResults.{AreThere}
use Rattle.step_code.specs.CappedWeights.{capped}
use Rattle.step_code.proofs.CheckedPlaces.{known_there}
use Rattle.step_code.proofs.VerifiedInstructionsAndEntries.{verified_known}
use Rattle.step_code.proofs.CappedWeights.{best_here}
use Rattle.step_code.proofs.weights.best_at.Goals as goal

pub best_onward-requires-clause-there : goal.best_onward-requires-clause-there
best_onward-requires-clause-there c =
    let parts = c.args.parts.now in
    let i = slice_index_or c.as_slice.result.now c.args.place (Push (pos 0)) in
    let size = c.as_slice.ensures.len in
    let within = c.requires.within in
    let here : slice_get parts.instrs c.args.place ≡ Some i =
    ap (λ l. slice_get l c.args.place) (sym c.as_slice.ensures.value)
    ∙ slice_get-get_or c.as_slice.result.now c.args.place (Push (pos 0)) (omega arith) in
    subst (AreThere (forward_successors c.args.place (Some i))) (sym c.requires.best.count)
    (known_there parts c.args.place i (verified_known parts c.args.place i c.requires.verified here))

pub returns : goal.returns
returns c =
    let parts = c.args.parts.now in
    let p = c.args.place in
    let i = slice_index_or c.as_slice.result.now p (Push (pos 0)) in
    let size = c.as_slice.ensures.len in
    let n = c.requires.count in
    let within = c.requires.within in
    let here : slice_get parts.instrs p ≡ Some i = ap (λ l. slice_get l p) (sym c.as_slice.ensures.value)
    ∙ slice_get-get_or c.as_slice.result.now p (Push (pos 0)) (omega arith) in
    let weight : slice_index_or c.args.weights.now p 0 ≡ capped (weight_at parts.instrs p) =
    get_or_from_slice_get c.args.weights.now p (capped (weight_at parts.instrs p)) 0
    (c.requires.weights.each p (omega arith)) in
    c.saturating_add.ensures
    ∙ ap (λ b. capped (slice_index_or c.args.weights.now p 0 + b)) c.best_onward.ensures
    ∙ ap (λ w. capped (w + greatest (map (λ to. slice_index_or c.args.best.now to 0) (forward_successors p (Some i)))))
    weight
    ∙ best_here parts p i c.args.best.now 0 c.requires.verified here c.requires.within c.requires.best
