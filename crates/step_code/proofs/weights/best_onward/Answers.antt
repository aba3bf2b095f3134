use Rattle.std.proofs.Common.{◌∙◌, ℕ, length, map, max, option_to_list, sym, ap, subst, slice_index_or}
use Rattle.step_code.specs.SuccessorsAndWeights.{greatest, jump_of, next_of}
use Rattle.step_code.specs.proof.VerifierIntermediateResults.{AreThere}
use Rattle.step_code.proofs.HeightPropagation.{there_jump, there_next}
use Rattle.step_code.proofs.CappedWeights.{greatest_both}
use Rattle.step_code.proofs.weights.best_onward.Goals as goal

pub number_at-requires : goal.number_at-requires
number_at-requires c =
    subst (λ o. AreThere (option_to_list o) (length c.args.best.now)) (sym c.jump.ensures)
    (there_jump c.args.place (length c.args.best.now) c.args.instr c.requires.there)

pub number_at-requires-2 : goal.number_at-requires-2
number_at-requires-2 c =
    subst (λ o. AreThere (option_to_list o) (length c.args.best.now)) (sym c.next.ensures)
    (there_next c.args.place (length c.args.best.now) c.args.instr c.requires.there)

pub returns : goal.returns
returns c =
    let f : ℕ → ℕ = λ to. slice_index_or c.args.best.now to 0 in
    let one = c.number_at.ensures ∙ ap (λ o. greatest (map f (option_to_list o))) c.jump.ensures in
    let two = c.number_at-2.ensures ∙ ap (λ o. greatest (map f (option_to_list o))) c.next.ensures in
    c.max.ensures ∙ ap (λ n. max n c.number_at-2.result) one
    ∙ ap (λ n. max (greatest (map f (option_to_list (jump_of c.args.instr)))) n) two
    ∙ sym (greatest_both f (option_to_list (jump_of c.args.instr)) (option_to_list (next_of c.args.place c.args.instr)))
