use Rattle.std.proofs.Common.{◌∙◌, sym, subst, rules, FitsSigned, w64}
use Rattle.std.proofs.lemmas.Int.{to_z-of_z}
use Rattle.world_gen.specs.Rings.{ring_number}
use Rattle.world_texts.proofs.RingSumsAndCodes.{sum_first, sum_more}
use Rattle.world_texts.proofs.DoneRings.{next_sum_fits, added}
use Rattle.world_texts.proofs.ring_result.sum_of_numbers.Goals as goal

pub overflow_add-sum : goal.overflow_add-sum
overflow_add-sum c =
    let n = c.args.nodes in
    let rounds = c.args.rounds in
    let node = c.loop-node.node in
    let number : FitsSigned w64 c.number-sum.result = search rules in
    let sum =
    added c.loop-node.sum-bits c.number-sum.result (sum_first n rounds node) (ring_number n rounds node)
    c.loop-node.invariant c.number-sum.ensures number in
    subst (FitsSigned w64) (sym sum) (next_sum_fits n rounds node c.requires.few c.loop-node-test.true)

pub loop-node-preserved : goal.loop-node-preserved
loop-node-preserved c =
    let n = c.args.nodes in
    let rounds = c.args.rounds in
    let node = c.loop-node.node in
    let number : FitsSigned w64 c.number-sum.result = search rules in
    let sum =
    added c.loop-node.sum-bits c.number-sum.result (sum_first n rounds node) (ring_number n rounds node)
    c.loop-node.invariant c.number-sum.ensures number in
    let fits = subst (FitsSigned w64) (sym sum) (next_sum_fits n rounds node c.requires.few c.loop-node-test.true) in
    to_z-of_z w64 _ fits ∙ (sum ∙ sym (sum_more n rounds node))
