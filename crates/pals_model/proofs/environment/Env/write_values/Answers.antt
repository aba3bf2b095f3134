use Rattle.std.proofs.Common.{sym, ◌∙◌, arith}
use Rattle.std.proofs.lemmas.List.{length-map, same_lists}
use Rattle.pals_model.specs.ComponentInputs.{values_at}
use Rattle.pals_model.proofs.RootInputValues.{value_here, values_more}
use Rattle.pals_model.proofs.environment.Env.write_values.Goals as goal

pub loop-at-preserved : goal.loop-at-preserved
loop-at-preserved c =
    values_more c.loop-at.values (values_at c.args.self.now c.args.round) c.loop-at.at c.place.result (omega arith)
    c.loop-at.invariant
    (λ d. value_here c.args.self.now.lists c.loop-at.at c.args.round c.index.result.now d (omega arith) c.index.ensures
    ∙ sym (rw c.as_slice.ensures.value at c.place.ensures))

pub returns : goal.returns
returns c =
    same_lists c.loop-at.values (values_at c.args.self.now c.args.round)
    (c.loop-at.auto.values ∙ c.requires ∙ sym (length-map c.args.self.now.lists _))
    (λ k d within. c.loop-at.invariant k d (omega arith))
