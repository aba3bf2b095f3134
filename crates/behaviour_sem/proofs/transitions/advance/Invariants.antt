use Rattle.std.proofs.Common.{◌≡◌, drop, map}
use Rattle.pals_base.specs.SingleStep.{first_open, is_present}
use Rattle.behaviour_sem.specs.proof.PartialSteps.{fired}
use Rattle.behaviour_sem.specs.proof.GroupedTransitions.{numbered}
use Rattle.behaviour_sem.proofs.transitions.advance.Given as goal

-- nothing has changed, and no guard so far was true
abbrev pub invariant-loop-at : goal.invariant-loop-at
invariant-loop-at l =
    let frame = (fired (l.fn.place, l.fn.outs) l.inputs).frame in
    let fresh = map is_present l.inputs.present.now in
    record {
      place : l.place ≡ l.fn.place;
      outs : l.outs ≡ l.fn.outs;
      rest : first_open (numbered l.transitions (drop l.at l.numbers)) frame fresh
          ≡ first_open (numbered l.transitions l.numbers) frame fresh;
    }
