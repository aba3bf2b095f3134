use Rattle.std.proofs.Common.{◌≡◌, drop}
use Rattle.behaviour_sem.specs.proof.GroupedTransitions.{numbered}
use Rattle.behaviour_sem.specs.proof.TransitionMoves.{dispatch_among}
use Rattle.behaviour_sem.proofs.transitions.dispatch.Given as goal

-- nothing has changed, and no transition so far was the one
abbrev pub invariant-loop-at : goal.invariant-loop-at
invariant-loop-at l =
    record {
      place : l.place ≡ l.fn.place;
      outs : l.outs ≡ l.fn.outs;
      rest : dispatch_among (numbered l.transitions (drop l.at l.numbers))
          ≡ dispatch_among (numbered l.transitions l.numbers);
    }
