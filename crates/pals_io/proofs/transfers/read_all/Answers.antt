use Rattle.std.proofs.Common.{ℕ, sym, subst, arith, length-take}
use Rattle.pals_io.proofs.RepeatedTransfers.{GivesFirst, first_nothing, first_all, first_kept, first_too_many}
use Rattle.pals_io.proofs.RepeatedTransfers.{first_within, first_failed}
use Rattle.pals_io.proofs.transfers.read_all.Goals as goal

pub loop-all-init : goal.loop-all-init
loop-all-init g c = record {
  within = omega arith;
  given = subst (GivesFirst _ _) (sym c.new-all.ensures.items) (first_nothing _);
}

pub returns-then-n-eq0-clause-all : goal.returns-then-n-eq0-clause-all
returns-then-n-eq0-clause-all g c =
    first_all _ _ _ _ _ _ c.loop-all.invariant.given c.in_ok-n.ensures.given c.if-n-eq0.true

pub returns-then-n-room-clause-too_long : goal.returns-then-n-room-clause-too_long
returns-then-n-room-clause-too_long g c _ =
    first_too_many _ _ _ _ _ _ _ c.loop-all.invariant.given c.in_ok-n.ensures.given
    (omega (arith, c.in_ok-n.ensures.bound, c.read.auto.buf, length-take {A = ℕ}))

pub returns-in_err-n-clause-fault : goal.returns-in_err-n-clause-fault
returns-in_err-n-clause-fault g c _ =
    first_failed _ _ _ _ _ c.loop-all.invariant.given c.in_err-n.ensures.failed (omega arith)

pub loop-all-preserved : goal.loop-all-preserved
loop-all-preserved g c = record {
  within =
      omega (
        arith,
        c.in_ok-extend_from_slice.ensures.len,
        c.in_ok-n.ensures.bound,
        c.read.auto.buf,
        length-take {A = ℕ},
      );
  given =
      first_kept _ _ _ _ _ _ _ _ c.loop-all.invariant.given c.in_ok-n.ensures.given c.in_ok-n.ensures.bound
      c.in_ok-extend_from_slice.ensures.items;
}

pub returns-in_err-extend_from_slice-clause-memory : goal.returns-in_err-extend_from_slice-clause-memory
returns-in_err-extend_from_slice-clause-memory g c _ =
    first_within _ _ _ _ _ _ _ c.loop-all.invariant.given c.in_ok-n.ensures.given (omega arith)
