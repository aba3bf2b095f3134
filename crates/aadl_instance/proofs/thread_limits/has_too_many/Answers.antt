use Rattle.std.proofs.Common.{◌∙◌, arith, refl, sym}
use Rattle.std.proofs.lemmas.Bool.{true≢false}
use Rattle.aadl_tree.specs.proof.PackageViews.{placed}
use Rattle.aadl_uses.proofs.ContainmentOrders.{of_any}
use Rattle.aadl_instance.proofs.ThreadLimits.{used_or_below, some_over, none_over}
use Rattle.aadl_instance.proofs.thread_limits.has_too_many.Goals as goal

pub returns-then-has_over-clause-used : goal.returns-then-has_over-clause-used
returns-then-has_over-clause-used c = (
  λ e. some_over (placed c.args.wires.now.uses.names.tree.now) c.args.used.now.keys c.args.part
      c.loop-number.number-counter
      (of_any c.args.used.now.keys c.loop-number.number-counter (sym c.if-contains.ensures))
      (sym c.is_thread.ensures ∙ c.if-is_thread.true) (c.has_over.ensures.0 c.if-has_over.true),
  λ h. refl,
)

pub returns-then-has_over-clause-below : goal.returns-then-has_over-clause-below
returns-then-has_over-clause-below c = λ root same.
    used_or_below (placed c.args.wires.now.uses.names.tree.now) root c.args.used.now.keys c.args.part same
    (returns-then-has_over-clause-used c)

pub returns-clause-used : goal.returns-clause-used
returns-clause-used c =
    let size = c.len-number-end.ensures in (
      λ e. absurd (true≢false (sym e)),
      λ h. absurd (none_over (placed c.args.wires.now.uses.names.tree.now) c.args.used.now.keys c.args.part
          c.loop-number.number-counter (omega (arith, size, c.loop-number-test.false)) c.loop-number.invariant h),
    )

pub returns-clause-below : goal.returns-clause-below
returns-clause-below c =
    λ root same. used_or_below (placed c.args.wires.now.uses.names.tree.now) root c.args.used.now.keys c.args.part same
    (returns-clause-used c)
