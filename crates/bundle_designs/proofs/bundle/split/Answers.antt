use Rattle.std.proofs.Common.{ap, sym, ◌∙◌, below_more}
use Rattle.std.specs.Option.{option_copied}
use Rattle.bundle_designs.proofs.bundle.split.Goals as goal

pub loop-at-preserved : goal.loop-at-preserved
loop-at-preserved c = below_more _ _ c.loop-at.invariant (sym c.divided_at.ensures ∙ ap option_copied c.in_default.is)
