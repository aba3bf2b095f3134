use Rattle.std.proofs.Common.{◌≢◌, sym, ◌∙◌, subst, All}
use Rattle.std.proofs.lemmas.Bool.{false≢true}
use Rattle.pals_base.proofs.PairwiseRelations.{behind, All-behind, pairs_more}
use Rattle.pals_base.proofs.names.are_distinct.Goals as goal

pub returns-then-not-is_new : goal.returns-then-not-is_new
returns-then-not-is_new g c = (
  λ e. absurd (false≢true e),
  λ all. sym c.if-not-is_new.true ∙ c.is_new.ensures.1
      (subst (λ name. All (λ other. name ≢ g.T.HasName.name_of other) (behind c.args.items.now c.loop-at.at))
      (sym c.name.ensures)
      (All-behind (λ a b. g.T.HasName.name_of a ≢ g.T.HasName.name_of b) _ _ _ c.loop-at-test.true
      c.index-items-at.is all)),
)

pub loop-at-preserved : goal.loop-at-preserved
loop-at-preserved g c =
    pairs_more (λ a b. g.T.HasName.name_of a ≢ g.T.HasName.name_of b) _ _ _ c.loop-at-test.true c.index-items-at.is
    (subst (λ name. All (λ other. name ≢ g.T.HasName.name_of other) (behind c.args.items.now c.loop-at.at))
    c.name.ensures (c.is_new.ensures.0 c.if-not-is_new.false)) c.loop-at.invariant
