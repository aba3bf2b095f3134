use Rattle.std.proofs.Common.{◌≡◌, length, ap, ◌∙◌, arith}
use Rattle.pals_model.specs.proof.SourceTables.{table_of, fed_from}
use Rattle.pals_model.proofs.SourceTables.{feeds_begin, feeds_turn}
use Rattle.pals_model.proofs.port_sources.add_feeds.Goals as goal

pub loop-at-init : goal.loop-at-init
loop-at-init c = c.requires.table ∙ feeds_begin c.args.design.now _ (ap length c.feeds-feeds.ensures.value)

pub loop-at-preserved : goal.loop-at-preserved
loop-at-preserved c =
    feeds_turn c.args.design.now c.feeds-feeds.result.now c.loop-at.table c.set_source.new.table c.loop-at.at
    c.place_of-root.result c.index-feeds-at.result c.feeds-feeds.ensures.value c.loop-at-test.true c.loop-at.auto.at
    c.index-feeds-at.is (rw c.requires.names at c.place_of-root.ensures) c.loop-at.invariant c.set_source.ensures

pub returns : goal.returns
returns c =
    let none : c.loop-at.at ≡ 0 = omega arith in
    c.loop-at.invariant ∙ ap (λ at. table_of c.args.design.now.components (fed_from c.args.design.now at)) none
