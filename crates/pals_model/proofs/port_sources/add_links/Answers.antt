use Rattle.std.proofs.Common.{◌≡◌, length, ap, ◌∙◌, arith}
use Rattle.pals_model.specs.proof.SourceTables.{table_of, linked_from}
use Rattle.pals_model.proofs.SourceTables.{links_begin, links_turn, links_end}
use Rattle.pals_model.proofs.port_sources.add_links.Goals as goal

pub loop-at-init : goal.loop-at-init
loop-at-init c = c.requires ∙ links_begin c.args.design.now _ (ap length c.links-links.ensures.value)

pub loop-at-preserved : goal.loop-at-preserved
loop-at-preserved c =
    links_turn c.args.design.now c.links-links.result.now c.loop-at.table c.set_source.new.table c.loop-at.at _
    c.links-links.ensures.value c.loop-at-test.true c.loop-at.auto.at c.loop-at.invariant c.set_source.ensures

pub returns : goal.returns
returns c =
    let none : c.loop-at.at ≡ 0 = omega arith in
    c.loop-at.invariant ∙ ap (λ at. table_of c.args.design.now.components (linked_from c.args.design.now at)) none
    ∙ links_end c.args.design.now
