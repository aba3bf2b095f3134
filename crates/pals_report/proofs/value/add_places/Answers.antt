use Rattle.pals_model.specs.RoundTexts.{port_text}
use Rattle.pals_report.proofs.CommaListsAndVariables.{with_commas-all}
use Rattle.pals_report.proofs.value.add_places.Goals as goal

pub returns-clause-ok : goal.returns-clause-ok
returns-clause-ok c =
    with_commas-all (port_text c.args.kind) _ c.args.tuple.now c.loop-port.port-index _ _ _ c.in-len1-up.len_at_least
    c.loop-port-test.false c.in_ok-add_port.ensures.ok c.loop-port.invariant
