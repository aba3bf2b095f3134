use Rattle.pals_top.proofs.LooseWorlds.{left_says}
use Rattle.pals_top.proofs.world_loose.answer_loose.Goals as goal

pub returns : goal.returns
returns c =
    left_says c.args.design c.args.scenario c.args.codes c.in_ok-bus.bus c.answer_events.new.bus c.as_slice.result.now
    c.answer_events.result c.keeps_rules.ensures c.requires.kept
    c.texts_are_told.ensures.all c.texts_are_told.ensures.stopped c.events_are_steps.ensures c.in_ok-bus.ensures
    c.as_slice.ensures.value c.answer_events.ensures
