use Rattle.std.proofs.Common.{◌≡◌, ◌∙◌, ◌++◌, None, ap, subst}
use Rattle.std.proofs.lemmas.List.{get_or_default}
use Rattle.pals_model.specs.RoundTexts.{text_of}
use Rattle.pals_runs.specs.declared.events_and_faults.Event.{Event}
use Rattle.pals_bus.specs.BusValues.{BusValue}
use Rattle.run_laws.specs.EventFaults.{fault_of}
use Rattle.loose_world.specs.LooseRuns.{told_by}
use Rattle.timed_world.specs.proof.WorldValuesAndMoves.{world_of, Moves}
use Rattle.world_texts.proofs.WorldTexts.{telling_more}
use Rattle.world_texts.proofs.world_text.tell_events.Goals as goal

pub loop-index-preserved : goal.loop-index-preserved
loop-index-preserved c =
    let events = c.args.events.now in
    let first = c.loop-index.index in
    let old = c.loop-index.world in
    let new = c.apply.new.self in
    let so_far = c.loop-index.sent.items in
    let done = c.index-events-index.result in
    let told = c.index-events-index-in-loop-index.result in
    let within = c.loop-index-test.true in
    let fine =
    subst (λ (e : Event). fault_of old.bus.run (world_of old) e ≡ None) c.index-events-index.is
    c.in-Ok.ensures.fine in
    let moves = subst (λ (e : Event). Moves old e new) c.index-events-index.is c.in-Ok.ensures.moves in
    let same = c.index-events-index-in-loop-index.is ∙ get_or_default events first told done within in
    let lines =
    c.in_ok-add_sent_messages.ensures.ok
    ∙ ap (λ (b : BusValue). so_far ++ text_of (told_by b told)) c.bus.ensures
    ∙ ap (λ (e : Event). so_far ++ text_of (told_by new.bus e)) same in
    telling_more c.args.world.now old new events first done c.args.sent.now.items so_far
    c.add_sent_messages.new.sent.items
    within c.loop-index.invariant fine moves lines
