use Rattle.std.proofs.Common.{◌∙◌, ◌++◌, ap, subst}
use Rattle.std.proofs.lemmas.List.{get_or_default}
use Rattle.pals_model.specs.RoundTexts.{text_of}
use Rattle.pals_runs.specs.declared.events_and_faults.Event.{Event}
use Rattle.pals_bus.specs.LooseEvents.{GoesOn}
use Rattle.loose_world.specs.LooseRuns.{told_by}
use Rattle.loose_world.proofs.LooseRuns.{done_more, cut_behind, on_err}
use Rattle.loose_world.proofs.loose_run.run_loose.Goals as goal

pub loop-index-preserved : goal.loop-index-preserved
loop-index-preserved c =
    let events = c.args.events.now in
    let first = c.loop-index.index in
    let t = c.loop-index.bus in
    let u = c.apply_loose.new.bus in
    let mid = c.loop-index.sent.items in
    let done = c.index-events-index.result in
    let told = c.index-events-index-in-loop-index.result in
    let within = c.loop-index-test.true in
    let goes = subst (λ (e : Event). GoesOn t e u) c.index-events-index.is c.in-Ok.ensures.ok in
    let same = c.index-events-index-in-loop-index.is ∙ get_or_default events first told done within in
    let lines = c.in_ok-add_sent_messages.ensures.ok ∙ ap (λ (e : Event). mid ++ text_of (told_by u e)) same in
    done_more c.args.bus.now events first t u c.args.sent.now.items mid c.add_sent_messages.new.sent.items done within
    c.loop-index.invariant goes lines

pub returns-in_err-add_sent_messages-clause-err : goal.returns-in_err-add_sent_messages-clause-err
returns-in_err-add_sent_messages-clause-err c =
    let events = c.args.events.now in
    let first = c.loop-index.index in
    let t = c.loop-index.bus in
    let u = c.apply_loose.new.bus in
    let mid = c.loop-index.sent.items in
    let done = c.index-events-index.result in
    let within = c.loop-index-test.true in
    let goes = subst (λ (e : Event). GoesOn t e u) c.index-events-index.is c.in-Ok.ensures.ok in
    let kept = c.in_err-add_sent_messages.ensures.err in
    on_err c.from_residual.result
    (cut_behind c.args.bus.now events first t u c.args.sent.now.items mid c.add_sent_messages.new.sent.items done within
    c.loop-index.invariant goes kept)
