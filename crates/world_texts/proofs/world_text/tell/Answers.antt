use Rattle.std.proofs.Common.{◌∙◌, ◌++◌, List, ℕ, ap, subst}
use Rattle.pals_model.specs.RoundTexts.{text_of}
use Rattle.loose_world.specs.proof.FinishedRows.{finished_lines}
use Rattle.timed_world.specs.declared.event_list.WorldEnd.{WorldEnd}
use Rattle.world_texts.specs.proof.WorldTexts.{LeadsTelling, TellsEvents}
use Rattle.world_texts.proofs.WorldTexts.{world_told}
use Rattle.world_texts.proofs.world_text.tell.Goals as goal

pub returns-in-All : goal.returns-in-All
returns-in-All c =
    let old = c.args.world.now in
    let new = c.tell_events.new.world in
    let sent : List ℕ = c.tell_events.new.sent.items in
    let events = c.args.events.now in
    let all =
    subst (λ (end : WorldEnd). TellsEvents old events end new c.new-sent.result.items sent) c.in-All.is
    c.in_ok-end.ensures in
    let telling = subst (λ (text : List ℕ). LeadsTelling old events new text sent) c.new-sent.ensures.items all in
    let text =
    c.in_ok-finished-in-All.ensures
    ∙ ap (λ (xs : List ℕ). text_of (finished_lines new.bus) ++ xs) c.as_slice.ensures.value in
    world_told old new events sent c.in_ok-finished-in-All.field-0.items c.requires.opening c.kept.ensures.run
    c.kept.ensures.rounds telling text
