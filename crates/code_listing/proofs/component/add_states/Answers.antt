use Rattle.std.proofs.Common.{ap, ◌∙◌}
use Rattle.std.specs.List.{zip}
use Rattle.std.specs.Slice.Iter.{iter_rest}
use Rattle.std.specs.Iterator.Adapters.{zip_first, zip_second}
use Rattle.std.proofs.lemmas.List.{length_push}
use Rattle.std.proofs.lemmas.Slice.Zip.{zip_turn, zip_end}
use Rattle.pals_model.specs.RoundTexts.{line_end}
use Rattle.pals_report.proofs.LinePerItem.{lines_turn, lines_all}
use Rattle.code_listing.specs.Listings.{state_line}
use Rattle.code_listing.specs.NumberRanges.{EntryFits}
use Rattle.code_listing.proofs.ZippedAndNumberedItems.{pair_within, pair_at, pairs_end, holds_turn, holds_all}
use Rattle.code_listing.proofs.component.add_states.Goals as goal

pub loop-state-preserved : goal.loop-state-preserved
loop-state-preserved c =
    let states = c.args.states.now in
    let entries = c.args.entries.now in
    let gives = c.into_iter-state-iterator.ensures.into_iter_gives in
    let first =
    ap (λ z. iter_rest (zip_first z)) gives ∙ ap iter_rest c.zip-state-items.ensures.first ∙ c.iter.ensures.rest in
    let second = ap (λ z. iter_rest (zip_second z)) gives ∙ c.zip-state-items.ensures.second.0 in
    let turn =
    zip_turn _ _ c.loop-state.yielded c.into_iter-state-iterator.result c.loop-state.state-iterator c.next.new.self
    c.next.result first second c.loop-state.yielded_by _ c.in-Some.is c.next.ensures.steps in
    let within = pair_within states entries _ turn.0 turn.1 in
    let here = pair_at states entries _ c.in-Some.state.now c.in-Some.entry.now turn.0 turn.1 turn.2 turn.3 in
    rw (length_push c.loop-state.yielded _) (
      lines_turn line_end (λ p. state_line p.0 p.1) (zip states entries) _ (c.in-Some.state.now, c.in-Some.entry.now) _
          _ _ within here c.loop-state.invariant.0 c.in_ok-add_state.ensures.ok,
      holds_turn (λ p. EntryFits p.1) (zip states entries) _ (c.in-Some.state.now, c.in-Some.entry.now) within here
          c.loop-state.invariant.1 c.in_ok-add_state.ensures.fit,
    )

pub returns-clause-ok : goal.returns-clause-ok
returns-clause-ok c =
    let states = c.args.states.now in
    let entries = c.args.entries.now in
    let gives = c.into_iter-state-iterator.ensures.into_iter_gives in
    let first =
    ap (λ z. iter_rest (zip_first z)) gives ∙ ap iter_rest c.zip-state-items.ensures.first ∙ c.iter.ensures.rest in
    let second = ap (λ z. iter_rest (zip_second z)) gives ∙ c.zip-state-items.ensures.second.0 in
    let all =
    zip_end _ _ c.loop-state.yielded c.into_iter-state-iterator.result c.loop-state.state-iterator c.next.new.self
    c.next.result first second c.loop-state.yielded_by c.in-None.is c.next.ensures.steps in
    lines_all line_end (λ p. state_line p.0 p.1) (zip states entries) _ _ _ (pairs_end states entries _ all)
    c.loop-state.invariant.0

pub returns-clause-fit : goal.returns-clause-fit
returns-clause-fit c =
    let states = c.args.states.now in
    let entries = c.args.entries.now in
    let gives = c.into_iter-state-iterator.ensures.into_iter_gives in
    let first =
    ap (λ z. iter_rest (zip_first z)) gives ∙ ap iter_rest c.zip-state-items.ensures.first ∙ c.iter.ensures.rest in
    let second = ap (λ z. iter_rest (zip_second z)) gives ∙ c.zip-state-items.ensures.second.0 in
    let all =
    zip_end _ _ c.loop-state.yielded c.into_iter-state-iterator.result c.loop-state.state-iterator c.next.new.self
    c.next.result first second c.loop-state.yielded_by c.in-None.is c.next.ensures.steps in
    holds_all (λ p. EntryFits p.1) (zip states entries) _ (pairs_end states entries _ all) c.loop-state.invariant.1
