use Rattle.std.proofs.Common.{ap, ◌∙◌}
use Rattle.std.specs.List.{zip}
use Rattle.std.specs.Slice.Iter.{iter_rest}
use Rattle.std.specs.Iterator.Adapters.{zip_first, zip_second}
use Rattle.std.proofs.lemmas.List.{length_push}
use Rattle.std.proofs.lemmas.Slice.Zip.{zip_turn, zip_end}
use Rattle.code_listing.specs.Listings.{component_lines}
use Rattle.code_listing.specs.NumberRanges.{NumbersFit}
use Rattle.code_listing.proofs.AddedLines.{blocks_turn, blocks_all}
use Rattle.code_listing.proofs.ZippedAndNumberedItems.{pair_within, pair_at, pairs_end, holds_turn, holds_all}
use Rattle.code_listing.proofs.listing.add_components.Goals as goal

pub loop-component-preserved : goal.loop-component-preserved
loop-component-preserved c =
    let design = c.args.design.now in
    let codes = c.args.codes.now in
    let gives = c.into_iter-component-iterator.ensures.into_iter_gives in
    let first =
    ap (λ z. iter_rest (zip_first z)) gives ∙ ap iter_rest c.zip-component-items.ensures.first ∙ c.iter.ensures.rest
    ∙ c.as_slice.ensures.value in
    let second = ap (λ z. iter_rest (zip_second z)) gives ∙ c.zip-component-items.ensures.second.0 in
    let turn =
    zip_turn _ _ c.loop-component.yielded c.into_iter-component-iterator.result c.loop-component.component-iterator
    c.next.new.self c.next.result first second c.loop-component.yielded_by _ c.in-Some.is c.next.ensures.steps in
    let within = pair_within design.components codes _ turn.0 turn.1 in
    let here =
    pair_at design.components codes _ c.in-Some.component.now c.in-Some.code.now turn.0 turn.1 turn.2 turn.3 in
    rw (length_push c.loop-component.yielded _) (
      blocks_turn (λ p. component_lines design p.0 p.1) (zip design.components codes) _
          (c.in-Some.component.now, c.in-Some.code.now) _ _ _ within here c.loop-component.invariant.0
          c.in_ok-add_component.ensures.ok,
      holds_turn (λ p. NumbersFit p.0.behaviour p.1) (zip design.components codes) _
          (c.in-Some.component.now, c.in-Some.code.now) within here c.loop-component.invariant.1
          c.in_ok-add_component.ensures.fit,
    )

pub returns-clause-ok : goal.returns-clause-ok
returns-clause-ok c =
    let design = c.args.design.now in
    let codes = c.args.codes.now in
    let gives = c.into_iter-component-iterator.ensures.into_iter_gives in
    let first =
    ap (λ z. iter_rest (zip_first z)) gives ∙ ap iter_rest c.zip-component-items.ensures.first ∙ c.iter.ensures.rest
    ∙ c.as_slice.ensures.value in
    let second = ap (λ z. iter_rest (zip_second z)) gives ∙ c.zip-component-items.ensures.second.0 in
    let all =
    zip_end _ _ c.loop-component.yielded c.into_iter-component-iterator.result c.loop-component.component-iterator
    c.next.new.self c.next.result first second c.loop-component.yielded_by c.in-None.is c.next.ensures.steps in
    blocks_all (λ p. component_lines design p.0 p.1) (zip design.components codes) _ _ _
    (pairs_end design.components codes _ all) c.loop-component.invariant.0

pub returns-clause-fit : goal.returns-clause-fit
returns-clause-fit c =
    let design = c.args.design.now in
    let codes = c.args.codes.now in
    let gives = c.into_iter-component-iterator.ensures.into_iter_gives in
    let first =
    ap (λ z. iter_rest (zip_first z)) gives ∙ ap iter_rest c.zip-component-items.ensures.first ∙ c.iter.ensures.rest
    ∙ c.as_slice.ensures.value in
    let second = ap (λ z. iter_rest (zip_second z)) gives ∙ c.zip-component-items.ensures.second.0 in
    let all =
    zip_end _ _ c.loop-component.yielded c.into_iter-component-iterator.result c.loop-component.component-iterator
    c.next.new.self c.next.result first second c.loop-component.yielded_by c.in-None.is c.next.ensures.steps in
    holds_all (λ p. NumbersFit p.0.behaviour p.1) (zip design.components codes) _
    (pairs_end design.components codes _ all) c.loop-component.invariant.1
