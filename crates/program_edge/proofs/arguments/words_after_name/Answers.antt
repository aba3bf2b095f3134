use Rattle.std.proofs.Common.{◌≡◌, drop, map, Option, Some, None, sym, ap, ◌∙◌, refl}
use Rattle.std.proofs.lemmas.List.{map-id, nil_from_length}
use Rattle.std.proofs.lemmas.Iterator.Adapters.{YieldsList-from_vec}
use Rattle.std.proofs.lemmas.Iterator.Consumers.{YieldsList-end}
use Rattle.std.specs.Prelude.{string_bytes}
use Rattle.std.specs.Vec.Iter.{into_iter_items, into_iter_steps}
use Rattle.std.specs.declared.vec.IntoIter.{IntoIter}
use Rattle.program_edge.proofs.arguments.words_after_name.Goals as goal

-- after one step an iterator has the items after the first
items_after_step : {A Z : Type 0} (before : IntoIter A Z) (item : Option A) (after : IntoIter A Z)
    → into_iter_steps before item after → drop 1 (into_iter_items before) ≡ into_iter_items after
items_after_step before None after step =
    let nothing = nil_from_length (into_iter_items before) (sym before.rest.ok.0 ∙ step.0) in
    ap (drop 1) nothing ∙ sym (nil_from_length (into_iter_items after) (sym after.rest.ok.0 ∙ step.1))
items_after_step before (Some item) after step = ap (drop 1) step.0

pub returns : goal.returns
returns c =
    let rest = c.into_iter-word-iterator.result in
    let yielded =
    YieldsList-end (YieldsList-from_vec {s = rest} (into_iter_items rest) refl rest.rest.ok.0) c.loop-word.yielded _
    c.loop-word.yielded_by _ c.next.new.self c.in-None.is c.next.ensures.steps in
    c.loop-word.invariant.words
    ∙ ap (map string_bytes) (sym (map-id c.loop-word.yielded) ∙ yielded.0
    ∙ ap into_iter_items c.into_iter-word-iterator.ensures.into_iter_gives
    ∙ sym (items_after_step c.args.arguments c.next-name.result c.next-name.new.self
    c.next-name.ensures.cases))
