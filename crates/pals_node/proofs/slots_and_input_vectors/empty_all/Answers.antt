use Rattle.std.proofs.Common.{◌≡◌, ◌∙◌, ◌+◌, ◌<◌, ◌≤◌, List, length, map, take, ap, arith}
use Rattle.std.specs.Prelude.{Option, slice_set}
use Rattle.std.proofs.lemmas.List.{length-map, length-set}
use Rattle.list_lemmas.proofs.ListOperations.{filled_more, filled_all}
use Rattle.pals_base.specs.declared.basic_types.PortValue.{PortValue}
use Rattle.pals_node.proofs.TuplesSlotsAndZips.{no_message, empty_at}
use Rattle.pals_node.proofs.slots_and_input_vectors.empty_all.Goals as goal

pub loop-at-preserved : goal.loop-at-preserved
loop-at-preserved c =
    let at = c.loop-at.at in
    let before = c.args.slots.now in
    let wanted = map (λ (_ : Option (List PortValue)). no_message) before in
    let size : length wanted ≡ length before = length-map before _ in
    let len = c.loop-at.invariant.len in
    let within = c.loop-at-test.true in
    let below : at < length before = omega (arith, within, c.len-at-end.ensures) in
    let is : slice_set c.loop-at.slots at c.slot_take-message.new.self ≡ slice_set c.loop-at.slots at no_message =
    ap (slice_set c.loop-at.slots at) c.slot_take-message.ensures.slot in
    record {
      len = length-set c.loop-at.slots at _ ∙ len;
      done =
          ap (take (at + 1)) is ∙ filled_more c.loop-at.slots wanted at no_message (omega arith) (omega arith)
          (empty_at before at (omega arith)) c.loop-at.invariant.done;
    }

pub returns : goal.returns
returns c =
    let before = c.args.slots.now in
    let wanted = map (λ (_ : Option (List PortValue)). no_message) before in
    let size : length wanted ≡ length before = length-map before _ in
    let len = c.loop-at.invariant.len in
    let out = c.loop-at-test.false in
    let past : length before ≤ c.loop-at.at = omega (arith, out, c.len-at-end.ensures) in
    filled_all c.loop-at.slots wanted c.loop-at.at (omega arith) (omega arith) c.loop-at.invariant.done
