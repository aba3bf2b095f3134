use Rattle.std.proofs.Common.{◌≡◌, ◌∙◌, ◌<◌, List, [], ◌∷◌, ◌++◌, length, take, All, sym, ap, subst, arith, rules}
use Rattle.std.specs.Prelude.{filter, slice_index_or}
use Rattle.std.specs.List.Sorted.{IsPermutation}
use Rattle.std.proofs.lemmas.List.{take_more}
use Rattle.std.proofs.lemmas.List.Elements.{All-push}
use Rattle.std.proofs.lemmas.List.Sorted.{All-permutation, IsNonDecreasingBy-from_sort_by_key}
use Rattle.std.proofs.lemmas.List.Sums.{count_by-le-length}
use Rattle.std.proofs.lemmas.Option.{get_or_from_slice_get}
use Rattle.link_buffers.specs.declared.due_queue.DueEntry.{DueEntry}
use Rattle.link_buffers.specs.proof.DueQueues.{is_due_at}
use Rattle.pals_bus.proofs.DueEntriesAndCopies.{IsShort, number_of, in_order, due_place}
use Rattle.pals_bus.proofs.all_due_arrivals.due_messages.Goals as goal

pub unreachable-requires : goal.unreachable-requires
unreachable-requires c =
    due_place c.args.queue.now.entries c.args.reading c.due_count-place-end.result c.loop-place.place
    c.due_count-place-end.ensures.count c.loop-place-test.true (sym c.get.ensures.entry ∙ c.in_default.is)

pub loop-place-preserved : goal.loop-place-preserved
loop-place-preserved c =
    let entries = c.args.queue.now.entries in
    let place = c.loop-place.place in
    let entry = c.in-Some.entry in
    let least = count_by-le-length (is_due_at c.args.reading) entries in
    let count = c.due_count-place-end.ensures.count in
    let below = c.loop-place-test.true in
    let within : place < length entries = omega (arith, least, count, below) in
    let here : slice_index_or entries place entry ≡ entry =
    get_or_from_slice_get entries place entry entry (sym c.in-Some.ensures.entry) in
    let pushed : c.push.new.self.items ≡ c.loop-place.due.items ++ entry ∷ [] = c.in_ok-push.ensures.items in
    let short : IsShort entry = c.place_in_order-place.ensures.short in (
      pushed
          ∙ ap (λ (xs : List DueEntry). xs ++ entry ∷ []) c.loop-place.invariant.0
          ∙ ap (λ (x : DueEntry). take place entries ++ x ∷ []) (sym here)
          ∙ sym (take_more entries place entry within),
      subst (All IsShort) (sym pushed) (All-push IsShort c.loop-place.due.items entry c.loop-place.invariant.1 short),
    )

pub returns : goal.returns
returns c =
    let entries = c.args.queue.now.entries in
    let past = c.loop-place-test.false in
    let most = c.loop-place.auto.place-end in
    let all : c.loop-place.place ≡ c.due_count-place-end.result = omega (arith, past, most) in
    let due : c.loop-place.due.items ≡ filter (is_due_at c.args.reading) entries = c.loop-place.invariant.0
    ∙ ap (λ k. take k entries) all ∙ c.due_count-place-end.ensures.first in
    let sorted = c.sort_unstable_by_key.new.self.items in
    record {
      are = subst (λ (xs : List DueEntry). IsPermutation xs sorted) due c.sort_unstable_by_key.ensures.permutation;
      order =
          in_order sorted (IsNonDecreasingBy-from_sort_by_key number_of sorted c.sort_unstable_by_key.ensures.sorted
          (λ a r q k. search rules))
          (All-permutation IsShort c.loop-place.due.items sorted c.sort_unstable_by_key.ensures.permutation
          c.loop-place.invariant.1);
    }
