use Rattle.std.proofs.Common.{◌≡◌, ◌-◌, ◌≤◌, not, length, insert, sym, ap, ◌∙◌, subst, rules, tests, arith}
use Rattle.link_buffers.specs.proof.BinarySearch.{IsFirstToFail}
use Rattle.std.proofs.lemmas.List.Edits.{length-insert}
use Rattle.link_buffers.specs.proof.DueQueues.{comes_before, IsRising}
use Rattle.link_buffers.proofs.DueEntryPositions.{parted_not_after, inserted, rising-inserted, same_queue}
use Rattle.link_buffers.proofs.due_queue.DueQueue.add.Goals.{After-put_at}
use Rattle.link_buffers.proofs.due_queue.DueQueue.add.Goals as goal

-- the entries are parted at the place
parts : (c : After-put_at)
    → IsFirstToFail (λ e. not (comes_before c.args.entry e)) c.self.inside.entries.items c.partition_point-place.result
parts c =
    c.partition_point-place.ensures.parts (λ e. not (comes_before c.args.entry e)) (λ x b k. search (rules, tests))
    (parted_not_after c.self.inside.entries.items c.args.entry c.self.invariant.1)

items : (c : After-put_at)
    → c.put_at.new.ring.items ≡ insert c.self.inside.entries.items c.partition_point-place.result c.args.entry
items c = ap (λ b. b.items) c.put_at.ensures

same : (c : After-put_at) → c.put_at.new.ring.capacity ≡ c.self.inside.entries.capacity
same c = ap (λ b. b.capacity) c.put_at.ensures

pub invariant_of-self : goal.invariant_of-self
invariant_of-self c =
    let s = (goal.at.invariant_of-self c).After-put_at in
    let xs = c.self.inside.entries.items in
    let n = c.partition_point-place.result in
    let within = c.partition_point-place.ensures.bound in
    let more : 1 ≤ c.self.inside.entries.capacity - length xs = rw (← c.self.view_is) at c.requires in
    let long = length-insert xs n c.args.entry within in (
      rw (items s, same s) (omega arith),
      subst IsRising (sym (items s)) (rising-inserted xs c.args.entry n c.self.invariant.1 within (parts s)),
    )

pub returns : goal.returns
returns c =
    let s = (goal.at.returns c).After-put_at in
    let xs = c.self.inside.entries.items in
    let n = c.partition_point-place.result in
    let within = c.partition_point-place.ensures.bound in
    let long = length-insert xs n c.args.entry within in
    let room : c.put_at.new.ring.capacity - length c.put_at.new.ring.items
    ≡ (c.self.inside.entries.capacity - length xs) - 1 = rw (items s, same s) (omega arith) in
    rw (← c.self.view_is) (same_queue _ _ _ _ (items s ∙ inserted xs c.args.entry n within (parts s)) room)
