use Rattle.std.proofs.Common.{◌≡◌, ◌≢◌, ◌<◌, false, length, remove, Contains, Some, slice_get, sym, ap, subst, rules}
use Rattle.std.proofs.Common.{tests, arith}
use Rattle.link_buffers.specs.proof.BinarySearch.{IsFirstToFail}
use Rattle.std.proofs.lemmas.List.Edits.{length-remove}
use Rattle.std.proofs.lemmas.List.Quantifiers.{all_pairs_remove}
use Rattle.std.proofs.lemmas.Option.{slice_get_within}
use Rattle.std.proofs.lemmas.Grind.{common_steps}
use Rattle.link_buffers.specs.proof.DueQueues.{comes_before, IsRising}
use Rattle.link_buffers.proofs.DueEntryPositions.{parted_before, removed, found, absent, kept}
use Rattle.link_buffers.proofs.due_queue.DueQueue.remove.Goals.{After-stands_at, After-take_at}
use Rattle.link_buffers.proofs.due_queue.DueQueue.remove.Goals as goal

-- the entries are parted at the place
parts : (c : After-stands_at)
    → IsFirstToFail (λ e. comes_before e c.args.entry) c.self.inside.entries.items c.partition_point-place.result
parts c =
    c.partition_point-place.ensures.parts (λ e. comes_before e c.args.entry) (λ x b k. search (rules, tests))
    (parted_before c.self.inside.entries.items c.args.entry c.self.invariant.1)

pub returns-then-not-stands_at-clause-found : goal.returns-then-not-stands_at-clause-found
returns-then-not-stands_at-clause-found c =
    let xs = c.self.inside.entries.items in
    let other : slice_get xs c.partition_point-place.result ≢ Some c.args.entry =
    λ same. absurd (grind (arith, common_steps)) in
    let none : ¬ (Contains xs c.args.entry) =
    absent xs c.args.entry c.partition_point-place.result c.self.invariant.1
    (parts (goal.at.returns-then-not-stands_at-clause-found c).After-stands_at) other in
    rw (← c.self.view_is) (λ no. absurd (grind arith), λ has. absurd (none has))

pub returns-then-not-stands_at-clause-others : goal.returns-then-not-stands_at-clause-others
returns-then-not-stands_at-clause-others c =
    let xs = c.self.inside.entries.items in
    let other : slice_get xs c.partition_point-place.result ≢ Some c.args.entry =
    λ same. absurd (grind (arith, common_steps)) in
    rw (← c.self.view_is) (sym
    (kept xs c.args.entry c.partition_point-place.result c.self.invariant.1
    (parts (goal.at.returns-then-not-stands_at-clause-others c).After-stands_at) other))

-- the entry is at the place
here : (c : After-take_at) → slice_get c.self.inside.entries.items c.partition_point-place.result ≡ Some c.args.entry
here c = c.stands_at.ensures.0 (cc)

pub take_at-requires : goal.take_at-requires
take_at-requires c =
    slice_get_within c.self.inside.entries.items c.partition_point-place.result c.args.entry
    (c.stands_at.ensures.0 (cc))

pub invariant_of-self : goal.invariant_of-self
invariant_of-self c =
    let xs = c.self.inside.entries.items in
    let n = c.partition_point-place.result in
    let items : c.take_at.new.ring.items ≡ remove xs n = ap (λ b. b.items) c.take_at.ensures.others in
    let same : c.take_at.new.ring.capacity ≡ c.self.inside.entries.capacity =
    ap (λ b. b.capacity) c.take_at.ensures.others in
    let within : n < length xs =
    slice_get_within xs n c.args.entry (here (goal.at.invariant_of-self c).After-take_at) in
    let long = length-remove xs n within in
    let room = c.self.invariant.0 in (
      rw (items, same) (omega arith),
      subst IsRising (sym items)
          (all_pairs_remove (λ earlier later. comes_before later earlier ≡ false) xs n within c.self.invariant.1),
    )

pub returns-clause-found : goal.returns-clause-found
returns-clause-found c =
    let xs = c.self.inside.entries.items in
    let at = here (goal.at.returns-clause-found c).After-take_at in
    rw (← c.self.view_is) (
      λ yes.
          found xs c.args.entry c.partition_point-place.result c.self.invariant.1
          (parts (goal.at.returns-clause-found c).After-stands_at) at,
      λ has. grind arith,
    )

pub returns-clause-others : goal.returns-clause-others
returns-clause-others c =
    let xs = c.self.inside.entries.items in
    let at = here (goal.at.returns-clause-others c).After-take_at in
    rw (← c.self.view_is, c.take_at.ensures.others)
    (removed xs c.args.entry c.partition_point-place.result c.self.invariant.1
    (parts (goal.at.returns-clause-others c).After-stands_at) at)

pub returns-clause-spare : goal.returns-clause-spare
returns-clause-spare c =
    let xs = c.self.inside.entries.items in
    let n = c.partition_point-place.result in
    let within : n < length xs =
    slice_get_within xs n c.args.entry (here (goal.at.returns-clause-spare c).After-take_at) in
    let long = length-remove xs n within in
    let room = c.self.invariant.0 in
    rw (← c.self.view_is, c.take_at.ensures.others) (omega arith)
