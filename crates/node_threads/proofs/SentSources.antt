-- For `has_sent` and `is_awaited`: when a node need not wait for the nodes that send to it.
use Rattle.std.proofs.Common.{◌≡◌, inl, inr, ℕ, ◌+◌, ◌-◌, ◌<◌, ◌≤◌, Bool, true, false, cond, List, length, sym, ap, ◌∙◌}
use Rattle.std.proofs.Common.{subst, arith}
use Rattle.std.proofs.lemmas.Bool.{cases_eq}
use Rattle.std.proofs.lemmas.Option.{slice_get_within}
use Rattle.pals_clock.specs.ClockStates.{ClockState}
use Rattle.pals_clock.specs.declared.clock.Clocks.{Clocks}
use Rattle.pals_clock.specs.declared.clock.Clocks.TheVariants.{Meet, Lists}
use Rattle.pals_model.specs.declared.design.Link.{Link}
use Rattle.bus_machine.specs.Nodes.{NodeState, sent_rounds}
use Rattle.bus_machine.specs.BusStates.{node_at}
use Rattle.bus_machine.specs.Plans.{link_at}
use Rattle.pals_bus.specs.BusValues.{BusValue}
use Rattle.run_laws.specs.Runs.{IsAwaited}
use Rattle.run_laws.proofs.MeetingStopsAndBounds.{link_is}
use Rattle.node_threads.specs.declared.node_end.NodeNote.{NodeNote}
use Rattle.node_threads.specs.declared.node_end.NodeNote.TheVariants as note
use Rattle.node_threads.specs.proof.SharedCourses.{CourseValue, clocks_of, course_of, note_at, EndsAt, IsCourse}
use Rattle.node_threads.specs.proof.SharedCourses.{HasSent, IsSentOn, IsAwaitedIn}

-- ---- one source
ended_sent : (b : BusValue) (clocks : Clocks) (node rounds goal : ℕ) → EndsAt b clocks node goal
    → HasSent b clocks node rounds
ended_sent b Meet node rounds goal ends = tt
ended_sent b (Lists lists) node rounds goal ends = inr ends.0

-- a node whose list's end is noted
pub noted_sent : (bus : BusValue) (lists : List ClockState) (notes : List NodeNote) (v : CourseValue)
    (node rounds goal : ℕ)
    → course_of bus lists notes ≡ v → IsCourse (course_of bus lists notes) → note_at notes node ≡ note.ClockEnded goal
    → HasSent v.bus v.clocks node rounds
noted_sent bus lists notes v node rounds goal is course noted =
    let c = course_of bus lists notes in
    subst (λ (w : CourseValue). HasSent w.bus w.clocks node rounds) is
    (ended_sent c.bus c.clocks node rounds goal (course.ended node goal noted))

-- a node that has sent enough
pub counted_sent : (b : BusValue) (clocks : Clocks) (node rounds : ℕ) → rounds ≤ sent_rounds (node_at b.state node)
    → HasSent b clocks node rounds
counted_sent b Meet node rounds enough = tt
counted_sent b (Lists lists) node rounds enough = inl enough

more_rounds : (sent : Bool) (count rounds : ℕ) → rounds < count → rounds ≤ cond sent count (count - 1)
more_rounds true count rounds less = omega arith
more_rounds false count rounds less = omega arith

pub fewer_sent : (n : NodeState) (rounds : ℕ) → rounds < n.count → rounds ≤ sent_rounds n
fewer_sent n rounds less = more_rounds n.sent n.count rounds less

pub all_sent : (n : NodeState) (rounds : ℕ) → rounds ≡ n.count → n.sent ≡ true → rounds ≤ sent_rounds n
all_sent n rounds same sent = let here : sent_rounds n ≡ n.count =
    ap (λ b. cond b n.count (n.count - 1)) sent in omega arith

-- ---- all sources
awaited_by : (b : BusValue) (clocks : Clocks) (node : ℕ)
    → ((k : ℕ) → k < length b.run.design.links → (link_at b.run.design k).target.0 ≡ node
    → HasSent b clocks (link_at b.run.design k).source.0 (node_at b.state node).count)
    → IsAwaited b.run clocks b.state node
awaited_by b Meet node all = tt
awaited_by b (Lists lists) node all = λ number link is to.
    let here : link_at b.run.design number ≡ link = link_is b.run number link is in
    subst (λ (l : Link). HasSent b (Lists lists) l.source.0 (node_at b.state node).count) here
    (all number (slice_get_within b.run.design.links number link is) (ap (λ (l : Link). l.target.0) here ∙ to))

pub all_awaited : (c : CourseValue) (node : ℕ)
    → ((k : ℕ) → k < length c.bus.run.design.links → IsSentOn c node (link_at c.bus.run.design k)) → IsAwaitedIn c node
all_awaited c node all = awaited_by c.bus c.clocks node all

-- where nodes meet nothing is waited for
pub meeting_awaited : (bus : BusValue) (lists : List ClockState) (notes : List NodeNote) (v : CourseValue) (node : ℕ)
    → course_of bus lists notes ≡ v → bus.meeting ≡ true → IsAwaitedIn v node
meeting_awaited bus lists notes v node is meets =
    subst (λ w. IsAwaitedIn w node) is
    (subst (λ m. IsAwaited bus.run (clocks_of m lists) bus.state node) (sym meets) tt)

-- one link more
pub one_more : (c : CourseValue) (node at : ℕ) → ((k : ℕ) → k < at → IsSentOn c node (link_at c.bus.run.design k))
    → IsSentOn c node (link_at c.bus.run.design at)
    → (k : ℕ) → k < at + 1 → IsSentOn c node (link_at c.bus.run.design k)
one_more c node at before here k below = elim (cases_eq k at) [
  | inl same ↦ subst (λ i. IsSentOn c node (link_at c.bus.run.design i)) (sym same) here
  | inr other ↦ before k (omega arith)
]
