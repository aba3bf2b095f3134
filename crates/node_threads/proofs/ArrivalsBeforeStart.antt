-- For `take`: all messages that are due to a node arrive before its start, and it is still to start.
use Rattle.std.proofs.Common.{◌≡◌, ℕ, List, Some, refl, sym, ap, ◌∙◌, subst}
use Rattle.std.specs.Prelude.{slice_index_or}
use Rattle.std.proofs.lemmas.Bool.{false_from_ne_true}
use Rattle.std.proofs.lemmas.Option.{slice_get-get_or}
use Rattle.pals_base.specs.declared.basic_types.NodeNo.{NodeNo}
use Rattle.pals_base.specs.declared.basic_types.LinkNo.{LinkNo}
use Rattle.pals_clock.specs.ClockStates.{ClockState}
use Rattle.link_buffers.specs.proof.Flights.{is_due}
use Rattle.bus_machine.specs.BusStates.{flight_at}
use Rattle.bus_machine.specs.Machine.{BusEvent, Arrive}
use Rattle.pals_bus.specs.BusValues.{BusValue, Happens}
use Rattle.pals_bus.specs.proof.DueMessages.{IsDueTo, TakesDue, takes_none, takes_next}
use Rattle.run_laws.specs.proof.ClockAnswersAndDueArrivals.{IsToStart, IsDueAt}
use Rattle.run_laws.specs.Runs.{NoneDue, IsAwaited}
use Rattle.run_laws.proofs.ClockAnswersAndDueArrivals.{due_arrives}
use Rattle.node_threads.specs.declared.node_end.NodeNote.{NodeNote}
use Rattle.node_threads.specs.proof.SharedCourses.{CourseValue, course_of, clocks_of, IsToStartIn}
use Rattle.node_threads.proofs.ChangesUnderLock.{Goes, stays_on, event_goes}

-- what stays while messages arrive
pub record Still (from : CourseValue) (lists : List ClockState) (notes : List NodeNote) (node : NodeNo) (reading : ℕ)
    (b : BusValue) : Type 0 where
  pub goes : Goes from (course_of b lists notes)
  pub waits : IsToStartIn (course_of b lists notes) node reading
  pub awaited : IsAwaited b.run (clocks_of b.meeting lists) b.state node.0
  pub closed : b.closed ≡ from.bus.closed

is_due_at : (b : BusValue) (node reading : ℕ) (link : LinkNo) (round : ℕ) → IsDueTo b node reading link.0 round
    → IsDueAt b.run b.state node link round reading
is_due_at b node reading link round due = record {
  the_link = due.the_link;
  is_link = due.is_link;
  to_node = due.to_node;
  place = due.place;
  copy = due.copy;
  is_copy = due.is_copy;
  of_round = due.of_round;
  due = due.due;
}

goes_still : (from : CourseValue) (lists : List ClockState) (notes : List NodeNote) (node : NodeNo) (reading : ℕ)
    (b c : BusValue) (link : LinkNo) (round : ℕ) → Still from lists notes node reading b
    → IsDueTo b node.0 reading link.0 round → Happens b (Arrive link round (Some reading)) c
    → Still from lists notes node reading c
goes_still from lists notes node reading b c link round still due happens =
    let e : BusEvent = Arrive link round (Some reading) in
    let course = still.goes.course in
    let arrives =
    due_arrives b.run (clocks_of b.meeting lists) b.journal b.state course.rules course.runs c.state node reading
    link round still.waits (is_due_at b node.0 reading link round due) happens.step in
    let goes = event_goes b lists notes e c course arrives.0 happens in
    let after : BusValue = record b { state = c.state; journal = c.journal } in
    record {
      goes =
          record {
            course = goes.course;
            stays = stays_on from (course_of b lists notes) (course_of c lists notes) still.goes.stays goes.stays;
          };
      waits =
          subst (λ (v : BusValue). IsToStart v.run (clocks_of v.meeting lists) v.state node reading)
          (sym happens.others) arrives.1;
      awaited =
          subst (λ (v : BusValue). IsAwaited v.run (clocks_of v.meeting lists) v.state node.0) (sym happens.others)
          (arrives.2 still.awaited);
      closed = ap (λ (v : BusValue). v.closed) happens.others ∙ still.closed;
    }

pub all_still : (from : CourseValue) (lists : List ClockState) (notes : List NodeNote) (node : NodeNo) (reading : ℕ)
    (a b : BusValue) → Still from lists notes node reading a → TakesDue node.0 reading a b
    → Still from lists notes node reading b
all_still from lists notes node reading a b still takes_none = still
all_still from lists notes node reading a c still (takes_next {b = b} link round takes next happens) =
    goes_still from lists notes node reading b c link round (all_still from lists notes node reading a b still takes)
    next.is_due happens

-- if no message is due, all have arrived
pub none_is_left : (b : BusValue) (node reading : ℕ) → ((link round : ℕ) → IsDueTo b node reading link round → ⊥)
    → NoneDue b.run b.state node (Some reading)
none_is_left b node reading none = λ link l is to k d within.
    let copy = slice_index_or (flight_at b.state link) k d in
    false_from_ne_true (is_due reading copy)
    (λ due. none link copy.round
    (record {
      the_link = l;
      is_link = is;
      to_node = to;
      place = k;
      copy = copy;
      is_copy = slice_get-get_or (flight_at b.state link) k d within;
      of_round = refl;
      due = due;
    }))
