-- For the calls of `SharedRun` that act on the bus: how each leaves the course.
use Rattle.std.proofs.Common.{◌≡◌, inl, inr, ℕ, ◌<◌, List, length, Option, Some, refl, sym, ◌∙◌, subst}
use Rattle.std.specs.Prelude.{Result, Ok, Err, IfOk, IfErr, OnOk, OnErr}
use Rattle.std.specs.declared.alloc.AllocError.{AllocError}
use Rattle.pals_base.specs.declared.basic_types.NodeNo.{NodeNo}
use Rattle.pals_clock.specs.ClockStates.{ClockState}
use Rattle.pals_node.specs.proof.NodeAndJobValues.{JobValue}
use Rattle.pals_node.specs.declared.refusals.StartEnd.{StartEnd}
use Rattle.pals_node.specs.declared.refusals.StepEnd.{StepEnd}
use Rattle.pals_node.specs.declared.job.Finished.{Finished}
use Rattle.pals_node.specs.declared.refusals.FinishEnd.{FinishEnd}
use Rattle.pals_node.specs.declared.refusals.SendEnd.{SendEnd}
use Rattle.bus_machine.specs.RunParameters.{Run}
use Rattle.bus_machine.specs.Machine.{Start, Step, Finish, Send}
use Rattle.pals_bus.specs.declared.bus_error.BusError.{BusError}
use Rattle.pals_bus.specs.declared.bus_error.BusError.TheVariants as fault
use Rattle.pals_bus.specs.BusValues.{BusValue, Happens}
use Rattle.pals_bus.specs.proof.Answers.{StartsRound, BusStartEnds, StepsOn, FinishesStep, SendsRound}
use Rattle.pals_bus.specs.proof.DueMessages.{TakesAllDue, DueEnds}
use Rattle.node_threads.specs.declared.node_end.NodeNote.{NodeNote}
use Rattle.node_threads.specs.proof.SharedCourses.{CourseValue, course_of, IsCourse, IsOpen, IsToStartIn, IsAwaitedIn}
use Rattle.node_threads.specs.proof.SharedCourses.{Allows}
use Rattle.node_threads.proofs.ChangesUnderLock.{Goes, goes_same, event_goes}
use Rattle.node_threads.proofs.ArrivalsBeforeStart.{Still, all_still, none_is_left}

-- ---- start
start_ends : (bus : BusValue) (lists : List ClockState) (notes : List NodeNote) (new : BusValue) (node : NodeNo)
    (reading : Option ℕ) (end : BusError StartEnd) → IsCourse (course_of bus lists notes)
    → Allows (course_of bus lists notes) (Start node reading)
    → BusStartEnds bus node reading new end → Goes (course_of bus lists notes) (course_of new lists notes)
start_ends bus lists notes new node reading (fault.Stopped why) course allows ends = elim ends [
  | inl stood ↦ goes_same bus lists notes new course stood.1
  | inr misses ↦ event_goes bus lists notes (Start node reading) new course allows misses.happens
]
start_ends bus lists notes new node reading (fault.Refused why) course allows ends =
    goes_same bus lists notes new course ends.same

start_goes : (bus : BusValue) (lists : List ClockState) (notes : List NodeNote) (new : BusValue) (node : NodeNo)
    (reading : Option ℕ) (result : Result JobValue (BusError StartEnd)) → IsCourse (course_of bus lists notes)
    → Allows (course_of bus lists notes) (Start node reading)
    → IfOk result (λ job. StartsRound bus node reading new job)
    → IfErr result (λ end. BusStartEnds bus node reading new end)
    → Goes (course_of bus lists notes) (course_of new lists notes)
start_goes bus lists notes new node reading (Ok job) course allows ok err =
    event_goes bus lists notes (Start node reading) new course allows ok.happens
start_goes bus lists notes new node reading (Err end) course allows ok err =
    start_ends bus lists notes new node reading end course allows err

-- of a course that is this value
pub start_keeps : (bus : BusValue) (lists : List ClockState) (notes : List NodeNote) (new : BusValue) (v : CourseValue)
    (node : NodeNo) (reading : Option ℕ) (result : Result JobValue (BusError StartEnd)) → course_of bus lists notes ≡ v
    → IsCourse (course_of bus lists notes)
    → Allows v (Start node reading) → IfOk result (λ job. StartsRound bus node reading new job)
    → IfErr result (λ end. BusStartEnds bus node reading new end) → Goes v (course_of new lists notes)
start_keeps bus lists notes new v node reading result is course allows ok err =
    subst (λ w. Goes w (course_of new lists notes)) is
    (start_goes bus lists notes new node reading result course
    (subst (λ w. Allows w (Start node reading)) (sym is) allows) ok err)

-- ---- step and send
step_goes : (bus : BusValue) (lists : List ClockState) (notes : List NodeNote) (new : BusValue) (node : NodeNo)
    (reading : Option ℕ) (result : Result JobValue (BusError StepEnd)) → IsCourse (course_of bus lists notes)
    → Allows (course_of bus lists notes) (Step node reading)
    → IfOk result (λ job. StepsOn bus node reading new job) → OnErr result (new ≡ bus)
    → Goes (course_of bus lists notes) (course_of new lists notes)
step_goes bus lists notes new node reading (Ok job) course allows ok err =
    event_goes bus lists notes (Step node reading) new course allows ok.happens
step_goes bus lists notes new node reading (Err end) course allows ok err = goes_same bus lists notes new course err

pub step_keeps : (bus : BusValue) (lists : List ClockState) (notes : List NodeNote) (new : BusValue) (v : CourseValue)
    (node : NodeNo) (reading : Option ℕ) (result : Result JobValue (BusError StepEnd)) → course_of bus lists notes ≡ v
    → IsCourse (course_of bus lists notes)
    → Allows v (Step node reading) → IfOk result (λ job. StepsOn bus node reading new job) → OnErr result (new ≡ bus)
    → Goes v (course_of new lists notes)
step_keeps bus lists notes new v node reading result is course allows ok err =
    subst (λ w. Goes w (course_of new lists notes)) is
    (step_goes bus lists notes new node reading result course
    (subst (λ w. Allows w (Step node reading)) (sym is) allows) ok err)

send_goes : (bus : BusValue) (lists : List ClockState) (notes : List NodeNote) (new : BusValue) (node : NodeNo)
    (reading : Option ℕ) {T : Type 0} (result : Result T (BusError SendEnd)) → IsCourse (course_of bus lists notes)
    → Allows (course_of bus lists notes) (Send node reading)
    → OnOk result (SendsRound bus node reading new) → OnErr result (new ≡ bus)
    → Goes (course_of bus lists notes) (course_of new lists notes)
send_goes bus lists notes new node reading (Ok done) course allows ok err =
    event_goes bus lists notes (Send node reading) new course allows ok.happens
send_goes bus lists notes new node reading (Err end) course allows ok err = goes_same bus lists notes new course err

pub send_keeps : (bus : BusValue) (lists : List ClockState) (notes : List NodeNote) (new : BusValue) (v : CourseValue)
    (node : NodeNo) (reading : Option ℕ) {T : Type 0} (result : Result T (BusError SendEnd))
    → course_of bus lists notes ≡ v → IsCourse (course_of bus lists notes)
    → Allows v (Send node reading) → OnOk result (SendsRound bus node reading new) → OnErr result (new ≡ bus)
    → Goes v (course_of new lists notes)
send_keeps bus lists notes new v node reading result is course allows ok err =
    subst (λ w. Goes w (course_of new lists notes)) is
    (send_goes bus lists notes new node reading result course
    (subst (λ w. Allows w (Send node reading)) (sym is) allows) ok err)

-- ---- finish
finish_goes : (bus : BusValue) (lists : List ClockState) (notes : List NodeNote) (new : BusValue) (node : NodeNo)
    (job : JobValue) (result : Result Finished (BusError FinishEnd)) → IsCourse (course_of bus lists notes)
    → node.0 < length bus.run.design.components
    → IfOk result (λ how. FinishesStep bus node job new how) → OnErr result (new ≡ bus)
    → Goes (course_of bus lists notes) (course_of new lists notes)
finish_goes bus lists notes new node job (Ok how) course within ok err =
    event_goes bus lists notes (Finish node) new course within ok.happens
finish_goes bus lists notes new node job (Err end) course within ok err = goes_same bus lists notes new course err

pub finish_keeps : (bus : BusValue) (lists : List ClockState) (notes : List NodeNote) (new : BusValue) (v : CourseValue)
    (node : NodeNo) (job : JobValue) (result : Result Finished (BusError FinishEnd)) → course_of bus lists notes ≡ v
    → IsCourse (course_of bus lists notes)
    → node.0 < length v.bus.run.design.components → IfOk result (λ how. FinishesStep bus node job new how)
    → OnErr result (new ≡ bus) → Goes v (course_of new lists notes)
finish_keeps bus lists notes new v node job result is course within ok err =
    subst (λ w. Goes w (course_of new lists notes)) is
    (finish_goes bus lists notes new node job result course
    (subst (λ (w : CourseValue). node.0 < length w.bus.run.design.components) (sym is) within) ok err)

finish_here_goes : (bus : BusValue) (lists : List ClockState) (notes : List NodeNote) (new : BusValue) (node : NodeNo)
    {T : Type 0} (result : Result T (BusError FinishEnd)) → IsCourse (course_of bus lists notes)
    → node.0 < length bus.run.design.components
    → OnOk result (Happens bus (Finish node) new) → OnErr result (new ≡ bus)
    → Goes (course_of bus lists notes) (course_of new lists notes)
finish_here_goes bus lists notes new node (Ok done) course within ok err =
    event_goes bus lists notes (Finish node) new course within ok
finish_here_goes bus lists notes new node (Err end) course within ok err = goes_same bus lists notes new course err

pub finish_here_keeps : (bus : BusValue) (lists : List ClockState) (notes : List NodeNote) (new : BusValue)
    (v : CourseValue) (node : NodeNo) {T : Type 0} (result : Result T (BusError FinishEnd))
    → course_of bus lists notes ≡ v → IsCourse (course_of bus lists notes)
    → node.0 < length v.bus.run.design.components → OnOk result (Happens bus (Finish node) new)
    → OnErr result (new ≡ bus) → Goes v (course_of new lists notes)
finish_here_keeps bus lists notes new v node result is course within ok err =
    subst (λ w. Goes w (course_of new lists notes)) is
    (finish_here_goes bus lists notes new node result course
    (subst (λ (w : CourseValue). node.0 < length w.bus.run.design.components) (sym is) within) ok err)

-- ---- arrivals
-- after them the node may start, where no stop came
pub record Taken (old new : CourseValue) (node : NodeNo) (reading : ℕ) {T : Type 0}
    (result : Result T (BusError AllocError)) : Type 0 where
  pub goes : Goes old new
  pub is_open : OnOk result (IsOpen new node.0)
  pub allows : OnOk result (Allows new (Start node (Some reading)))

due_ends : (bus : BusValue) (lists : List ClockState) (notes : List NodeNote) (new : BusValue) (node : NodeNo)
    (reading : ℕ)
    (end : BusError AllocError) → Still (course_of bus lists notes) lists notes node reading bus
    → DueEnds bus node.0 reading new end → Goes (course_of bus lists notes) (course_of new lists notes)
due_ends bus lists notes new node reading (fault.Stopped why) still ends = elim ends [
  | inl stood ↦ goes_same bus lists notes new still.goes.course stood.1
  | inr stops ↦ (all_still (course_of bus lists notes) lists notes node reading bus new still stops.1).goes
]
due_ends bus lists notes new node reading (fault.Refused no_memory) still ends =
    goes_same bus lists notes new still.goes.course ends

take_goes : (bus : BusValue) (lists : List ClockState) (notes : List NodeNote) (new : BusValue) (node : NodeNo)
    (reading : ℕ) {T : Type 0} (result : Result T (BusError AllocError)) → IsCourse (course_of bus lists notes)
    → IsOpen (course_of bus lists notes) node.0
    → IsToStartIn (course_of bus lists notes) node reading → IsAwaitedIn (course_of bus lists notes) node.0
    → OnOk result (TakesAllDue bus node.0 reading new) → IfErr result (λ end. DueEnds bus node.0 reading new end)
    → Taken (course_of bus lists notes) (course_of new lists notes) node reading result
take_goes bus lists notes new node reading (Ok done) course is_open waits awaited ok err =
    let from = course_of bus lists notes in
    let first : Still from lists notes node reading bus =
    record {
      goes = record { course = course; stays = record { run = refl; codes = refl; lists = refl } };
      waits = waits;
      awaited = awaited;
      closed = refl;
    } in
    let still = all_still from lists notes node reading bus new first ok.takes in
    record {
      goes = still.goes;
      is_open = record {
        within = subst (λ (r : Run). node.0 < length r.design.components) (sym still.goes.stays.run) is_open.within;
        noted = is_open.noted;
        going = ok.going;
        unclosed = still.closed ∙ is_open.unclosed;
      };
      allows =
          record {
            does = still.waits.does;
            taken = none_is_left new node.0 reading ok.none_left;
            awaited = still.awaited;
          };
    }
take_goes bus lists notes new node reading (Err end) course is_open waits awaited ok err =
    let from = course_of bus lists notes in
    let first : Still from lists notes node reading bus =
    record {
      goes = record { course = course; stays = record { run = refl; codes = refl; lists = refl } };
      waits = waits;
      awaited = awaited;
      closed = refl;
    } in
    record { goes = due_ends bus lists notes new node reading end first err; is_open = tt; allows = tt }

pub take_keeps : (bus : BusValue) (lists : List ClockState) (notes : List NodeNote) (new : BusValue) (v : CourseValue)
    (node : NodeNo) (reading : ℕ) {T : Type 0} (result : Result T (BusError AllocError)) → course_of bus lists notes ≡ v
    → IsCourse (course_of bus lists notes)
    → IsOpen v node.0 → IsToStartIn v node reading → IsAwaitedIn v node.0
    → OnOk result (TakesAllDue bus node.0 reading new) → IfErr result (λ end. DueEnds bus node.0 reading new end)
    → Taken v (course_of new lists notes) node reading result
take_keeps bus lists notes new v node reading result is course is_open waits awaited ok err =
    subst (λ w. Taken w (course_of new lists notes) node reading result) is
    (take_goes bus lists notes new node reading result course (subst (λ w. IsOpen w node.0) (sym is) is_open)
    (subst (λ w. IsToStartIn w node reading) (sym is) waits)
    (subst (λ w. IsAwaitedIn w node.0) (sym is) awaited) ok err)
