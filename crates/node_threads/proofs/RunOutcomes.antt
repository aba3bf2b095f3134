-- For `driven` and `run_threads`: the outcome of a run of a design, and that it opens anew as fresh.
use Rattle.std.proofs.Common.{◌≡◌, ◌≢◌, ℕ, ◌≤◌, Bool, true, false, List, length, map, Some, None, slice_get, refl, sym}
use Rattle.std.proofs.Common.{ap, ◌∙◌, subst, arith}
use Rattle.std.specs.Prelude.{Result, Ok, Err, IfOk}
use Rattle.pals_base.specs.declared.limits.TheConstants.{COMPONENTS}
use Rattle.pals_clock.specs.ClockStates.{ClockState}
use Rattle.pals_clock.specs.declared.clock.Clocks.{Clocks}
use Rattle.pals_clock.specs.declared.clock.Clocks.TheVariants.{Meet, Lists}
use Rattle.bus_machine.specs.proof.AgreementLaws.{IsRunOf}
use Rattle.pals_bus.specs.BusValues.{BusValue}
use Rattle.pals_bus.specs.proof.OpeningNodes.{opening_bus}
use Rattle.run_laws.specs.Runs.{lists_in, Runs}
use Rattle.node_threads.specs.declared.node_end.NodeEnd.{NodeEnd}
use Rattle.node_threads.specs.declared.node_end.NodeEnd.TheVariants as ended
use Rattle.node_threads.specs.declared.node_end.NodeNote.{NodeNote}
use Rattle.node_threads.specs.proof.SharedCourses.{CourseValue, AreClocksOf, clocks_of, course_of, IsOf, Stays}
use Rattle.node_threads.specs.declared.threaded_run.RunEnd.{RunEnd}
use Rattle.node_threads.specs.proof.NodeEndsAndOutcomes.{EndsFit, IsOutcome}
use Rattle.node_threads.proofs.CourseOpenings.{Begins}

-- ---- two courses of one run
lists_of : (meeting : Bool) (lists others : List ClockState)
    → map (λ (c : ClockState). c.readings) lists ≡ map (λ (c : ClockState). c.readings) others
    → lists_in (clocks_of meeting lists) ≡ lists_in (clocks_of meeting others)
lists_of true lists others same = refl
lists_of false lists others same = ap Some same

same_by : (bus other : BusValue) (lists others : List ClockState) (notes noted : List NodeNote)
    → (bus.run ≡ other.run) × (bus.meeting ≡ other.meeting)
    → map (λ (c : ClockState). c.readings) lists ≡ map (λ (c : ClockState). c.readings) others
    → IsOf other (clocks_of other.meeting others) (course_of bus lists notes)
same_by bus other lists others notes noted same readings = (
  same.0,
  lists_of bus.meeting lists others readings ∙ ap (λ m. lists_in (clocks_of m others)) same.1,
)

pub same_courses : (bus other : BusValue) (lists others : List ClockState) (notes noted : List NodeNote)
    (v w : CourseValue)
    → course_of bus lists notes ≡ v → course_of other others noted ≡ w
    → (bus.run ≡ other.run) × (bus.meeting ≡ other.meeting)
    → map (λ (c : ClockState). c.readings) lists ≡ map (λ (c : ClockState). c.readings) others
    → IsOf w.bus w.clocks v
same_courses bus other lists others notes noted v w is there same readings =
    subst (λ a. IsOf w.bus w.clocks a) is
    (subst (λ (a : CourseValue). IsOf a.bus a.clocks (course_of bus lists notes)) there
    (same_by bus other lists others notes noted same readings))

-- ---- the outcome
-- a course whose parts have all ended
pub outcome_by : (old c : CourseValue) (new : BusValue) (ends : List NodeEnd) → Stays old c → new ≡ c.bus
    → IsRunOf c.bus.run → Runs c.bus.run c.clocks c.bus.journal c.bus.state → EndsFit c.bus c.clocks ends
    → IsOutcome old.bus old.clocks new ends
outcome_by old c new ends stays is rules runs fit =
    subst (λ (b : BusValue). IsOutcome old.bus old.clocks b ends) (sym is)
    (record { run = stays.run; rules = rules; later = c.clocks; lists = stays.lists; runs = runs; ends_fit = fit })

pub few_ends : (b : BusValue) (clocks : Clocks) (ends : List NodeEnd) → IsRunOf b.run → EndsFit b clocks ends
    → length ends ≤ COMPONENTS
few_ends b clocks ends rules fit =
    let many = fit.many in
    let few = rules.design.components.count in
    omega (arith, many, few)

pub none_stopped : (b new : BusValue) (clocks : Clocks) (ends : List NodeEnd) → new ≡ b → EndsFit b clocks ends
    → (node : ℕ) → slice_get ends node ≡ Some ended.Stopped → new.state.stop ≢ None
none_stopped b new clocks ends is fit node stopped =
    subst (λ (v : BusValue). v.state.stop ≢ None) (sym is) (fit.each node ended.Stopped stopped)

-- a course belongs to the run of a bus and its lists, and the outcome is the outcome of that run
outcome_of : (b : BusValue) (clocks : Clocks) (c : CourseValue) (new : BusValue) (ends : List NodeEnd)
    → IsOf b clocks c → IsOutcome c.bus c.clocks new ends → IsOutcome b clocks new ends
outcome_of b clocks c new ends is out = record {
  run = out.run ∙ is.0;
  rules = out.rules;
  later = out.later;
  lists = out.lists ∙ is.1;
  runs = out.runs;
  ends_fit = out.ends_fit;
}

pub run_outcome : {E : Type 0} (b : BusValue) (clocks : Clocks) (c : CourseValue) (result : Result RunEnd E)
    → IsOf b clocks c
    → IfOk result (λ (end : RunEnd). IsOutcome c.bus c.clocks end.bus end.ends)
    → IfOk result (λ (end : RunEnd). IsOutcome b clocks end.bus end.ends)
run_outcome b clocks c (Ok end) is out = outcome_of b clocks c end.bus end.ends is out
run_outcome b clocks c (Err e) is out = tt

-- ---- the spare run
pub fresh_opens : (b f : BusValue) → f ≡ opening_bus b.run b.codes b.meeting → f ≡ opening_bus f.run f.codes f.meeting
fresh_opens b f is = is ∙ ap (λ (v : BusValue). opening_bus v.run v.codes v.meeting) (sym is)

opening_clocks : (b : BusValue) (clocks : Clocks) → AreClocksOf b clocks
    → AreClocksOf (opening_bus b.run b.codes b.meeting) clocks
opening_clocks b Meet are = are
opening_clocks b (Lists lists) are = are

pub fresh_clocks : (b f : BusValue) (clocks : Clocks) → f ≡ opening_bus b.run b.codes b.meeting → AreClocksOf b clocks
    → AreClocksOf f clocks
fresh_clocks b f clocks is are = subst (λ (v : BusValue). AreClocksOf v clocks) (sym is) (opening_clocks b clocks are)

-- a new course belongs to the run and to the lists that it begins with
pub opens_of : {E : Type 0} (b : BusValue) (clocks : Clocks) (lists : List ClockState) (result : Result CourseValue E)
    → Begins b clocks lists → IfOk result (λ (c : CourseValue). (c.bus ≡ b) × (c.clocks ≡ clocks_of b.meeting lists))
    → IfOk result (IsOf b clocks)
opens_of b clocks lists (Ok c) begins ok = (ap (λ (v : BusValue). v.run) ok.0, ap lists_in ok.1 ∙ begins.same)
opens_of b clocks lists (Err e) begins ok = tt

-- the course of the run of a bus before its first event belongs to that bus
pub anew_of : {E : Type 0} (b f : BusValue) (clocks : Clocks) (result : Result CourseValue E)
    → f ≡ opening_bus b.run b.codes b.meeting → IfOk result (IsOf f clocks) → IfOk result (IsOf b clocks)
anew_of b f clocks (Ok c) is ok = (ok.0 ∙ ap (λ (v : BusValue). v.run) is, ok.1)
anew_of b f clocks (Err e) is ok = tt
