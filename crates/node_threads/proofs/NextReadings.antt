-- For `look`, `meet` and `pick`: the reading that a node's clock shows for its next action.
use Rattle.std.proofs.Common.{◌≡◌, inl, inr, ℕ, ◌<◌, ◌≤◌, nat_lt, Bool, true, false, cond, List, [], ◌∷◌, length}
use Rattle.std.proofs.Common.{slice_get, All, Option, Some, None, refl, sym, ap, ◌∙◌, subst, arith}
use Rattle.std.specs.Prelude.{slice_index_or, slice_set, Result, Ok, Err, IfOk, OnOk, OnErr, IsErr, ◌↔◌}
use Rattle.std.specs.Option.{option_map}
use Rattle.std.proofs.lemmas.Grind.{common_steps, get_or-set_at}
use Rattle.std.proofs.lemmas.List.{get_or_read, set-get_or}
use Rattle.std.proofs.lemmas.Option.{same_Some, none-some}
use Rattle.pals_base.specs.declared.limits.TheConstants.{READING}
use Rattle.pals_base.specs.declared.basic_types.NodeNo.{NodeNo}
use Rattle.pals_base.specs.ClockPicks.{remaining_from}
use Rattle.pals_clock.specs.ClockStates.{ClockState, standing_at}
use Rattle.pals_clock.specs.declared.clock.Clocks.{Clocks}
use Rattle.pals_clock.specs.declared.clock.Clocks.TheVariants.{Meet, Lists}
use Rattle.pals_clock.proofs.RemainingReadingsAndPicks.{reached_none}
use Rattle.bus_machine.specs.declared.plan.Plan.{Plan}
use Rattle.bus_machine.specs.declared.node_action.NodeAction.{NodeAction}
use Rattle.bus_machine.specs.declared.node_action.Next.{Next}
use Rattle.bus_machine.specs.Nodes.{NodeState}
use Rattle.bus_machine.specs.Plans.{plan_of}
use Rattle.bus_machine.specs.BusStates.{node_at}
use Rattle.bus_machine.specs.ActionsAndTargets.{target}
use Rattle.pals_bus.specs.BusValues.{BusValue}
use Rattle.pals_bus.specs.proof.Meeting.{target_in, HasEnded as HasStopped, GoesAt}
use Rattle.run_laws.specs.NodeActions.{upcoming}
use Rattle.run_laws.specs.Runs.{clock_at, no_clock, Shows, Does}
use Rattle.run_laws.proofs.NodePicksAndRunReplay.{runs_agree}
use Rattle.run_laws.proofs.MeetingReadings.{next_acts}
use Rattle.node_threads.specs.declared.node_end.NodeNote.{NodeNote}
use Rattle.node_threads.specs.proof.SharedCourses.{CourseValue, clocks_of, course_of, EndsAt, IsCourse, IsOpen, IsNext}
use Rattle.node_threads.specs.proof.SharedCourses.{IsReady}
use Rattle.node_threads.proofs.NextTargetsAndStarts.{target_fits}
use Rattle.node_threads.proofs.ChangesUnderLock.{Goes, pick_goes}

-- ---- the next reading
pub record Comes (plan : Plan) (n : NodeState) (next : Next) : Type 0 where
  pub action_is : upcoming plan n ≡ Some next.action
  pub target_is : next.target ≡ target plan next.action

next_by : (plan : Plan) (n : NodeState) (next : Next) (o : Option NodeAction) → upcoming plan n ≡ o
    → option_map (λ a. record { action = a; target = target plan a }) o ≡ Some next → Comes plan n next
next_by plan n next None is told = absurd (none-some next told)
next_by plan n next (Some a) is told =
    let same : record { action = a; target = target plan a } ≡ next = same_Some _ next told in
    subst (λ (m : Next). Comes plan n m) same (record { action_is = is; target_is = refl })

pub comes : (c : CourseValue) (node : ℕ) (next : Next) → IsNext c node next
    → Comes (plan_of c.bus.run.design node) (node_at c.bus.state node) next
comes c node next is = let plan = plan_of c.bus.run.design node in let n = node_at c.bus.state node in
    next_by plan n next (upcoming plan n) refl is

-- ---- where nodes meet
aims : (b : BusValue) (node : ℕ) (a : NodeAction) → upcoming (plan_of b.run.design node) (node_at b.state node) ≡ Some a
    → target_in b node ≡ Some (target (plan_of b.run.design node) a)
aims b node a is = let plan = plan_of b.run.design node in let n = node_at b.state node in
    ap (option_map (target plan)) (next_acts plan n n.phase a is)

-- a node that the meeting does not hold back is ready
pub meets_ready : (c : CourseValue) (node : NodeNo) (next : Next) (reading : ℕ) → c.clocks ≡ Meet → IsCourse c
    → IsOpen c node.0 → IsNext c node.0 next → GoesAt c.bus node.0 (Some reading)
    → IsReady c node next.action reading
meets_ready c node next reading meets course is_open is goes =
    let plan = plan_of c.bus.run.design node.0 in
    let come = comes c node.0 next is in
    let here : reading ≡ goes.own = same_Some reading goes.own goes.reading_is in
    let own : goes.own ≡ target plan next.action =
    same_Some goes.own (target plan next.action) (sym goes.own_is ∙ aims c.bus node.0 next.action come.action_is) in
    let fits =
    target_fits c.bus.run c.bus.state node.0 next.action course.rules course.few
    (runs_agree c.bus.run c.clocks c.bus.journal c.bus.state course.rules course.runs) is_open.within
    come.action_is in
    record {
      is_open = is_open;
      does = record {
        within = is_open.within;
        next = come.action_is;
        at = reading;
        reading_is = refl;
        shows =
            subst (λ (z : Clocks). Shows c.bus.run z c.bus.state node.0 (target plan next.action) reading) (sym meets)
            (here ∙ own, (λ other least within aim. let below = goes.least other least within aim in omega arith));
      };
      range = omega arith;
    }

pub meeting_looks : (bus : BusValue) (lists : List ClockState) (notes : List NodeNote) (v : CourseValue) (node : NodeNo)
    (next : Next) (reading : ℕ) → course_of bus lists notes ≡ v → IsCourse (course_of bus lists notes)
    → v.bus.meeting ≡ true
    → IsOpen v node.0 → IsNext v node.0 next → GoesAt bus node.0 (Some reading) → IsReady v node next.action reading
meeting_looks bus lists notes v node next reading is course meets is_open next_is goes =
    let own : bus.meeting ≡ true = ap (λ (w : CourseValue). w.bus.meeting) is ∙ meets in
    let c = course_of bus lists notes in
    subst (λ w. IsReady w node next.action reading) is
    (meets_ready c node next reading (ap (λ m. clocks_of m lists) own) course
    (subst (λ w. IsOpen w node.0) (sym is) is_open) (subst (λ w. IsNext w node.0 next) (sym is) next_is) goes)

not_stopped : (b : BusValue) → b.state.stop ≡ None → b.closed ≡ false → HasStopped b → ⊥
not_stopped b going unclosed (inl stop) = stop going
not_stopped b going unclosed (inr closed) = absurd (let both : false ≡ true = sym unclosed ∙ closed in cc)

at_meeting : (b : BusValue) (lists : List ClockState) (node : NodeNo) (reading : ℕ) (action : NodeAction)
    (meeting : Bool)
    → b.state.stop ≡ None → b.closed ≡ false → Does b.run (clocks_of meeting lists) b.state node (Some reading) action
    → meeting ≡ true → GoesAt b node.0 (Some reading)
at_meeting b lists node reading action false going unclosed does is = absurd (cc)
at_meeting b lists node reading action true going unclosed does is =
    let plan = plan_of b.run.design node.0 in
    let same : reading ≡ does.at = same_Some reading does.at does.reading_is in
    record {
      going = not_stopped b going unclosed;
      own = does.at;
      own_is = aims b node.0 action does.next ∙ ap Some (sym does.shows.0);
      reading_is = does.reading_is;
      least = λ other least within aim. does.shows.1 other least within aim;
    }

-- what the bus asks of a node that acts
pub goes_at : (bus : BusValue) (lists : List ClockState) (notes : List NodeNote) (v : CourseValue) (node : NodeNo)
    (reading : ℕ) (action : NodeAction) → course_of bus lists notes ≡ v → IsOpen v node.0
    → Does v.bus.run v.clocks v.bus.state node (Some reading) action → bus.meeting ≡ true
    → GoesAt bus node.0 (Some reading)
goes_at bus lists notes v node reading action is is_open does meets =
    let here = subst (λ (w : CourseValue). IsOpen w node.0) (sym is) is_open in
    at_meeting bus lists node reading action bus.meeting here.going here.unclosed
    (subst (λ (w : CourseValue). Does w.bus.run w.clocks w.bus.state node (Some reading) action)
    (sym is) does) meets

-- ---- lists
pub lists_false : (meeting : Bool) (lists clocks : List ClockState) → clocks_of meeting lists ≡ Lists clocks
    → meeting ≡ false
lists_false false lists clocks is = refl
lists_false true lists clocks is = absurd (cc)

pub own_lists : (bus : BusValue) (lists : List ClockState) (notes : List NodeNote) (v : CourseValue)
    → course_of bus lists notes ≡ v → bus.meeting ≡ false → (clocks : List ClockState) × (v.clocks ≡ Lists clocks)
own_lists bus lists notes v is apart =
    (lists, ap (λ (w : CourseValue). w.clocks) (sym is) ∙ ap (λ m. clocks_of m lists) apart)

head_by : (r : ℕ) (later : List ℕ) (goal at : ℕ) (b : Bool) → nat_lt r goal ≡ b
    → (slice_get (remaining_from later goal) 0 ≡ Some at → goal ≤ at)
    → slice_get (cond b (remaining_from later goal) (r ∷ later)) 0 ≡ Some at → goal ≤ at
head_by r later goal at true test rest is = rest is
head_by r later goal at false test rest is =
    let same : r ≡ at = same_Some r at is in
    let most : goal ≤ r = grind (arith, common_steps) in
    omega arith

reached_head : (left : List ℕ) (goal at : ℕ) → slice_get (remaining_from left goal) 0 ≡ Some at → goal ≤ at
reached_head [] goal at is = absurd (none-some at is)
reached_head (r ∷ later) goal at is = head_by r later goal at (nat_lt r goal) refl (reached_head later goal at) is

-- the lists after a pick, and the reading it shows
pub record Picked (old new : CourseValue) (node : NodeNo) (next : Next) {E : Type 0}
    (result : Result ℕ E) : Type 0 where
  pub goes : Goes old new
  pub is_open : IsOpen new node.0
  pub ok : IfOk result (IsReady new node next.action)
  pub err : OnErr result (EndsAt new.bus new.clocks node.0 next.target)

-- the answer of the call of a node's list
pub record Waited (old new : ClockState) (goal : ℕ) {E : Type 0} (result : Result ℕ E) : Type 0 where
  pub pick : IfOk result (λ reading. slice_get new.left 0 ≡ Some reading)
  pub range : IfOk result (λ reading. reading ≤ READING)
  pub stands : OnOk result (new ≡ standing_at old (remaining_from old.left goal))
  pub ended : IsErr result ↔ All (λ reading. reading < goal) old.left
  pub same : OnErr result (new ≡ old)

lists_picked : (bus : BusValue) (lists : List ClockState) (notes : List NodeNote) (node : NodeNo) (next : Next)
    (new : ClockState) {E : Type 0} (result : Result ℕ E) → bus.meeting ≡ false → IsCourse (course_of bus lists notes)
    → IsOpen (course_of bus lists notes) node.0
    → IsNext (course_of bus lists notes) node.0 next → Waited (clock_at lists node.0) new next.target result
    → Picked (course_of bus lists notes) (course_of bus (slice_set lists node.0 new) notes) node next result
lists_picked bus lists notes node next new (Ok reading) apart course is_open is waited =
    let plan = plan_of bus.run.design node.0 in
    let clock = clock_at lists node.0 in
    let come = comes (course_of bus lists notes) node.0 next is in
    let action = next.action in
    let stands : new ≡ standing_at clock (remaining_from clock.left (target plan action)) = waited.stands
    ∙ ap (λ (k : ℕ). standing_at clock (remaining_from clock.left k)) come.target_is in
    let here =
    subst (λ (m : Bool). IsCourse (record { bus = bus; clocks = clocks_of m lists; notes = notes })) apart course in
    let goes = pick_goes bus lists notes node.0 action here is_open.within come.action_is is_open.noted in
    let inside : node.0 < length lists = (let most = is_open.within in omega (arith, here.lists)) in
    let at_node : clock_at (slice_set lists node.0 new) node.0 ≡ new =
    get_or-set_at lists node.0 node.0 new no_clock refl inside in
    let head : slice_get (remaining_from clock.left next.target) 0 ≡ Some reading =
    ap (λ (k : ClockState). slice_get k.left 0) (sym waited.stands) ∙ waited.pick in
    let most : next.target ≤ reading = reached_head clock.left next.target reading head in
    record {
      goes =
          subst (λ (m : Bool). Goes (record { bus = bus; clocks = clocks_of m lists; notes = notes })
          (record { bus = bus; clocks = clocks_of m (slice_set lists node.0 new); notes = notes })) (sym apart)
          (subst (λ (k : ClockState).
          Goes (record { bus = bus; clocks = Lists lists; notes = notes })
          (record { bus = bus; clocks = Lists (slice_set lists node.0 k); notes = notes })) (sym stands) goes);
      is_open =
          record { within = is_open.within; noted = is_open.noted; going = is_open.going; unclosed = is_open.unclosed };
      ok = record {
        is_open =
            record {
              within = is_open.within;
              noted = is_open.noted;
              going = is_open.going;
              unclosed = is_open.unclosed;
            };
        does = record {
          within = is_open.within;
          next = come.action_is;
          at = reading;
          reading_is = refl;
          shows =
              subst (λ (m : Bool). Shows bus.run (clocks_of m (slice_set lists node.0 new)) bus.state node.0
              (target plan action) reading) (sym apart) (
                ap (λ (k : ClockState). slice_get k.left 0) at_node ∙ waited.pick,
                subst (λ k. k ≤ reading) come.target_is most,
              );
        };
        range = waited.range;
      };
      err = tt;
    }
lists_picked bus lists notes node next new (Err e) apart course is_open is waited =
    let plan = plan_of bus.run.design node.0 in
    let clock = clock_at lists node.0 in
    let come = comes (course_of bus lists notes) node.0 next is in
    let below = waited.ended.0 refl in
    let none : remaining_from clock.left (target plan next.action) ≡ [] =
    ap (remaining_from clock.left) (sym come.target_is)
    ∙ reached_none clock.left next.target below in
    let same : slice_set lists node.0 new ≡ lists = ap (λ (k : ClockState). slice_set lists node.0 k) waited.same
    ∙ set-get_or lists node.0 no_clock in
    subst (λ (ls : List ClockState).
    Picked (course_of bus lists notes) (course_of bus ls notes) node next (Err e)) (sym same)
    (record {
      goes = record { course = course; stays = record { run = refl; codes = refl; lists = refl } };
      is_open = is_open;
      ok = tt;
      err =
          subst (λ (m : Bool). EndsAt bus (clocks_of m lists) node.0 next.target) (sym apart)
          ((next.action, come.action_is, none), sym come.target_is);
    })

pub pick_keeps : (bus : BusValue) (lists : List ClockState) (notes : List NodeNote) (v : CourseValue) (node : NodeNo)
    (next : Next) (new : ClockState) {E : Type 0} (result : Result ℕ E) → course_of bus lists notes ≡ v
    → IsCourse (course_of bus lists notes)
    → ((clocks : List ClockState) × (v.clocks ≡ Lists clocks)) → IsOpen v node.0 → IsNext v node.0 next
    → Waited (clock_at lists node.0) new next.target result
    → Picked v (course_of bus (slice_set lists node.0 new) notes) node next result
pick_keeps bus lists notes v node next new result is course own is_open next_is waited =
    let apart : bus.meeting ≡ false =
    lists_false bus.meeting lists own.0 (ap (λ (w : CourseValue). w.clocks) is ∙ own.1) in
    subst (λ w. Picked w (course_of bus (slice_set lists node.0 new) notes) node next result) is
    (lists_picked bus lists notes node next new result apart course (subst (λ w. IsOpen w node.0) (sym is) is_open)
    (subst (λ w. IsNext w node.0 next) (sym is) next_is) waited)

-- the list of a node is at its index
pub within_lists : (bus : BusValue) (lists : List ClockState) (notes : List NodeNote) (v : CourseValue) (node : ℕ)
    → course_of bus lists notes ≡ v → IsCourse (course_of bus lists notes)
    → ((clocks : List ClockState) × (v.clocks ≡ Lists clocks)) → IsOpen v node → node < length lists
within_lists bus lists notes v node is course own is_open =
    let apart : bus.meeting ≡ false =
    lists_false bus.meeting lists own.0 (ap (λ (w : CourseValue). w.clocks) is ∙ own.1) in
    let here =
    subst (λ (m : Bool). IsCourse (record { bus = bus; clocks = clocks_of m lists; notes = notes })) apart course in
    let most = (subst (λ w. IsOpen w node) (sym is) is_open).within in
    omega (arith, here.lists)

-- with the list that the index gives
pub pick_by : (bus : BusValue) (lists : List ClockState) (notes : List NodeNote) (v : CourseValue) (node : NodeNo)
    (next : Next) (item new : ClockState) {E : Type 0} (result : Result ℕ E) → course_of bus lists notes ≡ v
    → IsCourse (course_of bus lists notes)
    → ((clocks : List ClockState) × (v.clocks ≡ Lists clocks)) → IsOpen v node.0 → IsNext v node.0 next
    → item ≡ slice_index_or lists node.0 item → Waited item new next.target result
    → Picked v (course_of bus (slice_set lists node.0 new) notes) node next result
pick_by bus lists notes v node next item new result is course own is_open next_is at waited =
    let here : item ≡ clock_at lists node.0 =
    get_or_read lists node.0 item (within_lists bus lists notes v node.0 is course own is_open) at no_clock in
    pick_keeps bus lists notes v node next new result is course own is_open next_is
    (subst (λ old. Waited old new next.target result) here waited)
