-- Each kind of change under the lock, an event or a pick, keeps a course, its run, its step codes and its lists.
use Rattle.std.proofs.Common.{◌≡◌, ◌≢◌, inl, inr, ℕ, ◌<◌, true, false, List, length, Some, refl, sym, ap, ◌∙◌, subst}
use Rattle.std.proofs.Common.{arith}
use Rattle.std.specs.Prelude.{slice_set}
use Rattle.std.proofs.Math.Seq.{map-set_same}
use Rattle.std.proofs.lemmas.Bool.{cases_eq}
use Rattle.std.proofs.lemmas.Grind.{get_or-set_at}
use Rattle.std.proofs.lemmas.List.{length-set, get_or-set_other}
use Rattle.pals_base.specs.ClockPicks.{remaining_from}
use Rattle.pals_clock.specs.ClockStates.{ClockState, standing_at}
use Rattle.pals_clock.specs.declared.clock.Clocks.{Clocks}
use Rattle.pals_clock.specs.declared.clock.Clocks.TheVariants.{Meet, Lists}
use Rattle.pals_runs.specs.declared.journal.JournalEntry.{JournalEntry}
use Rattle.bus_machine.specs.declared.node_action.NodeAction.{NodeAction}
use Rattle.bus_machine.specs.Plans.{plan_of}
use Rattle.bus_machine.specs.BusStates.{node_at}
use Rattle.bus_machine.specs.Machine.{BusEvent, IsStep}
use Rattle.bus_machine.specs.ActionsAndTargets.{target}
use Rattle.pals_bus.specs.BusValues.{BusValue, Happens}
use Rattle.run_laws.specs.NodeActions.{upcoming}
use Rattle.run_laws.specs.Runs.{clock_at, no_clock, left_for, KeepsTo, Runs, picks_for, goes_on}
use Rattle.run_laws.proofs.EndedListClocks.{stays_ended, waits_for}
use Rattle.node_threads.specs.declared.node_end.NodeNote.{NodeNote}
use Rattle.node_threads.specs.declared.node_end.NodeNote.TheVariants as note
use Rattle.node_threads.specs.proof.SharedCourses.{CourseValue, course_of, clocks_of, note_at, EndsAt, IsCourse, Stays}
use Rattle.node_threads.specs.proof.SharedCourses.{IsOpen, Allows}

pub record Goes (old new : CourseValue) : Type 0 where
  pub course : IsCourse new
  pub stays : Stays old new

pub stays_on : (a b c : CourseValue) → Stays a b → Stays b c → Stays a c
stays_on a b c one two = record {
  run = two.run ∙ one.run;
  codes = two.codes ∙ one.codes;
  lists = two.lists ∙ one.lists;
}

pub stays_same : (c : CourseValue) → Stays c c
stays_same c = record { run = refl; codes = refl; lists = refl }

-- nothing happens
pub goes_same : (bus : BusValue) (lists : List ClockState) (notes : List NodeNote) (new : BusValue)
    → IsCourse (course_of bus lists notes) → new ≡ bus → Goes (course_of bus lists notes) (course_of new lists notes)
goes_same bus lists notes new course same =
    subst (λ (b : BusValue). Goes (course_of bus lists notes) (course_of b lists notes)) (sym same)
    (record { course = course; stays = record { run = refl; codes = refl; lists = refl } })

-- ---- an event
abbrev after_event : BusValue → BusValue → BusValue
after_event bus new = record bus { state = new.state; journal = new.journal }

ends_still : (bus new : BusValue) (clocks : Clocks) (e : BusEvent) (node goal : ℕ) → KeepsTo bus.run clocks bus.state e
    → IsStep bus.run bus.state e new.state → EndsAt bus clocks node goal → EndsAt (after_event bus new) clocks node goal
ends_still bus new Meet e node goal keeps step ends = ends
ends_still bus new (Lists lists) e node goal keeps step ends = (
  stays_ended bus.run lists bus.state new.state e node ends.0 keeps step,
  ap (target (plan_of bus.run.design node))
      (waits_for bus.run lists bus.state new.state e node ends.0 keeps step) ∙ ends.1,
)

pub event_goes : (bus : BusValue) (lists : List ClockState) (notes : List NodeNote) (e : BusEvent) (new : BusValue)
    → IsCourse (course_of bus lists notes) → Allows (course_of bus lists notes) e → Happens bus e new
    → Goes (course_of bus lists notes) (course_of new lists notes)
event_goes bus lists notes e new course keeps happens =
    let clocks = clocks_of bus.meeting lists in
    subst (λ (b : BusValue). Goes (course_of bus lists notes) (course_of b lists notes)) (sym happens.others)
    (record {
      course = record {
        rules = course.rules;
        few = course.few;
        runs =
            subst (λ (js : List JournalEntry). Runs bus.run clocks js new.state) (sym happens.journal)
            (goes_on e course.runs keeps happens.step);
        lists = course.lists;
        notes = course.notes;
        ended = λ node goal is. ends_still bus new clocks e node goal keeps happens.step (course.ended node goal is);
        closed = course.closed;
      };
      stays = record { run = refl; codes = refl; lists = refl };
    })

-- ---- a pick
open_not_ended : (goal : ℕ) → note.Open ≢ note.ClockEnded goal
open_not_ended goal same = absurd (cc)

ends_at_other : (bus : BusValue) (lists later : List ClockState) (k goal : ℕ) → clock_at later k ≡ clock_at lists k
    → EndsAt bus (Lists lists) k goal → EndsAt bus (Lists later) k goal
ends_at_other bus lists later k goal same ends =
    let ended = ends.0 in (
      (
        ended.0,
        ended.1,
        ap (λ (clock : ClockState). remaining_from clock.left (target (plan_of bus.run.design k) ended.0)) same
            ∙ ended.2,
      ),
      ends.1,
    )

-- where nodes have lists
abbrev lists_course : BusValue → List ClockState → List NodeNote → CourseValue
lists_course bus lists notes = record { bus = bus; clocks = Lists lists; notes = notes }

abbrev with_pick : BusValue → List ClockState → ℕ → NodeAction → List ClockState
with_pick bus lists node action =
    slice_set lists node (standing_at (clock_at lists node) (left_for bus.run lists node action))

pub pick_goes : (bus : BusValue) (lists : List ClockState) (notes : List NodeNote) (node : ℕ) (action : NodeAction)
    → IsCourse (lists_course bus lists notes) → node < length bus.run.design.components
    → upcoming (plan_of bus.run.design node) (node_at bus.state node) ≡ Some action → note_at notes node ≡ note.Open
    → Goes (lists_course bus lists notes) (lists_course bus (with_pick bus lists node action) notes)
pick_goes bus lists notes node action course within next noted =
    let later = with_pick bus lists node action in
    let new = standing_at (clock_at lists node) (left_for bus.run lists node action) in
    record {
      course = record {
        rules = course.rules;
        few = course.few;
        runs = picks_for node course.runs (record { within = within; action = action; next = next; clocks_are = refl });
        lists = length-set lists node new ∙ course.lists;
        notes = course.notes;
        ended = λ k goal is. elim (cases_eq k node) [
          | inl same ↦ absurd (open_not_ended goal (sym noted ∙ ap (note_at notes) (sym same) ∙ is))
          | inr other ↦ ends_at_other bus lists later k goal (get_or-set_other lists node k new no_clock other)
              (course.ended k goal is)
        ];
        closed = course.closed;
      };
      stays =
          record {
            run = refl;
            codes = refl;
            lists =
                ap Some (map-set_same (λ (c : ClockState). c.readings) lists node new no_clock refl);
          };
    }

-- ---- records of nodes
pub note_goes : (bus : BusValue) (lists : List ClockState) (notes : List NodeNote) (node goal : ℕ)
    → IsCourse (course_of bus lists notes) → IsOpen (course_of bus lists notes) node
    → EndsAt bus (clocks_of bus.meeting lists) node goal
    → Goes (course_of bus lists notes) (course_of bus lists (slice_set notes node (note.ClockEnded goal)))
note_goes bus lists notes node goal course is_open ends =
    let within = is_open.within in
    let inside : node < length notes = omega (arith, course.notes) in
    let put = note.ClockEnded goal in
    record {
      course = record {
        rules = course.rules;
        few = course.few;
        runs = course.runs;
        lists = course.lists;
        notes = length-set notes node put ∙ course.notes;
        ended = λ k other is. elim (cases_eq k node) [
          | inl same ↦
              let here : put ≡ note.ClockEnded other =
              sym (get_or-set_at notes node k put note.Open same inside) ∙ is in
              let equal : goal ≡ other = cc in
              subst (λ j. EndsAt bus (clocks_of bus.meeting lists) j other) (sym same)
              (subst (λ g. EndsAt bus (clocks_of bus.meeting lists) node g) equal ends)
          | inr apart ↦ course.ended k other (sym (get_or-set_other notes node k put note.Open apart) ∙ is)
        ];
        closed = λ is. absurd (let both : false ≡ true = sym is_open.unclosed ∙ is in cc);
      };
      stays = record { run = refl; codes = refl; lists = refl };
    }

pub memory_goes : (bus : BusValue) (lists : List ClockState) (notes : List NodeNote) (node : ℕ)
    → IsCourse (course_of bus lists notes) → node < length bus.run.design.components
    → Goes (course_of bus lists notes)
    (course_of (record bus { closed = true }) lists (slice_set notes node note.Memory))
memory_goes bus lists notes node course within =
    let inside : node < length notes = omega (arith, course.notes) in
    record {
      course = record {
        rules = course.rules;
        few = course.few;
        runs = course.runs;
        lists = course.lists;
        notes = length-set notes node note.Memory ∙ course.notes;
        ended = λ k goal is. elim (cases_eq k node) [
          | inl same ↦
              let here : note.Memory ≡ note.ClockEnded goal =
              sym (get_or-set_at notes node k note.Memory note.Open same inside) ∙ is in
              absurd (cc)
          | inr other ↦ course.ended k goal (sym (get_or-set_other notes node k note.Memory note.Open other) ∙ is)
        ];
        closed = λ is. (node, get_or-set_at notes node node note.Memory note.Open refl inside);
      };
      stays = record { run = refl; codes = refl; lists = refl };
    }

-- ---- of a course that is this value
pub note_keeps : (bus : BusValue) (lists : List ClockState) (notes : List NodeNote) (v : CourseValue) (node goal : ℕ)
    → course_of bus lists notes ≡ v → IsCourse (course_of bus lists notes) → IsOpen v node
    → EndsAt v.bus v.clocks node goal
    → Goes v (course_of bus lists (slice_set notes node (note.ClockEnded goal)))
note_keeps bus lists notes v node goal is course is_open ends =
    subst (λ w. Goes w (course_of bus lists (slice_set notes node (note.ClockEnded goal)))) is
    (note_goes bus lists notes node goal course (subst (λ w. IsOpen w node) (sym is) is_open)
    (subst (λ (w : CourseValue). EndsAt w.bus w.clocks node goal) (sym is) ends))

pub memory_keeps : (bus : BusValue) (lists : List ClockState) (notes : List NodeNote) (new : BusValue) (v : CourseValue)
    (node : ℕ) → course_of bus lists notes ≡ v → IsCourse (course_of bus lists notes)
    → node < length v.bus.run.design.components → new ≡ record bus { closed = true }
    → Goes v (course_of new lists (slice_set notes node note.Memory))
memory_keeps bus lists notes new v node is course within closes =
    subst (λ w. Goes w (course_of new lists (slice_set notes node note.Memory))) is
    (subst (λ (b : BusValue). Goes (course_of bus lists notes) (course_of b lists (slice_set notes node note.Memory)))
    (sym closes)
    (memory_goes bus lists notes node course
    (subst (λ (w : CourseValue). node < length w.bus.run.design.components) (sym is) within)))
