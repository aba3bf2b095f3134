-- For `ends`: how the parts of the nodes of a course end, one node after the other.
use Rattle.std.proofs.Common.{◌≡◌, inl, inr, ℕ, zero, suc, ◌+◌, ◌<◌, Bool, true, false, List, [], ◌∷◌, ◌++◌, length}
use Rattle.std.proofs.Common.{slice_get, Some, is_some, refl, sym, ap, ◌∙◌, subst, arith}
use Rattle.std.proofs.lemmas.Bool.{cases_eq, cases_lt}
use Rattle.std.proofs.lemmas.List.{length_push, get_or_past}
use Rattle.std.proofs.lemmas.Option.{same_Some, slice_get_within}
use Rattle.pals_runs.specs.declared.phase.Phase.{Phase}
use Rattle.pals_runs.specs.declared.phase.Phase.TheVariants.{Waiting, Running, Between, Holding, Done}
use Rattle.bus_machine.specs.BusStates.{node_at}
use Rattle.node_threads.specs.declared.node_end.NodeEnd.{NodeEnd}
use Rattle.node_threads.specs.declared.node_end.NodeEnd.TheVariants as end
use Rattle.node_threads.specs.declared.node_end.NodeNote.{NodeNote}
use Rattle.node_threads.specs.declared.node_end.NodeNote.TheVariants as note
use Rattle.node_threads.specs.proof.SharedCourses.{CourseValue, note_at, IsCourse}
use Rattle.node_threads.specs.proof.NodeEndsAndOutcomes.{EndFits, EndsFit, noted_end, phase_end, stopped_end}
use Rattle.node_threads.specs.proof.NodeEndsAndOutcomes.{closed_end, end_in}

-- ---- the ends
closed_fits : (c : CourseValue) (node : ℕ) (closed : Bool) (e : NodeEnd) → c.bus.closed ≡ closed
    → closed_end closed ≡ Some e → EndFits c.bus c.clocks node e
closed_fits c node true e closed is = subst (EndFits c.bus c.clocks node) (same_Some end.Closed e is) closed
closed_fits c node false e closed is = absurd (cc)

stopped_fits : (c : CourseValue) (node : ℕ) (stopped closed : Bool) (e : NodeEnd) → is_some c.bus.state.stop ≡ stopped
    → c.bus.closed ≡ closed → stopped_end stopped closed ≡ Some e → EndFits c.bus c.clocks node e
stopped_fits c node true closed e stopped shut is =
    subst (EndFits c.bus c.clocks node) (same_Some end.Stopped e is)
    (λ none. absurd (let both : false ≡ true = sym (ap is_some none) ∙ stopped in cc))
stopped_fits c node false closed e stopped shut is = closed_fits c node closed e shut is

phase_fits : (c : CourseValue) (node : ℕ) (p : Phase) (stopped closed : Bool) (e : NodeEnd)
    → (node_at c.bus.state node).phase ≡ p → is_some c.bus.state.stop ≡ stopped → c.bus.closed ≡ closed
    → phase_end p stopped closed ≡ Some e → EndFits c.bus c.clocks node e
phase_fits c node Waiting stopped closed e phase stop shut is = stopped_fits c node stopped closed e stop shut is
phase_fits c node (Running step) stopped closed e phase stop shut is = stopped_fits c node stopped closed e stop shut is
phase_fits c node (Between steps) stopped closed e phase stop shut is =
    stopped_fits c node stopped closed e stop shut is
phase_fits c node Holding stopped closed e phase stop shut is = stopped_fits c node stopped closed e stop shut is
phase_fits c node Done stopped closed e phase stop shut is =
    subst (EndFits c.bus c.clocks node) (same_Some end.Finished e is) phase

fits_by : (c : CourseValue) (node : ℕ) (n : NodeNote) (e : NodeEnd) → IsCourse c → note_at c.notes node ≡ n
    → noted_end n (node_at c.bus.state node).phase (is_some c.bus.state.stop) c.bus.closed ≡ Some e
    → EndFits c.bus c.clocks node e
fits_by c node (note.ClockEnded goal) e course noted is =
    subst (EndFits c.bus c.clocks node) (same_Some (end.ClockEnded goal) e is) (course.ended node goal noted)
fits_by c node note.Memory e course noted is = subst (EndFits c.bus c.clocks node) (same_Some end.Memory e is) tt
fits_by c node note.Open e course noted is =
    phase_fits c node (node_at c.bus.state node).phase (is_some c.bus.state.stop) c.bus.closed e refl refl refl is

noted_within : (c : CourseValue) (node : ℕ) → IsCourse c → note_at c.notes node ≡ note.Memory
    → node < length c.bus.run.design.components
noted_within c node course noted = elim (cases_lt node (length c.notes)) [
  | inl within ↦ omega (arith, course.notes)
  | inr past ↦ absurd (let both : note.Open ≡ note.Memory = sym (get_or_past c.notes node note.Open past) ∙ noted in cc)
]

pub ends_fit : (c : CourseValue) (ends : List NodeEnd) → IsCourse c → length ends ≡ length c.bus.run.design.components
    → ((k : ℕ) → k < length ends → slice_get ends k ≡ end_in c k) → EndsFit c.bus c.clocks ends
ends_fit c ends course many each = record {
  many = many;
  each =
      λ node e is. fits_by c node (note_at c.notes node) e course refl
      (sym (each node (slice_get_within ends node e is)) ∙ is);
  closed = λ node is.
      let shut : c.bus.closed ≡ true =
      fits_by c node (note_at c.notes node) end.Closed course refl
      (sym (each node (slice_get_within ends node end.Closed is)) ∙ is) in
      let memory = course.closed shut in
      let within = noted_within c memory.0 course memory.1 in (
        memory.0,
        each memory.0 (omega arith)
            ∙ ap (λ n. noted_end n (node_at c.bus.state memory.0).phase (is_some c.bus.state.stop)
            c.bus.closed) memory.1,
      );
}

-- ---- the ends so far
-- they are the ends in the course
abbrev pub AreEnds : CourseValue → List NodeEnd → ℕ → Type 0
AreEnds c ends node = (length ends ≡ node) × ((k : ℕ) → k < node → slice_get ends k ≡ end_in c k)

got_before : {X : Type 0} (xs : List X) (x : X) (k : ℕ) → k < length xs → slice_get (xs ++ x ∷ []) k ≡ slice_get xs k
got_before [] x k less = absurd (omega arith)
got_before (y ∷ ys) x zero less = refl
got_before (y ∷ ys) x (suc k) less = got_before ys x k (omega arith)

got_last : {X : Type 0} (xs : List X) (x : X) (k : ℕ) → k ≡ length xs → slice_get (xs ++ x ∷ []) k ≡ Some x
got_last [] x k is = ap (slice_get (x ∷ [])) is
got_last (y ∷ ys) x k is = ap (slice_get (y ∷ (ys ++ x ∷ []))) is ∙ got_last ys x (length ys) refl

pub one_end : (c : CourseValue) (ends : List NodeEnd) (e : NodeEnd) (node : ℕ) → AreEnds c ends node
    → Some e ≡ end_in c node → AreEnds c (ends ++ e ∷ []) (node + 1)
one_end c ends e node are is = (
  (let size = length_push ends e in let before = are.0 in omega arith),
  (λ k below. elim (cases_eq k node) [
    | inl same ↦ got_last ends e k (same ∙ sym are.0) ∙ is ∙ ap (end_in c) (sym same)
    | inr other ↦ got_before ends e k (let before = are.0 in omega arith) ∙ are.1 k (omega arith)
  ]),
)
