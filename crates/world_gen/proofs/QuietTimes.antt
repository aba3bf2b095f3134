-- At a quiet time, nothing of a schedule happens to any node or link.
use Rattle.std.proofs.Common.{◌≡◌, ◌≢◌, inl, inr, ℕ, zero, suc, ◌+◌, ◌<◌, ◌≤◌, nat_eq, Bool, true, false, List, []}
use Rattle.std.proofs.Common.{◌++◌, length, Option, Some, None, refl, sym, subst, arith}
use Rattle.std.specs.Prelude.{flat_map, if◌then◌else◌}
use Rattle.std.proofs.lemmas.Bool.{cases_eq}
use Rattle.list_lemmas.proofs.ListOperations.{append_is_nil}
use Rattle.bus_machine.proofs.SentRounds.{sent_most}
use Rattle.pals_base.specs.UpwardNumbers.{upwards}
use Rattle.pals_model.specs.declared.design.DesignParts.{DesignParts}
use Rattle.pals_runs.specs.declared.events_and_faults.Event.{Event}
use Rattle.pals_runs.specs.declared.events_and_faults.Event.TheVariants as event
use Rattle.bus_machine.specs.Plans.{plan_of, link_at}
use Rattle.bus_machine.specs.NodeEvents.{slot_at}
use Rattle.bus_machine.specs.BusStates.{node_at, flight_at}
use Rattle.bus_machine.specs.RunParameters.{Run}
use Rattle.bus_machine.specs.MissedMessages.{rounds_sent_on}
use Rattle.bus_machine.specs.Nodes.{sent_rounds}
use Rattle.bus_machine.specs.proof.AgreementLaws.{IsRunOf}
use Rattle.run_laws.specs.Worlds.{World, since_at, ready_at, sendings}
use Rattle.world_gen.specs.proof.Schedules.{step_time, finish_time, send_time, arrive_time, number_at_moment}
use Rattle.world_gen.specs.proof.Schedules.{event_list, all_of}
use Rattle.world_gen.specs.proof.Schedules.{step_count, begins, starts_at, finishes_at, sends_at, arrivals_at, finishes}
use Rattle.world_gen.specs.proof.Schedules.{earlier_finishes, present_finishes, events_at}
use Rattle.world_gen.proofs.ScheduleTimes.{CountBefore, which_none, made_none}
use Rattle.pals_model.specs.declared.flight_copy.FlightCopy.{FlightCopy}
use Rattle.run_laws.specs.proof.WorldInvariant.{copies}
use Rattle.run_laws.proofs.WorldNodeTiming.{rounds_at_most}
use Rattle.run_laws.proofs.WorldLinkTiming.{rule_of, under_way}
use Rattle.world_gen.proofs.WorldsOnSchedule.{begun_by, ended_by, NodeOnSchedule, LinkOnSchedule, IsOnSchedule, bump}
use Rattle.world_gen.proofs.WorldsOnSchedule.{bump_done}
use Rattle.world_gen.proofs.WorldsOnSchedule.{bump_left, bump_other}

-- ---- no event is at a time
none_of : (o : Option ℕ) (e : ℕ → Event) → event_list o e ≡ [] → o ≡ None
none_of None e none = refl
none_of (Some number) e none = absurd (cc)

nothing_from : (f : ℕ → List Event) (from n j : ℕ) → flat_map f (upwards from n) ≡ [] → from ≤ j
    → j < from + n → f j ≡ []
nothing_from f from zero j none above below = absurd (omega arith)
nothing_from f from (suc n) j none above below =
    let parts = append_is_nil (f from) (flat_map f (upwards (suc from) n)) none in
    elim (cases_eq from j) [
      | inl same ↦ subst (λ i. f i ≡ []) same parts.0
      | inr other ↦ nothing_from f (suc from) n j parts.1 (omega arith) (omega arith)
    ]

nothing_at : (count : ℕ) (f : ℕ → List Event) (j : ℕ) → all_of count f ≡ [] → j < count → f j ≡ []
nothing_at count f j none below = nothing_from f 0 count j none (omega arith) (omega arith)

finishes_none : (b : Bool) (all : List Event) → (if b then [] else all) ≡ [] → (if b then all else []) ≡ [] → all ≡ []
finishes_none true all one two = two
finishes_none false all one two = one

pub record IsQuiet (design : DesignParts) (rounds time : ℕ) : Type 0 where
  pub starts : (j : ℕ) → j < length design.components
      → number_at_moment (step_time design j) (step_count design rounds j) time ≡ None
  pub ends : (j : ℕ) → j < length design.components
      → number_at_moment (finish_time design j) (step_count design rounds j) time ≡ None
  pub sends : (j : ℕ) → j < length design.components → number_at_moment (send_time design j) rounds time ≡ None
  pub arrivals : (l : ℕ) → l < length design.links → number_at_moment (arrive_time design l) rounds time ≡ None

pub is_quiet : (design : DesignParts) (rounds time : ℕ) → events_at design rounds time ≡ [] → IsQuiet design rounds time
is_quiet design rounds time none =
    let count = length design.components in
    let early = earlier_finishes design rounds time in
    let starts = all_of count (starts_at design rounds time) in
    let late = present_finishes design rounds time in
    let sends = all_of count (sends_at design rounds time) in
    let arrivals = all_of (length design.links) (arrivals_at design rounds time) in
    let one = append_is_nil early (starts ++ (late ++ (sends ++ arrivals))) none in
    let two = append_is_nil starts (late ++ (sends ++ arrivals)) one.1 in
    let three = append_is_nil late (sends ++ arrivals) two.1 in
    let four = append_is_nil sends arrivals three.1 in
    let ends = finishes_none (nat_eq design.gamma.alpha_min 0) (finishes design rounds time) one.0 three.0 in
    record {
      starts =
          λ j below. none_of (number_at_moment (step_time design j) (step_count design rounds j) time)
          (begins (plan_of design j).rate j) (nothing_at count (starts_at design rounds time) j two.0 below);
      ends =
          λ j below. none_of (number_at_moment (finish_time design j) (step_count design rounds j) time)
          (λ number. event.Finish (record { 0 = j })) (nothing_at count (finishes_at design rounds time) j ends below);
      sends =
          λ j below. none_of (number_at_moment (send_time design j) rounds time)
          (λ round. event.Send (record { 0 = j }))
          (nothing_at count (sends_at design rounds time) j four.0 below);
      arrivals =
          λ l below. none_of (number_at_moment (arrive_time design l) rounds time)
          (λ round. event.Arrive (record { 0 = l }) round)
          (nothing_at (length design.links) (arrivals_at design rounds time) l four.1 below);
    }

-- ---- the times as they are
pub follows_same : (run : Run) (w : World) (moment : ℕ) (fin st se ar fin' st' se' ar' : ℕ → ℕ)
    → IsOnSchedule run w moment fin st se ar
    → ((j : ℕ) → j < length run.design.components → (fin j ≡ fin' j) × (st j ≡ st' j) × (se j ≡ se' j))
    → ((l : ℕ) → l < length run.design.links → ar l ≡ ar' l)
    → IsOnSchedule run w moment fin' st' se' ar'
follows_same run w moment fin st se ar fin' st' se' ar' follows nodes links = record {
  keeps = follows.keeps;
  time = follows.time;
  readings = follows.readings;
  nodes = λ j below.
      let n = node_at w.bus j in
      let same = nodes j below in
      subst (λ x. NodeOnSchedule run j n (since_at w j) (ready_at w j) (sendings w j) x (st' j) (se' j)) same.0
      (subst (λ x. NodeOnSchedule run j n (since_at w j) (ready_at w j) (sendings w j) (fin j) x (se' j)) same.1
      (subst (λ x. NodeOnSchedule run j n (since_at w j) (ready_at w j) (sendings w j) (fin j) (st j) x) same.2
      (follows.nodes j below)));
  links =
      λ l below. subst (λ x. LinkOnSchedule run l (rounds_sent_on run w.bus l) (flight_at w.bus l) x) (links l below)
      (follows.links l below);
}

-- ---- the time of a series advances, if no event of it occurs
made_bump : (time : ℕ → ℕ → ℕ) (count : ℕ → ℕ) (made i j moment : ℕ) → number_at_moment (time j) (count j) moment ≡ None
    → CountBefore (time i) (count i) made (bump moment j i)
    → CountBefore (time i) (count i) made (bump moment (suc j) i)
made_bump time count made i j moment none m = elim (cases_eq i j) [
  | inl same ↦
      subst (λ x. CountBefore (time x) (count x) made (bump moment (suc j) x)) (sym same)
      (subst (λ b. CountBefore (time j) (count j) made b) (sym (bump_done moment (suc j) j (omega arith)))
      (made_none (time j) (count j) made moment none
      (subst (λ b. CountBefore (time j) (count j) made b) (bump_left moment j j (omega arith))
      (subst (λ x. CountBefore (time x) (count x) made (bump moment j x)) same m))))
  | inr other ↦ subst (λ b. CountBefore (time i) (count i) made b) (sym (bump_other moment j i other)) m
]

module _ (run : Run) (w : World) (moment j : ℕ) where
  pub none_starts : (fin se ar : ℕ → ℕ) → IsOnSchedule run w moment fin (bump moment j) se ar
      → number_at_moment (step_time run.design j) (step_count run.design run.rounds j) moment ≡ None
      → IsOnSchedule run w moment fin (bump moment (suc j)) se ar
  none_starts fin se ar follows none = record {
    keeps = follows.keeps;
    time = follows.time;
    readings = follows.readings;
    nodes = λ i below.
        let n = node_at w.bus i in
        let before = follows.nodes i below in
        record {
          begun =
              made_bump (step_time run.design) (step_count run.design run.rounds)
              (begun_by (plan_of run.design i).rate n.count n.phase) i j moment none before.begun;
          ended = before.ended;
          sent = before.sent;
          since_is = before.since_is;
          ready_is = before.ready_is;
          moments_are = before.moments_are;
        };
    links = follows.links;
  }

  pub none_ends : (st se ar : ℕ → ℕ) → IsOnSchedule run w moment (bump moment j) st se ar
      → number_at_moment (finish_time run.design j) (step_count run.design run.rounds j) moment ≡ None
      → IsOnSchedule run w moment (bump moment (suc j)) st se ar
  none_ends st se ar follows none = record {
    keeps = follows.keeps;
    time = follows.time;
    readings = follows.readings;
    nodes = λ i below.
        let n = node_at w.bus i in
        let before = follows.nodes i below in
        record {
          begun = before.begun;
          ended =
              made_bump (finish_time run.design) (step_count run.design run.rounds)
              (ended_by (plan_of run.design i).rate n.count n.phase) i j moment none before.ended;
          sent = before.sent;
          since_is = before.since_is;
          ready_is = before.ready_is;
          moments_are = before.moments_are;
        };
    links = follows.links;
  }

  pub none_sends : (fin st ar : ℕ → ℕ) → IsOnSchedule run w moment fin st (bump moment j) ar
      → number_at_moment (send_time run.design j) run.rounds moment ≡ None
      → IsOnSchedule run w moment fin st (bump moment (suc j)) ar
  none_sends fin st ar follows none = record {
    keeps = follows.keeps;
    time = follows.time;
    readings = follows.readings;
    nodes = λ i below.
        let n = node_at w.bus i in
        let before = follows.nodes i below in
        record {
          begun = before.begun;
          ended = before.ended;
          sent = made_bump (send_time run.design) (λ (_ : ℕ). run.rounds) (sent_rounds n) i j moment none before.sent;
          since_is = before.since_is;
          ready_is = before.ready_is;
          moments_are = before.moments_are;
        };
    links = follows.links;
  }

  -- of a link, whose source has sent no more than the run's rounds
  link_bump : (i sent : ℕ) (flight : List FlightCopy) → sent ≤ run.rounds → ((r : ℕ) → 1 ≤ copies r flight → r < sent)
      → number_at_moment (arrive_time run.design j) run.rounds moment ≡ None
      → LinkOnSchedule run i sent flight (bump moment j i) → LinkOnSchedule run i sent flight (bump moment (suc j) i)
  link_bump i sent flight few flying none follows = elim (cases_eq i j) [
    | inl same ↦
        let now = bump_done moment (suc j) j (omega arith) in
        let was = bump_left moment j j (omega arith) in
        let before =
        subst (λ b. LinkOnSchedule run j sent flight b) was
        (subst (λ x. LinkOnSchedule run x sent flight (bump moment j x)) same follows) in
        let after : LinkOnSchedule run j sent flight (suc moment) = record {
          waits = λ r some.
              let due = before.waits r some in
              let is_sent = flying r some in
              let apart : arrive_time run.design j r ≢ moment =
              which_none (arrive_time run.design j) run.rounds moment none r (omega arith) in
              omega arith;
          flies = λ r below due. before.flies r below (omega arith);
        } in
        subst (λ x. LinkOnSchedule run x sent flight (bump moment (suc j) x)) (sym same)
        (subst (λ b. LinkOnSchedule run j sent flight b) (sym now) after)
    | inr other ↦ subst (λ b. LinkOnSchedule run i sent flight b) (sym (bump_other moment j i other)) follows
  ]

  pub none_arrives : (rules : IsRunOf run) (fin st se : ℕ → ℕ) → IsOnSchedule run w moment fin st se (bump moment j)
      → number_at_moment (arrive_time run.design j) run.rounds moment ≡ None
      → IsOnSchedule run w moment fin st se (bump moment (suc j))
  none_arrives rules fin st se follows none = record {
    keeps = follows.keeps;
    time = follows.time;
    readings = follows.readings;
    nodes = follows.nodes;
    links = λ i below.
        let source = (link_at run.design i).source.0 in
        let n = node_at w.bus source in
        let from : source < length run.design.components = (rule_of run i rules below).source.node_is in
        let most = rounds_at_most run w rules follows.keeps source from in
        let fewer : sent_rounds n ≤ n.count = sent_most n.sent n.count in
        let target = node_at w.bus (link_at run.design i).target.0 in
        link_bump i (rounds_sent_on run w.bus i) (flight_at w.bus i) (omega arith)
        (λ r some. (under_way target.count (slot_at target (link_at run.design i).in_port) (rounds_sent_on run w.bus i)
        (flight_at w.bus i) r ((follows.keeps.links i below).once r) some).is_sent)
        none (follows.links i below);
  }
