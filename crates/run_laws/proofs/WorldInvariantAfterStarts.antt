-- A start without a fault misses no message and maintains the timing invariant of a world.
use Rattle.std.proofs.Common.{◌≡◌, inl, inr, ℕ, ◌+◌, ◌-◌, ◌<◌, ◌≤◌, nat_eq, Bool, true, false, List, length, slice_get}
use Rattle.std.proofs.Common.{Option, Some, None, refl, sym, ap, ap₂, ◌∙◌, subst, arith}
use Rattle.std.specs.Prelude.{nat_lt, is_some, is_none, position, zip, option_map, if◌then◌else◌, slice_index_or}
use Rattle.std.specs.Prelude.{slice_set}
use Rattle.std.proofs.lemmas.Bool.{and_right, and_left, and_from, eqb-false, eq-eqb, ne_eqb, lt-ltb, le-ltb}
use Rattle.std.proofs.lemmas.Bool.{cases_order, cases_eq, cases_lt, false≢true}
use Rattle.std.proofs.lemmas.Grind.{get_or-set_at}
use Rattle.std.proofs.lemmas.List.{length-set, get_or-set_other}
use Rattle.std.proofs.lemmas.Option.{slice_get-get_or, slice_get_within, slice_get-map, get_or_from_slice_get}
use Rattle.std.proofs.lemmas.Option.{same_Some}
use Rattle.list_lemmas.proofs.Options.{option_map-parts}
use Rattle.list_lemmas.proofs.ElementPositions.{get_or-map_constant}
use Rattle.pals_base.specs.declared.basic_types.NodeNo.{NodeNo}
use Rattle.pals_base.specs.declared.basic_types.PortValue.{PortValue}
use Rattle.pals_base.specs.PeriodBoundAndReleases.{alarm}
use Rattle.pals_model.specs.declared.design.Link.{Link}
use Rattle.pals_model.specs.declared.design.Feed.{Feed}
use Rattle.pals_model.specs.declared.design.DesignParts.{DesignParts}
use Rattle.pals_model.specs.declared.flight_copy.FlightCopy.{FlightCopy}
use Rattle.pals_model.specs.declared.port_sources.PortSource.{PortSource}
use Rattle.pals_model.specs.declared.port_sources.PortSource.TheVariants as source
use Rattle.pals_model.specs.ComponentInputs.{sources_of, values_at}
use Rattle.pals_model.proofs.FirstMatches.{none_passes}
use Rattle.pals_model.proofs.SourceLaws.{reads_link, source_at}
use Rattle.pals_runs.specs.declared.events_and_faults.Event.TheVariants as event
use Rattle.pals_runs.specs.declared.phase.Phase.TheVariants.{Waiting, Running, Done}
use Rattle.bus_machine.specs.declared.plan.Input.{Input}
use Rattle.bus_machine.specs.declared.plan.Plan.{Plan}
use Rattle.bus_machine.specs.Plans.{plan_of, component_at, input_of, input_from_feed, input_from_link, link_at}
use Rattle.bus_machine.specs.Nodes.{NodeState, sent_rounds}
use Rattle.bus_machine.specs.NodeEvents.{lacks, missing, started, slot_at, may_send}
use Rattle.bus_machine.specs.AlarmsAndReleases.{step_alarm}
use Rattle.bus_machine.specs.BusStates.{BusState, node_at, flight_at, with_node}
use Rattle.bus_machine.specs.RunParameters.{Run}
use Rattle.bus_machine.specs.MissedMessages.{missing_link, link_into}
use Rattle.bus_machine.specs.Machine.{after_start}
use Rattle.bus_machine.specs.proof.AgreementLaws.{IsRunOf}
use Rattle.run_laws.specs.Worlds.{World, reading_at, ready_at, sendings, moved, world_after}
use Rattle.bus_machine.specs.Agreement.{PhaseAgrees, SlotAgrees}
use Rattle.bus_machine.proofs.StateChangeAgreement.{node_set, node_stays}
use Rattle.bus_machine.proofs.NodeEventBusAgreement.{start_keeps, is_waiting_phase}
use Rattle.bus_machine.proofs.NodeReplacement.{keeps_at}
use Rattle.run_laws.specs.proof.WorldInvariant.{IsOnce, copies, waits, taken, one_if, RunsSince, KeepsLink, KeepsTime}
use Rattle.run_laws.proofs.Lists.{zipped_at}
use Rattle.run_laws.proofs.WorldNodeTiming.{FitsAt, fits_at, may_is, Stands, stands_at, both_in_time, sends_in_time}
use Rattle.run_laws.proofs.WorldNodeTiming.{late, phase_agrees}
use Rattle.run_laws.proofs.WorldLinkTiming.{has_come, link_is, one_of_true, one_of_false}
use Rattle.run_laws.proofs.LocalWorldChanges.{changed, stands_put, keeps_again}
use Rattle.run_laws.proofs.FaultlessEventConditions.{FaultlessStart}

-- ---- no in port lacks its message
some_not_none : (slot : Option (List PortValue)) → is_some slot ≡ true → is_none slot ≡ false
some_not_none None is = absurd (false≢true is)
some_not_none (Some tuple) is = refl

feed_lacks : (root : ℕ) (f : Option Feed) (slot : Option (List PortValue)) → lacks (input_from_feed root f) slot ≡ false
feed_lacks root None slot = refl
feed_lacks root (Some f) slot = refl

pub link_lacks : (design : DesignParts) (l : Option Link) (slot : Option (List PortValue))
    → ((link : Link) → l ≡ Some link → is_none slot ≡ false) → lacks (input_from_link design l) slot ≡ false
link_lacks design None slot full = refl
link_lacks design (Some link) slot full = full link refl

pub source_lacks : (design : DesignParts) (src : PortSource) (slot : Option (List PortValue))
    → ((number : ℕ) (link : Link) → src ≡ source.Link number → slice_get design.links number ≡ Some link
    → is_none slot ≡ false) → lacks (input_of design src) slot ≡ false
source_lacks design source.Nothing slot full = refl
source_lacks design (source.Feed f root) slot full = feed_lacks root (slice_get design.feeds f) slot
source_lacks design (source.Link number) slot full =
    link_lacks design (slice_get design.links number) slot (λ link is. full number link refl is)

pub missing_by : (b first : Bool) (o : Option ℕ) → b ≡ first → (first ≡ false → o ≡ None)
    → (if b then None else o) ≡ None
missing_by true first o is none = refl
missing_by false first o is none = none (sym is)

pub missing_none : (plan : Plan) (n : NodeState)
    → (0 < n.count → position (λ (p : Input × Option (List PortValue)). lacks p.0 p.1) (zip plan.inputs n.slots) ≡ None)
    → missing plan n ≡ None
missing_none plan n later =
    missing_by (nat_eq n.count 0) (nat_eq n.count 0)
    (position (λ (p : Input × Option (List PortValue)). lacks p.0 p.1) (zip plan.inputs n.slots)) refl
    (λ some. let not_zero = eqb-false n.count 0 some in
    later (elim (cases_lt 0 n.count) [ inl above ↦ above | inr none ↦ absurd (not_zero (omega arith)) ]))

module _ (run : Run) (w : World) (rules : IsRunOf run) (keeps : KeepsTime run w) where
  full_slot : (node k number : ℕ) (slot : Option (List PortValue)) → node < length run.design.components
      → number < length run.design.links → (link_at run.design number).target.0 ≡ node
      → (link_at run.design number).in_port ≡ k → slot_at (node_at w.bus node) k ≡ slot → 0 < (node_at w.bus node).count
      → (node_at w.bus node).count < run.rounds
      → alarm run.design.period (node_at w.bus node).count < w.time + run.design.gamma.eps → is_none slot ≡ false
  full_slot node k number slot within is to port held some more due =
      let counts : (node_at w.bus (link_at run.design number).target.0).count ≡ (node_at w.bus node).count =
      ap (λ j. (node_at w.bus j).count) to in
      let alarms : alarm run.design.period (node_at w.bus (link_at run.design number).target.0).count
      ≡ alarm run.design.period (node_at w.bus node).count = ap (alarm run.design.period) counts in
      let full = has_come run w rules keeps number is (omega arith) (omega arith) (omega arith) in
      let same : slot_at (node_at w.bus (link_at run.design number).target.0) (link_at run.design number).in_port
      ≡ slot = ap₂ (λ j q. slot_at (node_at w.bus j) q) to port ∙ held in
      some_not_none slot (sym (ap (λ (o : Option (List PortValue)). is_some o) same) ∙ full)

  none_lacks : (node k : ℕ) (p : Input × Option (List PortValue)) → node < length run.design.components
      → 0 < (node_at w.bus node).count → (node_at w.bus node).count < run.rounds
      → alarm run.design.period (node_at w.bus node).count < w.time + run.design.gamma.eps
      → slice_get (zip (plan_of run.design node).inputs (node_at w.bus node).slots) k ≡ Some p → lacks p.0 p.1 ≡ false
  none_lacks node k p within some more due is =
      let design = run.design in
      let n = node_at w.bus node in
      let c = component_at design node in
      let sources = sources_of design node c in
      let both = zipped_at (plan_of design node).inputs n.slots k p is in
      let found =
      option_map-parts (input_of design) (slice_get sources k) p.0
      (sym (slice_get-map (input_of design) sources k) ∙ both.0) in
      let slot : slot_at n k ≡ p.1 = get_or_from_slice_get n.slots k p.1 None both.1 in
      subst (λ (i : Input). lacks i p.1 ≡ false) found.2
      (source_lacks design found.0 p.1 (λ number link is_source is_link.
      let goes = reads_link design node k number link (source_at design node k c found.0 found.1 ∙ is_source) is_link in
      let here : link_at design number ≡ link = get_or_from_slice_get design.links number link _ is_link in
      let to : (link_at design number).target.0 ≡ node = ap (λ (l : Link). l.target.0) here ∙ goes.0 in
      let port : (link_at design number).in_port ≡ k = ap (λ (l : Link). l.in_port) here ∙ goes.1 in
      full_slot node k number p.1 within (slice_get_within design.links number link is_link) to port slot
      some more due))

  -- a start whose alarm is due misses nothing
  misses_none : (node : ℕ) → node < length run.design.components → (node_at w.bus node).count < run.rounds
      → alarm run.design.period (node_at w.bus node).count < w.time + run.design.gamma.eps
      → missing_link run w.bus node ≡ None
  misses_none node within more due =
      let n = node_at w.bus node in
      let plan = plan_of run.design node in
      let pairs = zip plan.inputs n.slots in
      let test : Input × Option (List PortValue) → Bool = λ p. lacks p.0 p.1 in
      let none : missing plan n ≡ None =
      missing_none plan n
      (λ some. none_passes test pairs
      (λ k p inside. none_lacks node k (slice_index_or pairs k p) within some more due
      (slice_get-get_or pairs k p inside))) in
      ap (option_map (link_into run.design node)) none

-- ---- its links
-- the slot is taken into the round
pub start_once : (count : ℕ) (slot : Option (List PortValue)) (sent : ℕ) (flight : List FlightCopy) (round : ℕ)
    → (0 < count → is_some slot ≡ true) → (count ≡ 0 → slot ≡ None)
    → IsOnce count slot sent flight round → IsOnce (count + 1) None sent flight round
start_once count slot sent flight round full empty once =
    let before : copies round flight + one_if (waits count slot round) + one_if (taken count round)
    ≡ one_if (nat_lt round sent) = once in
    let no_wait : one_if (waits (count + 1) None round) ≡ 0 =
    one_of_false (waits (count + 1) None round) (and_right (nat_eq (count + 1) (round + 1)) false refl) in
    elim (cases_order (round + 1) count) [
      | inl last ↦
          let waited : one_if (waits count slot round) ≡ 1 =
          one_of_true (waits count slot round)
          (and_from (nat_eq count (round + 1)) (is_some slot) (eq-eqb count (round + 1) (sym last))
          (full (omega arith))) in
          let not_yet : one_if (taken count round) ≡ 0 =
          one_of_false (taken count round) (le-ltb (round + 1) count (omega arith)) in
          let now : one_if (taken (count + 1) round) ≡ 1 =
          one_of_true (taken (count + 1) round) (lt-ltb (round + 1) (count + 1) (omega arith)) in
          let after : copies round flight + one_if (waits (count + 1) None round) + one_if (taken (count + 1) round)
          ≡ one_if (nat_lt round sent) = omega arith in
          after
      | inr apart ↦
          let waited : one_if (waits count slot round) ≡ 0 =
          one_of_false (waits count slot round)
          (and_left (nat_eq count (round + 1)) (is_some slot)
          (ne_eqb count (round + 1) (λ e. elim apart [ inl less ↦ omega arith | inr more ↦ omega arith ]))) in
          elim apart [
            | inl less ↦
                let already : one_if (taken count round) ≡ 1 =
                one_of_true (taken count round) (lt-ltb (round + 1) count less) in
                let now : one_if (taken (count + 1) round) ≡ 1 =
                one_of_true (taken (count + 1) round) (lt-ltb (round + 1) (count + 1) (omega arith)) in
                let after : copies round flight + one_if (waits (count + 1) None round) + one_if
                (taken (count + 1) round) ≡ one_if (nat_lt round sent) = omega arith in
                after
            | inr more ↦
                let not_yet : one_if (taken count round) ≡ 0 =
                one_of_false (taken count round) (le-ltb (round + 1) count (omega arith)) in
                let nor_now : one_if (taken (count + 1) round) ≡ 0 =
                one_of_false (taken (count + 1) round) (le-ltb (round + 1) (count + 1) (omega arith)) in
                let after : copies round flight + one_if (waits (count + 1) None round) + one_if
                (taken (count + 1) round) ≡ one_if (nat_lt round sent) = omega arith in
                after
          ]
    ]

-- before its first round a node has no message
pub slot_empty : (run : Run) (link count : ℕ) (slot : Option (List PortValue)) → SlotAgrees run link count slot
    → count ≡ 0
    → slot ≡ None
slot_empty run link count None agrees first = refl
slot_empty run link count (Some tuple) agrees first = let last = agrees.1 in absurd (omega arith)

-- ---- the node that starts
module _ (run : Run) (w : World) (rules : IsRunOf run) (keeps : KeepsTime run w) (node : NodeNo)
    (fine : FaultlessStart run w node) where
  abbrev pub here : NodeState
  here = node_at w.bus node.0

  abbrev pub begun : NodeState
  begun = started (plan_of run.design node.0) (values_at run.env here.count) here

  waits_here : here.phase ≡ Waiting
  waits_here = is_waiting_phase here.phase fine.waits

  rests : PhaseAgrees run node.0 (component_at run.design node.0) here Waiting
  rests =
      subst (PhaseAgrees run node.0 (component_at run.design node.0) here) waits_here
      (phase_agrees run w rules keeps node.0 fine.within)

  due : alarm run.design.period here.count < w.time + run.design.gamma.eps
  due = let clock = keeps.clocks node.0 fine.within in let at = fine.due in omega arith

  prompt : w.time < alarm run.design.period here.count + run.design.gamma.eps
  prompt = late run w rules keeps node.0 fine.within (λ done. let both : Waiting ≡ Done = sym waits_here ∙ done in cc)

  pub no_step_is_sent : FitsAt run node.0 → may_send (plan_of run.design node.0) begun ≡ true → ⊥
  no_step_is_sent fit may =
      let m = may_is (plan_of run.design node.0) begun may in
      let zero_steps : 0 ≡ m.steps = same_Some 0 m.steps m.finished in
      let some = fit.some in
      let enough = m.enough in
      absurd (omega arith)

  same_step : {step : ℕ} → Running 0 ≡ Running step → 0 ≡ step
  same_step is = cc

  pub sent_as_before : sent_rounds begun ≡ sent_rounds here
  sent_as_before =
      let same : here.count ≡ here.count + 1 - 1 = omega arith in
      sym same ∙ sym (ap (λ (b : Bool). if b then here.count else (here.count - 1)) rests.0.sent)

  begun_stands : Stands run.design.gamma (plan_of run.design node.0) begun (reading_at w node.0) w.time w.time
      (ready_at w node.0) (sendings w node.0)
  begun_stands =
      let g = run.design.gamma in
      let plan = plan_of run.design node.0 in
      let fit = fits_at run node.0 rules fine.within in
      let before = stands_at run w node.0 keeps fine.within in
      let may_not : may_send plan begun ≡ true → ⊥ = no_step_is_sent fit in
      let in_time : w.time ≤ w.time + g.alpha_max = omega arith in
      let alarms : alarm run.design.period (here.count + 1 - 1) ≡ alarm run.design.period here.count =
      ap (alarm run.design.period) (omega arith) in
      let is_due = due in
      let is_prompt = prompt in
      let some = fit.some in
      record {
        clock = before.clock;
        in_time =
            both_in_time w.time (Some (w.time + g.alpha_max)) _ in_time
            (sends_in_time w.time _ (may_send plan begun) (λ may. absurd (may_not may)));
        keeps = record {
          started = λ one. omega arith;
          finished = λ step is. absurd (cc);
          running =
              λ step is. subst (λ k. RunsSince g (step_alarm plan begun k) w.time w.time) (same_step is)
              (record { due = omega arith; prompt = omega arith; past = omega arith });
          unsent = λ may. absurd (may_not may);
        };
        sends = record { each = before.sends.each ∙ sym sent_as_before; sent = before.sends.sent };
      }

  abbrev pub bus_begun : BusState
  bus_begun = with_node w.bus node.0 begun

  abbrev pub world_begun : World
  world_begun = changed w bus_begun (slice_set w.since node.0 w.time) w.ready w.sent_at

  pub in_bus : node.0 < length w.bus.nodes
  in_bus = let count = keeps.agrees.node_count in let within = fine.within in omega arith

  -- the links into it, and the others
  links_begun : (number : ℕ) → number < length run.design.links
      → KeepsLink run world_begun number (link_at run.design number).target.0 (link_at run.design number).in_port
  links_begun number within =
      let target = (link_at run.design number).target.0 in
      let port = (link_at run.design number).in_port in
      let source = (link_at run.design number).source.0 in
      let flight = flight_at w.bus number in
      let n = node_at w.bus target in
      let before = keeps.links number within in
      let sent : sent_rounds (node_at bus_begun source) ≡ sent_rounds (node_at w.bus source) =
      keeps_at (λ (n : NodeState). sent_rounds n) w.bus node.0 source begun sent_as_before in
      record {
        once = λ round.
            subst (λ k. IsOnce (node_at bus_begun target).count (slot_at (node_at bus_begun target) port) k flight
            round) (sym sent)
            (elim (cases_eq target node.0) [
              | inl same ↦
                  let is : node_at bus_begun target ≡ begun = ap (node_at bus_begun) same
                  ∙ node_set w.bus node.0 begun in_bus in
                  let counts : n.count ≡ here.count = ap (λ j. (node_at w.bus j).count) same in
                  let alarms : alarm run.design.period n.count ≡ alarm run.design.period here.count =
                  ap (alarm run.design.period) counts in
                  let is_due = due in
                  let more = rests.1 in
                  let full : 0 < here.count → is_some (slot_at n port) ≡ true =
                  λ some. has_come run w rules keeps number within (omega arith) (omega arith) (omega arith) in
                  let slot = (keeps.agrees.links number (link_at run.design number) (link_is run number within)).slot in
                  let empty : here.count ≡ 0 → slot_at n port ≡ None =
                  λ none. slot_empty run number n.count (slot_at n port) slot (counts ∙ none) in
                  let one : IsOnce here.count (slot_at n port) (sent_rounds (node_at w.bus source)) flight round =
                  subst (λ k. IsOnce k (slot_at n port) (sent_rounds (node_at w.bus source)) flight round) counts
                  (before.once round) in
                  subst (λ (m : NodeState).
                  IsOnce m.count (slot_at m port) (sent_rounds (node_at w.bus source)) flight round) (sym is)
                  (subst (λ o. IsOnce (here.count + 1) o (sent_rounds (node_at w.bus source)) flight round)
                  (sym (get_or-map_constant {Y = Option (List PortValue)} None here.slots port))
                  (start_once here.count (slot_at n port) (sent_rounds (node_at w.bus source)) flight round
                  full empty one))
              | inr other ↦
                  subst (λ (m : NodeState).
                  IsOnce m.count (slot_at m port) (sent_rounds (node_at w.bus source)) flight round)
                  (sym (node_stays w.bus node.0 target begun other)) (before.once round)
            ]);
        in_time = before.in_time;
      }

  pub start_begun : KeepsTime run world_begun
  start_begun =
      let within = fine.within in
      let sizes = keeps.moments in
      let long : node.0 < length w.since = let size = sizes.since in omega arith in
      keeps_again run w bus_begun (slice_set w.since node.0 w.time) w.ready w.sent_at keeps node.0
      keeps.going
      (start_keeps run w.bus node (Some (reading_at w node.0)) None rules keeps.agrees fine.waits
      (misses_none run w rules keeps node.0 within rests.1 due))
      (record {
        readings = sizes.readings;
        since = length-set w.since node.0 w.time ∙ sizes.since;
        ready = sizes.ready;
        sent_at = sizes.sent_at;
      })
      (record {
        nodes = λ k other. node_stays w.bus node.0 k begun other;
        since_stays = λ k other. get_or-set_other w.since node.0 k w.time 0 other;
        ready_stays = λ k other. refl;
        sent_stays = λ k other. refl;
      })
      (stands_put run w bus_begun (slice_set w.since node.0 w.time) w.ready w.sent_at keeps node.0 begun w.time
      (ready_at w node.0) (sendings w node.0) begun_stands
      (node_set w.bus node.0 begun in_bus) (get_or-set_at w.since node.0 node.0 w.time 0 refl long) refl refl)
      links_begun

  -- the world after the start, by the link that it would miss
  abbrev world_started : Option ℕ → World
  world_started missed =
      changed w (after_start run w.bus node (Some (reading_at w node.0)) missed)
      (moved (is_none missed) w.since node.0 w.time) w.ready w.sent_at

  pub start_keeps_time : KeepsTime run (world_after run w (event.Start node))
  start_keeps_time =
      subst (λ m. KeepsTime run (world_started m))
      (sym (misses_none run w rules keeps node.0 fine.within rests.1 due)) start_begun

  pub start_is : world_after run w (event.Start node) ≡ world_begun
  start_is = ap world_started (misses_none run w rules keeps node.0 fine.within rests.1 due)
