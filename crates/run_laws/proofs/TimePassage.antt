-- Time that passes without a fault maintains the timing invariant of a world: no last allowed time is passed.
use Rattle.std.proofs.Common.{◌≡◌, ℕ, ◌+◌, ◌-◌, ◌<◌, ◌≤◌, true, List, [], ◌∷◌, length, map, slice_get, Option, Some}
use Rattle.std.proofs.Common.{None, refl, sym, ◌∙◌, subst, arith}
use Rattle.std.specs.Prelude.{nat_lt, nat_le, is_some, slice_index_or}
use Rattle.std.specs.List.{enumerate_from, position_or_len}
use Rattle.std.proofs.lemmas.Bool.{ltb-false, leb-false, eqb-true, false≢true}
use Rattle.std.proofs.lemmas.Option.{slice_get-get_or}
use Rattle.std.proofs.lemmas.List.Folds.{find_at}
use Rattle.list_lemmas.proofs.Elements.{find-passes}
use Rattle.list_lemmas.proofs.ElementPositions.{slice_get-enumerate_from}
use Rattle.pals_base.specs.UpwardNumbers.{upwards}
use Rattle.pals_base.proofs.UpwardNumbers.{slice_get-upwards}
use Rattle.pals_model.specs.declared.flight_copy.FlightCopy.{FlightCopy}
use Rattle.pals_model.specs.Flights.{is_of, oldest}
use Rattle.pals_runs.specs.declared.events_and_faults.Event.TheVariants as event
use Rattle.pals_runs.specs.declared.events_and_faults.EventFault.TheVariants as fault
use Rattle.pals_runs.specs.declared.events_and_faults.EventSubject.{EventSubject}
use Rattle.pals_runs.specs.declared.events_and_faults.EventSubject.TheVariants as which
use Rattle.bound_checker.specs.proof.MessageTimes.{IsNear}
use Rattle.bus_machine.specs.Plans.{plan_of}
use Rattle.bus_machine.specs.LinkEvents.{is_in_flight}
use Rattle.bus_machine.specs.BusStates.{node_at, flight_at}
use Rattle.bus_machine.specs.RunParameters.{Run}
use Rattle.run_laws.specs.Worlds.{World, since_at, ready_at, sendings, world_after}
use Rattle.run_laws.specs.Deadlines.{node_deadline, message_deadline}
use Rattle.run_laws.specs.EventFaults.{fault_of, found_if, first_of, apart, clock_back, clock_apart, past, node_past}
use Rattle.run_laws.specs.EventFaults.{copy_past, link_past}
use Rattle.run_laws.specs.proof.WorldInvariant.{KeepsDeadline, KeepsNode, KeepsSends, KeepsTime}
use Rattle.run_laws.proofs.Lists.{both_none, none_first}
use Rattle.run_laws.proofs.WorldNodeTiming.{deadline_is}
use Rattle.run_laws.proofs.FaultlessEventConditions.{named, none_if}

-- ---- the meaning of the fault
none_past : (time : ℕ) (which : EventSubject) (last : Option ℕ) → past time which last ≡ None → KeepsDeadline time last
none_past time which None none = tt
none_past time which (Some last) none =
    ltb-false last time (none_if (nat_lt last time) (fault.PastDeadline which last) none)

pub record FaultlessPass (run : Run) (w : World) (time : ℕ) (readings : List ℕ) : Type 0 where
  pub many : length readings ≡ length run.design.components
  pub forward : w.time ≤ time
  pub clocks : (node : ℕ) → node < length run.design.components
      → IsNear run.design.gamma time (slice_index_or readings node 0)
  pub in_time : (node : ℕ) → node < length run.design.components → KeepsDeadline time (node_deadline run w node)
  pub arrive : (number round : ℕ) → number < length run.design.links
      → is_in_flight round (flight_at w.bus number) ≡ true → time ≤ message_deadline run w number round

module _ (run : Run) (w : World) (time : ℕ) (readings : List ℕ) where
  near : (node : ℕ) → node < length readings → first_of (map (clock_apart run time) (enumerate_from 0 readings)) ≡ None
      → IsNear run.design.gamma time (slice_index_or readings node 0)
  near node within none =
      let reading = slice_index_or readings node 0 in
      let eps = run.design.gamma.eps in
      let at =
      slice_get-enumerate_from 0 readings node node reading (omega arith) (slice_get-get_or readings node 0 within) in
      let one = none_first (clock_apart run time) (enumerate_from 0 readings) node (node, reading) none at in
      let few : apart reading time < eps =
      leb-false eps (apart reading time)
      (none_if (nat_le eps (apart reading time)) (fault.ClockApart (record { 0 = node }) reading) one) in
      let close : (reading - time) + (time - reading) < eps = few in
      record { slow = omega arith; fast = omega arith }

  copy_in_time : (number round : ℕ) (o : Option FlightCopy) → oldest round (flight_at w.bus number) ≡ o
      → is_some o ≡ true
      → link_past run w time number ≡ None → time ≤ message_deadline run w number round
  copy_in_time number round None is some none = absurd (false≢true some)
  copy_in_time number round (Some copy) is some none =
      let flight = flight_at w.bus number in
      let at : slice_get flight (position_or_len (is_of round) flight) ≡ Some copy =
      sym (find_at (is_of round) flight) ∙ is in
      let one = none_first (copy_past run w time number) flight (position_or_len (is_of round) flight) copy none at in
      let in_time : time ≤ message_deadline run w number copy.round =
      none_past time (which.Message (record { 0 = number }) copy.round)
      (Some (message_deadline run w number copy.round)) one in
      let same : copy.round ≡ round = eqb-true copy.round round (find-passes (is_of round) flight copy is) in
      subst (λ r. time ≤ message_deadline run w number r) same in_time

  pub passes_in_time : fault_of run w (event.Pass time readings) ≡ None → FaultlessPass run w time readings
  passes_in_time none =
      let parts = named run w (event.Pass time readings) none in
      let clocks = enumerate_from 0 readings in
      let nodes = upwards 0 (length run.design.components) in
      let links = upwards 0 (length run.design.links) in
      let back = found_if (nat_lt time w.time) (fault.TimeBack time) in
      let backs = first_of (map (clock_back w) clocks) in
      let aparts = first_of (map (clock_apart run time) clocks) in
      let pasts = first_of (map (node_past run w time) nodes) in
      let carried = first_of (map (link_past run w time) links) in
      let one = both_none back (first_of (backs ∷ aparts ∷ pasts ∷ carried ∷ [])) parts.1 in
      let two = both_none backs (first_of (aparts ∷ pasts ∷ carried ∷ [])) one.1 in
      let three = both_none aparts (first_of (pasts ∷ carried ∷ [])) two.1 in
      let four = both_none pasts (first_of (carried ∷ [])) three.1 in
      let five = both_none carried (first_of []) four.1 in
      let many : length readings ≡ length run.design.components =
      eqb-true (length readings) (length run.design.components) parts.0 in
      record {
        many = many;
        forward = ltb-false time w.time (none_if (nat_lt time w.time) (fault.TimeBack time) one.0);
        clocks = λ node within. near node (subst (λ n. node < n) (sym many) within) three.0;
        in_time = λ node within.
            none_past time (which.Node (record { 0 = node })) (node_deadline run w node)
            (none_first (node_past run w time) nodes node node four.0
            (slice_get-upwards (length run.design.components) node within));
        arrive = λ number round within flies.
            copy_in_time number round (oldest round (flight_at w.bus number)) refl flies
            (none_first (link_past run w time) links number number five.0
            (slice_get-upwards (length run.design.links) number within));
      }

-- ---- the invariant after it
module _ (run : Run) (w : World) (time : ℕ) (readings : List ℕ) (keeps : KeepsTime run w)
    (fine : FaultlessPass run w time readings) where
  abbrev passed : World
  passed = record w { time = time; readings = readings }

  node_later : (node : ℕ) → node < length run.design.components
      → KeepsNode run.design.gamma (plan_of run.design node) (node_at w.bus node) time (since_at w node)
      (ready_at w node)
  node_later node within =
      let before = keeps.nodes node within in
      let forward = fine.forward in
      record {
        started = λ some. let at = before.started some in omega arith;
        finished = λ step is. let at = before.finished step is in omega arith;
        running = λ step is. let at = before.running step is in
            record { due = at.due; prompt = at.prompt; past = omega arith };
        unsent = λ may. let at = before.unsent may in record { prompt = at.prompt; past = omega arith };
      }

  sends_later : (node : ℕ) → node < length run.design.components
      → KeepsSends run.design.gamma (plan_of run.design node) (node_at w.bus node) time (sendings w node)
  sends_later node within =
      let before = keeps.sends node within in
      let forward = fine.forward in
      record {
        each = before.each;
        sent = λ round is. let at = before.sent round is in
            record { due = at.due; prompt = at.prompt; past = omega arith };
      }

  pub pass_keeps_time : KeepsTime run (world_after run w (event.Pass time readings))
  pass_keeps_time =
      let sizes = keeps.moments in
      record {
        going = keeps.going;
        agrees = keeps.agrees;
        moments = record { readings = fine.many; since = sizes.since; ready = sizes.ready; sent_at = sizes.sent_at };
        clocks = fine.clocks;
        in_time = λ node within.
            subst (KeepsDeadline time) (sym (deadline_is run passed node))
            (subst (KeepsDeadline time) (deadline_is run w node) (fine.in_time node within));
        nodes = node_later;
        sends = sends_later;
        links =
            λ number within. record {
              once = (keeps.links number within).once;
              in_time = λ round flies. fine.arrive number round within flies;
            };
      }
