-- A Pass has no fault if each clock advances near the time and no last allowed time is passed.
use Rattle.std.proofs.Common.{◌≡◌, ℕ, zero, suc, ◌+◌, ◌-◌, ◌<◌, ◌≤◌, List, [], ◌∷◌, length, map, slice_get, Option}
use Rattle.std.proofs.Common.{Some, None, refl, ap, subst, arith}
use Rattle.std.specs.Prelude.{nat_lt, nat_le}
use Rattle.std.specs.List.{enumerate_from}
use Rattle.std.proofs.lemmas.Bool.{le-ltb, lt-leb, eq-eqb}
use Rattle.pals_base.specs.UpwardNumbers.{upwards}
use Rattle.pals_base.proofs.UpwardNumbers.{upwards_is}
use Rattle.pals_model.specs.declared.flight_copy.FlightCopy.{FlightCopy}
use Rattle.pals_runs.specs.declared.events_and_faults.Event.TheVariants as event
use Rattle.pals_runs.specs.declared.events_and_faults.EventFault.TheVariants as fault
use Rattle.pals_runs.specs.declared.events_and_faults.EventSubject.{EventSubject}
use Rattle.pals_runs.specs.declared.events_and_faults.EventSubject.TheVariants as subject
use Rattle.bound_checker.specs.proof.MessageTimes.{IsNear}
use Rattle.bus_machine.specs.BusStates.{flight_at}
use Rattle.bus_machine.specs.RunParameters.{Run}
use Rattle.run_laws.specs.Worlds.{World, reading_at}
use Rattle.run_laws.specs.Deadlines.{node_deadline, message_deadline}
use Rattle.run_laws.specs.EventFaults.{fault_of, found_if, first_of, clock_back, clock_apart, apart, past, node_past}
use Rattle.run_laws.specs.EventFaults.{copy_past, link_past}
use Rattle.run_laws.specs.proof.WorldInvariant.{KeepsDeadline}
use Rattle.world_gen.proofs.FaultlessEvents.{found_none, none_both, all_named, first_none}

none_past : (time : ℕ) (which : EventSubject) (last : Option ℕ) → KeepsDeadline time last → past time which last ≡ None
none_past time which None in_time = refl
none_past time which (Some last) in_time =
    found_none (nat_lt last time) (fault.PastDeadline which last) (le-ltb last time in_time)

-- the readings of a Pass, one for each node
pub record GoOnNear (run : Run) (w : World) (time : ℕ) (readings : List ℕ) : Type 0 where
  pub many : length readings ≡ length run.design.components
  pub forward : (node reading : ℕ) → slice_get readings node ≡ Some reading → reading_at w node ≤ reading
  pub near : (node reading : ℕ) → slice_get readings node ≡ Some reading → IsNear run.design.gamma time reading

numbered_is : (from : ℕ) (xs : List ℕ) (k : ℕ) (at : ℕ × ℕ) → slice_get (enumerate_from from xs) k ≡ Some at
    → (at.0 ≡ from + k) × (slice_get xs k ≡ Some at.1)
numbered_is from [] k at is = absurd (cc)
numbered_is from (x ∷ xs) zero at is =
    let same : ◌≡◌ {A = ℕ × ℕ} (from, x) at = cc in
    let first : from ≡ at.0 = ap (λ (q : ℕ × ℕ). q.0) same in
    (omega arith, ap (λ (q : ℕ × ℕ). Some q.1) same)
numbered_is from (x ∷ xs) (suc k) at is =
    let later = numbered_is (from + 1) xs k at is in
    let place = later.0 in
    (omega arith, later.1)

-- the number of a reading is that of its node
own_number : (readings : List ℕ) (k : ℕ) (at : ℕ × ℕ) → slice_get (enumerate_from 0 readings) k ≡ Some at
    → slice_get readings at.0 ≡ Some at.1
own_number readings k at is =
    let found = numbered_is 0 readings k at is in
    let place = found.0 in
    let same : k ≡ at.0 = omega arith in
    subst (λ (n : ℕ). slice_get readings n ≡ Some at.1) same found.1

module _ (run : Run) (w : World) (time : ℕ) (readings : List ℕ) (go_on : GoOnNear run w time readings) where
  none_back : (k : ℕ) (at : ℕ × ℕ) → slice_get (enumerate_from 0 readings) k ≡ Some at → clock_back w at ≡ None
  none_back k at is =
      let before = go_on.forward at.0 at.1 (own_number readings k at is) in
      found_none (nat_lt at.1 (reading_at w at.0)) (fault.ClockBack (record { 0 = at.0 }) at.1)
      (le-ltb at.1 (reading_at w at.0) before)

  none_apart : (k : ℕ) (at : ℕ × ℕ) → slice_get (enumerate_from 0 readings) k ≡ Some at → clock_apart run time at ≡ None
  none_apart k at is =
      let near = go_on.near at.0 at.1 (own_number readings k at is) in
      let slow = near.slow in
      let fast = near.fast in
      let close : (at.1 - time) + (time - at.1) < run.design.gamma.eps = omega arith in
      found_none (nat_le run.design.gamma.eps (apart at.1 time)) (fault.ClockApart (record { 0 = at.0 }) at.1)
      (lt-leb run.design.gamma.eps (apart at.1 time) close)

  pub pass_can_occur : w.time ≤ time
      → ((node : ℕ) → node < length run.design.components → KeepsDeadline time (node_deadline run w node))
      → ((number k : ℕ) (copy : FlightCopy) → number < length run.design.links
      → slice_get (flight_at w.bus number) k ≡ Some copy → time ≤ message_deadline run w number copy.round)
      → fault_of run w (event.Pass time readings) ≡ None
  pass_can_occur forward nodes messages =
      let pairs = enumerate_from 0 readings in
      let numbers = upwards 0 (length run.design.components) in
      let links = upwards 0 (length run.design.links) in
      let backs = first_of (map (clock_back w) pairs) in
      let aparts = first_of (map (clock_apart run time) pairs) in
      let pasts = first_of (map (node_past run w time) numbers) in
      let carried = first_of (map (link_past run w time) links) in
      all_named run w (event.Pass time readings)
      (eq-eqb (length readings) (length run.design.components) go_on.many)
      (none_both (found_if (nat_lt time w.time) (fault.TimeBack time))
      (first_of (backs ∷ aparts ∷ pasts ∷ carried ∷ []))
      (found_none (nat_lt time w.time) (fault.TimeBack time) (le-ltb time w.time forward))
      (none_both backs (first_of (aparts ∷ pasts ∷ carried ∷ [])) (first_none (clock_back w) pairs none_back)
      (none_both aparts (first_of (pasts ∷ carried ∷ [])) (first_none (clock_apart run time) pairs none_apart)
      (none_both pasts (first_of (carried ∷ []))
      (first_none (node_past run w time) numbers
      (λ k node is. none_past time (subject.Node (record { 0 = node })) (node_deadline run w node)
      (nodes node (let at = upwards_is 0 (length run.design.components) k node is in omega (arith, at.0, at.1)))))
      (none_both carried (first_of [])
      (first_none (link_past run w time) links
      (λ k number is.
      first_none (copy_past run w time number) (flight_at w.bus number)
      (λ place copy is_copy.
      none_past time (subject.Message (record { 0 = number }) copy.round)
      (Some (message_deadline run w number copy.round))
      (messages number place copy
      (let at = upwards_is 0 (length run.design.links) k number is in omega (arith, at.0, at.1)) is_copy))))
      refl)))))
