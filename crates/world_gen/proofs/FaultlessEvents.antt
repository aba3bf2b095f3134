-- When an event of a schedule has no fault, kind by kind.
use Rattle.std.proofs.Common.{◌≡◌, ℕ, zero, suc, ◌+◌, ◌-◌, ◌<◌, ◌≤◌, Bool, true, false, List, [], ◌∷◌, length, map}
use Rattle.std.proofs.Common.{slice_get, Option, Some, None, refl, sym, ap, ◌∙◌, arith}
use Rattle.std.specs.Prelude.{not, nat_lt, nat_le, is_some, if◌then◌else◌, slice_index_or, replicate}
use Rattle.std.specs.List.{enumerate_from}
use Rattle.std.specs.Option.{unwrap_or}
use Rattle.std.proofs.lemmas.Bool.{lt-ltb, le-ltb, lt-leb, eq-eqb}
use Rattle.pals_base.specs.declared.basic_types.NodeNo.{NodeNo}
use Rattle.pals_base.specs.declared.basic_types.LinkNo.{LinkNo}
use Rattle.pals_base.specs.UpwardNumbers.{upwards}
use Rattle.pals_base.proofs.UpwardNumbers.{upwards_is}
use Rattle.pals_model.specs.declared.flight_copy.FlightCopy.{FlightCopy}
use Rattle.pals_runs.specs.declared.events_and_faults.Event.{Event}
use Rattle.pals_runs.specs.declared.events_and_faults.Event.TheVariants as event
use Rattle.pals_runs.specs.declared.events_and_faults.EventFault.{EventFault}
use Rattle.pals_runs.specs.declared.events_and_faults.EventFault.TheVariants as fault
use Rattle.pals_runs.specs.declared.events_and_faults.EventSubject.{EventSubject}
use Rattle.pals_runs.specs.declared.events_and_faults.EventSubject.TheVariants as subject
use Rattle.bus_machine.specs.Plans.{plan_of}
use Rattle.bus_machine.specs.NodeEvents.{is_waiting, next_step, running_step, may_send}
use Rattle.bus_machine.specs.LinkEvents.{is_in_flight}
use Rattle.bus_machine.specs.AlarmsAndReleases.{start_alarm, step_alarm, release_reading}
use Rattle.bus_machine.specs.BusStates.{node_at, flight_at}
use Rattle.bus_machine.specs.RunParameters.{Run}
use Rattle.bus_machine.specs.Machine.{Start, Step, Finish, Send}
use Rattle.run_laws.specs.Worlds.{World, reading_at, since_at, flight_since}
use Rattle.run_laws.specs.Deadlines.{node_deadline, message_deadline}
use Rattle.run_laws.specs.EventFaults.{fault_of, event_fault, is_named, found_if, or_else, first_of, wrong_phase}
use Rattle.run_laws.specs.EventFaults.{no_message, not_due, too_soon, clock_back, clock_apart, apart, past, node_past}
use Rattle.run_laws.specs.EventFaults.{copy_past, link_past}
use Rattle.run_laws.specs.proof.WorldInvariant.{KeepsDeadline}

pub found_none : (b : Bool) (why : EventFault) → b ≡ false → found_if b why ≡ None
found_none b why is = ap (λ (x : Bool). found_if x why) is

pub none_both : (a b : Option EventFault) → a ≡ None → b ≡ None → or_else a b ≡ None
none_both a b one two = ap (λ o. or_else o b) one ∙ two

pub all_named : (run : Run) (w : World) (e : Event) → is_named run e ≡ true → event_fault run w e ≡ None
    → fault_of run w e ≡ None
all_named run w e named none = ap (λ (b : Bool). if b then event_fault run w e else Some fault.BadName) named ∙ none

pub allowed_none : (b : Bool) (why : EventFault) → b ≡ true → found_if (not b) why ≡ None
allowed_none b why is = ap (λ (x : Bool). found_if (not x) why) is

pub start_is_fine : (run : Run) (w : World) (node : NodeNo) → node.0 < length run.design.components
    → is_waiting (node_at w.bus node.0).phase ≡ true
    → start_alarm (plan_of run.design node.0) (node_at w.bus node.0) ≤ reading_at w node.0
    → fault_of run w (event.Start node) ≡ None
start_is_fine run w node within waits due =
    let alarm = start_alarm (plan_of run.design node.0) (node_at w.bus node.0) in
    all_named run w (event.Start node) (lt-ltb node.0 (length run.design.components) within)
    (none_both (wrong_phase run w node (Start node None)) (not_due w node alarm)
    (allowed_none (is_waiting (node_at w.bus node.0).phase) (fault.WrongPhase node) waits)
    (found_none (nat_lt (reading_at w node.0) alarm) (fault.NotDue node alarm (reading_at w node.0))
    (le-ltb (reading_at w node.0) alarm due)))

pub step_is_fine : (run : Run) (w : World) (node : NodeNo) → node.0 < length run.design.components
    → is_some (next_step (node_at w.bus node.0).phase) ≡ true
    → step_alarm (plan_of run.design node.0) (node_at w.bus node.0)
    (unwrap_or (next_step (node_at w.bus node.0).phase) 0) ≤ reading_at w node.0
    → fault_of run w (event.Step node) ≡ None
step_is_fine run w node within waits due =
    let next = next_step (node_at w.bus node.0).phase in
    let alarm = step_alarm (plan_of run.design node.0) (node_at w.bus node.0) (unwrap_or next 0) in
    all_named run w (event.Step node) (lt-ltb node.0 (length run.design.components) within)
    (none_both (wrong_phase run w node (Step node None)) (not_due w node alarm)
    (allowed_none (is_some next) (fault.WrongPhase node) waits)
    (found_none (nat_lt (reading_at w node.0) alarm) (fault.NotDue node alarm (reading_at w node.0))
    (le-ltb (reading_at w node.0) alarm due)))

pub finish_is_fine : (run : Run) (w : World) (node : NodeNo) → node.0 < length run.design.components
    → is_some (running_step (node_at w.bus node.0).phase) ≡ true
    → since_at w node.0 + run.design.gamma.alpha_min ≤ w.time → fault_of run w (event.Finish node) ≡ None
finish_is_fine run w node within runs long =
    let step = running_step (node_at w.bus node.0).phase in
    let earliest = since_at w node.0 + run.design.gamma.alpha_min in
    all_named run w (event.Finish node) (lt-ltb node.0 (length run.design.components) within)
    (none_both (wrong_phase run w node (Finish node)) (too_soon w (subject.Node node) earliest)
    (allowed_none (is_some step) (fault.WrongPhase node) runs)
    (found_none (nat_lt w.time earliest) (fault.TooSoon (subject.Node node) earliest) (le-ltb w.time earliest long)))

pub send_is_fine : (run : Run) (w : World) (node : NodeNo) → node.0 < length run.design.components
    → may_send (plan_of run.design node.0) (node_at w.bus node.0) ≡ true
    → release_reading (plan_of run.design node.0) (node_at w.bus node.0) ≤ reading_at w node.0
    → fault_of run w (event.Send node) ≡ None
send_is_fine run w node within may due =
    let allowed = may_send (plan_of run.design node.0) (node_at w.bus node.0) in
    let alarm = release_reading (plan_of run.design node.0) (node_at w.bus node.0) in
    all_named run w (event.Send node) (lt-ltb node.0 (length run.design.components) within)
    (none_both (wrong_phase run w node (Send node None)) (not_due w node alarm)
    (allowed_none allowed (fault.WrongPhase node) may)
    (found_none (nat_lt (reading_at w node.0) alarm) (fault.NotDue node alarm (reading_at w node.0))
    (le-ltb (reading_at w node.0) alarm due)))

pub arrival_is_fine : (run : Run) (w : World) (link : LinkNo) (round : ℕ) → link.0 < length run.design.links
    → is_in_flight round (flight_at w.bus link.0) ≡ true
    → flight_since run w link.0 round + run.design.gamma.mu_min ≤ w.time
    → fault_of run w (event.Arrive link round) ≡ None
arrival_is_fine run w link round within flies carried =
    let flying = is_in_flight round (flight_at w.bus link.0) in
    let earliest = flight_since run w link.0 round + run.design.gamma.mu_min in
    all_named run w (event.Arrive link round) (lt-ltb link.0 (length run.design.links) within)
    (none_both (no_message run w link round) (too_soon w (subject.Message link round) earliest)
    (allowed_none flying (fault.NoSuchMessage link round) flies)
    (found_none (nat_lt w.time earliest) (fault.TooSoon (subject.Message link round) earliest)
    (le-ltb w.time earliest carried)))

-- ---- a Pass
pub first_none : {X : Type 0} (f : X → Option EventFault) (xs : List X)
    → ((k : ℕ) (x : X) → slice_get xs k ≡ Some x → f x ≡ None) → first_of (map f xs) ≡ None
first_none f [] none = refl
first_none f (x ∷ xs) none =
    none_both (f x) (first_of (map f xs)) (none 0 x refl) (first_none f xs (λ k y is. none (suc k) y is))

none_past : (time : ℕ) (subject : EventSubject) (last : Option ℕ) → KeepsDeadline time last
    → past time subject last ≡ None
none_past time subject None in_time = refl
none_past time subject (Some last) in_time =
    found_none (nat_lt last time) (fault.PastDeadline subject last) (le-ltb last time in_time)

enumerated_is : {X : Type 0} (from : ℕ) (xs : List X) (k : ℕ) (at : ℕ × X)
    → slice_get (enumerate_from from xs) k ≡ Some at → (at.0 ≡ from + k) × (slice_get xs k ≡ Some at.1)
enumerated_is from [] k at is = absurd (cc)
enumerated_is {X} from (x ∷ xs) zero at is =
    let same : ◌≡◌ {A = ℕ × X} (from, x) at = cc in
    let first : from ≡ at.0 = ap (λ (q : ℕ × X). q.0) same in
    (omega arith, ap (λ (q : ℕ × X). Some q.1) same)
enumerated_is from (x ∷ xs) (suc k) at is =
    let later = enumerated_is (from + 1) xs k at is in
    let place = later.0 in
    (omega arith, later.1)

replicate_is : (n k time x : ℕ) → slice_get (replicate n time) k ≡ Some x → x ≡ time
replicate_is zero k time x is = absurd (cc)
replicate_is (suc n) zero time x is = let same : time ≡ x = cc in sym same
replicate_is (suc n) (suc k) time x is = replicate_is n k time x is

length-replicate : (n time : ℕ) → length (replicate n time) ≡ n
length-replicate zero time = refl
length-replicate (suc n) time = ap suc (length-replicate n time)

pub replicate_at : (n k time : ℕ) → k < n → slice_index_or (replicate n time) k 0 ≡ time
replicate_at zero k time below = absurd (omega arith)
replicate_at (suc n) zero time below = refl
replicate_at (suc n) (suc k) time below = replicate_at n k time (omega arith)

-- all clocks show the time
pub pass_is_fine : (run : Run) (w : World) (time : ℕ) → 1 ≤ run.design.gamma.eps → w.time ≤ time
    → ((node : ℕ) → reading_at w node ≤ time)
    → ((node : ℕ) → node < length run.design.components → KeepsDeadline time (node_deadline run w node))
    → ((number k : ℕ) (copy : FlightCopy) → number < length run.design.links
    → slice_get (flight_at w.bus number) k ≡ Some copy → time ≤ message_deadline run w number copy.round)
    → fault_of run w (event.Pass time (replicate (length run.design.components) time)) ≡ None
pass_is_fine run w time skew forward clocks nodes messages =
    let readings = replicate (length run.design.components) time in
    let pairs = enumerate_from 0 readings in
    let numbers = upwards 0 (length run.design.components) in
    let links = upwards 0 (length run.design.links) in
    let backs = first_of (map (clock_back w) pairs) in
    let aparts = first_of (map (clock_apart run time) pairs) in
    let pasts = first_of (map (node_past run w time) numbers) in
    let carried = first_of (map (link_past run w time) links) in
    all_named run w (event.Pass time readings)
    (eq-eqb (length readings) (length run.design.components) (length-replicate (length run.design.components) time))
    (none_both (found_if (nat_lt time w.time) (fault.TimeBack time)) (first_of (backs ∷ aparts ∷ pasts ∷ carried ∷ []))
    (found_none (nat_lt time w.time) (fault.TimeBack time) (le-ltb time w.time forward))
    (none_both backs (first_of (aparts ∷ pasts ∷ carried ∷ []))
    (first_none (clock_back w) pairs
    (λ k at is.
    let same = replicate_is (length run.design.components) k time at.1 (enumerated_is 0 readings k at is).1 in
    let before = clocks at.0 in
    found_none (nat_lt at.1 (reading_at w at.0)) (fault.ClockBack (record { 0 = at.0 }) at.1)
    (le-ltb at.1 (reading_at w at.0) (omega arith))))
    (none_both aparts (first_of (pasts ∷ carried ∷ []))
    (first_none (clock_apart run time) pairs
    (λ k at is.
    let same = replicate_is (length run.design.components) k time at.1 (enumerated_is 0 readings k at is).1 in
    let close : (at.1 - time) + (time - at.1) < run.design.gamma.eps = omega arith in
    found_none (nat_le run.design.gamma.eps (apart at.1 time)) (fault.ClockApart (record { 0 = at.0 }) at.1)
    (lt-leb run.design.gamma.eps (apart at.1 time) close)))
    (none_both pasts (first_of (carried ∷ []))
    (first_none (node_past run w time) numbers
    (λ k node is. none_past time (subject.Node (record { 0 = node })) (node_deadline run w node)
    (nodes node (let at = upwards_is 0 (length run.design.components) k node is in omega (arith, at.0, at.1)))))
    (none_both carried (first_of [])
    (first_none (link_past run w time) links
    (λ k number is.
    first_none (copy_past run w time number) (flight_at w.bus number)
    (λ place copy is_copy.
    none_past time (subject.Message (record { 0 = number }) copy.round)
    (Some (message_deadline run w number copy.round))
    (messages number place copy
    (let at = upwards_is 0 (length run.design.links) k number is in omega (arith, at.0, at.1)) is_copy))))
    refl)))))
