-- Two runs of the design of two counters: one with a meeting, which is done, and one with lists, of which the first
-- is too short.
use Rattle.std.proofs.Common.{◌≡◌, inl, inr, ℕ, zero, suc, ◌<◌, ◌≤◌, nat_le, nat_eq, Bool, true, false, not, cond, List}
use Rattle.std.proofs.Common.{[], ◌∷◌, length, Option, Some, None, refl, sym, ap, ◌∙◌, subst, arith}
use Rattle.std.specs.List.{list_all}
use Rattle.std.specs.List.Sorted.{IsNonDecreasing}
use Rattle.std.specs.Option.{option_map_or}
use Rattle.std.proofs.lemmas.Bool.{leb-true, not-true}
use Rattle.std.proofs.lemmas.Grind.{common_steps}
use Rattle.std.proofs.lemmas.List.Elements.{All-weaker}
use Rattle.std.proofs.lemmas.Option.{slice_get_within}
use Rattle.pals_base.specs.UpwardNumbers.{upwards}
use Rattle.pals_base.proofs.UpwardNumbers.{slice_get-upwards}
use Rattle.pals_clock.specs.ClockStates.{ClockState, unpicked, standing_at}
use Rattle.pals_model.specs.declared.design.Link.{Link}
use Rattle.pals_model.proofs.FirstMatches.{at_element}
use Rattle.pals_model.proofs.WordBytes.{all_pass}
use Rattle.pals_runs.specs.declared.journal.JournalEntry.{JournalEntry}
use Rattle.pals_runs.specs.declared.phase.Phase.TheVariants.{Done}
use Rattle.bus_machine.specs.BusStates.{BusState, opening, node_at, flight_at}
use Rattle.bus_machine.specs.Plans.{link_at}
use Rattle.bus_machine.specs.RunParameters.{Run}
use Rattle.bus_machine.specs.Machine.{Start, Finish, Send, after}
use Rattle.bus_machine.specs.proof.StoppedCounterRuns.{a, b}
use Rattle.bus_machine.specs.declared.node_action.NodeAction.TheVariants as action
use Rattle.run_laws.specs.TraceRules.{is_due}
use Rattle.pals_clock.specs.declared.clock.Clocks.TheVariants.{Meet, Lists}
use Rattle.run_laws.specs.Runs.{clock_at, target_of, IsLeast, HasEnded, NoneDue, IsAwaited, Runs, opens, picks_for}
use Rattle.run_laws.specs.Runs.{goes_on}
use Rattle.run_laws.specs.proof.TwoCounterRuns.{counters_for, SomeMeetingEnds, SomeListEnds}
use Rattle.run_laws.proofs.MeetingStopsAndBounds.{link_is}

-- ---- the meaning of a test
abbrev no_less : Run → BusState → ℕ → Bool
no_less run s at =
    list_all (λ k. option_map_or (nat_le at) (target_of run s k) true) (upwards 0 (length run.design.components))

least_by : (run : Run) (s : BusState) (at : ℕ) → no_less run s at ≡ true → IsLeast run s at
least_by run s at passes = λ other least within is.
    let test =
    at_element (λ k. option_map_or (nat_le at) (target_of run s k) true ≡ true)
    (upwards 0 (length run.design.components)) other other
    (all_pass (λ k. option_map_or (nat_le at) (target_of run s k) true) (upwards 0 (length run.design.components))
    passes) (slice_get-upwards (length run.design.components) other within) in
    leb-true at least (sym (ap (λ o. option_map_or (nat_le at) o true) is) ∙ test)

abbrev none_on : BusState → Option ℕ → ℕ → Bool
none_on s reading k = list_all (λ c. not (is_due reading c)) (flight_at s k)

abbrev none_is : Run → BusState → ℕ → Option ℕ → Bool
none_is run s node reading =
    list_all (λ k. cond (nat_eq (link_at run.design k).target.0 node) (none_on s reading k) true)
    (upwards 0 (length run.design.links))

then_on : (x y : Bool) → x ≡ true → cond x y true ≡ true → y ≡ true
then_on true y is passes = passes
then_on false y is passes = absurd (cc)

none_by : (run : Run) (s : BusState) (node : ℕ) (reading : Option ℕ) → none_is run s node reading ≡ true
    → NoneDue run s node reading
none_by run s node reading passes = λ link l is to.
    let within = slice_get_within run.design.links link l is in
    let each = λ (k : ℕ). cond (nat_eq (link_at run.design k).target.0 node) (none_on s reading k) true in
    let test =
    at_element (λ k. each k ≡ true) (upwards 0 (length run.design.links)) link link
    (all_pass each (upwards 0 (length run.design.links)) passes)
    (slice_get-upwards (length run.design.links) link within) in
    let target : (link_at run.design link).target.0 ≡ node =
    ap (λ (m : Link). m.target.0) (link_is run link l is) ∙ to in
    let own : nat_eq (link_at run.design link).target.0 node ≡ true = grind (arith, common_steps) in
    All-weaker (λ c. not (is_due reading c) ≡ true) (λ c. is_due reading c ≡ false)
    (λ c fails. not-true (is_due reading c) fails) (flight_at s link)
    (all_pass (λ c. not (is_due reading c)) (flight_at s link)
    (then_on (nat_eq (link_at run.design link).target.0 node) (none_on s reading link) own test))

-- ---- a meeting
abbrev one : Run
one = counters_for 1

abbrev m1 : BusState
m1 = after one (opening one) (Start a (Some 9000000))

abbrev m2 : BusState
m2 = after one m1 (Start b (Some 9000000))

abbrev m3 : BusState
m3 = after one m2 (Finish a)

abbrev m4 : BusState
m4 = after one m3 (Finish b)

abbrev m5 : BusState
m5 = after one m4 (Send a (Some 10000000))

abbrev m6 : BusState
m6 = after one m5 (Send b (Some 10000000))

meeting_goes : (journal : List JournalEntry) × Runs one Meet journal m6
meeting_goes =
    let r0 : Runs one Meet [] (opening one) = opens Meet tt in
    let r1 =
    goes_on {t = m1} (Start a (Some 9000000)) r0
    (record {
      does = record {
        within = omega arith;
        next = refl;
        at = 9000000;
        reading_is = refl;
        shows = (refl, least_by one (opening one) 9000000 refl);
      };
      taken = none_by one (opening one) 0 (Some 9000000) refl;
      awaited = tt;
    })
    (record { going = refl; allowed = refl; state = refl }) in
    let r2 =
    goes_on {t = m2} (Start b (Some 9000000)) r1
    (record {
      does = record {
        within = omega arith;
        next = refl;
        at = 9000000;
        reading_is = refl;
        shows = (refl, least_by one m1 9000000 refl);
      };
      taken = none_by one m1 1 (Some 9000000) refl;
      awaited = tt;
    }) (record { going = refl; allowed = refl; state = refl }) in
    let r3 = goes_on {t = m3} (Finish a) r2 (omega arith) (record { going = refl; allowed = refl; state = refl }) in
    let r4 = goes_on {t = m4} (Finish b) r3 (omega arith) (record { going = refl; allowed = refl; state = refl }) in
    let r5 =
    goes_on {t = m5} (Send a (Some 10000000)) r4 (
      0,
      record {
        within = omega arith;
        next = refl;
        at = 10000000;
        reading_is = refl;
        shows = (refl, least_by one m4 10000000 refl);
      },
    ) (record { going = refl; allowed = refl; state = refl }) in
    let r6 =
    goes_on {t = m6} (Send b (Some 10000000)) r5 (
      0,
      record {
        within = omega arith;
        next = refl;
        at = 10000000;
        reading_is = refl;
        shows = (refl, least_by one m5 10000000 refl);
      },
    ) (record { going = refl; allowed = refl; state = refl }) in
    (_, r6)

all_done : (node : ℕ) → node < 2 → (node_at m6 node).phase ≡ Done
all_done zero within = refl
all_done (suc zero) within = refl
all_done (suc (suc node)) within = absurd (omega arith)

pub some_meeting_ends : SomeMeetingEnds
some_meeting_ends = (meeting_goes.0, m6, meeting_goes.1, all_done)

-- ---- lists
abbrev two : Run
two = counters_for 2

abbrev short : ClockState
short = unpicked (9000000 ∷ [])

abbrev long : ClockState
long = unpicked (9000000 ∷ 10000000 ∷ 18000000 ∷ 19000000 ∷ [])

abbrev c0 : List ClockState
c0 = short ∷ long ∷ []

abbrev c1 : List ClockState
c1 = short ∷ standing_at long (10000000 ∷ 18000000 ∷ 19000000 ∷ []) ∷ []

abbrev c2 : List ClockState
c2 = short ∷ standing_at long (18000000 ∷ 19000000 ∷ []) ∷ []

abbrev l1 : BusState
l1 = after two (opening two) (Start a (Some 9000000))

abbrev l2 : BusState
l2 = after two l1 (Start b (Some 9000000))

abbrev l3 : BusState
l3 = after two l2 (Finish a)

abbrev l4 : BusState
l4 = after two l3 (Finish b)

abbrev l5 : BusState
l5 = after two l4 (Send b (Some 10000000))

abbrev l6 : BusState
l6 = after two l5 (Start b (Some 18000000))

few_rise : (n : ℕ) → IsNonDecreasing (n ∷ [])
few_rise n zero zero d le within = omega arith
few_rise n zero (suc j) d le within = absurd (omega arith)
few_rise n (suc i) zero d le within = absurd (omega arith)
few_rise n (suc i) (suc j) d le within = absurd (omega arith)

more_rise : (n m : ℕ) (ns : List ℕ) → n ≤ m → IsNonDecreasing (m ∷ ns) → IsNonDecreasing (n ∷ m ∷ ns)
more_rise n m ns less order zero zero d le within = omega arith
more_rise n m ns less order zero (suc j) d le within = let first =
    order 0 j d (omega arith) (omega arith) in omega arith
more_rise n m ns less order (suc i) zero d le within = absurd (omega arith)
more_rise n m ns less order (suc i) (suc j) d le within = order i j d (omega arith) (omega arith)

lefts : (node : ℕ) → node < 2 → (clock_at c0 node).left ≡ (clock_at c0 node).readings
lefts zero within = refl
lefts (suc zero) within = refl
lefts (suc (suc node)) within = absurd (omega arith)

orders : (node : ℕ) → node < 2 → IsNonDecreasing (clock_at c0 node).readings
orders zero within = few_rise 9000000
orders (suc zero) within =
    more_rise 9000000 10000000 (18000000 ∷ 19000000 ∷ []) (omega arith)
    (more_rise 10000000 18000000 (19000000 ∷ []) (omega arith)
    (more_rise 18000000 19000000 [] (omega arith) (few_rise 19000000)))
orders (suc (suc node)) within = absurd (omega arith)

-- no round was started before, so each source has sent the awaited rounds
none_awaited : (s : BusState) (node : ℕ) (clocks : List ClockState) → (node_at s node).count ≡ 0
    → IsAwaited two (Lists clocks) s node
none_awaited s node clocks none = λ link l is to. inl (omega arith)

abbrev target_in : Option Link → ℕ
target_in None = 0
target_in (Some l) = l.target.0

abbrev source_in : Option Link → ℕ
source_in None = 0
source_in (Some l) = l.source.0

-- the source of the link into the second counter is at its list's end
a_ended : IsAwaited two (Lists c2) l5 1
a_ended zero l is to = absurd (let target : 0 ≡ l.target.0 = ap (λ (o : Option Link). target_in o) is in omega arith)
a_ended (suc zero) l is to =
    inr (subst (HasEnded two c2 l5) (ap (λ (o : Option Link). source_in o) is) (action.Send 0, refl, refl))
a_ended (suc (suc link)) l is to = absurd (cc)

list_goes : (journal : List JournalEntry) × Runs two (Lists c2) journal l6
list_goes =
    let r0 : Runs two (Lists c0) [] (opening two) =
    opens (Lists c0) (record { count = refl; each = lefts; order = orders }) in
    let r1 =
    goes_on {t = l1} (Start a (Some 9000000)) r0
    (record {
      does = record {
        within = omega arith;
        next = refl;
        at = 9000000;
        reading_is = refl;
        shows = (refl, omega arith);
      };
      taken = none_by two (opening two) 0 (Some 9000000) refl;
      awaited = none_awaited (opening two) 0 c0 refl;
    })
    (record { going = refl; allowed = refl; state = refl }) in
    let r2 =
    goes_on {t = l2} (Start b (Some 9000000)) r1
    (record {
      does = record {
        within = omega arith;
        next = refl;
        at = 9000000;
        reading_is = refl;
        shows = (refl, omega arith);
      };
      taken = none_by two l1 1 (Some 9000000) refl;
      awaited = none_awaited l1 1 c0 refl;
    }) (record { going = refl; allowed = refl; state = refl }) in
    let r3 = goes_on {t = l3} (Finish a) r2 (omega arith) (record { going = refl; allowed = refl; state = refl }) in
    let r4 = goes_on {t = l4} (Finish b) r3 (omega arith) (record { going = refl; allowed = refl; state = refl }) in
    let p1 =
    picks_for {later = c1} 1 r4
    (record { within = omega arith; action = action.Send 0; next = refl; clocks_are = refl }) in
    let r5 =
    goes_on {t = l5} (Send b (Some 10000000)) p1
    (0, record { within = omega arith; next = refl; at = 10000000; reading_is = refl; shows = (refl, omega arith) })
    (record { going = refl; allowed = refl; state = refl }) in
    let p2 =
    picks_for {later = c2} 1 r5
    (record { within = omega arith; action = action.Start 1; next = refl; clocks_are = refl }) in
    let r6 =
    goes_on {t = l6} (Start b (Some 18000000)) p2
    (record {
      does = record {
        within = omega arith;
        next = refl;
        at = 18000000;
        reading_is = refl;
        shows = (refl, omega arith);
      };
      taken = none_by two l5 1 (Some 18000000) refl;
      awaited = a_ended;
    })
    (record { going = refl; allowed = refl; state = refl }) in
    (_, r6)

pub some_list_ends : SomeListEnds
some_list_ends = (c2, list_goes.0, l6, list_goes.1, refl)
