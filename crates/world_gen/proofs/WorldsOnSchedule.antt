-- A world that has come along its schedule up to a time: of each kind, the events that come before it are made, and
-- no others.
use Rattle.std.proofs.Common.{◌≡◌, ◌≢◌, inl, inr, ℕ, zero, suc, ◌+◌, ◌-◌, ◌*◌, ◌<◌, ◌≤◌, Bool, true, List, [], ◌∷◌}
use Rattle.std.proofs.Common.{◌++◌, length, Option, Some, None, refl, sym, ap, ◌∙◌, subst, arith}
use Rattle.std.specs.Prelude.{nat_lt, flat_map, if◌then◌else◌, slice_index_or}
use Rattle.std.proofs.lemmas.Bool.{cases_eq, cases_lt, lt-ltb, le-ltb}
use Rattle.pals_base.specs.PeriodBoundAndReleases.{alarm}
use Rattle.pals_model.specs.declared.flight_copy.FlightCopy.{FlightCopy}
use Rattle.pals_runs.specs.declared.events_and_faults.Event.{Event}
use Rattle.pals_runs.specs.declared.phase.Phase.{Phase}
use Rattle.pals_runs.specs.declared.phase.Phase.TheVariants.{Waiting, Running, Between, Holding, Done}
use Rattle.bus_machine.specs.Plans.{plan_of, link_at}
use Rattle.bus_machine.specs.Nodes.{NodeState, round_of, sent_rounds}
use Rattle.bus_machine.specs.NodeEvents.{may_send}
use Rattle.pals_base.specs.UpwardNumbers.{upwards}
use Rattle.bus_machine.specs.BusStates.{BusState, node_at, flight_at, with_node}
use Rattle.bus_machine.specs.RunParameters.{Run}
use Rattle.bus_machine.specs.MissedMessages.{rounds_sent_on}
use Rattle.bus_machine.proofs.NodeReplacement.{keeps_at}
use Rattle.run_laws.specs.Worlds.{World, reading_at, since_at, ready_at, sendings, world_after}
use Rattle.run_laws.specs.EventFaults.{fault_of}
use Rattle.run_laws.specs.EventLists.{IsWithin, world_left}
use Rattle.run_laws.specs.proof.WorldInvariant.{copies, KeepsTime}
use Rattle.world_gen.specs.proof.Schedules.{step_time, finish_time, send_time, arrive_time, step_count, event_list}
use Rattle.world_gen.specs.proof.Schedules.{all_of}
use Rattle.run_laws.proofs.LocalWorldChanges.{changed, ChangesAt}
use Rattle.world_gen.proofs.ScheduleTimes.{CountBefore}

-- ---- how many steps a node has begun, and how many it has finished, through all rounds
abbrev pub begun_by : ℕ → ℕ → Phase → ℕ
begun_by rate count Waiting = count * rate
begun_by rate count (Running step) = (count - 1) * rate + step + 1
begun_by rate count (Between steps) = (count - 1) * rate + steps
begun_by rate count Holding = count * rate
begun_by rate count Done = count * rate

abbrev pub ended_by : ℕ → ℕ → Phase → ℕ
ended_by rate count Waiting = count * rate
ended_by rate count (Running step) = (count - 1) * rate + step
ended_by rate count (Between steps) = (count - 1) * rate + steps
ended_by rate count Holding = count * rate
ended_by rate count Done = count * rate

-- ---- a node
pub record NodeOnSchedule (run : Run) (node : ℕ) (n : NodeState) (since ready : ℕ) (moments : List ℕ)
    (finishes starts sends : ℕ) : Type 0 where
  pub begun : CountBefore (step_time run.design node) (step_count run.design run.rounds node)
      (begun_by (plan_of run.design node).rate n.count n.phase) starts
  pub ended : CountBefore (finish_time run.design node) (step_count run.design run.rounds node)
      (ended_by (plan_of run.design node).rate n.count n.phase) finishes
  pub sent : CountBefore (send_time run.design node) run.rounds (sent_rounds n) sends
  pub since_is : (step : ℕ) → n.phase ≡ Running step
      → since ≡ step_time run.design node (ended_by (plan_of run.design node).rate n.count n.phase)
  pub ready_is : may_send (plan_of run.design node) n ≡ true
      → ready ≡ alarm run.design.period (round_of n)
      + ((plan_of run.design node).sent_steps - 1) * (plan_of run.design node).step_period
      + run.design.gamma.alpha_min
  pub moments_are : (round : ℕ) → round < sent_rounds n
      → slice_index_or moments round 0 ≡ send_time run.design node round

-- ---- a link
-- each message that its source has sent is in flight until it comes
pub record LinkOnSchedule (run : Run) (number sent : ℕ) (flight : List FlightCopy) (arrivals : ℕ) : Type 0 where
  pub waits : (round : ℕ) → 1 ≤ copies round flight → arrivals ≤ arrive_time run.design number round
  pub flies : (round : ℕ) → round < sent → arrivals ≤ arrive_time run.design number round → 1 ≤ copies round flight

-- ---- the world, with a time for each node's finishes, starts and sends and for each link's arrivals
pub record IsOnSchedule (run : Run) (w : World) (moment : ℕ) (finishes starts sends arrivals : ℕ → ℕ) : Type 0 where
  pub keeps : KeepsTime run w
  pub time : w.time ≡ moment
  pub readings : (node : ℕ) → node < length run.design.components → reading_at w node ≡ moment
  pub nodes : (node : ℕ) → node < length run.design.components
      → NodeOnSchedule run node (node_at w.bus node) (since_at w node) (ready_at w node) (sendings w node)
      (finishes node)
      (starts node) (sends node)
  pub links : (number : ℕ) → number < length run.design.links
      → LinkOnSchedule run number (rounds_sent_on run w.bus number) (flight_at w.bus number) (arrivals number)

-- ---- lists of events
-- they are within the bounds, and leave such a world
pub record LeadsWithin (run : Run) (w : World) (events : List Event) (P : World → Type 0) : Type 0 where
  pub within : IsWithin run w events
  pub leaves : P (world_left run w events)

pub runs_none : (run : Run) (w : World) (P : World → Type 0) → P w → LeadsWithin run w [] P
runs_none run w P holds = record { within = tt; leaves = holds }

pub runs_one : (run : Run) (w : World) (e : Event) (P : World → Type 0) → fault_of run w e ≡ None
    → P (world_after run w e) → LeadsWithin run w (e ∷ []) P
runs_one run w e P none holds = record { within = (none, tt); leaves = holds }

pub runs_on : (run : Run) (w : World) (events more : List Event) (P Q : World → Type 0) → LeadsWithin run w events P
    → ((v : World) → P v → LeadsWithin run v more Q) → LeadsWithin run w (events ++ more) Q
runs_on run w [] more P Q first go = go w first.leaves
runs_on run w (e ∷ events) more P Q first go =
    let rest =
    runs_on run (world_after run w e) events more P Q
    (record { within = first.within.1; leaves = first.leaves }) go in
    record { within = (first.within.0, rest.within); leaves = rest.leaves }

runs_from : (run : Run) (f : ℕ → List Event) (P : ℕ → World → Type 0) (from n last : ℕ) → last ≡ from + n
    → ((j : ℕ) (v : World) → j < last → P j v → LeadsWithin run v (f j) (P (suc j))) → (w : World) → P from w
    → LeadsWithin run w (flat_map f (upwards from n)) (P last)
runs_from run f P from zero last is each w holds =
    runs_none run w (P last) (let same : from ≡ last = omega arith in subst (λ j. P j w) same holds)
runs_from run f P from (suc n) last is each w holds =
    runs_on run w (f from) (flat_map f (upwards (suc from) n)) (P (suc from)) (P last) (each from w (omega arith) holds)
    (λ v after. runs_from run f P (suc from) n last (omega arith) each v after)

pub runs_all : (run : Run) (count : ℕ) (f : ℕ → List Event) (P : ℕ → World → Type 0)
    → ((j : ℕ) (v : World) → j < count → P j v → LeadsWithin run v (f j) (P (suc j)))
    → (w : World) → P 0 w → LeadsWithin run w (all_of count f) (P count)
runs_all run count f P each w holds = runs_from run f P 0 count count (omega arith) each w holds

-- the one event that occurs, or `None`
pub runs_event : (run : Run) (w : World) (o : Option ℕ) (e : ℕ → Event) (P : World → Type 0) → (o ≡ None → P w)
    → ((number : ℕ) → o ≡ Some number → (fault_of run w (e number) ≡ None) × P (world_after run w (e number)))
    → LeadsWithin run w (event_list o e) P
runs_event run w None e P quiet comes = runs_none run w P (quiet refl)
runs_event run w (Some number) e P quiet comes = let it = comes number refl in runs_one run w (e number) P it.0 it.1

-- ---- one node changes
module _ (run : Run) (w : World) (bus : BusState) (since ready : List ℕ) (sent_at : List (List ℕ)) where
  -- what the other nodes were, they are
  pub nodes_follow : (node moment : ℕ) (finishes starts sends arrivals finishes_now starts_now sends_now : ℕ → ℕ)
      → IsOnSchedule run w moment finishes starts sends arrivals
      → ChangesAt w bus since ready sent_at node
      → ((k : ℕ) → k ≢ node → (finishes_now k ≡ finishes k) × (starts_now k ≡ starts k) × (sends_now k ≡ sends k))
      → NodeOnSchedule run node (node_at bus node) (slice_index_or since node 0) (slice_index_or ready node 0)
      (slice_index_or sent_at node []) (finishes_now node) (starts_now node) (sends_now node)
      → (k : ℕ) → k < length run.design.components
      → NodeOnSchedule run k (node_at bus k) (slice_index_or since k 0) (slice_index_or ready k 0)
      (slice_index_or sent_at k []) (finishes_now k) (starts_now k) (sends_now k)
  nodes_follow node moment finishes starts sends arrivals finishes_now starts_now sends_now follows changes same here k
      within = elim (cases_eq k node) [
        | inl is ↦
            subst (λ j. NodeOnSchedule run j (node_at bus j) (slice_index_or since j 0) (slice_index_or ready j 0)
            (slice_index_or sent_at j []) (finishes_now j) (starts_now j) (sends_now j)) (sym is) here
        | inr other ↦
            let before = follows.nodes k within in
            let one : NodeOnSchedule run k (node_at bus k) (since_at w k) (ready_at w k) (sendings w k) (finishes k)
            (starts k) (sends k) =
            subst (λ (n : NodeState).
            NodeOnSchedule run k n (since_at w k) (ready_at w k) (sendings w k) (finishes k) (starts k) (sends k))
            (sym (changes.nodes k other)) before in
            let two : NodeOnSchedule run k (node_at bus k) (slice_index_or since k 0) (ready_at w k) (sendings w k)
            (finishes k) (starts k) (sends k) =
            subst (λ x. NodeOnSchedule run k (node_at bus k) x (ready_at w k) (sendings w k) (finishes k) (starts k)
            (sends k))
            (sym (changes.since_stays k other)) one in
            let three : NodeOnSchedule run k (node_at bus k) (slice_index_or since k 0) (slice_index_or ready k 0)
            (sendings w k) (finishes k) (starts k) (sends k) =
            subst (λ x. NodeOnSchedule run k (node_at bus k) (slice_index_or since k 0) x (sendings w k) (finishes k)
            (starts k) (sends k)) (sym (changes.ready_stays k other)) two in
            let four : NodeOnSchedule run k (node_at bus k) (slice_index_or since k 0) (slice_index_or ready k 0)
            (slice_index_or sent_at k []) (finishes k) (starts k) (sends k) =
            subst (λ x. NodeOnSchedule run k (node_at bus k) (slice_index_or since k 0) (slice_index_or ready k 0) x
            (finishes k) (starts k) (sends k)) (sym (changes.sent_stays k other)) three in
            let five : NodeOnSchedule run k (node_at bus k) (slice_index_or since k 0) (slice_index_or ready k 0)
            (slice_index_or sent_at k []) (finishes_now k) (starts k) (sends k) =
            subst (λ x. NodeOnSchedule run k (node_at bus k) (slice_index_or since k 0) (slice_index_or ready k 0)
            (slice_index_or sent_at k []) x (starts k) (sends k)) (sym (same k other).0) four in
            let six : NodeOnSchedule run k (node_at bus k) (slice_index_or since k 0) (slice_index_or ready k 0)
            (slice_index_or sent_at k []) (finishes_now k) (starts_now k) (sends k) =
            subst (λ x. NodeOnSchedule run k (node_at bus k) (slice_index_or since k 0) (slice_index_or ready k 0)
            (slice_index_or sent_at k []) (finishes_now k) x (sends k)) (sym (same k other).1) five in
            subst (λ x. NodeOnSchedule run k (node_at bus k) (slice_index_or since k 0) (slice_index_or ready k 0)
            (slice_index_or sent_at k []) (finishes_now k) (starts_now k) x) (sym (same k other).2) six
      ]

  pub follows_again : (node moment : ℕ) (finishes starts sends arrivals finishes_now starts_now sends_now : ℕ → ℕ)
      → IsOnSchedule run w moment finishes starts sends arrivals
      → KeepsTime run (changed w bus since ready sent_at) → ChangesAt w bus since ready sent_at node
      → ((k : ℕ) → k ≢ node → (finishes_now k ≡ finishes k) × (starts_now k ≡ starts k) × (sends_now k ≡ sends k))
      → NodeOnSchedule run node (node_at bus node) (slice_index_or since node 0) (slice_index_or ready node 0)
      (slice_index_or sent_at node []) (finishes_now node) (starts_now node) (sends_now node)
      → ((number : ℕ) → number < length run.design.links
      → LinkOnSchedule run number (rounds_sent_on run bus number) (flight_at bus number) (arrivals number))
      → IsOnSchedule run (changed w bus since ready sent_at) moment finishes_now starts_now sends_now arrivals
  follows_again node moment finishes starts sends arrivals finishes_now starts_now sends_now follows keeps changes same
      here links = record {
        keeps = keeps;
        time = follows.time;
        readings = follows.readings;
        nodes =
            nodes_follow node moment finishes starts sends arrivals finishes_now starts_now sends_now follows
            changes same here;
        links = links;
      }

-- the node that changes, by its new state
pub follows_put : (run : Run) (node : ℕ) (n m : NodeState) (since at_since ready at_ready : ℕ)
    (moments at_moments : List ℕ) (finishes starts sends : ℕ)
    → NodeOnSchedule run node m at_since at_ready at_moments finishes starts sends → n ≡ m → since ≡ at_since
    → ready ≡ at_ready → moments ≡ at_moments
    → NodeOnSchedule run node n since ready moments finishes starts sends
follows_put run node n m since at_since ready at_ready moments at_moments finishes starts sends follows is_n is_since
    is_ready is_moments =
    let one : NodeOnSchedule run node n at_since at_ready at_moments finishes starts sends =
    subst (λ (x : NodeState). NodeOnSchedule run node x at_since at_ready at_moments finishes starts sends)
    (sym is_n) follows in
    let two : NodeOnSchedule run node n since at_ready at_moments finishes starts sends =
    subst (λ x. NodeOnSchedule run node n x at_ready at_moments finishes starts sends) (sym is_since) one in
    let three : NodeOnSchedule run node n since ready at_moments finishes starts sends =
    subst (λ x. NodeOnSchedule run node n since x at_moments finishes starts sends) (sym is_ready) two in
    subst (λ x. NodeOnSchedule run node n since ready x finishes starts sends) (sym is_moments) three

-- a node whose sent rounds stay, and no flight changes
pub links_follow : (run : Run) (w : World) (node moment : ℕ) (m : NodeState) (finishes starts sends arrivals : ℕ → ℕ)
    → IsOnSchedule run w moment finishes starts sends arrivals
    → sent_rounds m ≡ sent_rounds (node_at w.bus node) → (number : ℕ) → number < length run.design.links
    → LinkOnSchedule run number (rounds_sent_on run (with_node w.bus node m) number)
    (flight_at (with_node w.bus node m) number) (arrivals number)
links_follow run w node moment m finishes starts sends arrivals follows same number within =
    subst (λ k. LinkOnSchedule run number k (flight_at w.bus number) (arrivals number))
    (sym (keeps_at (λ (n : NodeState). sent_rounds n) w.bus node (link_at run.design number).source.0 m same))
    (follows.links number within)

-- ---- one after another
-- the time of the nodes below a number has advanced
abbrev pub bump : ℕ → ℕ → ℕ → ℕ
bump moment done k = if nat_lt k done then suc moment else moment

pub bump_done : (moment done k : ℕ) → k < done → bump moment done k ≡ suc moment
bump_done moment done k below = ap (λ (b : Bool). if b then suc moment else moment) (lt-ltb k done below)

pub bump_left : (moment done k : ℕ) → done ≤ k → bump moment done k ≡ moment
bump_left moment done k above = ap (λ (b : Bool). if b then suc moment else moment) (le-ltb k done above)

pub bump_other : (moment done k : ℕ) → k ≢ done → bump moment (suc done) k ≡ bump moment done k
bump_other moment done k other = elim (cases_lt k done) [
  | inl below ↦ bump_done moment (suc done) k (omega arith) ∙ sym (bump_done moment done k below)
  | inr above ↦ bump_left moment (suc done) k (omega arith) ∙ sym (bump_left moment done k above)
]
