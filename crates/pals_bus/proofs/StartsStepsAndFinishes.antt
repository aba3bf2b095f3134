-- The events of a node that leave the messages in flight as they are: a start, a step, a finish.
use Rattle.std.proofs.Common.{◌≡◌, ◌∙◌, ℕ, ◌+◌, ◌<◌, ◌≤◌, true, false, List, [], ◌∷◌, ◌++◌, length, Option, Some, None}
use Rattle.std.proofs.Common.{refl, sym, ap, subst, arith, length-append}
use Rattle.std.specs.Prelude.{sum_by, slice_set, slice_index_or, vec_capacity}
use Rattle.std.specs.Option.{unwrap_or}
use Rattle.std.specs.Arc.{arc_value}
use Rattle.pals_base.specs.declared.basic_types.PortValue.{PortValue}
use Rattle.pals_base.specs.declared.basic_types.NodeNo.{NodeNo}
use Rattle.pals_model.specs.ComponentInputs.{values_at}
use Rattle.pals_runs.specs.declared.journal.JournalEntry.{JournalEntry}
use Rattle.pals_runs.specs.declared.journal.JournalEntry.TheVariants as entry
use Rattle.pals_runs.specs.declared.journal.Stop.{Stop}
use Rattle.bus_machine.specs.Plans.{plan_of}
use Rattle.bus_machine.specs.Nodes.{NodeState, round_of}
use Rattle.bus_machine.specs.NodeEvents.{started, next_step, stepped, finished}
use Rattle.bus_machine.specs.BusStates.{BusState, node_at, with_node}
use Rattle.bus_machine.specs.MissedMessages.{link_into}
use Rattle.bus_machine.specs.Machine.{BusEvent, Start, Step, Finish, is_allowed, after, missed_stop}
use Rattle.bus_machine.specs.Replay.{Replays, goes_on, entries, start_entry}
use Rattle.bus_machine.proofs.NodeEventLocalAgreement.{finish_keeps}
use Rattle.pals_node.specs.declared.refusals.StartEnd.TheVariants as start
use Rattle.pals_node.specs.proof.NodeAndJobValues.{NodeValue, JobValue, with_state}
use Rattle.pals_node.specs.proof.Answers.{Starts, StartEnds, Steps, Finishes}
use Rattle.pals_bus.specs.declared.bus_fields.BusFields.{BusFields}
use Rattle.pals_bus.specs.proof.NodeLists.{node_value}
use Rattle.pals_bus.specs.BusValues.{Happens}
use Rattle.pals_bus.specs.proof.Answers.{StartsRound, MissesMessage, StepsOn}
use Rattle.pals_bus.specs.proof.BusInvariant.{HasRooms, IsBusInvariant, owed, run_of, state_of, value_of, copies_in}
use Rattle.pals_bus.specs.proof.RoundMessages.{HasRoomFor}
use Rattle.pals_bus.specs.proof.DueQueues.{AreQueues, HasQueueRoomFor}
use Rattle.pals_bus.specs.proof.OutOfRangeDefaults.{no_node_value}
use Rattle.pals_bus.proofs.NodeChanges.{nodes-set, node_is, same_node}
use Rattle.pals_bus.proofs.OwedEntries.{owed_more, owed_less, owed_finished}
use Rattle.pals_bus.proofs.FlightRooms.{rooms-set}
use Rattle.pals_bus.proofs.QueueChanges.{few_into, queues_started, queues-set}
use Rattle.pals_bus.proofs.EventInvariants.{node_happens}
use Rattle.pals_bus.proofs.EventEffects.{start_after, start_told, missed_told, missed_after, start_allowed}
use Rattle.pals_bus.proofs.EventEffects.{step_allowed, step_after, finish_allowed, finish_after}
use Rattle.pals_bus.proofs.ChangedNodeValues.{turn_shown}

-- ---- any of them
node_event : (f g : BusFields) (e : BusEvent) (node : ℕ) (m : NodeValue) (s : NodeState) → IsBusInvariant f
    → f.stop ≡ None
    → node < length f.nodes → m ≡ with_state (node_value (value_of f) node) s
    → g ≡ record f { nodes = slice_set f.nodes node m; journal = g.journal }
    → is_allowed (run_of f) (state_of f) e ≡ true → after (run_of f) (state_of f) e ≡ with_node (state_of f) node s
    → g.journal.items ≡ f.journal.items ++ entries (run_of f) (state_of f) e → Happens (value_of f) e (value_of g)
node_event f g e node m s keeps going within is same allowed after_is told =
    subst (Happens (value_of f) e) (sym (ap value_of same))
    (node_happens f e node m s f.flights (copies_in f.flights) f.stop g.journal.items keeps going within is refl
    allowed after_is told)

node_keeps : (f g : BusFields) (e : BusEvent) (node : ℕ) (m : NodeValue) (s : NodeState) → IsBusInvariant f
    → node < length f.nodes
    → m ≡ with_state (node_value (value_of f) node) s
    → g ≡ record f { nodes = slice_set f.nodes node m; journal = g.journal }
    → HasRooms (arc_value f.design).links (slice_set f.nodes node m) f.flights
    → AreQueues (arc_value f.design).links (slice_set f.nodes node m) f.flights f.queues
    → Happens (value_of f) e (value_of g)
    → length g.journal.items + sum_by owed (slice_set f.nodes node m) ≤ vec_capacity g.journal → IsBusInvariant g
node_keeps f g e node m s keeps within is same rooms queues happens place =
    let h : BusFields = record f { nodes = slice_set f.nodes node m; journal = g.journal } in
    let step : Happens (value_of f) e (value_of h) =
    subst (λ (k : BusFields). Happens (value_of f) e (value_of k)) same happens in
    let all : IsBusInvariant h = record {
      design = keeps.design;
      outgoing = keeps.outgoing;
      rounds = keeps.rounds;
      delays = keeps.delays;
      values = keeps.values;
      nodes =
          nodes-set (arc_value f.design) f.rounds f.nodes node m keeps.nodes within
          (same_node f node m s keeps within is);
      flight_count = keeps.flight_count;
      rooms = rooms;
      queues = queues;
      replays = subst (λ j. Replays (run_of f) j (state_of h)) (sym step.journal) (goes_on e keeps.replays step.step);
      place = place;
    } in
    subst IsBusInvariant (sym same) all

-- one more entry
pub longer : (new old : List JournalEntry) (x : JournalEntry) → new ≡ old ++ x ∷ [] → length new ≡ length old + 1
longer new old x is = ap length is ∙ length-append old (x ∷ [])

-- ---- Start
pub start_happens : (f g : BusFields) (node : NodeNo) (reading : Option ℕ) (m : NodeValue)
    (values : List PortValue) (round : ℕ)
    (job : JobValue) → IsBusInvariant f → f.stop ≡ None → node.0 < length f.nodes
    → Starts (node_value (value_of f) node.0) values reading m job → round ≡ (node_at (state_of f) node.0).count
    → values ≡ values_at f.env round
    → g ≡ record f { nodes = slice_set f.nodes node.0 m; journal = g.journal }
    → g.journal.items ≡ f.journal.items ++ entry.Start node round reading ∷ []
    → StartsRound (value_of f) node reading (value_of g) job
start_happens f g node reading m values round job keeps going within starts round_is values_is same told =
    let run = run_of f in
    let s = state_of f in
    let n = node_at s node.0 in
    let plan = plan_of run.design node.0 in
    let all : Starts (node_value (value_of f) node.0) (values_at f.env n.count) reading m job =
    subst (λ (vs : List PortValue). Starts (node_value (value_of f) node.0) vs reading m job)
    (values_is ∙ ap (values_at f.env) round_is) starts in
    let tells : g.journal.items ≡ f.journal.items ++ entries run s (Start node reading) =
    told
    ∙ ap (λ r. f.journal.items ++ entry.Start node r reading ∷ []) round_is
    ∙ ap (λ (o : Option ℕ). f.journal.items ++ start_entry run s node reading o ∷ [])
    (sym (start_told run s node all.full)) in
    record {
      happens =
          node_event f g (Start node reading) node.0 m (started plan (values_at f.env n.count) n) keeps going within
          all.state same (start_allowed run s node reading all.waits)
          (start_after run s node reading all.full) tells;
      node_starts =
          subst (λ (k : NodeValue). Starts (node_value (value_of f) node.0) (values_at f.env n.count) reading k job)
          (sym (turn_shown f g node.0 m (started plan (values_at f.env n.count) n) keeps within all.state same)) all;
    }

pub start_keeps : (f g : BusFields) (node : NodeNo) (reading : Option ℕ) (m : NodeValue)
    (values : List PortValue) (round : ℕ)
    (job : JobValue) → IsBusInvariant f → node.0 < length f.nodes
    → Starts (node_value (value_of f) node.0) values reading m job
    → g ≡ record f { nodes = slice_set f.nodes node.0 m; journal = g.journal }
    → g.journal.items ≡ f.journal.items ++ entry.Start node round reading ∷ []
    → StartsRound (value_of f) node reading (value_of g) job
    → HasRoomFor node.0 (length (arc_value f.design).links) (arc_value f.design).links f.flights
    → HasQueueRoomFor node.0 (arc_value f.design).links f.queues
    → length f.journal.items + sum_by owed f.nodes + 4 ≤ vec_capacity f.journal
    → vec_capacity g.journal ≡ vec_capacity f.journal → IsBusInvariant g
start_keeps f g node reading m values round job keeps within starts same told happens room queue_room place capacity =
    let links = (arc_value f.design).links in
    let n = node_at (state_of f) node.0 in
    let more = owed_more f.nodes node.0 m within in
    let size = longer g.journal.items f.journal.items (entry.Start node round reading) told in
    node_keeps f g (Start node reading) node.0 m (started (plan_of (arc_value f.design) node.0) values n) keeps within
    starts.state same
    (rooms-set links f.nodes f.flights f.flights node.0 m within keeps.rooms (λ number link is other. omega arith)
    (λ unsent. room))
    (queues_started links f.nodes f.flights f.queues node.0 m keeps.queues (few_into (arc_value f.design) keeps.design)
    queue_room) happens.happens (omega (arith, more, size, place, capacity))

-- ---- a start that misses a message
pub start_misses : (f g : BusFields) (node : NodeNo) (reading : Option ℕ) (port : ℕ) (why : Stop) → IsBusInvariant f
    → f.stop ≡ None
    → StartEnds (node_value (value_of f) node.0) reading (start.Missed port)
    → why ≡ missed_stop (run_of f) (state_of f) node reading (link_into (arc_value f.design) node.0 port)
    → g ≡ record f { stop = Some why; journal = g.journal }
    → g.journal.items ≡ f.journal.items ++ entry.Stopped why ∷ []
    → MissesMessage (value_of f) node reading (value_of g) why
start_misses f g node reading port why keeps going misses is same told =
    let run = run_of f in
    let s = state_of f in
    let value = ap value_of same in
    record {
      happens = subst (Happens (value_of f) (Start node reading)) (sym value) (record {
        step = record {
          going = going;
          allowed = start_allowed run s node reading misses.0;
          state =
              ap (λ (w : Stop). let t : BusState = record s { stop = Some w } in t) is
              ∙ sym (missed_after run s node reading port misses.2);
        };
        journal =
            told
            ∙ ap (λ (w : Stop). f.journal.items ++ entry.Stopped w ∷ []) is
            ∙ ap (λ (o : Option ℕ). f.journal.items ++ start_entry run s node reading o ∷ [])
            (sym (missed_told run s node port misses.2));
        others = refl;
      });
      port = port;
      misses = misses;
      stops = ap (λ (k : BusFields). k.stop) same;
    }

pub miss_keeps : (f g : BusFields) (node : NodeNo) (reading : Option ℕ) (why : Stop) → IsBusInvariant f
    → MissesMessage (value_of f) node reading (value_of g) why → g ≡ record f { stop = Some why; journal = g.journal }
    → g.journal.items ≡ f.journal.items ++ entry.Stopped why ∷ []
    → length f.journal.items + sum_by owed f.nodes + 4 ≤ vec_capacity f.journal
    → vec_capacity g.journal ≡ vec_capacity f.journal → IsBusInvariant g
miss_keeps f g node reading why keeps misses same told place capacity =
    let h : BusFields = record f { stop = Some why; journal = g.journal } in
    let step : Happens (value_of f) (Start node reading) (value_of h) =
    subst (λ (k : BusFields). Happens (value_of f) (Start node reading) (value_of k)) same misses.happens in
    let size = longer g.journal.items f.journal.items (entry.Stopped why) told in
    let all : IsBusInvariant h = record {
      design = keeps.design;
      outgoing = keeps.outgoing;
      rounds = keeps.rounds;
      delays = keeps.delays;
      values = keeps.values;
      nodes = keeps.nodes;
      flight_count = keeps.flight_count;
      rooms = keeps.rooms;
      queues = keeps.queues;
      replays =
          subst (λ j. Replays (run_of f) j (state_of h)) (sym step.journal)
          (goes_on (Start node reading) keeps.replays step.step);
      place = omega (arith, size, place, capacity);
    } in
    subst IsBusInvariant (sym same) all

-- ---- Step
pub step_happens : (f g : BusFields) (node : NodeNo) (reading : Option ℕ) (m : NodeValue) (job : JobValue)
    → IsBusInvariant f
    → f.stop ≡ None → node.0 < length f.nodes → Steps (node_value (value_of f) node.0) reading m job
    → g ≡ record f { nodes = slice_set f.nodes node.0 m; journal = g.journal }
    → g.journal.items ≡ f.journal.items ++ entry.Step node job.work.round job.work.step reading ∷ []
    → StepsOn (value_of f) node reading (value_of g) job
step_happens f g node reading m job keeps going within steps same told =
    let run = run_of f in
    let s = state_of f in
    let n = node_at s node.0 in
    let round : job.work.round ≡ round_of n = ap (λ (j : JobValue). j.work.round) steps.job_is
    ∙ ap (λ (k : NodeValue). round_of k.state) steps.state in
    let step : job.work.step ≡ unwrap_or (next_step n.phase) 0 = ap (λ (j : JobValue). j.work.step) steps.job_is
    ∙ sym (ap (λ p. unwrap_or (next_step p) 0) steps.between) in
    record {
      happens =
          node_event f g (Step node reading) node.0 m (stepped steps.next n) keeps going within steps.state same
          (step_allowed run s node reading steps.next steps.between)
          (step_after run s node reading steps.next steps.between)
          (told ∙ ap (λ r. f.journal.items ++ entry.Step node r job.work.step reading ∷ []) round
          ∙ ap (λ k. f.journal.items ++ entry.Step node (round_of n) k reading ∷ []) step);
      node_steps =
          subst (λ (k : NodeValue). Steps (node_value (value_of f) node.0) reading k job)
          (sym (turn_shown f g node.0 m (stepped steps.next n) keeps within steps.state same)) steps;
    }

-- a node that had not sent before has not now
pub unsent_before : (f : BusFields) (node : ℕ) (m : NodeValue) → IsBusInvariant f → node < length f.nodes
    → m.state.sent ≡ (node_at (state_of f) node).sent → m.state.sent ≡ false
    → (slice_index_or f.nodes node no_node_value).state.sent ≡ false
unsent_before f node m keeps within same unsent =
    ap (λ (k : NodeValue). k.state.sent) (node_is f node keeps within) ∙ sym same ∙ unsent

-- the room of its links is as before
same_rooms : (f : BusFields) (node : ℕ) (m : NodeValue) → IsBusInvariant f → node < length f.nodes
    → m.state.sent ≡ (node_at (state_of f) node).sent
    → HasRooms (arc_value f.design).links (slice_set f.nodes node m) f.flights
same_rooms f node m keeps within same =
    rooms-set (arc_value f.design).links f.nodes f.flights f.flights node m within keeps.rooms
    (λ number link is other. omega arith)
    (λ unsent number link lt is from.
    keeps.rooms number link is
    (subst (λ k. (slice_index_or f.nodes k no_node_value).state.sent ≡ false) (sym from)
    (unsent_before f node m keeps within same unsent)))

same_queues : (f : BusFields) (node : ℕ) (m : NodeValue) → IsBusInvariant f → node < length f.nodes
    → m.state.sent ≡ (node_at (state_of f) node).sent
    → AreQueues (arc_value f.design).links (slice_set f.nodes node m) f.flights f.queues
same_queues f node m keeps within same =
    queues-set (arc_value f.design).links f.nodes f.flights f.queues node m keeps.queues within
    (unsent_before f node m keeps within same)

pub step_keeps : (f g : BusFields) (node : NodeNo) (reading : Option ℕ) (m : NodeValue) (job : JobValue)
    → IsBusInvariant f
    → node.0 < length f.nodes → Steps (node_value (value_of f) node.0) reading m job
    → g ≡ record f { nodes = slice_set f.nodes node.0 m; journal = g.journal }
    → g.journal.items ≡ f.journal.items ++ entry.Step node job.work.round job.work.step reading ∷ []
    → StepsOn (value_of f) node reading (value_of g) job
    → length f.journal.items + sum_by owed f.nodes + 4 ≤ vec_capacity f.journal
    → vec_capacity g.journal ≡ vec_capacity f.journal → IsBusInvariant g
step_keeps f g node reading m job keeps within steps same told happens place capacity =
    let n = node_at (state_of f) node.0 in
    let sent : m.state.sent ≡ n.sent = ap (λ (k : NodeValue). k.state.sent) steps.state in
    let more = owed_more f.nodes node.0 m within in
    let size = longer g.journal.items f.journal.items (entry.Step node job.work.round job.work.step reading) told in
    node_keeps f g (Step node reading) node.0 m (stepped steps.next n) keeps within steps.state same
    (same_rooms f node.0 m keeps within sent) (same_queues f node.0 m keeps within sent) happens.happens
    (omega (arith, more, size, place, capacity))

-- ---- Finish
pub finish_happens : (f g : BusFields) (node : NodeNo) (m : NodeValue) (step round : ℕ) → IsBusInvariant f
    → f.stop ≡ None
    → node.0 < length f.nodes → Finishes (node_value (value_of f) node.0) m step
    → round ≡ round_of (node_at (state_of f) node.0)
    → g ≡ record f { nodes = slice_set f.nodes node.0 m; journal = g.journal }
    → g.journal.items ≡ f.journal.items ++ entry.Finish node round ∷ []
    → Happens (value_of f) (Finish node) (value_of g)
finish_happens f g node m step round keeps going within finishes round_is same told =
    let run = run_of f in
    let s = state_of f in
    node_event f g (Finish node) node.0 m (finished (plan_of run.design node.0) run.rounds step (node_at s node.0))
    keeps going within finishes.1 same (finish_allowed run s node step finishes.0)
    (finish_after run s node step finishes.0)
    (told ∙ ap (λ r. f.journal.items ++ entry.Finish node r ∷ []) round_is)

-- the node owes one entry less
pub finish_room : (f : BusFields) (node : ℕ) (m : NodeValue) (step : ℕ) → IsBusInvariant f → node < length f.nodes
    → Finishes (node_value (value_of f) node) m step → sum_by owed (slice_set f.nodes node m) + 1 ≡ sum_by owed f.nodes
finish_room f node m step keeps within finishes =
    let n = node_value (value_of f) node in
    owed_less f.nodes node m within
    (owed_finished n (plan_of (arc_value f.design) node) f.rounds step m finishes.0
    (ap (λ (k : NodeValue). k.state) finishes.1) ∙ ap owed (sym (node_is f node keeps within)))

pub finish_keeps_bus : (f g : BusFields) (node : NodeNo) (m : NodeValue) (step round : ℕ) → IsBusInvariant f
    → node.0 < length f.nodes → Finishes (node_value (value_of f) node.0) m step
    → g ≡ record f { nodes = slice_set f.nodes node.0 m; journal = g.journal }
    → g.journal.items ≡ f.journal.items ++ entry.Finish node round ∷ []
    → Happens (value_of f) (Finish node) (value_of g) → vec_capacity g.journal ≡ vec_capacity f.journal
    → IsBusInvariant g
finish_keeps_bus f g node m step round keeps within finishes same told happens capacity =
    let n = node_at (state_of f) node.0 in
    let plan = plan_of (arc_value f.design) node.0 in
    let sent : m.state.sent ≡ n.sent = ap (λ (k : NodeValue). k.state.sent) finishes.1
    ∙ (finish_keeps plan f.rounds step n).2 in
    let less = finish_room f node.0 m step keeps within finishes in
    let size = longer g.journal.items f.journal.items (entry.Finish node round) told in
    let place = keeps.place in
    node_keeps f g (Finish node) node.0 m (finished plan f.rounds step n) keeps within finishes.1 same
    (same_rooms f node.0 m keeps within sent) (same_queues f node.0 m keeps within sent) happens
    (omega (arith, less, size, place, capacity))
