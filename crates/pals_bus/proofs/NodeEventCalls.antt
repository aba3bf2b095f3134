-- For the calls of `Bus` that are events of a node: what a start, a step, a finish or a send leaves of the bus, and
-- what a refused one does.
use Rattle.std.proofs.Common.{◌≡◌, ◌∙◌, ℕ, ◌+◌, ◌<◌, ◌≤◌, List, [], ◌∷◌, ◌++◌, length, Option, Some, None, sym, ap}
use Rattle.std.proofs.Common.{subst, arith}
use Rattle.std.specs.Prelude.{sum_by, slice_set, vec_capacity}
use Rattle.std.specs.Arc.{arc_value}
use Rattle.pals_base.specs.declared.basic_types.PortValue.{PortValue}
use Rattle.pals_base.specs.declared.basic_types.NodeNo.{NodeNo}
use Rattle.pals_model.specs.ComponentInputs.{values_at}
use Rattle.pals_runs.specs.declared.journal.JournalEntry.TheVariants as entry
use Rattle.pals_runs.specs.declared.journal.Stop.{Stop}
use Rattle.bus_machine.specs.Plans.{plan_of}
use Rattle.bus_machine.specs.Nodes.{round_of}
use Rattle.bus_machine.specs.NodeEvents.{finished}
use Rattle.bus_machine.specs.BusStates.{node_at}
use Rattle.bus_machine.specs.MissedMessages.{link_into}
use Rattle.bus_machine.specs.Machine.{Finish, missed_stop}
use Rattle.pals_node.specs.declared.refusals.StartEnd.TheVariants as start
use Rattle.pals_node.specs.declared.job.Finished.{Finished}
use Rattle.pals_node.specs.proof.NodeAndJobValues.{JobValue, NodeValue}
use Rattle.pals_node.specs.proof.Answers.{Starts, StartEnds, Steps, Finishes, FinishesWith, Sends}
use Rattle.pals_bus.specs.declared.bus_fields.BusFields.{BusFields}
use Rattle.pals_bus.specs.BusValues.{BusValue, Happens}
use Rattle.pals_bus.specs.proof.NodeLists.{node_value, node_of}
use Rattle.pals_bus.specs.proof.Answers.{Going, StartsRound, MissesMessage, StepsOn, FinishesStep, SendsRound}
use Rattle.pals_bus.specs.proof.BusInvariant.{IsBusInvariant, owed, node_in, copies_in, run_of, state_of, value_of}
use Rattle.pals_bus.specs.proof.RoundMessages.{HasRoomFor, AreSent}
use Rattle.pals_bus.specs.proof.DueQueues.{AreQueues, AreQueuesAmid, HasQueueRoomFor}
use Rattle.pals_bus.proofs.ChangedNodeValues.{Turned, turn_shown, turn_told}
use Rattle.pals_bus.proofs.StartsStepsAndFinishes.{start_happens, start_keeps, start_misses, miss_keeps, step_happens}
use Rattle.pals_bus.proofs.StartsStepsAndFinishes.{step_keeps, finish_happens, finish_room, finish_keeps_bus}
use Rattle.pals_bus.proofs.RoundSends.{send_owes, send_happens, send_keeps_bus, send_queues}

-- the result of an event: fields with the bus invariant, and their model
pub record Leaves (g : BusFields) (Says : Type 0) : Type 0 where
  pub keeps : IsBusInvariant g
  pub says : Says

-- ---- a bus and its fields
-- the fields show the bus, and the node is there
pub record Stands (v : BusValue) (f : BusFields) (node : ℕ) : Type 0 where
  pub shows : value_of f ≡ v
  pub keeps : IsBusInvariant f
  pub going : f.stop ≡ None
  pub within : node < length v.run.design.components

pub node_there : (v : BusValue) (f : BusFields) (node : ℕ) → Stands v f node → node < length f.nodes
node_there v f node stands =
    let count = stands.keeps.nodes.count in
    let same : length (arc_value f.design).components ≡ length v.run.design.components =
    ap (λ (k : BusValue). length k.run.design.components) stands.shows in
    let within = stands.within in
    omega (arith, count, same, within)

-- more room changes nothing that contracts see
pub room_shows : (f g : BusFields) → g ≡ record f { journal = g.journal; flights = g.flights; queues = g.queues }
    → copies_in g.flights ≡ copies_in f.flights → g.journal.items ≡ f.journal.items → value_of g ≡ value_of f
room_shows f g same copies items =
    ap value_of same ∙ ap (λ cs.
    record (value_of f) { state = record (state_of f) { flights = cs }; journal = g.journal.items }) copies
    ∙ ap (λ es. record (value_of f) { journal = es }) items

pub journal_shows : (f g : BusFields) → g ≡ record f { journal = g.journal } → g.journal.items ≡ f.journal.items
    → value_of g ≡ value_of f
journal_shows f g same items = ap value_of same ∙ ap (λ es. record (value_of f) { journal = es }) items

pub values_show : (f g : BusFields) → g ≡ record f { values = g.values } → value_of g ≡ value_of f
values_show f g same = ap value_of same

-- only more room in the journal
pub reserved : (v : BusValue) (old f : BusFields) (node : ℕ) → value_of old ≡ v → old.stop ≡ None
    → node < length v.run.design.components → f ≡ record old { journal = f.journal }
    → f.journal.items ≡ old.journal.items → IsBusInvariant f
    → Stands v f node
reserved v old f node shows going within others items keeps = record {
  shows = journal_shows old f others items ∙ shows;
  keeps = keeps;
  going = ap (λ (k : BusFields). k.stop) others ∙ going;
  within = within;
}

-- the run has no stop, and a node returns why it refuses
pub refuses : (v : BusValue) (f : BusFields) (node : ℕ) (Says : NodeValue → Type 0) → Stands v f node
    → Says (node_of f.nodes node) → Going v × Says (node_value v node)
refuses v f node Says stands says = (
  sym (ap (λ (b : BusValue). b.state.stop) stands.shows) ∙ stands.going,
  subst (λ (b : BusValue). Says (node_value b node)) stands.shows
      (turn_told f node Says stands.keeps (node_there v f node stands) says),
)

-- ---- a start
-- what a round of a node needs has its place
pub record HasRoundRoom (f : BusFields) (node : ℕ) : Type 0 where
  pub entries : length f.journal.items + sum_by owed f.nodes + 4 ≤ vec_capacity f.journal
  pub flights : HasRoomFor node (length (arc_value f.design).links) (arc_value f.design).links f.flights
  pub queues : HasQueueRoomFor node (arc_value f.design).links f.queues

-- there is room for a round, and its values are read
pub record IsReady (v : BusValue) (h : BusFields) (node : NodeNo) (round : ℕ) : Type 0 where
  pub stands : Stands v h node.0
  pub values : h.values.items ≡ values_at h.env round
  pub round_is : round ≡ (node_at (state_of h) node.0).count
  pub room : HasRoundRoom h node.0

pub is_ready : (v : BusValue) (old f h : BusFields) (node : NodeNo) (round : ℕ) → value_of old ≡ v → old.stop ≡ None
    → node.0 < length v.run.design.components
    → f ≡ record old { journal = f.journal; flights = f.flights; queues = f.queues }
    → copies_in f.flights ≡ copies_in old.flights → f.journal.items ≡ old.journal.items → HasRoundRoom f node.0
    → round ≡ (node_at (state_of f) node.0).count → h ≡ record f { values = h.values }
    → h.values.items ≡ values_at f.env round → IsBusInvariant h → IsReady v h node round
is_ready v old f h node round shows going within others copies items room round_is read values keeps = record {
  stands = record {
    shows = values_show f h read ∙ room_shows old f others copies items ∙ shows;
    keeps = keeps;
    going = ap (λ (k : BusFields). k.stop) read ∙ ap (λ (k : BusFields). k.stop) others ∙ going;
    within = within;
  };
  values = values ∙ sym (ap (λ (k : BusFields). values_at k.env round) read);
  round_is = round_is ∙ sym (ap (λ (k : BusFields). (node_at (state_of k) node.0).count) read);
  room = record {
    entries =
        subst (λ (k : BusFields). length k.journal.items + sum_by owed k.nodes + 4 ≤ vec_capacity k.journal) (sym read)
        room.entries;
    flights =
        subst (λ (k : BusFields). HasRoomFor node.0 (length (arc_value k.design).links) (arc_value k.design).links
        k.flights) (sym read) room.flights;
    queues = subst (λ (k : BusFields). HasQueueRoomFor node.0 (arc_value k.design).links k.queues) (sym read)
        room.queues;
  };
}

pub starts : (v : BusValue) (h g : BusFields) (node : NodeNo) (reading : Option ℕ) (round : ℕ) (env : List PortValue)
    (job : JobValue) → IsReady v h node round → env ≡ h.values.items
    → Starts (node_of h.nodes node.0) env reading (node_in g node.0) job
    → Turned h g node.0 (entry.Start node round reading) → Leaves g (StartsRound v node reading (value_of g) job)
starts v h g node reading round env job ready env_is says turned =
    let stands = ready.stands in
    let m = node_in g node.0 in
    let within = node_there v h node.0 stands in
    let told =
    turn_told h node.0 (λ (n : NodeValue). Starts n h.values.items reading m job) stands.keeps within
    (subst (λ (ports : List PortValue). Starts (node_of h.nodes node.0) ports reading m job) env_is says) in
    let happens =
    start_happens h g node reading m h.values.items round job stands.keeps stands.going within told ready.round_is
    ready.values turned.same turned.told in
    record {
      keeps =
          start_keeps h g node reading m h.values.items round job stands.keeps within told turned.same turned.told
          happens ready.room.flights ready.room.queues ready.room.entries turned.capacity;
      says = subst (λ (k : BusValue). StartsRound k node reading (value_of g) job) stands.shows happens;
    }

-- the node itself is as before
pub misses : (v : BusValue) (h t g : BusFields) (node : NodeNo) (reading : Option ℕ) (round port : ℕ) (why : Stop)
    → IsReady v h node round → StartEnds (node_of h.nodes node.0) reading (start.Missed port) → t ≡ h
    → why ≡ missed_stop (run_of t) (state_of t) node reading (link_into (arc_value t.design) node.0 port)
    → g ≡ record t { stop = Some why; journal = g.journal }
    → g.journal.items ≡ t.journal.items ++ entry.Stopped why ∷ []
    → vec_capacity g.journal ≡ vec_capacity t.journal → Leaves g (MissesMessage v node reading (value_of g) why)
misses v h t g node reading round port why ready says unchanged is same told capacity =
    let stands = ready.stands in
    let cause =
    turn_told h node.0 (λ (n : NodeValue). StartEnds n reading (start.Missed port)) stands.keeps
    (node_there v h node.0 stands) says in
    let is_h =
    is ∙ ap (λ (k : BusFields).
    missed_stop (run_of k) (state_of k) node reading (link_into (arc_value k.design) node.0 port)) unchanged in
    let same_h =
    same ∙ ap (λ (k : BusFields). let u : BusFields = record k { stop = Some why; journal = g.journal } in u) unchanged
    in
    let told_h = told ∙ ap (λ (k : BusFields). k.journal.items ++ entry.Stopped why ∷ []) unchanged in
    let says_h = start_misses h g node reading port why stands.keeps stands.going cause is_h same_h told_h in
    record {
      keeps =
          miss_keeps h g node reading why stands.keeps says_h same_h told_h ready.room.entries
          (capacity ∙ ap (λ (k : BusFields). vec_capacity k.journal) unchanged);
      says = subst (λ (k : BusValue). MissesMessage k node reading (value_of g) why) stands.shows says_h;
    }

-- ---- a step
pub steps : (v : BusValue) (f g : BusFields) (node : NodeNo) (reading : Option ℕ) (job : JobValue) → Stands v f node.0
    → Steps (node_of f.nodes node.0) reading (node_in g node.0) job
    → Turned f g node.0 (entry.Step node job.work.round job.work.step reading)
    → length f.journal.items + sum_by owed f.nodes + 4 ≤ vec_capacity f.journal
    → Leaves g (StepsOn v node reading (value_of g) job)
steps v f g node reading job stands says turned place =
    let m = node_in g node.0 in
    let within = node_there v f node.0 stands in
    let told = turn_told f node.0 (λ (n : NodeValue). Steps n reading m job) stands.keeps within says in
    let happens = step_happens f g node reading m job stands.keeps stands.going within told turned.same turned.told in
    record {
      keeps =
          step_keeps f g node reading m job stands.keeps within told turned.same turned.told happens place
          turned.capacity;
      says = subst (λ (k : BusValue). StepsOn k node reading (value_of g) job) stands.shows happens;
    }

-- ---- a finish
pub finishes : (v : BusValue) (f g : BusFields) (node : NodeNo) (step round : ℕ) → Stands v f node.0
    → Finishes (node_of f.nodes node.0) (node_in g node.0) step → round ≡ round_of (node_at (state_of f) node.0)
    → Turned f g node.0 (entry.Finish node round) → Leaves g (Happens v (Finish node) (value_of g))
finishes v f g node step round stands says round_is turned =
    let m = node_in g node.0 in
    let within = node_there v f node.0 stands in
    let told = turn_told f node.0 (λ (n : NodeValue). Finishes n m step) stands.keeps within says in
    let happens =
    finish_happens f g node m step round stands.keeps stands.going within told round_is turned.same turned.told in
    record {
      keeps =
          finish_keeps_bus f g node m step round stands.keeps within told turned.same turned.told happens
          turned.capacity;
      says = subst (λ (k : BusValue). Happens k (Finish node) (value_of g)) stands.shows happens;
    }

-- with the submitted job
pub finishes_with : (v : BusValue) (f g : BusFields) (node : NodeNo) (job : JobValue) (how : Finished) (round : ℕ)
    → Stands v f node.0 → FinishesWith (node_of f.nodes node.0) job (node_in g node.0) how
    → round ≡ round_of (node_at (state_of f) node.0) → Turned f g node.0 (entry.Finish node round)
    → Leaves g (FinishesStep v node job (value_of g) how)
finishes_with v f g node job how round stands says round_is turned =
    let m = node_in g node.0 in
    let within = node_there v f node.0 stands in
    let told = turn_told f node.0 (λ (n : NodeValue). FinishesWith n job m how) stands.keeps within says in
    let left = finishes v f g node says.running round stands says.finishes round_is turned in
    let shown : node_value (value_of g) node.0 ≡ m =
    turn_shown f g node.0 m (finished (plan_of (arc_value f.design) node.0) f.rounds told.running
    (node_at (state_of f) node.0)) stands.keeps within told.finishes.1 turned.same in
    record {
      keeps = left.keeps;
      says = record {
        happens = left.says;
        node_finishes =
            subst (λ (k : NodeValue). FinishesWith (node_value v node.0) job k how) (sym shown)
            (subst (λ (b : BusValue). FinishesWith (node_value b node.0) job m how) stands.shows told);
      };
    }

-- the entry that was owed has its place
pub finish_place : (v : BusValue) (f : BusFields) (node step : ℕ) (m : NodeValue) → Stands v f node
    → Finishes (node_of f.nodes node) m step → length f.journal.items < vec_capacity f.journal
finish_place v f node step m stands says =
    let within = node_there v f node stands in
    let less =
    finish_room f node m step stands.keeps within
    (turn_told f node (λ (n : NodeValue). Finishes n m step) stands.keeps within says) in
    let place = stands.keeps.place in
    omega (arith, less, place)

-- ---- a send
-- the node is changed, its messages are in flight, and its entry is recorded
pub record IsSent (f s g : BusFields) (nodes : List NodeValue) (node : NodeNo) (reading : Option ℕ) (round : ℕ)
    (messages : List (List PortValue)) : Type 0 where
  pub nodes_are : nodes ≡ slice_set f.nodes node.0 (node_of nodes node.0)
  pub flights : AreSent node.0 (arc_value f.design).links f.delays round reading messages
      (length (arc_value f.design).links) f.flights s.flights
  pub queues : AreQueues (arc_value f.design).links nodes s.flights s.queues
  pub sent : s ≡ record f { nodes = nodes; flights = s.flights; queues = s.queues }
  pub same : g ≡ record s { journal = g.journal }
  pub told : g.journal.items ≡ s.journal.items ++ entry.Send node round reading ∷ []
  pub capacity : vec_capacity g.journal ≡ vec_capacity s.journal

pub sends : (v : BusValue) (f s g : BusFields) (nodes : List NodeValue) (node : NodeNo) (reading : Option ℕ) (round : ℕ)
    (messages : List (List PortValue)) → Stands v f node.0
    → Sends (node_of f.nodes node.0) reading (node_of nodes node.0) messages
    → round ≡ round_of (node_at (state_of f) node.0) → IsSent f s g nodes node reading round messages
    → Leaves g (SendsRound v node reading (value_of g))
sends v f s g nodes node reading round messages stands says round_is is =
    let links = (arc_value f.design).links in
    let m = node_of nodes node.0 in
    let within = node_there v f node.0 stands in
    let told = turn_told f node.0 (λ (n : NodeValue). Sends n reading m messages) stands.keeps within says in
    let flights =
    subst (λ (k : BusFields). AreSent node.0 links f.delays round reading messages (length links) f.flights k.flights)
    (sym is.same) is.flights in
    let queues =
    subst (λ (ns : List NodeValue). AreQueues links ns g.flights g.queues) is.nodes_are
    (subst (λ (k : BusFields). AreQueues links nodes k.flights k.queues) (sym is.same) is.queues) in
    let now : g ≡ record f {
      nodes = slice_set f.nodes node.0 m;
      flights = s.flights;
      queues = s.queues;
      journal = g.journal;
    } =
    is.same
    ∙ ap (λ (k : BusFields). let u : BusFields = record k { journal = g.journal } in u) is.sent
    ∙ ap (λ (ns : List NodeValue). let u : BusFields =
    record f { nodes = ns; flights = s.flights; queues = s.queues; journal = g.journal } in u) is.nodes_are in
    let same =
    subst (λ (k : BusFields). g
    ≡ record f {
      nodes = slice_set f.nodes node.0 m;
      flights = k.flights;
      queues = k.queues;
      journal = g.journal;
    }) (sym is.same) now in
    let items = is.told ∙ ap (λ (k : BusFields). k.journal.items ++ entry.Send node round reading ∷ []) is.sent in
    let happens =
    send_happens f g node reading m messages round stands.keeps stands.going within told round_is flights
    same items in
    record {
      keeps =
          send_keeps_bus f g node reading m messages round stands.keeps within told flights queues same items happens
          (is.capacity ∙ ap (λ (k : BusFields). vec_capacity k.journal) is.sent);
      says =
          subst (λ (b : BusValue). SendsRound b node reading (value_of g)) stands.shows
          (record { happens = happens; due = told.due });
    }

pub send_place : (v : BusValue) (f s : BusFields) (nodes : List NodeValue) (node : ℕ) (reading : Option ℕ)
    (messages : List (List PortValue)) → Stands v f node
    → Sends (node_of f.nodes node) reading (node_of nodes node) messages
    → s ≡ record f { nodes = nodes; flights = s.flights; queues = s.queues }
    → length s.journal.items < vec_capacity s.journal
send_place v f s nodes node reading messages stands says sent =
    let m = node_of nodes node in
    let within = node_there v f node stands in
    let less =
    send_owes f node reading m messages stands.keeps within
    (turn_told f node (λ (n : NodeValue). Sends n reading m messages) stands.keeps within says) in
    let place = stands.keeps.place in
    subst (λ (k : BusFields). length k.journal.items < vec_capacity k.journal) (sym sent) (omega (arith, less, place))

-- the queues have room for its messages
pub send_room : (v : BusValue) (f : BusFields) (nodes : List NodeValue) (node : ℕ) (reading : Option ℕ)
    (messages : List (List PortValue)) → Stands v f node
    → Sends (node_of f.nodes node) reading (node_of nodes node) messages
    → nodes ≡ slice_set f.nodes node (node_of nodes node)
    → AreQueuesAmid node 0 (arc_value f.design).links nodes f.flights f.queues
send_room v f nodes node reading messages stands says are =
    let m = node_of nodes node in
    let within = node_there v f node stands in
    subst (λ (ns : List NodeValue). AreQueuesAmid node 0 (arc_value f.design).links ns f.flights f.queues) (sym are)
    (send_queues f node reading m messages stands.keeps within
    (turn_told f node (λ (n : NodeValue). Sends n reading m messages) stands.keeps within says))
