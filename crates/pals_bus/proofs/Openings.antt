-- A bus before its first event.
use Rattle.std.proofs.Common.{◌≡◌, ◌∙◌, inl, inr, ℕ, ◌+◌, ◌*◌, ◌<◌, ◌≤◌, Bool, true, false, List, [], ◌∷◌, ◌++◌, length}
use Rattle.std.proofs.Common.{map, take, Option, None, refl, sym, ap, ap₂, subst, arith, length-append}
use Rattle.std.specs.Prelude.{sum_by, slice_index_or}
use Rattle.std.specs.Arc.{arc_value}
use Rattle.std.proofs.lemmas.Bool.{cases_lt, false≢true}
use Rattle.std.proofs.lemmas.List.{length-map, map-append, take_more, get_or-map, get_or_past, ext_get_or}
use Rattle.std.proofs.lemmas.List.{get_or_append_left, get_or_push}
use Rattle.std.proofs.lemmas.List.Elements.{All-from_get_or}
use Rattle.std.proofs.lemmas.List.Sums.{sum_by-le}
use Rattle.pals_base.specs.declared.limits.TheConstants.{ROUNDS}
use Rattle.pals_base.specs.UpwardNumbers.{upwards}
use Rattle.pals_base.proofs.UpwardNumbers.{length-map_upwards, get_or-map_upwards}
use Rattle.pals_model.specs.declared.design.DesignParts.{DesignParts}
use Rattle.pals_model.specs.declared.design.Link.{Link}
use Rattle.pals_model.specs.declared.flight_copy.FlightCopy.{FlightCopy}
use Rattle.pals_model.specs.declared.environment.Env.{Env}
use Rattle.pals_model.specs.declared.delays.Delays.{Delays}
use Rattle.pals_model.specs.Delays.{AreDelays}
use Rattle.pals_model.specs.DesignRules.{IsDesign}
use Rattle.pals_runs.specs.declared.journal.JournalEntry.{JournalEntry}
use Rattle.pals_runs.specs.declared.journal.Stop.{Stop}
use Rattle.step_code.specs.declared.instr.CodeParts.{CodeParts}
use Rattle.step_code.specs.proof.CodeMatchesBehaviour.{Means}
use Rattle.link_buffers.specs.proof.Flights.{FlightState}
use Rattle.link_buffers.specs.proof.DueQueues.{QueueState}
use Rattle.bus_machine.specs.Plans.{component_at, plan_of}
use Rattle.bus_machine.specs.Nodes.{NodeState, opening_node}
use Rattle.bus_machine.specs.BusStates.{BusState, opening, no_node}
use Rattle.bus_machine.specs.RunParameters.{Run}
use Rattle.bus_machine.specs.Replay.{Replays, opens}
use Rattle.bus_machine.specs.declared.plan.Plan.{Plan}
use Rattle.pals_node.specs.proof.NodeAndJobValues.{NodeValue, Program, program_of, opening_value}
use Rattle.pals_bus.specs.declared.bus_fields.BusFields.{BusFields}
use Rattle.pals_bus.specs.proof.StepCodesOfNodes.{AreCodes, codes_in, code_at, no_code}
use Rattle.pals_bus.specs.proof.OpeningNodes.{opening_bus, AreOpening}
use Rattle.pals_bus.specs.proof.BusInvariant.{AreNodes, HasRooms, IsBusInvariant, copies_in, owed, run_of, state_of}
use Rattle.pals_bus.specs.proof.BusInvariant.{value_of}
use Rattle.pals_bus.specs.proof.LinksFromNodes.{AreOutgoing}
use Rattle.pals_bus.specs.proof.DueQueues.{AreQueues}
use Rattle.pals_bus.specs.proof.OutOfRangeDefaults.{no_flight, no_queue, no_node_value}
use Rattle.pals_bus.proofs.NodeChanges.{states}
use Rattle.pals_bus.proofs.QueueOpeningsAndSends.{queues_open}

pub states_open : (design : DesignParts) (all : List CodeParts) (rounds : ℕ) (nodes : List NodeValue)
    → AreOpening design all rounds nodes → length all ≡ length design.components
    → states nodes ≡ map (λ node. opening_node (plan_of design node)) (upwards 0 (length design.components))
states_open design all rounds nodes are count =
    let n = length design.components in
    let f = λ (node : ℕ). opening_node (plan_of design node) in
    let size : length (states nodes) ≡ n = length-map nodes (λ (k : NodeValue). k.state) ∙ are.count ∙ count in
    ext_get_or no_node (states nodes) (map f (upwards 0 n)) (size ∙ sym (length-map_upwards f 0 n))
    (λ k lt.
    let same : length (states nodes) ≡ length nodes = length-map nodes (λ (k : NodeValue). k.state) in
    let within : k < length nodes = omega (arith, same, lt) in
    let below : k < n = omega (arith, size, lt) in
    get_or-map (λ (m : NodeValue). m.state) nodes k no_node_value no_node within
    ∙ ap (λ (m : NodeValue). m.state) (are.each k within)
    ∙ sym (get_or-map_upwards f n k no_node below))

pub codes_open : (design : DesignParts) (all : List CodeParts) (rounds : ℕ) (nodes : List NodeValue)
    → AreOpening design all rounds nodes → codes_in nodes ≡ all
codes_open design all rounds nodes are =
    let same : length (codes_in nodes) ≡ length nodes = length-map nodes (λ (k : NodeValue). k.program.code) in
    ext_get_or no_code (codes_in nodes) all (same ∙ are.count)
    (λ k lt.
    let within : k < length nodes = omega (arith, same, lt) in
    get_or-map (λ (m : NodeValue). m.program.code) nodes k no_node_value no_code within
    ∙ ap (λ (m : NodeValue). m.program.code) (are.each k within))

abbrev no_copies : List FlightCopy
no_copies = []

pub copies_open : (links : List Link)
    → copies_in (map (λ (_ : Link). no_flight) links) ≡ map (λ (_ : Link). no_copies) links
copies_open [] = refl
copies_open (link ∷ links) = ap (λ cs. no_copies ∷ cs) (copies_open links)

pub nodes_open : (design : DesignParts) (all : List CodeParts) (rounds : ℕ) (nodes : List NodeValue)
    → AreOpening design all rounds nodes → AreCodes design all → AreNodes design rounds nodes
nodes_open design all rounds nodes are of_design = record {
  count = are.count ∙ of_design.count;
  each = λ node lt. record {
    plan = ap (λ (n : NodeValue). n.program.plan) (are.each node lt);
    rounds_are = ap (λ (n : NodeValue). n.rounds) (are.each node lt);
    means =
        subst (λ (n : NodeValue). Means n.program.code (component_at design node).behaviour) (sym (are.each node lt))
        (of_design.mean node (let count = are.count in omega (arith, count, lt)));
  };
}

sent_open : (design : DesignParts) (all : List CodeParts) (rounds : ℕ) (nodes : List NodeValue)
    → AreOpening design all rounds nodes → (k : ℕ) → (slice_index_or nodes k no_node_value).state.sent ≡ true
sent_open design all rounds nodes are k = elim (cases_lt k (length nodes)) [
  | inl within ↦ ap (λ (n : NodeValue). n.state.sent) (are.each k within)
  | inr past ↦ ap (λ (n : NodeValue). n.state.sent) (get_or_past nodes k no_node_value past)
]

pub rooms_open : (design : DesignParts) (all : List CodeParts) (rounds : ℕ) (nodes : List NodeValue) (links : List Link)
    (flights : List FlightState) → AreOpening design all rounds nodes → HasRooms links nodes flights
rooms_open design all rounds nodes links flights are number link is unsent =
    absurd (false≢true (sym unsent ∙ sent_open design all rounds nodes are link.source.0))

pub owed_open : (design : DesignParts) (all : List CodeParts) (rounds : ℕ) (nodes : List NodeValue)
    → AreOpening design all rounds nodes → sum_by owed nodes ≡ 0
owed_open design all rounds nodes are =
    let none =
    sum_by-le owed 0 nodes (All-from_get_or (λ (n : NodeValue). owed n ≤ 0) nodes no_node_value
    (λ k lt. let zero_is : owed (slice_index_or nodes k no_node_value) ≡ 0 = ap owed (are.each k lt) in
    omega (arith, zero_is))) in
    let times : length nodes * 0 ≡ 0 = omega arith in
    omega (arith, none, times)

-- ---- one more node
pub opening_none : (design : DesignParts) (rounds : ℕ) → AreOpening design [] rounds []
opening_none design rounds = record { count = refl; each = λ node lt. absurd (omega (arith, lt)) }

pub opening_one : (design : DesignParts) (done : List CodeParts) (rounds : ℕ) (nodes : List NodeValue)
    (code : CodeParts) (n : NodeValue) → AreOpening design done rounds nodes
    → n ≡ opening_value (program_of design (length nodes) code) rounds
    → AreOpening design (done ++ code ∷ []) rounds (nodes ++ n ∷ [])
opening_one design done rounds nodes code n are is =
    let many = length-append nodes (n ∷ []) in
    let all = length-append done (code ∷ []) in
    let count = are.count in
    record {
      count = omega (arith, many, all, count);
      each = λ node lt. elim (cases_lt node (length nodes)) [
        | inl before ↦
            get_or_append_left nodes (n ∷ []) no_node_value node before
            ∙ are.each node before
            ∙ ap (λ (c : CodeParts). opening_value (program_of design node c) rounds)
            (sym (get_or_append_left done (code ∷ []) no_code node (omega (arith, count, before))))
        | inr at ↦
            let here : length nodes ≡ node = omega (arith, many, lt, at) in
            get_or_push nodes n no_node_value node here
            ∙ is
            ∙ ap (λ (k : ℕ). opening_value (program_of design k code) rounds) here
            ∙ ap (λ (c : CodeParts). opening_value (program_of design node c) rounds)
            (sym (get_or_push done code no_code node (sym count ∙ here)))
      ];
    }

-- ---- the fields of a bus before the first event
pub record IsOpening (f : BusFields) (all : List CodeParts) : Type 0 where
  pub design : IsDesign (arc_value f.design)
  pub outgoing : AreOutgoing (length (arc_value f.design).components) (arc_value f.design).links f.outgoing
  pub rounds : (1 ≤ f.rounds) × (f.rounds ≤ ROUNDS)
  pub delays : AreDelays (length (arc_value f.design).links) f.delays
  pub values : length f.values.items ≡ length f.env.lists
  pub codes_are : AreCodes (arc_value f.design) all
  pub nodes : AreOpening (arc_value f.design) all f.rounds f.nodes
  pub flights : f.flights ≡ map (λ (_ : Link). no_flight) (arc_value f.design).links
  pub queues : f.queues ≡ map (λ (_ : NodeValue). no_queue) f.nodes
  pub stop : f.stop ≡ None
  pub journal : f.journal.items ≡ []
  pub closed : f.closed ≡ false

state_open : (f : BusFields) (all : List CodeParts) → IsOpening f all → state_of f ≡ opening (run_of f)
state_open f all is =
    let flights : copies_in f.flights ≡ map (λ (_ : Link). no_copies) (arc_value f.design).links =
    ap copies_in is.flights ∙ copies_open (arc_value f.design).links in
    ap (λ (ns : List NodeState). record (state_of f) { nodes = ns })
    (states_open (arc_value f.design) all f.rounds f.nodes is.nodes is.codes_are.count)
    ∙ ap₂ (λ (cs : List (List FlightCopy)) (o : Option Stop). record (opening (run_of f)) { flights = cs; stop = o })
    flights is.stop

pub opening_keeps : (f : BusFields) (all : List CodeParts) → IsOpening f all → IsBusInvariant f
opening_keeps f all is =
    let links = (arc_value f.design).links in
    let owes = owed_open (arc_value f.design) all f.rounds f.nodes is.nodes in
    let none : length f.journal.items ≡ 0 = ap length is.journal in
    record {
      design = is.design;
      outgoing = is.outgoing;
      rounds = is.rounds;
      delays = is.delays;
      values = is.values;
      nodes = nodes_open (arc_value f.design) all f.rounds f.nodes is.nodes is.codes_are;
      flight_count = ap length is.flights ∙ length-map links (λ (_ : Link). no_flight);
      rooms = rooms_open (arc_value f.design) all f.rounds f.nodes links f.flights is.nodes;
      replays =
          subst (λ (s : BusState). Replays (run_of f) f.journal.items s) (sym (state_open f all is))
          (subst (λ (j : List JournalEntry). Replays (run_of f) j (opening (run_of f))) (sym is.journal) opens);
      queues =
          subst (λ (fs : List FlightState). AreQueues links f.nodes fs f.queues) (sym is.flights)
          (subst (λ (qs : List QueueState). AreQueues links f.nodes (map (λ (_ : Link). no_flight) links) qs)
          (sym is.queues) (queues_open links f.nodes
          (sent_open (arc_value f.design) all f.rounds f.nodes is.nodes)));
      place = omega (arith, owes, none);
    }

pub opening_shows : (f : BusFields) (all : List CodeParts) → IsOpening f all
    → value_of f ≡ opening_bus (run_of f) all f.meeting
opening_shows f all is =
    ap₂ (λ (cs : List CodeParts) (s : BusState). record (value_of f) { codes = cs; state = s })
    (codes_open (arc_value f.design) all f.rounds f.nodes is.nodes) (state_open f all is)
    ∙ ap₂ (λ (b : Bool) (j : List JournalEntry).
    record (opening_bus (run_of f) all f.meeting) { closed = b; journal = j }) is.closed is.journal

-- ---- the same run anew
fresh_program : (p : Program) (plan : Plan) (code : CodeParts) → p.plan ≡ plan → p.code ≡ code
    → ◌≡◌ {A = Program} p (record { plan = plan; code = code })
fresh_program p plan code plan_is code_is =
    ap₂ (λ (x : Plan) (y : CodeParts). let u : Program = record { plan = x; code = y } in u) plan_is code_is

pub nodes_anew : (design : DesignParts) (rounds : ℕ) (old new : List NodeValue) → AreNodes design rounds old
    → new ≡ map (λ (n : NodeValue). opening_value n.program n.rounds) old → AreOpening design (codes_in old) rounds new
nodes_anew design rounds old new are is =
    let f = λ (n : NodeValue). opening_value n.program n.rounds in
    let size : length new ≡ length old = ap length is ∙ length-map old f in
    let many : length (codes_in old) ≡ length old = length-map old (λ (n : NodeValue). n.program.code) in
    record {
      count = size ∙ sym many;
      each = λ node lt.
          let within : node < length old = omega (arith, size, lt) in
          let n = slice_index_or old node no_node_value in
          let of_design = are.each node within in
          let code : n.program.code ≡ code_at (codes_in old) node =
          sym (get_or-map (λ (k : NodeValue). k.program.code) old node no_node_value no_code within) in
          ap (λ (ns : List NodeValue). slice_index_or ns node no_node_value) is
          ∙ get_or-map f old node no_node_value no_node_value within
          ∙ ap₂ (λ (p : Program) (r : ℕ). opening_value p r)
          (fresh_program n.program (plan_of design node) (code_at (codes_in old) node) of_design.plan code)
          of_design.rounds_are;
    }

-- the run of a bus, of parts that are the same
pub run_anew : (f : BusFields) (design : DesignParts) (env : Env) (delays : Delays) → design ≡ arc_value f.design
    → env ≡ f.env → delays ≡ f.delays
    → ◌≡◌ {A = Run} (record { design = design; env = env; rounds = f.rounds; delays = delays }) (run_of f)
run_anew f design env delays design_is env_is delays_is =
    ap₂ (λ (d : DesignParts) (e : Env). let u : Run =
    record { design = d; env = e; rounds = f.rounds; delays = delays } in u) design_is env_is
    ∙ ap (λ (ds : Delays). let u : Run =
    record { design = arc_value f.design; env = f.env; rounds = f.rounds; delays = ds } in u) delays_is

-- ---- one more item of a list that is made of another
pub map_more : {X Y : Type 0} (f : X → Y) (xs : List X) (k : ℕ) (d : X) (ys zs : List Y) (z : Y) → k < length xs
    → ys ≡ map f (take k xs) → z ≡ f (slice_index_or xs k d) → zs ≡ ys ++ z ∷ [] → zs ≡ map f (take (k + 1) xs)
map_more {X = X} {Y = Y} f xs k d ys zs z within before is all =
    all
    ∙ ap (λ (us : List Y). us ++ z ∷ []) before
    ∙ ap (λ (u : Y). map f (take k xs) ++ u ∷ []) is
    ∙ sym (map-append f (take k xs) (slice_index_or xs k d ∷ []))
    ∙ ap (map f) (sym (take_more xs k d within))
