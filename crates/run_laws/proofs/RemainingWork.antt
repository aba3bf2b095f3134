-- What is left to do in a run, which each event makes less.
use Rattle.std.proofs.Common.{◌≡◌, ◌≢◌, ℕ, zero, suc, ◌+◌, ◌-◌, ◌*◌, ◌<◌, ◌≤◌, nat_eq, nat_lt, nat_le, Bool, true}
use Rattle.std.proofs.Common.{false, not, cond, List, [], ◌∷◌, ◌++◌, length, map, slice_get, Option, Some, None, refl}
use Rattle.std.proofs.Common.{sym, ap, ◌∙◌, subst, arith, length-append}
use Rattle.std.specs.Prelude.{if◌then◌else◌, is_some, slice_index_or}
use Rattle.std.specs.List.{sum_by}
use Rattle.std.specs.Option.{option_map_or}
use Rattle.std.proofs.lemmas.Bool.{and_parts, not-true, false≢true, ltb-true}
use Rattle.std.proofs.lemmas.Grind.{common_steps, get_or-set_at}
use Rattle.std.proofs.lemmas.List.{get_or-set_other}
use Rattle.std.proofs.lemmas.Option.{slice_get-get_or}
use Rattle.pals_base.specs.declared.basic_types.NodeNo.{NodeNo}
use Rattle.pals_base.specs.declared.basic_types.LinkNo.{LinkNo}
use Rattle.pals_base.specs.declared.basic_types.PortValue.{PortValue}
use Rattle.pals_model.specs.declared.design.Component.{Component}
use Rattle.pals_model.specs.declared.design.Link.{Link}
use Rattle.pals_model.specs.declared.flight_copy.FlightCopy.{FlightCopy}
use Rattle.pals_model.specs.Delays.{delay_of}
use Rattle.pals_model.specs.ComponentInputs.{values_at}
use Rattle.pals_model.specs.Flights.{is_of, oldest, without_oldest}
use Rattle.pals_runs.specs.declared.phase.Phase.{Phase}
use Rattle.pals_runs.specs.declared.phase.Phase.TheVariants.{Waiting, Running, Between, Holding, Done}
use Rattle.pals_runs.specs.declared.journal.Arrived.{Arrived}
use Rattle.pals_runs.specs.declared.journal.Arrived.TheVariants.{Kept, Ignored, Early}
use Rattle.pals_runs.specs.declared.journal.Stop.{Stop}
use Rattle.bus_machine.specs.declared.plan.Plan.{Plan}
use Rattle.bus_machine.specs.Plans.{plan_of, component_at, no_component, link_at, no_link}
use Rattle.bus_machine.specs.Nodes.{NodeState, round_of, finished_steps, at_rest}
use Rattle.bus_machine.specs.NodeEvents.{is_waiting, started, next_step, stepped, running_step, finished, after_round}
use Rattle.bus_machine.specs.NodeEvents.{may_send, after_send as phase_after_send, sent_from, message_from, arrived}
use Rattle.bus_machine.specs.NodeEvents.{received}
use Rattle.bus_machine.specs.LinkEvents.{sent_copy, arriving}
use Rattle.bus_machine.specs.BusStates.{BusState, opening, node_at, flight_at, with_node}
use Rattle.bus_machine.specs.RunParameters.{Run}
use Rattle.bus_machine.specs.MissedMessages.{missing_link}
use Rattle.bus_machine.specs.Machine.{BusEvent, Start, Step, Finish, Send, Arrive, Drop, Repeat, is_allowed, after}
use Rattle.bus_machine.specs.Machine.{after_start, after_send, after_arrive, on_step, flight_after_send, arrival}
use Rattle.bus_machine.specs.Machine.{early_stop}
use Rattle.bus_machine.specs.Replay.{entries, stop_entry}
use Rattle.bus_machine.specs.Agreement.{PhaseAgrees, Agrees}
use Rattle.bus_machine.specs.proof.AgreementLaws.{IsRunOf}
use Rattle.bus_machine.proofs.ListsAndOldestCopies.{numbered_at}
use Rattle.bus_machine.proofs.StateChangeAgreement.{node_set, node_stays}
use Rattle.bus_machine.proofs.MessageAndRunAgreement.{node_opens}
use Rattle.bus_machine.proofs.NodeEventBusAgreement.{is_waiting_phase}
use Rattle.pals_clock.specs.declared.clock.Clocks.{Clocks}
use Rattle.run_laws.specs.Runs.{KeepsTo}
use Rattle.run_laws.specs.proof.LinkTiming.{one_if}
use Rattle.run_laws.specs.proof.RunTermination.{most_lines}
use Rattle.run_laws.proofs.NodePicksAndRunReplay.{node_agrees, below_nodes, plan_rules}
use Rattle.run_laws.proofs.LinkTimingPreservation.{without_by}
use Rattle.run_laws.proofs.ClockAnswersAndDueArrivals.{message_keeps}
use Rattle.run_laws.proofs.Sums.{sum_below, sum_stays, sum_rises, sum_falls, sum_none, sum_scale, sum_both, sum_columns}
use Rattle.run_laws.proofs.Sums.{one_is, sum_list}

-- ---- of a node
-- a send counts for more than the messages that it puts into flight
abbrev send_left : ℕ → Bool → ℕ
send_left send true = 0
send_left send false = send

-- of the round in hand: a start and a finish for each step, and the send
abbrev round_left : ℕ → ℕ → Bool → Phase → ℕ
round_left rate send sent Waiting = 0
round_left rate send sent (Running step) = 2 * (rate - step) - 1 + send_left send sent
round_left rate send sent (Between steps) = 2 * (rate - steps) + send_left send sent
round_left rate send sent Holding = send_left send sent
round_left rate send sent Done = 0

-- and of all rounds
abbrev left_of : ℕ → ℕ → ℕ → ℕ → Phase → Bool → ℕ
left_of rate rounds send count p sent = (rounds - count) * (2 * rate + send) + round_left rate send sent p

abbrev node_left : Plan → ℕ → ℕ → NodeState → ℕ
node_left plan rounds send n = left_of plan.rate rounds send n.count n.phase n.sent

-- ---- each event of it
one_round_less : (rounds count each : ℕ) → count < rounds
    → (rounds - count) * each ≡ (rounds - (count + 1)) * each + each
one_round_less rounds count each below =
    let one : rounds - count ≡ (rounds - (count + 1)) + 1 = omega arith in
    ap (λ r. r * each) one ∙ omega arith

start_less : (plan : Plan) (rounds send : ℕ) (n : NodeState) (values : List PortValue) → 1 ≤ plan.rate
    → n.count < rounds
    → node_left plan rounds send (started plan values n) + 1 ≤ node_left plan rounds send n
start_less plan rounds send n values rate below =
    let more = one_round_less rounds n.count (2 * plan.rate + send) below in
    omega arith

step_less : (plan : Plan) (rounds send i : ℕ) (n : NodeState) → n.phase ≡ Between i → i < plan.rate
    → node_left plan rounds send (stepped i n) + 1 ≤ node_left plan rounds send n
step_less plan rounds send i n between below =
    let was : round_left plan.rate send n.sent n.phase ≡ 2 * (plan.rate - i) + send_left send n.sent =
    ap (round_left plan.rate send n.sent) between in
    omega arith

rest_left : (rate send : ℕ) (own sent b : Bool)
    → round_left rate send own (if sent then at_rest b else Holding) ≤ send_left send own
rest_left rate send own true true = omega arith
rest_left rate send own true false = omega arith
rest_left rate send own false b = omega arith

finish_by : (plan : Plan) (rounds send i : ℕ) (n x y : NodeState) (b : Bool) → nat_lt (i + 1) plan.rate ≡ b
    → i < plan.rate → n.phase ≡ Running i
    → x.count ≡ n.count → x.sent ≡ n.sent → x.phase ≡ Between (i + 1) → y.count ≡ n.count → y.sent ≡ n.sent
    → y.phase ≡ after_round rounds n
    → node_left plan rounds send (cond b x y) + 1 ≤ node_left plan rounds send n
finish_by plan rounds send i n x y true is below runs xc xs xp yc ys yp =
    let was : round_left plan.rate send n.sent n.phase ≡ 2 * (plan.rate - i) - 1 + send_left send n.sent =
    ap (round_left plan.rate send n.sent) runs in
    let now : round_left plan.rate send x.sent x.phase ≡ 2 * (plan.rate - (i + 1)) + send_left send x.sent =
    ap (round_left plan.rate send x.sent) xp in
    let unsent : send_left send x.sent ≡ send_left send n.sent = ap (send_left send) xs in
    let more : (rounds - x.count) * (2 * plan.rate + send) ≡ (rounds - n.count) * (2 * plan.rate + send) =
    ap (λ c. (rounds - c) * (2 * plan.rate + send)) xc in
    let last = ltb-true (i + 1) plan.rate is in
    omega arith
finish_by plan rounds send i n x y false is below runs xc xs xp yc ys yp =
    let was : round_left plan.rate send n.sent n.phase ≡ 2 * (plan.rate - i) - 1 + send_left send n.sent =
    ap (round_left plan.rate send n.sent) runs in
    let now : round_left plan.rate send y.sent y.phase ≡ round_left plan.rate send y.sent (after_round rounds n) =
    ap (round_left plan.rate send y.sent) yp in
    let rest = rest_left plan.rate send y.sent n.sent (nat_eq n.count rounds) in
    let unsent : send_left send y.sent ≡ send_left send n.sent = ap (send_left send) ys in
    let more : (rounds - y.count) * (2 * plan.rate + send) ≡ (rounds - n.count) * (2 * plan.rate + send) =
    ap (λ c. (rounds - c) * (2 * plan.rate + send)) yc in
    omega arith

finish_less : (plan : Plan) (rounds send i : ℕ) (n : NodeState) → i < plan.rate → n.phase ≡ Running i
    → node_left plan rounds send (finished plan rounds i n) + 1 ≤ node_left plan rounds send n
finish_less plan rounds send i n below runs =
    finish_by plan rounds send i n _ _ (nat_lt (i + 1) plan.rate) refl below runs refl refl refl refl refl refl

ended_left : (rate send : ℕ) (b : Bool) → round_left rate send true (at_rest b) ≡ 0
ended_left rate send true = refl
ended_left rate send false = refl

send_by : (plan : Plan) (rounds send : ℕ) (n : NodeState) (p : Phase) → send_left send n.sent ≡ send
    → option_map_or (nat_le plan.sent_steps) (finished_steps plan.rate p) false ≡ true
    → round_left plan.rate send true (phase_after_send n.count rounds p) + send ≤ round_left plan.rate send n.sent p
send_by plan rounds send n Waiting all enough = absurd (false≢true enough)
send_by plan rounds send n (Running step) all enough = omega arith
send_by plan rounds send n (Between steps) all enough = omega arith
send_by plan rounds send n Holding all enough = let none =
    ended_left plan.rate send (nat_eq n.count rounds) in omega arith
send_by plan rounds send n Done all enough = absurd (false≢true enough)

send_less : (plan : Plan) (rounds send : ℕ) (n : NodeState) → may_send plan n ≡ true
    → node_left plan rounds send (sent_from rounds n) + send ≤ node_left plan rounds send n
send_less plan rounds send n may =
    let parts =
    and_parts (not n.sent) (option_map_or (nat_le plan.sent_steps) (finished_steps plan.rate n.phase) false) may in
    let all : send_left send n.sent ≡ send = ap (send_left send) (not-true n.sent parts.0) in
    let less = send_by plan rounds send n n.phase all parts.1 in
    omega arith

-- ---- of a run: the remaining work of its nodes, and the copies in flight
-- the number of links on which a node sends
abbrev links_of : Run → ℕ → ℕ
links_of run node =
    sum_below (λ number. one_if (nat_eq (link_at run.design number).source.0 node)) (length run.design.links)

abbrev work_at : Run → BusState → ℕ → ℕ
work_at run s node = node_left (plan_of run.design node) run.rounds (links_of run node + 1) (node_at s node)

abbrev flying : BusState → ℕ → ℕ
flying s number = length (flight_at s number)

abbrev nodes_left : Run → BusState → ℕ
nodes_left run s = sum_below (work_at run s) (length run.design.components)

abbrev all_flying : Run → BusState → ℕ
all_flying run s = sum_below (flying s) (length run.design.links)

abbrev pub work_left : Run → BusState → ℕ
work_left run s = nodes_left run s + all_flying run s

-- if one node has less work
one_node_less : (run : Run) (s : BusState) (j less : ℕ) (m : NodeState) → Agrees run s
    → j < length run.design.components
    → node_left (plan_of run.design j) run.rounds (links_of run j + 1) m + less ≤ work_at run s j
    → nodes_left run (with_node s j m) + less ≤ nodes_left run s
one_node_less run s j less m agree within falls =
    sum_falls (work_at run s) (work_at run (with_node s j m)) (length run.design.components) j less within
    (subst (λ n. node_left (plan_of run.design j) run.rounds (links_of run j + 1) n + less ≤ work_at run s j)
    (sym (node_set s j m (below_nodes run s j agree within))) falls)
    (λ k below other.
    let same : work_at run (with_node s j m) k ≡ work_at run s k =
    ap (node_left (plan_of run.design k) run.rounds (links_of run k + 1)) (node_stays s j k m other) in
    omega arith)

-- ---- each event of it
abbrev pub stop_lines : Option Stop → ℕ
stop_lines None = 0
stop_lines (Some why) = 1

-- each line reduces the remaining work by at least one; the line of a stop does not
abbrev pub Lessens : Run → BusState → BusState → ℕ → Type 0
Lessens run s t lines = lines + work_left run t ≤ work_left run s + stop_lines t.stop

one_less : (run : Run) (s : BusState) (j : ℕ) (m : NodeState) → Agrees run s → j < length run.design.components
    → node_left (plan_of run.design j) run.rounds (links_of run j + 1) m + 1 ≤ work_at run s j
    → Lessens run s (with_node s j m) 1
one_less run s j m agree within falls = let less = one_node_less run s j 1 m agree within falls in omega arith

pub start_lessens : (run : Run) (s : BusState) (node : NodeNo) (reading m : Option ℕ) → IsRunOf run → Agrees run s
    → node.0 < length run.design.components → is_waiting (node_at s node.0).phase ≡ true
    → Lessens run s (after_start run s node reading m) 1
start_lessens run s node reading (Some link) rules agree within waits = omega arith
start_lessens run s node reading None rules agree within waits =
    let n = node_at s node.0 in
    let plan = plan_of run.design node.0 in
    let here = subst (PhaseAgrees run node.0 (component_at run.design node.0) n) (is_waiting_phase n.phase waits)
    (node_agrees run s node.0 agree within).phase in
    one_less run s node.0 (started plan (values_at run.env n.count) n) agree within
    (start_less plan run.rounds (links_of run node.0 + 1) n (values_at run.env n.count)
    (plan_rules run node.0 rules within).rate here.1)

pub step_lessens : (run : Run) (s : BusState) (node : NodeNo) (p : Phase) → Agrees run s
    → node.0 < length run.design.components
    → (node_at s node.0).phase ≡ p → is_some (next_step p) ≡ true
    → Lessens run s (on_step (next_step p) s (λ i. with_node s node.0 (stepped i (node_at s node.0)))) 1
step_lessens run s node Waiting agree within is may = absurd (false≢true may)
step_lessens run s node (Running i) agree within is may = absurd (false≢true may)
step_lessens run s node (Between i) agree within is may =
    let n = node_at s node.0 in
    let here =
    subst (PhaseAgrees run node.0 (component_at run.design node.0) n) is
    (node_agrees run s node.0 agree within).phase in
    one_less run s node.0 (stepped i n) agree within
    (step_less (plan_of run.design node.0) run.rounds (links_of run node.0 + 1) i n is here.0.within)
step_lessens run s node Holding agree within is may = absurd (false≢true may)
step_lessens run s node Done agree within is may = absurd (false≢true may)

pub finish_lessens : (run : Run) (s : BusState) (node : NodeNo) (p : Phase) → Agrees run s
    → node.0 < length run.design.components
    → (node_at s node.0).phase ≡ p → is_some (running_step p) ≡ true
    → Lessens run s (on_step (running_step p) s
    (λ i. with_node s node.0 (finished (plan_of run.design node.0) run.rounds i (node_at s node.0)))) 1
finish_lessens run s node Waiting agree within is may = absurd (false≢true may)
finish_lessens run s node (Running i) agree within is may =
    let n = node_at s node.0 in
    let plan = plan_of run.design node.0 in
    let here =
    subst (PhaseAgrees run node.0 (component_at run.design node.0) n) is
    (node_agrees run s node.0 agree within).phase in
    one_less run s node.0 (finished plan run.rounds i n) agree within
    (finish_less plan run.rounds (links_of run node.0 + 1) i n here.within is)
finish_lessens run s node (Between i) agree within is may = absurd (false≢true may)
finish_lessens run s node Holding agree within is may = absurd (false≢true may)
finish_lessens run s node Done agree within is may = absurd (false≢true may)

-- a send puts one copy on each link from the node
one_copy_by : (flight : List FlightCopy) (copy : FlightCopy) (b : Bool)
    → length (if b then flight ++ copy ∷ [] else flight) ≤ length flight + one_if b
one_copy_by flight copy true = let size = length-append flight (copy ∷ []) in omega arith
one_copy_by flight copy false = omega arith

one_copy : (run : Run) (s : BusState) (node : NodeNo) (reading : Option ℕ) (number : ℕ)
    → number < length run.design.links
    → flying (after_send run s node reading) number
    ≤ flying s number + one_if (nat_eq (link_at run.design number).source.0 node.0)
one_copy run s node reading number within =
    let n = node_at s node.0 in
    let link = link_at run.design number in
    let is : slice_get run.design.links number ≡ Some link = slice_get-get_or run.design.links number no_link within in
    let same : flight_at (after_send run s node reading) number ≡ flight_after_send run s node reading number link =
    numbered_at (λ (numbered : ℕ × Link). flight_after_send run s node reading numbered.0 numbered.1) run.design.links
    number link [] is in
    let copy =
    sent_copy (round_of n) reading (delay_of run.delays number (round_of n))
    (message_from (plan_of run.design node.0) n link.out_port) in
    let few = one_copy_by (flight_at s number) copy (nat_eq link.source.0 node.0) in
    let size = ap length same in
    omega arith

pub send_lessens : (run : Run) (s : BusState) (node : NodeNo) (reading : Option ℕ) → Agrees run s
    → node.0 < length run.design.components
    → may_send (plan_of run.design node.0) (node_at s node.0) ≡ true → Lessens run s (after_send run s node reading) 1
send_lessens run s node reading agree within may =
    let n = node_at s node.0 in
    let send = links_of run node.0 + 1 in
    let less : nodes_left run (after_send run s node reading) + send ≤ nodes_left run s =
    one_node_less run s node.0 send (sent_from run.rounds n) agree within
    (send_less (plan_of run.design node.0) run.rounds send n may) in
    let more = sum_rises (flying s) (flying (after_send run s node reading))
    (λ number. one_if (nat_eq (link_at run.design number).source.0 node.0)) (length run.design.links)
    (one_copy run s node reading) in
    omega arith

-- an arrival takes a copy out of its flight
fewer_by : (round : ℕ) (c : FlightCopy) (cs : List FlightCopy) (b : Bool) → cond b (Some c) (oldest round cs) ≢ None
    → (oldest round cs ≢ None → length (without_oldest round cs) + 1 ≤ length cs)
    → length (cond b cs (c ∷ without_oldest round cs)) + 1 ≤ length (c ∷ cs)
fewer_by round c cs true some rest = omega arith
fewer_by round c cs false some rest = let fewer = rest some in omega arith

fewer_left : (round : ℕ) (flight : List FlightCopy) → oldest round flight ≢ None
    → length (without_oldest round flight) + 1 ≤ length flight
fewer_left round [] some = absurd (some refl)
fewer_left round (c ∷ cs) some =
    subst (λ f. length f + 1 ≤ length (c ∷ cs)) (sym (without_by round c cs (is_of round c) refl))
    (fewer_by round c cs (is_of round c) some (fewer_left round cs))

stop_entries : (link : LinkNo) (round : ℕ) (reading : Option ℕ) (a : Arrived)
    → length (stop_entry (early_stop link round reading a)) ≡ stop_lines (early_stop link round reading a)
stop_entries link round reading Kept = refl
stop_entries link round reading Ignored = refl
stop_entries link round reading Early = refl

pub arrive_lessens : (run : Run) (s : BusState) (link : LinkNo) (round : ℕ) (reading : Option ℕ) (copy : FlightCopy)
    → Agrees run s
    → link.0 < length run.design.links → (link_at run.design link.0).target.0 < length run.design.components
    → oldest round (flight_at s link.0) ≡ Some copy
    → Lessens run s (after_arrive run s link round reading) (length (entries run s (Arrive link round reading)))
arrive_lessens run s link round reading copy agree within node is =
    let l = link_at run.design link.0 in
    let n = node_at s l.target.0 in
    let flight = without_oldest round (flight_at s link.0) in
    let tuple = arriving round (flight_at s link.0) in
    let send = links_of run l.target.0 + 1 in
    let plan = plan_of run.design l.target.0 in
    let m = received n l.in_port round tuple in
    let t = after_arrive run s link round reading in
    let same : node_left plan run.rounds send m ≡ work_at run s l.target.0 =
    message_keeps (λ x p b. left_of plan.rate run.rounds send x p b) n l.in_port tuple (arrived n l.in_port round) in
    let nodes : nodes_left run t + 0 ≤ nodes_left run s = one_node_less run s l.target.0 0 m agree node (omega arith) in
    let count = agree.flight_count in
    let there : link.0 < length s.flights = omega arith in
    let fewer =
    fewer_left round (flight_at s link.0) (λ none. let both : None ≡ Some copy = sym none ∙ is in absurd (cc)) in
    let here : flight_at t link.0 ≡ flight = get_or-set_at s.flights link.0 link.0 flight [] refl there in
    let size = ap length here in
    let flights : all_flying run t + 1 ≤ all_flying run s =
    sum_falls (flying s) (flying t) (length run.design.links) link.0 1 within (omega arith)
    (λ k below other.
    let stays : flying t k ≡ flying s k = ap length (get_or-set_other s.flights link.0 k flight [] other) in
    omega arith) in
    let lines = stop_entries link round reading (arrival run s link round) in
    omega arith

pub event_lessens : (run : Run) (clocks : Clocks) (s : BusState) (e : BusEvent) → IsRunOf run → Agrees run s
    → KeepsTo run clocks s e → is_allowed run s e ≡ true → Lessens run s (after run s e) (length (entries run s e))
event_lessens run clocks s (Start node reading) rules agree keeps may =
    start_lessens run s node reading (missing_link run s node.0) rules agree keeps.does.within may
event_lessens run clocks s (Step node reading) rules agree keeps may =
    step_lessens run s node (node_at s node.0).phase agree keeps.2.within refl may
event_lessens run clocks s (Finish node) rules agree keeps may =
    finish_lessens run s node (node_at s node.0).phase agree keeps refl may
event_lessens run clocks s (Send node reading) rules agree keeps may =
    send_lessens run s node reading agree keeps.1.within may
event_lessens run clocks s (Arrive link round reading) rules agree keeps may =
    arrive_lessens run s link round reading keeps.copy agree keeps.within keeps.does.within keeps.is_copy
event_lessens run clocks s (Drop link round) rules agree keeps may = absurd keeps
event_lessens run clocks s (Repeat link round) rules agree keeps may = absurd keeps

-- each has a line or more
pub some_lines : (run : Run) (s : BusState) (e : BusEvent) → 1 ≤ length (entries run s e)
some_lines run s (Start node reading) = omega arith
some_lines run s (Step node reading) = omega arith
some_lines run s (Finish node) = omega arith
some_lines run s (Send node reading) = omega arith
some_lines run s (Arrive link round reading) = omega arith
some_lines run s (Drop link round) = omega arith
some_lines run s (Repeat link round) = omega arith

-- ---- at the opening
abbrev none_fly : Link → List FlightCopy
none_fly l = []

empty_flight : (links : List Link) (number : ℕ) → length (slice_index_or (map none_fly links) number []) ≡ 0
empty_flight [] number = refl
empty_flight (l ∷ ls) zero = refl
empty_flight (l ∷ ls) (suc number) = empty_flight ls number

opening_work : (run : Run) (node : ℕ) → node < length run.design.components
    → work_at run (opening run) node ≡ run.rounds * (2 * (component_at run.design node).rate + 1 + links_of run node)
opening_work run node within =
    let plan = plan_of run.design node in
    let all : run.rounds - 0 ≡ run.rounds = omega arith in
    ap (node_left plan run.rounds (links_of run node + 1)) (node_opens run node within)
    ∙ ap (λ r. r * (2 * plan.rate + (links_of run node + 1)) + 0) all ∙ omega arith

-- the upper bound of the remaining work
pub most_left : (run : Run) → work_left run (opening run) + 1 ≤ most_lines run
most_left run =
    let nodes = length run.design.components in
    let steps = λ (k : ℕ). 2 * (component_at run.design k).rate + 1 in
    let each = sum_stays (λ k. run.rounds * (steps k + links_of run k)) (work_at run (opening run)) nodes
    (λ k below. let same = opening_work run k below in omega arith) in
    let scaled = sum_scale (λ k. steps k + links_of run k) run.rounds nodes in
    let both = sum_both steps (links_of run) nodes in
    let links =
    sum_columns (λ k number. one_if (nat_eq (link_at run.design number).source.0 k)) nodes (length run.design.links)
    (λ number below. one_is (link_at run.design number).source.0 nodes) in
    let list = sum_list (λ (c : Component). 2 * c.rate + 1) run.design.components no_component in
    let flights = sum_stays (λ k. 0) (flying (opening run)) (length run.design.links)
    (λ k below. let none = empty_flight run.design.links k in omega arith) in
    let none = sum_none (length run.design.links) in
    let most = most_times run.rounds (sum_below steps nodes + sum_below (links_of run) nodes)
    (sum_by (λ (c : Component). 2 * c.rate + 1) run.design.components + length run.design.links) (omega arith) in
    let total = ap (λ x. run.rounds * x) both in
    omega arith
  where
    most_times : (a b c : ℕ) → b ≤ c → a * b ≤ a * c
    most_times a b c le = grind (arith, common_steps)
