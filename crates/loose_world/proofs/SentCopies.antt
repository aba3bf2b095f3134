-- The law of sent messages: directly after a send, a copy of each of its messages is in flight.
use Rattle.std.proofs.Common.{◌≡◌, ℕ, suc, ◌+◌, ◌-◌, ◌<◌, nat_eq, Bool, true, false, cond, List, [], ◌∷◌, ◌++◌, length}
use Rattle.std.proofs.Common.{slice_get, Option, Some, None, All, refl, sym, ap, ◌∙◌, subst, arith}
use Rattle.std.specs.Prelude.{filter, find, Contains, if◌then◌else◌}
use Rattle.std.specs.List.{enumerate_from}
use Rattle.std.specs.Option.{option_or}
use Rattle.std.proofs.lemmas.Bool.{eqb-true, eq-eqb, false≢true}
use Rattle.std.proofs.lemmas.List.Folds.{find-append}
use Rattle.std.proofs.lemmas.List.Elements.{All-nil, All-cons, All-map, All-weaker, All-contains}
use Rattle.pals_base.specs.declared.basic_types.NodeNo.{NodeNo}
use Rattle.pals_model.specs.declared.design.Link.{Link}
use Rattle.pals_model.specs.declared.design.DesignParts.{DesignParts}
use Rattle.pals_model.specs.declared.flight_copy.FlightCopy.{FlightCopy}
use Rattle.pals_model.specs.Composition.{msg}
use Rattle.pals_model.specs.Delays.{delay_of}
use Rattle.pals_model.specs.Flights.{is_of, oldest}
use Rattle.pals_model.specs.IncomingAndOutgoingLinks.{links_from}
use Rattle.pals_runs.specs.declared.events_and_faults.Event.{Event}
use Rattle.pals_runs.specs.declared.events_and_faults.Event.TheVariants as event
use Rattle.bus_machine.specs.Plans.{component_at, plan_of}
use Rattle.bus_machine.specs.Nodes.{NodeState, round_of, sent_rounds}
use Rattle.bus_machine.specs.NodeEvents.{sent_from, message_from}
use Rattle.bus_machine.specs.LinkEvents.{sent_copy}
use Rattle.bus_machine.specs.BusStates.{BusState, node_at, flight_at}
use Rattle.bus_machine.specs.RunParameters.{Run}
use Rattle.bus_machine.specs.MissedMessages.{rounds_sent_on}
use Rattle.bus_machine.specs.Machine.{Send, IsStep, flight_after_send, after_send}
use Rattle.bus_machine.specs.Agreement.{IsCopy, Agrees}
use Rattle.bus_machine.specs.proof.AgreementLaws.{IsRunOf}
use Rattle.bus_machine.specs.WorldTexts.{sends_of}
use Rattle.bus_machine.proofs.MessageAndRunAgreement.{step_keeps_agreement}
use Rattle.bus_machine.proofs.ListsAndOldestCopies.{numbered_at, oldest_is_one}
use Rattle.bus_machine.proofs.NodeEventLocalAgreement.{MaySend}
use Rattle.bus_machine.proofs.StateChangeAgreement.{node_set}
use Rattle.bus_machine.proofs.NodeEventBusAgreement.{sender_before}
use Rattle.pals_bus.specs.BusValues.{BusValue, Happens}
use Rattle.loose_world.specs.proof.BusAfterEvents.{Undergoes, IsLeftBy, IsReplayed}
use Rattle.loose_world.specs.proof.EventSenders.{senders}
use Rattle.loose_world.specs.proof.SentCopies.{HasSent}
use Rattle.loose_world.proofs.FinishedAndSentRounds.{rounds_are_sent}
use Rattle.loose_world.proofs.StepAndSendCounts.{sender_is_there}
use Rattle.loose_world.proofs.BusAfterEvents.{makes_send, stays_replayed, events_replay}

-- ---- the links from a node
-- a link of the design from this node
record IsFrom (links : List Link) (node number : ℕ) : Type 0 where
  pub link : Link
  pub is_link : slice_get links number ≡ Some link
  pub from : nat_eq link.source.0 node ≡ true

-- the links that are numbered from a number on are elements of the list
abbrev AtPlace : List Link → ℕ → ℕ → ℕ × Link → Type 0
AtPlace links node before numbered =
    (k : ℕ) × (numbered.0 ≡ before + k) × (slice_get links k ≡ Some numbered.1)
    × (nat_eq numbered.1.source.0 node ≡ true)

later_place : (l : Link) (links : List Link) (node before : ℕ) (numbered : ℕ × Link)
    → AtPlace links node (before + 1) numbered
    → AtPlace (l ∷ links) node before numbered
later_place l links node before numbered at = (suc at.0, (let is = at.1 in omega arith), at.2, at.3)

from_by : (l : Link) (links : List Link) (node before : ℕ) (rest : List (ℕ × Link)) (b : Bool)
    → nat_eq l.source.0 node ≡ b
    → All (AtPlace (l ∷ links) node before) rest
    → All (AtPlace (l ∷ links) node before) (cond b ((before, l) ∷ rest) rest)
from_by l links node before rest true is all =
    All-cons (AtPlace (l ∷ links) node before) (before, l) rest (0, omega arith, refl, is) all
from_by l links node before rest false is all = all

all_from : (links : List Link) (node before : ℕ)
    → All (AtPlace links node before)
    (filter (λ numbered. nat_eq numbered.1.source.0 node) (enumerate_from before links))
all_from [] node before = All-nil (AtPlace [] node before)
all_from (l ∷ links) node before =
    let rest = filter (λ (numbered : ℕ × Link). nat_eq numbered.1.source.0 node) (enumerate_from (before + 1) links) in
    from_by l links node before rest (nat_eq l.source.0 node) refl
    (All-weaker (AtPlace links node (before + 1)) (AtPlace (l ∷ links) node before) (later_place l links node before)
    rest (all_from links node (before + 1)))

is_from : (links : List Link) (node : ℕ) (numbered : ℕ × Link) → AtPlace links node 0 numbered
    → IsFrom links node numbered.0
is_from links node numbered at =
    let same : numbered.0 ≡ at.0 = let is = at.1 in omega arith in
    record { link = numbered.1; is_link = ap (slice_get links) same ∙ at.2; from = at.3 }

links_are_from : (design : DesignParts) (node : ℕ) → All (IsFrom design.links node) (links_from design node)
links_are_from design node =
    let numbered = filter (λ (numbered : ℕ × Link). nat_eq numbered.1.source.0 node) (enumerate_from 0 design.links) in
    All-map (IsFrom design.links node) (λ (n : ℕ × Link). n.0) numbered
    (All-weaker (AtPlace design.links node 0) (λ n. IsFrom design.links node n.0) (is_from design.links node)
    numbered (all_from design.links node 0))

-- ---- the newest copy
found_before : (o : Option FlightCopy) (copy : FlightCopy) → (old : FlightCopy) × (option_or o (Some copy) ≡ Some old)
found_before None copy = (copy, refl)
found_before (Some old) copy = (old, refl)

-- where a copy of a round has been added, one is the oldest of its round
oldest_there : (round : ℕ) (flight : List FlightCopy) (copy : FlightCopy) → copy.round ≡ round
    → (old : FlightCopy) × (oldest round (flight ++ copy ∷ []) ≡ Some old)
oldest_there round flight copy is =
    let own : is_of round copy ≡ true = eq-eqb copy.round round is in
    let last : find (is_of round) (copy ∷ []) ≡ Some copy = ap (λ b. cond b (Some copy) None) own in
    let some = found_before (oldest round flight) copy in
    (some.0, find-append (is_of round) flight (copy ∷ []) ∙ ap (option_or (oldest round flight)) last ∙ some.1)

-- ---- after a send
-- on a link from the node of the send
sent_on : (run : Run) (s t : BusState) (node : NodeNo) (reading : Option ℕ) (number round : ℕ)
    → IsFrom run.design.links node.0 number
    → t ≡ after_send run s node reading → Agrees run t → round_of (node_at s node.0) ≡ round
    → (copy : FlightCopy) × (oldest round (flight_at t number) ≡ Some copy)
    × (copy.tuple ≡ msg run.design run.env number round)
sent_on run s t node reading number round from is agree same =
    let n = node_at s node.0 in
    let link = from.link in
    let copy =
    sent_copy (round_of n) reading (delay_of run.delays number (round_of n))
    (message_from (plan_of run.design node.0) n link.out_port) in
    let flight : flight_at t number ≡ flight_at s number ++ copy ∷ [] =
    ap (λ u. flight_at u number) is
    ∙ numbered_at (λ (numbered : ℕ × Link). flight_after_send run s node reading numbered.0 numbered.1) run.design.links
    number link [] from.is_link
    ∙ ap (λ b. if b then flight_at s number ++ copy ∷ [] else flight_at s number) from.from in
    let old = oldest_there round (flight_at s number) copy same in
    let found : oldest round (flight_at t number) ≡ Some old.0 = ap (oldest round) flight ∙ old.1 in
    let one =
    oldest_is_one (IsCopy run number (rounds_sent_on run t number)) round (flight_at t number) old.0
    (agree.links number link from.is_link).flight found in
    (old.0, found, one.0.tuple ∙ ap (msg run.design run.env number) (eqb-true old.0.round round one.1))

sent_count : (sent : Bool) (count round : ℕ) → sent ≡ false → (if sent then count else (count - 1)) ≡ round
    → count - 1 ≡ round
sent_count true count round unsent is = absurd (false≢true (sym unsent))
sent_count false count round unsent is = is

-- what a send leaves, in terms of its run
record HasSentOf (run : Run) (t : BusState) (node round : ℕ) : Type 0 where
  pub count : (node_at t node).count ≡ round + 1
  pub copies : (link : ℕ) → Contains (links_from run.design node) link
      → (copy : FlightCopy) × (oldest round (flight_at t link) ≡ Some copy)
      × (copy.tuple ≡ msg run.design run.env link round)

has_sent : (run : Run) (s t : BusState) (node : NodeNo) (reading : Option ℕ) (round : ℕ) → IsRunOf run → Agrees run s
    → IsStep run s (Send node reading) t → sent_rounds (node_at s node.0) ≡ round → HasSentOf run t node.0 round
has_sent run s t node reading round rules agree step sent =
    let n = node_at s node.0 in
    let before : MaySend run node.0 (component_at run.design node.0) n = sender_before run s node agree step.allowed in
    let this : n.count - 1 ≡ round = sent_count n.sent n.count round before.unsent sent in
    let some : n.count ≡ suc before.under_way.round = before.under_way.count in
    let there = sender_is_there run s node agree step.allowed in
    let size = agree.node_count in
    let within : node.0 < length s.nodes = omega arith in
    let after_it : Agrees run t = step_keeps_agreement run s t (Send node reading) rules agree step in
    let stays : (node_at t node.0).count ≡ n.count = ap (λ u. (node_at u node.0).count) step.state
    ∙ ap (λ (m : NodeState). m.count) (node_set s node.0 (sent_from run.rounds n) within) in
    record {
      count = omega arith;
      copies =
          λ link is. sent_on run s t node reading link round
          (All-contains (IsFrom run.design.links node.0) (links_from run.design node.0) link
          (links_are_from run.design node.0) is) step.state after_it this;
    }

pub sent_of_run : (run : Run) (s t : BusValue) (node : NodeNo) (round : ℕ) → IsRunOf run → IsReplayed run s
    → Undergoes s (event.Send node) t
    → (node.0 < length run.design.components → sent_rounds (node_at s.state node.0) ≡ round) → HasSent t node.0 round
sent_of_run run s t node round rules before undergoes sent =
    let send = makes_send s t node undergoes in
    let happens : Happens s (Send node send.0) t = send.1 in
    let step : IsStep run s.state (Send node send.0) t.state =
    subst (λ r. IsStep r s.state (Send node send.0) t.state) before.run_is happens.step in
    let there = sender_is_there run s.state node before.agrees step.allowed in
    let has : HasSentOf run t.state node.0 round =
    has_sent run s.state t.state node send.0 round rules before.agrees step (sent there) in
    let behind : IsReplayed run t = stays_replayed run s t (event.Send node) rules before undergoes in
    let same : HasSentOf t.run t.state node.0 round =
    subst (λ r. HasSentOf r t.state node.0 round) (sym behind.run_is) has in
    record { count = same.count; copies = same.copies }

pub sends_are_in_flight : (run : Run) (before : List Event) (s : BusValue) (lines : List (List ℕ)) → IsRunOf run
    → IsLeftBy run before s lines
    → (t : BusValue) (node : NodeNo) → Undergoes s (event.Send node) t
    → HasSent t node.0 (sends_of node.0 (senders before))
sends_are_in_flight run before s lines rules left t node undergoes =
    sent_of_run run s t node _ rules (events_replay run before s lines rules left) undergoes
    (rounds_are_sent run before s lines rules left node.0)
