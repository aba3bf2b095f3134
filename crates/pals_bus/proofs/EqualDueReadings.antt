-- All copies of one round of a link are due at one reading, in each state that a journal leads to.
use Rattle.std.proofs.Common.{◌≡◌, ◌∙◌, inl, inr, ℕ, zero, suc, ◌<◌, nat_eq, Bool, true, false, List, [], ◌∷◌, ◌++◌}
use Rattle.std.proofs.Common.{length, map, Option, Some, None, AllPairs, refl, sym, ap, subst, arith}
use Rattle.std.specs.Prelude.{slice_index_or, slice_set, slice_get, if◌then◌else◌}
use Rattle.std.specs.List.{enumerate_from, position, position_or_len}
use Rattle.std.proofs.lemmas.Bool.{cases_eq, cases_lt, eqb-true}
use Rattle.std.proofs.lemmas.List.{append-nil, length-set, get_or-set_other, get_or_past}
use Rattle.std.proofs.lemmas.List.Folds.{find_at}
use Rattle.std.proofs.lemmas.List.Quantifiers.{all_pairs_push, all_pairs_remove}
use Rattle.std.proofs.lemmas.Grind.{get_or-set_at}
use Rattle.std.proofs.lemmas.Option.{slice_get_within, slice_get-get_or, get_or_from_slice_get}
use Rattle.list_lemmas.proofs.ListOperations.{length-map_enumerate_from}
use Rattle.pals_base.specs.declared.basic_types.NodeNo.{NodeNo}
use Rattle.pals_model.specs.declared.design.Link.{Link}
use Rattle.pals_model.specs.declared.flight_copy.FlightCopy.{FlightCopy}
use Rattle.pals_model.specs.Delays.{delay_of}
use Rattle.pals_model.specs.Flights.{is_of, oldest, without_oldest}
use Rattle.pals_runs.specs.declared.journal.JournalEntry.{JournalEntry}
use Rattle.link_buffers.proofs.FirstPassingItem.{place_within, without_some, without_none}
use Rattle.bus_machine.specs.Plans.{plan_of, link_at, no_link}
use Rattle.bus_machine.specs.Nodes.{NodeState, round_of, sent_rounds}
use Rattle.bus_machine.specs.NodeEvents.{next_step, running_step, stepped, finished, message_from}
use Rattle.bus_machine.specs.LinkEvents.{repeated, once_more, sent_copy}
use Rattle.bus_machine.specs.BusStates.{BusState, node_at, flight_at, with_node}
use Rattle.bus_machine.specs.RunParameters.{Run}
use Rattle.bus_machine.specs.MissedMessages.{missing_link}
use Rattle.bus_machine.specs.Machine.{BusEvent, Start, Step, Finish, Send, Arrive, Drop, Repeat, is_allowed, after}
use Rattle.bus_machine.specs.Machine.{after_start, on_step, flight_after_send}
use Rattle.bus_machine.specs.Agreement.{Agrees}
use Rattle.bus_machine.specs.proof.AgreementLaws.{IsRunOf}
use Rattle.bus_machine.specs.Replay.{Replays, opens, goes_on}
use Rattle.bus_machine.proofs.MessageAndRunAgreement.{replay_agrees}
use Rattle.bus_machine.proofs.ListsAndOldestCopies.{numbered_at}
use Rattle.pals_bus.proofs.OwedEntries.{is_unsent}

-- copies of one round are due at one reading
abbrev pub SameDue : List FlightCopy → Type 0
SameDue copies = AllPairs (λ a b. a.round ≡ b.round → a.due ≡ b.due) copies

pub same_due_none : SameDue []
same_due_none i j d before within = absurd (omega (arith, within))

-- one more copy, which is due with each other one of its round
pub same_due_push : (copies : List FlightCopy) (copy : FlightCopy) → SameDue copies
    → ((k : ℕ) (d : FlightCopy) → k < length copies → (slice_index_or copies k d).round ≡ copy.round
    → (slice_index_or copies k d).due ≡ copy.due) → SameDue (copies ++ copy ∷ [])
same_due_push copies copy same with_it =
    all_pairs_push (λ a b. a.round ≡ b.round → a.due ≡ b.due) copies copy same with_it

-- a copy of a round that is later than all others
pub same_due_sent : (copies : List FlightCopy) (copy : FlightCopy) → SameDue copies
    → ((k : ℕ) (d : FlightCopy) → k < length copies → (slice_index_or copies k d).round < copy.round)
    → SameDue (copies ++ copy ∷ [])
same_due_sent copies copy same later =
    same_due_push copies copy same (λ k d lt is. absurd (let before = later k d lt in omega (arith, before, is)))

-- ---- the oldest copy of a round leaves
without_of : (round : ℕ) (copies : List FlightCopy) (o : Option ℕ) → position (is_of round) copies ≡ o → SameDue copies
    → SameDue (without_oldest round copies)
without_of round copies None is same = subst SameDue (sym (without_none (is_of round) copies is)) same
without_of round copies (Some n) is same =
    subst SameDue (sym (without_some (is_of round) copies n is))
    (all_pairs_remove (λ a b. a.round ≡ b.round → a.due ≡ b.due) copies n
    (place_within (is_of round) copies n is) same)

pub same_due_without : (round : ℕ) (copies : List FlightCopy) → SameDue copies → SameDue (without_oldest round copies)
same_due_without round copies same = without_of round copies (position (is_of round) copies) refl same

-- ---- one of a round is due when each other one of it is
pub due_of : (copies : List FlightCopy) (n : ℕ) (copy : FlightCopy) → slice_get copies n ≡ Some copy → SameDue copies
    → (k : ℕ) (d : FlightCopy) → k < length copies → (slice_index_or copies k d).round ≡ copy.round
    → (slice_index_or copies k d).due ≡ copy.due
due_of copies n copy at same k d lt is =
    let here : slice_index_or copies n d ≡ copy = get_or_from_slice_get copies n copy d at in
    let round = ap (λ (c : FlightCopy). c.round) here in
    let due = ap (λ (c : FlightCopy). c.due) here in
    elim (cases_lt k n) [
      | inl before ↦ same k n d before (slice_get_within copies n copy at) (is ∙ sym round) ∙ due
      | inr past ↦ elim (cases_eq k n) [
        | inl e ↦ ap (λ j. (slice_index_or copies j d).due) e ∙ due
        | inr other ↦ sym (same n k d
            (elim (cases_lt n k) [ inl after ↦ after | inr not ↦ absurd (other (omega (arith, past, not))) ]) lt
            (round ∙ sym is)) ∙ due
      ]
    ]

repeated_of : (round : ℕ) (copies : List FlightCopy) (o : Option FlightCopy) → oldest round copies ≡ o → SameDue copies
    → SameDue (copies ++ once_more o)
repeated_of round copies None is same = subst SameDue (sym (append-nil copies)) same
repeated_of round copies (Some copy) is same =
    same_due_push copies copy same
    (due_of copies (position_or_len (is_of round) copies) copy (sym (find_at (is_of round) copies) ∙ is) same)

pub same_due_repeated : (round : ℕ) (copies : List FlightCopy) → SameDue copies → SameDue (repeated round copies)
same_due_repeated round copies same = repeated_of round copies (oldest round copies) refl same

-- ---- all links of a state
abbrev pub AreSameDues : BusState → Type 0
AreSameDues s = (number : ℕ) → SameDue (flight_at s number)

dues_set : (flights : List (List FlightCopy)) (at : ℕ) (flight : List FlightCopy)
    → ((number : ℕ) → SameDue (slice_index_or flights number [])) → SameDue flight → (number : ℕ)
    → SameDue (slice_index_or (slice_set flights at flight) number [])
dues_set flights at flight same new number = elim (cases_eq number at) [
  | inl e ↦ elim (cases_lt at (length flights)) [
    | inl within ↦ subst SameDue (sym (get_or-set_at flights at number flight [] e within)) new
    | inr past ↦ subst SameDue
        (sym (get_or_past (slice_set flights at flight) number []
        (let size = length-set flights at flight in omega (arith, size, past, e)))) same_due_none
  ]
  | inr other ↦ subst SameDue (sym (get_or-set_other flights at number flight [] other)) (same number)
]

on_step_dues : (o : Option ℕ) (s : BusState) (go : ℕ → BusState) → ((step : ℕ) → (go step).flights ≡ s.flights)
    → AreSameDues s → AreSameDues (on_step o s go)
on_step_dues None s go same dues = dues
on_step_dues (Some step) s go same dues =
    λ number. subst SameDue (ap (λ fs. slice_index_or fs number []) (sym (same step))) (dues number)

start_dues : (run : Run) (s : BusState) (node : NodeNo) (reading m : Option ℕ) → AreSameDues s
    → AreSameDues (after_start run s node reading m)
start_dues run s node reading None dues = dues
start_dues run s node reading (Some link) dues = dues

-- the copies in flight from a node that has not sent its round belong to earlier rounds
in_flight_earlier : (n : NodeState) (round : ℕ) → n.sent ≡ false → round < sent_rounds n → round < round_of n
in_flight_earlier n round unsent lt = let is : sent_rounds n ≡ round_of n =
    ap (λ b. if b then n.count else round_of n) unsent in omega (arith, lt, is)

abbrev copy_sent : Run → BusState → NodeNo → Option ℕ → ℕ → Link → FlightCopy
copy_sent run s node reading number link =
    let n = node_at s node.0 in
    sent_copy (round_of n) reading (delay_of run.delays number (round_of n))
    (message_from (plan_of run.design node.0) n link.out_port)

send_dues_at : (run : Run) (s : BusState) (node : NodeNo) (reading : Option ℕ) (number : ℕ) (link : Link) (b : Bool)
    → Agrees run s → (node_at s node.0).sent ≡ false → slice_get run.design.links number ≡ Some link
    → nat_eq link.source.0 node.0 ≡ b → AreSameDues s
    → SameDue (if b then flight_at s number ++ copy_sent run s node reading number link ∷ [] else flight_at s number)
send_dues_at run s node reading number link false agree unsent is from dues = dues number
send_dues_at run s node reading number link true agree unsent is from dues =
    same_due_sent (flight_at s number) (copy_sent run s node reading number link) (dues number)
    (λ k d lt.
    let copy = (agree.links number link is).flight k d lt in
    let source : (link_at run.design number).source.0 ≡ node.0 =
    ap (λ (l : Link). l.source.0) (get_or_from_slice_get run.design.links number link no_link is)
    ∙ eqb-true link.source.0 node.0 from in
    in_flight_earlier (node_at s node.0) (slice_index_or (flight_at s number) k d).round unsent
    (subst (λ at. (slice_index_or (flight_at s number) k d).round < sent_rounds (node_at s at)) source copy.round))

dues_after : (run : Run) (s : BusState) (e : BusEvent) → Agrees run s → is_allowed run s e ≡ true → AreSameDues s
    → AreSameDues (after run s e)
dues_after run s (Start node reading) agree may dues = start_dues run s node reading (missing_link run s node.0) dues
dues_after run s (Step node reading) agree may dues =
    on_step_dues (next_step (node_at s node.0).phase) s (λ step. with_node s node.0 (stepped step (node_at s node.0)))
    (λ step. refl) dues
dues_after run s (Finish node) agree may dues =
    on_step_dues (running_step (node_at s node.0).phase) s
    (λ step. with_node s node.0 (finished (plan_of run.design node.0) run.rounds step (node_at s node.0)))
    (λ step. refl) dues
dues_after run s (Send node reading) agree may dues = λ number.
    let f : ℕ × Link → List FlightCopy = λ numbered. flight_after_send run s node reading numbered.0 numbered.1 in
    let links = run.design.links in
    elim (cases_lt number (length links)) [
      | inl within ↦
          let link = slice_index_or links number no_link in
          let is : slice_get links number ≡ Some link = slice_get-get_or links number no_link within in
          subst SameDue (sym (numbered_at f links number link [] is))
          (send_dues_at run s node reading number link (nat_eq link.source.0 node.0) agree
          (is_unsent (plan_of run.design node.0) (node_at s node.0) may) is refl dues)
      | inr past ↦ subst SameDue
          (sym (get_or_past (map f (enumerate_from 0 links)) number []
          (let size = length-map_enumerate_from f 0 links in omega (arith, size, past)))) same_due_none
    ]
dues_after run s (Arrive link round reading) agree may dues =
    dues_set s.flights link.0 (without_oldest round (flight_at s link.0)) dues
    (same_due_without round (flight_at s link.0) (dues link.0))
dues_after run s (Drop link round) agree may dues =
    dues_set s.flights link.0 (without_oldest round (flight_at s link.0)) dues
    (same_due_without round (flight_at s link.0) (dues link.0))
dues_after run s (Repeat link round) agree may dues =
    dues_set s.flights link.0 (repeated round (flight_at s link.0)) dues
    (same_due_repeated round (flight_at s link.0) (dues link.0))

abbrev no_copies : List FlightCopy
no_copies = []

none_in_flight : (links : List Link) (number : ℕ)
    → SameDue (slice_index_or (map (λ (_ : Link). no_copies) links) number no_copies)
none_in_flight [] number = same_due_none
none_in_flight (link ∷ links) zero = same_due_none
none_in_flight (link ∷ links) (suc number) = none_in_flight links number

pub same_dues : (run : Run) (journal : List JournalEntry) (s : BusState) → IsRunOf run → Replays run journal s
    → AreSameDues s
same_dues run journal s rules opens = none_in_flight run.design.links
same_dues run journal s rules (goes_on {journal = before} {s = t} e replays step) =
    subst AreSameDues (sym step.state)
    (dues_after run t e (replay_agrees run before t rules replays) step.allowed
    (same_dues run before t rules replays))
