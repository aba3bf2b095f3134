-- Each sent copy has its line: what a loose world writes of its events.
use Rattle.std.proofs.Common.{◌≡◌, ℕ, ◌+◌, ◌-◌, ◌<◌, false, List, [], ◌∷◌, ◌++◌, length, map, All, refl, sym, ap, ap₂}
use Rattle.std.proofs.Common.{◌∙◌, arith}
use Rattle.std.specs.Prelude.{flat_map, slice_index_or}
use Rattle.std.proofs.lemmas.List.Elements.{All-head, All-tail, Contains-get_or}
use Rattle.pals_model.specs.IncomingAndOutgoingLinks.{links_from}
use Rattle.pals_runs.specs.declared.events_and_faults.Event.{Event}
use Rattle.pals_runs.specs.declared.events_and_faults.Event.TheVariants as event
use Rattle.bus_machine.specs.BusStates.{BusState, node_at}
use Rattle.bus_machine.specs.RunParameters.{Run}
use Rattle.bus_machine.specs.Nodes.{sent_rounds}
use Rattle.bus_machine.specs.proof.AgreementLaws.{IsRunOf}
use Rattle.bus_machine.specs.WorldTexts.{sender, sends_of, sent_line, sent_lines}
use Rattle.pals_report.specs.SentMessageLines.{sent_line as line}
use Rattle.pals_bus.specs.BusValues.{BusValue}
use Rattle.pals_bus.specs.proof.OpeningNodes.{opening_bus}
use Rattle.loose_world.specs.SentLines.{message_lines, copy_lines, sent_lines as shown_lines}
use Rattle.loose_world.specs.LooseRuns.{InTurn, told_by}
use Rattle.loose_world.specs.proof.BusAfterEvents.{Undergoes, IsLeftBy, IsReplayed}
use Rattle.loose_world.specs.proof.SentCopies.{HasSent}
use Rattle.loose_world.proofs.FinishedAndSentRounds.{sent_more, nothing_sent}
use Rattle.loose_world.proofs.SentLinesPerEvent.{round_lines, event_lines, and_sender, one_event}
use Rattle.loose_world.proofs.BusAfterEvents.{stays_replayed, opens_replayed}
use Rattle.loose_world.proofs.SentCopies.{sent_of_run}

one_line_each : (f : ℕ → List (List ℕ)) (g : ℕ → List ℕ) (links : List ℕ) → All (λ link. f link ≡ g link ∷ []) links
    → flat_map f links ≡ map g links
one_line_each f g [] all = refl
one_line_each f g (link ∷ links) all =
    ap₂ (λ xs ys. xs ++ ys) (All-head (λ l. f l ≡ g l ∷ []) link links all)
    (one_line_each f g links (All-tail (λ l. f l ≡ g l ∷ []) link links all))

shown : (t : BusValue) (node round : ℕ) → HasSent t node round
    → shown_lines t node ≡ round_lines t.run.design t.run.env node round
shown t node round sent =
    let design = t.run.design in
    let count = sent.count in
    let this : (node_at t.state node).count - 1 ≡ round = omega arith in
    ap (λ k. flat_map (message_lines t k) (links_from design node)) this
    ∙ one_line_each (message_lines t round) (λ link. sent_line design t.run.env link round) (links_from design node)
    (λ k d within.
    let link = slice_index_or (links_from design node) k d in
    let copy = sent.copies link (Contains-get_or (links_from design node) k d within) in
    ap (copy_lines design link round) copy.1 ∙ ap (λ tuple. line design link round tuple ∷ []) copy.2)

-- the sends of each node so far are the sends of the earlier events
abbrev HaveSent : Run → BusState → List ℕ → Type 0
HaveSent run s before =
    (node : ℕ) → node < length run.design.components → sent_rounds (node_at s node) ≡ sends_of node before

told : (run : Run) (s t : BusValue) (e : Event) (before : List ℕ) → IsRunOf run → IsReplayed run s
    → HaveSent run s.state before
    → Undergoes s e t → told_by t e ≡ event_lines run.design run.env before (sender e)
told run s t (event.Pass time readings) before rules replayed sent undergoes = refl
told run s t (event.Start node) before rules replayed sent undergoes = refl
told run s t (event.Step node) before rules replayed sent undergoes = refl
told run s t (event.Finish node) before rules replayed sent undergoes = refl
told run s t (event.Send node) before rules replayed sent undergoes =
    let round = sends_of node.0 before in
    let behind : IsReplayed run t = stays_replayed run s t (event.Send node) rules replayed undergoes in
    shown t node.0 round (sent_of_run run s t node round rules replayed undergoes (sent node.0))
    ∙ ap (λ (r : Run). round_lines r.design r.env node.0 round) behind.run_is
told run s t (event.Arrive link round) before rules replayed sent undergoes = refl
told run s t (event.Drop link round) before rules replayed sent undergoes = refl
told run s t (event.Repeat link round) before rules replayed sent undergoes = refl

all_told : (run : Run) (s t : BusValue) (events : List Event) (lines : List (List ℕ)) (before : List ℕ) → IsRunOf run
    → IsReplayed run s
    → HaveSent run s.state before → InTurn Undergoes s events t lines
    → lines ≡ sent_lines run.design run.env events before
all_told run s t [] lines before rules replayed sent turns = turns.1
all_told run s t (e ∷ events) lines before rules replayed sent turns =
    let next : BusValue = turns.0 in
    let behind = stays_replayed run s next e rules replayed turns.2 in
    turns.4
    ∙ ap₂ (λ xs ys. xs ++ ys) (told run s next e before rules replayed sent turns.2)
    (all_told run next t events turns.1 (and_sender before (sender e)) rules behind
    (sent_more run s next e before rules replayed sent turns.2) turns.3)
    ∙ sym (one_event run.design run.env before events (sender e) (sent_lines run.design run.env events))

pub lines_are_told : (run : Run) (events : List Event) (t : BusValue) (lines : List (List ℕ)) → IsRunOf run
    → IsLeftBy run events t lines
    → lines ≡ sent_lines run.design run.env events []
lines_are_told run events t lines rules left =
    let opened = opening_bus run left.programs false in
    all_told run opened t events lines [] rules (opens_replayed run left.programs rules)
    (λ node within. nothing_sent run node) left.undergone
