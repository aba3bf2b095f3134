-- A node whose clock shows a reading for its next action can do that action, or a message that is due to it can
-- arrive first; and a step that runs can finish.
use Rattle.std.proofs.Common.{◌≡◌, ◌⊎◌, inl, inr, ℕ, suc, ◌+◌, ◌*◌, ◌<◌, nat_eq, nat_lt, nat_le, Bool, true, false, not}
use Rattle.std.proofs.Common.{◌&&◌, ◌||◌, cond, List, [], ◌∷◌, length, slice_get, All, Option, Some, refl, sym, ap, ◌∙◌}
use Rattle.std.proofs.Common.{subst, arith}
use Rattle.std.specs.Prelude.{is_some}
use Rattle.std.specs.Option.{option_map_or}
use Rattle.std.proofs.lemmas.Bool.{cases_eq, false≢true, ltb-false, and_from, not_from_false}
use Rattle.std.proofs.lemmas.Grind.{common_steps}
use Rattle.std.proofs.lemmas.List.Elements.{All-cons, All-nil}
use Rattle.std.proofs.lemmas.Option.{same_Some, slice_get_within, slice_get-get_or}
use Rattle.pals_base.specs.declared.basic_types.NodeNo.{NodeNo}
use Rattle.pals_model.specs.declared.design.Link.{Link}
use Rattle.pals_model.specs.declared.flight_copy.FlightCopy.{FlightCopy}
use Rattle.pals_runs.specs.declared.phase.Phase.{Phase}
use Rattle.pals_runs.specs.declared.phase.Phase.TheVariants.{Waiting, Running, Between, Holding, Done}
use Rattle.pals_runs.specs.declared.journal.JournalEntry.{JournalEntry}
use Rattle.bus_machine.specs.declared.node_action.NodeAction.{NodeAction}
use Rattle.bus_machine.specs.declared.node_action.NodeAction.TheVariants as action
use Rattle.bus_machine.specs.Plans.{plan_of, component_at, link_at, no_link}
use Rattle.bus_machine.specs.Nodes.{round_of, finished_steps}
use Rattle.bus_machine.specs.NodeEvents.{is_waiting, next_step, running_step}
use Rattle.bus_machine.specs.BusStates.{BusState, node_at, flight_at}
use Rattle.bus_machine.specs.RunParameters.{Run}
use Rattle.bus_machine.specs.Machine.{BusEvent, Start, Step, Finish, Send, Arrive, is_allowed}
use Rattle.bus_machine.specs.ActionsAndTargets.{Progress, send_is_next, next_in}
use Rattle.bus_machine.specs.Agreement.{PhaseAgrees}
use Rattle.bus_machine.specs.proof.AgreementLaws.{IsRunOf}
use Rattle.run_laws.specs.TraceRules.{is_due}
use Rattle.pals_clock.specs.declared.clock.Clocks.{Clocks}
use Rattle.run_laws.specs.Runs.{Does, IsAwaited, KeepsTo, Runs, next_start}
use Rattle.run_laws.specs.proof.ClockAnswersAndDueArrivals.{IsDueAt}
use Rattle.run_laws.proofs.NodePicksAndRunReplay.{runs_agree, node_agrees, plan_rules}
use Rattle.run_laws.proofs.ClockAnswersAndDueArrivals.{due_takes}
use Rattle.run_laws.proofs.BoundedSearch.{first_or_none}

-- ---- possible events
-- an event that respects the clocks and is allowed
pub record CanGo (run : Run) (clocks : Clocks) (s : BusState) : Type 0 where
  pub event : BusEvent
  pub keeps : KeepsTo run clocks s event
  pub allowed : is_allowed run s event ≡ true

-- ---- the copies that are deliverable to a node
abbrev Found : Option ℕ → List FlightCopy → Type 0
Found reading flight =
    (place : ℕ) × (copy : FlightCopy) × (slice_get flight place ≡ Some copy) × (is_due reading copy ≡ true)

abbrev NotDue : Option ℕ → FlightCopy → Type 0
NotDue reading copy = is_due reading copy ≡ false

due_by : (reading : Option ℕ) (c : FlightCopy) (cs : List FlightCopy) (b : Bool) → is_due reading c ≡ b
    → Found reading cs ⊎ All (NotDue reading) cs
    → Found reading (c ∷ cs) ⊎ All (NotDue reading) (c ∷ cs)
due_by reading c cs true is rest = inl (0, c, refl, is)
due_by reading c cs false is (inl found) = inl (suc found.0, found.1, found.2, found.3)
due_by reading c cs false is (inr none) = inr (All-cons (NotDue reading) c cs is none)

due_in : (reading : Option ℕ) (flight : List FlightCopy) → Found reading flight ⊎ All (NotDue reading) flight
due_in reading [] = inr (All-nil (NotDue reading))
due_in reading (c ∷ cs) = due_by reading c cs (is_due reading c) refl (due_in reading cs)

abbrev SomeDue : Run → BusState → ℕ → ℕ → ℕ → Type 0
SomeDue run s node reading number = (round : ℕ) × IsDueAt run s node (record { 0 = number }) round reading

abbrev NoneOn : Run → BusState → ℕ → ℕ → ℕ → Type 0
NoneOn run s node reading number =
    (link : Link) → slice_get run.design.links number ≡ Some link → link.target.0 ≡ node
    → All (NotDue (Some reading)) (flight_at s number)

due_on : (run : Run) (s : BusState) (node reading number : ℕ) → number < length run.design.links
    → SomeDue run s node reading number ⊎ NoneOn run s node reading number
due_on run s node reading number within =
    let l = link_at run.design number in
    let is : slice_get run.design.links number ≡ Some l = slice_get-get_or run.design.links number no_link within in
    elim (cases_eq l.target.0 node) [
      | inl here ↦ elim (due_in (Some reading) (flight_at s number)) [
        | inl found ↦ inl (
          found.1.round,
          record {
            the_link = l;
            is_link = is;
            to_node = here;
            place = found.0;
            copy = found.1;
            is_copy = found.2;
            of_round = refl;
            due = found.3;
          },
        )
        | inr none ↦ inr (λ link is_link to. none)
      ]
      | inr other ↦ inr (λ link is_link to.
          absurd (other (ap (λ (m : Link). m.target.0) (same_Some l link (sym is ∙ is_link)) ∙ to)))
    ]

-- ---- a start, or first the arrival of a deliverable message
starts : (run : Run) (clocks : Clocks) (journal : List JournalEntry) (s : BusState) (node : NodeNo) (at : ℕ)
    → IsRunOf run → Runs run clocks journal s
    → Does run clocks s node (Some at) (next_start s node) → is_waiting (node_at s node.0).phase ≡ true
    → IsAwaited run clocks s node.0
    → CanGo run clocks s
starts run clocks journal s node at rules runs does waits awaited =
    elim (first_or_none (SomeDue run s node.0 at) (NoneOn run s node.0 at) (length run.design.links)
    (due_on run s node.0 at)) [
      | inl first ↦
          let round = first.found.0 in
          let takes =
          due_takes run clocks journal s node at (record { 0 = first.place }) round rules runs
          (record { does = does; waits = waits }) first.found.1 in
          record {
            event = Arrive (record { 0 = first.place }) round (Some at);
            keeps = takes;
            allowed = ap is_some takes.is_copy;
          }
      | inr none ↦ record {
        event = Start node (Some at);
        keeps = record {
          does = does;
          taken = λ number link is to. none number (slice_get_within run.design.links number link is) link is to;
          awaited = awaited;
        };
        allowed = waits;
      }
    ]

-- ---- the next action of a node
abbrev DoesNext : Run → Clocks → BusState → NodeNo → ℕ → NodeAction → Type 0
DoesNext run clocks s node at action = Does run clocks s node (Some at) action

can_send : (run : Run) (clocks : Clocks) (s : BusState) (node : NodeNo) (at round steps : ℕ) (p : Phase)
    → Does run clocks s node (Some at) (action.Send round) → (node_at s node.0).phase ≡ p
    → (node_at s node.0).sent ≡ false → finished_steps (plan_of run.design node.0).rate p ≡ Some steps
    → nat_le (plan_of run.design node.0).sent_steps steps ≡ true → CanGo run clocks s
can_send run clocks s node at round steps p does is unsent finished enough =
    let n = node_at s node.0 in
    let plan = plan_of run.design node.0 in
    let now : option_map_or (nat_le plan.sent_steps) (finished_steps plan.rate n.phase) false ≡ true =
    ap (λ q. option_map_or (nat_le plan.sent_steps) (finished_steps plan.rate q) false) is
    ∙ ap (λ o. option_map_or (nat_le plan.sent_steps) o false) finished ∙ enough in
    record {
      event = Send node (Some at);
      keeps = (round, does);
      allowed = and_from _ _ (not_from_false n.sent unsent) now;
    }

enough_by : (sent x y : Bool) → (not sent && x && y) ≡ true → (sent ≡ false) × (x ≡ true)
enough_by true x y is = absurd (false≢true is)
enough_by false true y is = (refl, refl)
enough_by false false y is = absurd (false≢true is)

between_goes : (run : Run) (clocks : Clocks) (s : BusState) (node : NodeNo) (at i : ℕ) (what : NodeAction)
    (send more : Bool)
    → (node_at s node.0).phase ≡ Between i → i < (plan_of run.design node.0).rate
    → Does run clocks s node (Some at) what
    → send_is_next (plan_of run.design node.0)
    (record { round = round_of (node_at s node.0); steps = i; sent = (node_at s node.0).sent }) ≡ send
    → nat_lt i (plan_of run.design node.0).rate ≡ more
    → cond send (action.Send (round_of (node_at s node.0)))
    (cond more (action.Step (round_of (node_at s node.0)) i)
    (action.Start (round_of (node_at s node.0) + 1))) ≡ what
    → CanGo run clocks s
between_goes run clocks s node at i what true more is below does sends lt same =
    let n = node_at s node.0 in
    let plan = plan_of run.design node.0 in
    let parts =
    enough_by n.sent (nat_le plan.sent_steps i)
    (nat_eq i plan.rate || nat_le plan.release_offset (i * plan.step_period)) sends in
    can_send run clocks s node at (round_of n) i (Between i) (subst (DoesNext run clocks s node at) (sym same) does) is
    parts.0 refl parts.1
between_goes run clocks s node at i what false true is below does sends lt same =
    record {
      event = Step node (Some at);
      keeps = (round_of (node_at s node.0), i, subst (DoesNext run clocks s node at) (sym same) does);
      allowed = ap (λ p. is_some (next_step p)) is;
    }
between_goes run clocks s node at i what false false is below does sends lt same =
    absurd (let over = ltb-false i (plan_of run.design node.0).rate lt in omega arith)

acts_by : (run : Run) (clocks : Clocks) (journal : List JournalEntry) (s : BusState) (node : NodeNo) (at : ℕ)
    (action : NodeAction) (p : Phase)
    → IsRunOf run → Runs run clocks journal s
    → Does run clocks s node (Some at) action → ((node_at s node.0).phase ≡ Waiting → IsAwaited run clocks s node.0)
    → (node_at s node.0).phase ≡ p
    → PhaseAgrees run node.0 (component_at run.design node.0) (node_at s node.0) p
    → next_in (plan_of run.design node.0) (node_at s node.0) p ≡ Some action → CanGo run clocks s
acts_by run clocks journal s node at action Waiting rules runs does awaited is agree next =
    starts run clocks journal s node at rules runs
    (subst (DoesNext run clocks s node at) (sym (same_Some _ _ next)) does) (ap is_waiting is) (awaited is)
acts_by run clocks journal s node at action (Running i) rules runs does awaited is agree next = absurd (cc)
acts_by run clocks journal s node at action (Between i) rules runs does awaited is agree next =
    let n = node_at s node.0 in
    let plan = plan_of run.design node.0 in
    let p : Progress = record { round = round_of n; steps = i; sent = n.sent } in
    between_goes run clocks s node at i action (send_is_next plan p) (nat_lt i plan.rate) is agree.0.within does refl
    refl (same_Some _ _ next)
acts_by run clocks journal s node at action Holding rules runs does awaited is agree next =
    let n = node_at s node.0 in
    let plan = plan_of run.design node.0 in
    let few = (plan_rules run node.0 rules does.within).few in
    can_send run clocks s node at (round_of n) plan.rate Holding
    (subst (DoesNext run clocks s node at) (sym (same_Some _ _ next)) does) is agree.sent refl
    (let enough : nat_le plan.sent_steps plan.rate ≡ true = grind (arith, common_steps) in enough)
acts_by run clocks journal s node at action Done rules runs does awaited is agree next = absurd (cc)

pub acts : (run : Run) (clocks : Clocks) (journal : List JournalEntry) (s : BusState) (node : NodeNo) (at : ℕ)
    (action : NodeAction) → IsRunOf run
    → Runs run clocks journal s
    → Does run clocks s node (Some at) action → ((node_at s node.0).phase ≡ Waiting → IsAwaited run clocks s node.0)
    → CanGo run clocks s
acts run clocks journal s node at action rules runs does awaited =
    acts_by run clocks journal s node at action (node_at s node.0).phase rules runs does awaited refl
    (node_agrees run s node.0 (runs_agree run clocks journal s rules runs) does.within).phase does.next

-- a step that runs can finish
pub finishes : (run : Run) (clocks : Clocks) (s : BusState) (node step : ℕ) → node < length run.design.components
    → (node_at s node).phase ≡ Running step → CanGo run clocks s
finishes run clocks s node step within is =
    record { event = Finish (record { 0 = node }); keeps = within; allowed = ap (λ p. is_some (running_step p)) is }
