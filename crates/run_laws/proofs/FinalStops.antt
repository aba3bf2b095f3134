-- A stop is the last entry of a journal: no earlier entry is a stop, and the state of the run has this stop.
use Rattle.std.proofs.Common.{◌≡◌, ◌∙◌, ℕ, List, [], ◌∷◌, ◌++◌, Option, Some, None, refl, sym, ap, subst}
use Rattle.std.specs.Prelude.{All}
use Rattle.std.proofs.lemmas.List.{append_assoc}
use Rattle.std.proofs.lemmas.List.Elements.{All-nil, All-cons, All-head, All-tail, All-append}
use Rattle.std.proofs.lemmas.Option.{none-some, same_Some}
use Rattle.pals_base.specs.declared.basic_types.NodeNo.{NodeNo}
use Rattle.pals_base.specs.declared.basic_types.LinkNo.{LinkNo}
use Rattle.pals_runs.specs.declared.journal.Arrived.{Arrived}
use Rattle.pals_runs.specs.declared.journal.Arrived.TheVariants.{Kept, Ignored, Early}
use Rattle.pals_runs.specs.declared.journal.Stop.{Stop}
use Rattle.pals_runs.specs.declared.journal.JournalEntry.{JournalEntry}
use Rattle.pals_runs.specs.declared.journal.JournalEntry.TheVariants as entry
use Rattle.bus_machine.specs.Plans.{plan_of}
use Rattle.bus_machine.specs.NodeEvents.{next_step, running_step, stepped, finished}
use Rattle.bus_machine.specs.BusStates.{BusState, node_at, with_node}
use Rattle.bus_machine.specs.RunParameters.{Run}
use Rattle.bus_machine.specs.MissedMessages.{missing_link}
use Rattle.bus_machine.specs.Machine.{BusEvent, Start, Step, Finish, Send, Arrive, Drop, Repeat, after, after_start}
use Rattle.bus_machine.specs.Machine.{arrival, early_stop}
use Rattle.bus_machine.specs.Replay.{Replays, opens, goes_on, entries, start_entry, stop_entry}
use Rattle.bus_machine.proofs.NodeEventBusAgreement.{on_step_stop}

-- ---- entries that are not a stop
abbrev stop_told : JournalEntry → Option Stop
stop_told (entry.Stopped why) = Some why
stop_told _ = None

abbrev IsNoStop : JournalEntry → Type 0
IsNoStop x = stop_told x ≡ None

abbrev first_stop : List JournalEntry → Option Stop
first_stop [] = None
first_stop (x ∷ more) = stop_told x

abbrev behind_first : List JournalEntry → List JournalEntry
behind_first [] = []
behind_first (x ∷ more) = more

-- a list with a stop is not such a list
has_stop : (front back : List JournalEntry) (why : Stop) → All IsNoStop (front ++ entry.Stopped why ∷ back) → ⊥
has_stop [] back why none = none-some why (sym (All-head IsNoStop (entry.Stopped why) back none))
has_stop (x ∷ front) back why none =
    has_stop front back why (All-tail IsNoStop x (front ++ entry.Stopped why ∷ back) none)

-- if no entry before the last one is a stop, the only stop in the list is the last entry
one_stop : (before front back : List JournalEntry) (other why : Stop) → All IsNoStop before
    → front ++ entry.Stopped why ∷ back ≡ before ++ entry.Stopped other ∷ [] → (back ≡ []) × (other ≡ why)
one_stop [] [] back other why none same = (ap behind_first same, same_Some other why (sym (ap first_stop same)))
one_stop [] (y ∷ front) back other why none same =
    absurd (has_stop front back why (subst (All IsNoStop) (sym (ap behind_first same)) (All-nil IsNoStop)))
one_stop (x ∷ before) [] back other why none same =
    absurd (none-some why (sym (ap first_stop same ∙ All-head IsNoStop x before none)))
one_stop (x ∷ before) (y ∷ front) back other why none same =
    one_stop before front back other why (All-tail IsNoStop x before none) (ap behind_first same)

-- ---- the last entries of a journal whose run has this stop, or none
abbrev EndAt : Option Stop → List JournalEntry → Type 0
EndAt None told = All IsNoStop told
EndAt (Some why) told = (front : List JournalEntry) × All IsNoStop front × (told ≡ front ++ entry.Stopped why ∷ [])

alone : (x : JournalEntry) → IsNoStop x → All IsNoStop (x ∷ [])
alone x none = All-cons IsNoStop x [] none (All-nil IsNoStop)

-- one entry that is not a stop, in a run without a stop
goes : (stop : Option Stop) (x : JournalEntry) → IsNoStop x → stop ≡ None → EndAt stop (x ∷ [])
goes stop x none going = subst (λ (o : Option Stop). EndAt o (x ∷ [])) (sym going) (alone x none)

-- more entries after entries that are not a stop
end_more : (stop : Option Stop) (before more : List JournalEntry) → All IsNoStop before → EndAt stop more
    → EndAt stop (before ++ more)
end_more None before more none ends = All-append IsNoStop before more none ends
end_more (Some why) before more none ends = (
  before ++ ends.0,
  All-append IsNoStop before ends.0 none ends.1,
  ap (λ (told : List JournalEntry). before ++ told) ends.2 ∙ sym (append_assoc before ends.0 (entry.Stopped why ∷ [])),
)

-- ---- the entries of each event
start_ends : (run : Run) (s : BusState) (node : NodeNo) (reading m : Option ℕ) → s.stop ≡ None
    → EndAt (after_start run s node reading m).stop (start_entry run s node reading m ∷ [])
start_ends run s node reading None going = goes s.stop (start_entry run s node reading None) refl going
start_ends run s node reading (Some link) going = ([], All-nil IsNoStop, refl)

arrive_ends : (link : LinkNo) (round : ℕ) (reading : Option ℕ) (a : Arrived)
    → EndAt (early_stop link round reading a)
    (entry.Arrive link round reading a ∷ stop_entry (early_stop link round reading a))
arrive_ends link round reading Kept = alone (entry.Arrive link round reading Kept) refl
arrive_ends link round reading Ignored = alone (entry.Arrive link round reading Ignored) refl
arrive_ends link round reading Early =
    (entry.Arrive link round reading Early ∷ [], alone (entry.Arrive link round reading Early) refl, refl)

event_ends : (run : Run) (s : BusState) (e : BusEvent) → s.stop ≡ None → EndAt (after run s e).stop (entries run s e)
event_ends run s (Start node reading) going = start_ends run s node reading (missing_link run s node.0) going
event_ends run s (Step node reading) going =
    let n = node_at s node.0 in
    goes _ _ refl (on_step_stop (next_step n.phase) s (λ step. with_node s node.0 (stepped step n))
    (λ step. refl) ∙ going)
event_ends run s (Finish node) going =
    let n = node_at s node.0 in
    let go = λ (step : ℕ). with_node s node.0 (finished (plan_of run.design node.0) run.rounds step n) in
    goes _ _ refl (on_step_stop (running_step n.phase) s go (λ step. refl) ∙ going)
event_ends run s (Send node reading) going = goes _ _ refl going
event_ends run s (Arrive link round reading) going = arrive_ends link round reading (arrival run s link round)
event_ends run s (Drop link round) going = goes _ _ refl going
event_ends run s (Repeat link round) going = goes _ _ refl going

-- ---- so the end of a journal is the stop of its run
journal_ends : (run : Run) (journal : List JournalEntry) (s : BusState) → Replays run journal s → EndAt s.stop journal
journal_ends run journal s opens = All-nil IsNoStop
journal_ends run journal s (goes_on {journal = before} {s = t} e replays step) =
    let none : All IsNoStop before =
    subst (λ (o : Option Stop). EndAt o before) step.going (journal_ends run before t replays) in
    let ends = end_more (after run t e).stop before (entries run t e) none (event_ends run t e step.going) in
    subst (λ (b : BusState). EndAt b.stop (before ++ entries run t e)) (sym step.state) ends

ended : (stop : Option Stop) (front back : List JournalEntry) (why : Stop)
    → EndAt stop (front ++ entry.Stopped why ∷ back)
    → (back ≡ []) × (stop ≡ Some why)
ended None front back why ends = absurd (has_stop front back why ends)
ended (Some other) front back why ends =
    let one = one_stop ends.0 front back other why ends.1 ends.2 in
    (one.0, ap Some one.1)

pub nothing_behind : (run : Run) (front back : List JournalEntry) (why : Stop) (s : BusState)
    → Replays run (front ++ entry.Stopped why ∷ back) s
    → (back ≡ []) × (s.stop ≡ Some why)
nothing_behind run front back why s replays =
    ended s.stop front back why (journal_ends run (front ++ entry.Stopped why ∷ back) s replays)

pub told : (run : Run) (journal : List JournalEntry) (why : Stop) (s : BusState) → Replays run journal s
    → s.stop ≡ Some why
    → (front : List JournalEntry) × (journal ≡ front ++ entry.Stopped why ∷ [])
told run journal why s replays stands =
    let ends = subst (λ (o : Option Stop). EndAt o journal) stands (journal_ends run journal s replays) in
    (ends.0, ends.2)
