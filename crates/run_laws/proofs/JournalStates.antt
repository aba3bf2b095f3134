-- The state of a run is a function of its journal: each entry determines its effect on the state before it.
use Rattle.std.proofs.Common.{◌≡◌, ◌∙◌, ℕ, List, [], ◌∷◌, Option, Some, None, refl, sym, ap}
use Rattle.std.specs.List.{fold}
use Rattle.std.proofs.lemmas.List.Sums.{fold-append}
use Rattle.pals_base.specs.declared.basic_types.NodeNo.{NodeNo}
use Rattle.pals_base.specs.declared.basic_types.LinkNo.{LinkNo}
use Rattle.pals_runs.specs.declared.journal.Arrived.{Arrived}
use Rattle.pals_runs.specs.declared.journal.Arrived.TheVariants.{Kept, Ignored, Early}
use Rattle.pals_runs.specs.declared.journal.JournalEntry.{JournalEntry}
use Rattle.pals_runs.specs.declared.journal.JournalEntry.TheVariants as entry
use Rattle.bus_machine.specs.BusStates.{BusState, opening}
use Rattle.bus_machine.specs.RunParameters.{Run}
use Rattle.bus_machine.specs.MissedMessages.{missing_link}
use Rattle.bus_machine.specs.Machine.{BusEvent, Start, Step, Finish, Send, Arrive, Drop, Repeat, IsStep, after}
use Rattle.bus_machine.specs.Machine.{after_start, after_arrive, arrival, early_stop}
use Rattle.bus_machine.specs.Replay.{Replays, opens, goes_on, entries, start_entry, stop_entry}

-- the state after an entry; an early arrival has already set the stop when the stop's own entry follows
abbrev left_by : Run → BusState → JournalEntry → BusState
left_by run s (entry.Arrive link round reading result) = after run s (Arrive link round reading)
left_by run s (entry.Start node round reading) = after_start run s node reading None
left_by run s (entry.Step node round step reading) = after run s (Step node reading)
left_by run s (entry.Finish node round) = after run s (Finish node)
left_by run s (entry.Send node round reading) = after run s (Send node reading)
left_by run s (entry.Drop link round) = after run s (Drop link round)
left_by run s (entry.Repeat link round) = after run s (Repeat link round)
left_by run s (entry.Stopped why) = record s { stop = Some why }

-- ---- the entries of an event leave what the event does
start_leaves : (run : Run) (s : BusState) (node : NodeNo) (reading m : Option ℕ)
    → fold (left_by run) s (start_entry run s node reading m ∷ []) ≡ after_start run s node reading m
start_leaves run s node reading None = refl
start_leaves run s node reading (Some link) = refl

arrive_leaves : (run : Run) (s : BusState) (link : LinkNo) (round : ℕ) (reading : Option ℕ) (a : Arrived)
    → arrival run s link round ≡ a
    → fold (left_by run) s (entry.Arrive link round reading a ∷ stop_entry (early_stop link round reading a))
    ≡ after_arrive run s link round reading
arrive_leaves run s link round reading Kept is = refl
arrive_leaves run s link round reading Ignored is = refl
arrive_leaves run s link round reading Early is =
    ap (λ (a : Arrived). record (after_arrive run s link round reading)
    { stop = early_stop link round reading a }) (sym is)

entries_leave : (run : Run) (s : BusState) (e : BusEvent) → fold (left_by run) s (entries run s e) ≡ after run s e
entries_leave run s (Start node reading) = start_leaves run s node reading (missing_link run s node.0)
entries_leave run s (Step node reading) = refl
entries_leave run s (Finish node) = refl
entries_leave run s (Send node reading) = refl
entries_leave run s (Arrive link round reading) = arrive_leaves run s link round reading (arrival run s link round) refl
entries_leave run s (Drop link round) = refl
entries_leave run s (Repeat link round) = refl

-- ---- so a journal leaves one state
journal_leaves : (run : Run) (journal : List JournalEntry) (s : BusState) → Replays run journal s
    → s ≡ fold (left_by run) (opening run) journal
journal_leaves run journal s opens = refl
journal_leaves run journal s (goes_on {journal = before} {s = t} e replays step) =
    step.state
    ∙ (sym (entries_leave run t e)
    ∙ (ap (λ (b : BusState). fold (left_by run) b (entries run t e)) (journal_leaves run before t replays)
    ∙ sym (fold-append (left_by run) (opening run) before (entries run t e))))

pub one_replay : (run : Run) (journal : List JournalEntry) (s t : BusState) → Replays run journal s
    → Replays run journal t → s ≡ t
one_replay run journal s t x y = journal_leaves run journal s x ∙ sym (journal_leaves run journal t y)

-- ---- and the entries of a step leave one state
step_leaves : (run : Run) (s t : BusState) (e : BusEvent) → IsStep run s e t
    → t ≡ fold (left_by run) s (entries run s e)
step_leaves run s t e step = step.state ∙ sym (entries_leave run s e)

pub one_step : (run : Run) (s t u : BusState) (e f : BusEvent) → IsStep run s e t → IsStep run s f u
    → entries run s e ≡ entries run s f → t ≡ u
one_step run s t u e f x y same =
    step_leaves run s t e x ∙ (ap (fold (left_by run) s) same ∙ sym (step_leaves run s u f y))
