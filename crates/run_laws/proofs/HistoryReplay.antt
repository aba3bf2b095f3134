-- The journal of a history replays, and its readings don't fall.
use Rattle.std.proofs.Common.{◌≡◌, ℕ, ◌+◌, ◌≤◌, cond, List, [], ◌∷◌, ◌++◌, All, Option, Some, None, refl, sym, ap, ◌∙◌}
use Rattle.std.proofs.Common.{subst, arith}
use Rattle.std.specs.Option.{unwrap_or}
use Rattle.std.proofs.lemmas.List.Elements.{All-nil, All-cons, All-append}
use Rattle.std.proofs.lemmas.Option.{same_Some, get_or_from_slice_get}
use Rattle.list_lemmas.proofs.Numbers.{nat_eq-self}
use Rattle.pals_base.specs.PeriodBoundAndReleases.{alarm}
use Rattle.pals_base.specs.declared.basic_types.NodeNo.{NodeNo}
use Rattle.pals_base.specs.declared.basic_types.LinkNo.{LinkNo}
use Rattle.pals_model.specs.declared.design.Link.{Link}
use Rattle.pals_runs.specs.declared.journal.Arrived.{Arrived}
use Rattle.pals_runs.specs.declared.journal.Arrived.TheVariants.{Kept, Ignored, Early}
use Rattle.pals_runs.specs.declared.journal.Stop.TheVariants as stop
use Rattle.pals_runs.specs.declared.journal.JournalEntry.{JournalEntry}
use Rattle.pals_runs.specs.declared.journal.JournalEntry.TheVariants as entry
use Rattle.bus_machine.specs.Plans.{plan_of, no_link, link_at}
use Rattle.bus_machine.specs.Nodes.{round_of}
use Rattle.bus_machine.specs.NodeEvents.{next_step}
use Rattle.bus_machine.specs.AlarmsAndReleases.{start_alarm, step_alarm, release_reading}
use Rattle.bus_machine.specs.BusStates.{BusState, node_at}
use Rattle.bus_machine.specs.RunParameters.{Run}
use Rattle.bus_machine.specs.MissedMessages.{missing_link}
use Rattle.bus_machine.specs.Machine.{BusEvent, Start, Step, Finish, Send, Arrive, Drop, Repeat, arrival, early_stop}
use Rattle.bus_machine.specs.Replay.{Replays, entries, start_entry, stop_entry, opens as replay_opens}
use Rattle.bus_machine.specs.Replay.{goes_on as replay_goes_on}
use Rattle.run_laws.specs.JournalReadings.{last_of, latest}
use Rattle.run_laws.specs.EntryEventsAndReadings.{Timed, timed}
use Rattle.run_laws.specs.proof.RisingReadings.{LinesRise}
use Rattle.run_laws.proofs.MissedLinks.{missed_link}
use Rattle.run_laws.specs.HistoriesAndTraces.{IsRead, IsInTime, History, opens, goes_on}
use Rattle.run_laws.specs.proof.HistoryAndTraceLaws.{ShowsFrom, ShowsTime, HistoriesReplay}
use Rattle.run_laws.proofs.SoundTraces.{latest_one}
use Rattle.run_laws.proofs.RisingReadings.{rise_append}

pub replays : (run : Run) (journal : List JournalEntry) (s : BusState) → History run journal s → Replays run journal s
replays run journal s opens = replay_opens
replays run journal s (goes_on {journal = before} {s = t} e history step in_time) =
    replay_goes_on e (replays run before t history) step

-- ---- readings
abbrev Rises : Run → List JournalEntry → Option Timed → Type 0
Rises run front o = (t : Timed) → o ≡ Some t → latest run.design t.node front ≤ unwrap_or t.reading 0

read_rises : (run : Run) (front : List JournalEntry) (node least : ℕ) (reading : Option ℕ)
    → IsRead run front node reading least → Rises run front (Some (record { node = node; reading = reading }))
read_rises run front node least reading read = λ t is.
    subst (λ (u : Timed). latest run.design u.node front ≤ unwrap_or u.reading 0) (same_Some _ _ is)
    (subst (λ o. latest run.design node front ≤ unwrap_or o 0) (sym read.reading_is) read.rises)

none_rises : (run : Run) (front : List JournalEntry) → Rises run front None
none_rises run front = λ t is. absurd (cc)

start_rises : (run : Run) (front : List JournalEntry) (s : BusState) (node : NodeNo) (reading : Option ℕ) (least : ℕ)
    (m : Option ℕ) → IsRead run front node.0 reading least → missing_link run s node.0 ≡ m
    → Rises run front (timed run.design (start_entry run s node reading m))
start_rises run front s node reading least None read misses = read_rises run front node.0 least reading read
start_rises run front s node reading least (Some link) read misses =
    let missed = missed_link run s node.0 link misses in
    let here : (link_at run.design link).target.0 ≡ node.0 =
    ap (λ (l : Link). l.target.0)
    (get_or_from_slice_get run.design.links link missed.the_link no_link missed.is_link) ∙ missed.to_node in
    subst (λ k. Rises run front (Some (record { node = k; reading = reading }))) (sym here)
    (read_rises run front node.0 least reading read)

-- after an entry with this reading, another entry with the same reading does not fall
again_rises : (run : Run) (front : List JournalEntry) (node : ℕ) (reading : Option ℕ) (x : JournalEntry)
    → timed run.design x ≡ Some (record { node = node; reading = reading })
    → Rises run (front ++ x ∷ []) (Some (record { node = node; reading = reading }))
again_rises run front node reading x is = λ t same.
    let here : latest run.design node (front ++ x ∷ []) ≡ unwrap_or reading 0 =
    latest_one run.design node front x ∙ ap (last_of node (latest run.design node front)) is
    ∙ ap (λ b. cond b (unwrap_or reading 0) (latest run.design node front)) (nat_eq-self node) in
    subst (λ (u : Timed). latest run.design u.node (front ++ x ∷ []) ≤ unwrap_or u.reading 0) (same_Some _ _ same)
    (omega arith)

arrive_rises : (run : Run) (front : List JournalEntry) (link : LinkNo) (round : ℕ) (reading : Option ℕ) (a : Arrived)
    → IsRead run front (link_at run.design link.0).target.0 reading 0
    → LinesRise run front (entry.Arrive link round reading a ∷ stop_entry (early_stop link round reading a))
arrive_rises run front link round reading Kept read =
    (read_rises run front (link_at run.design link.0).target.0 0 reading read, tt)
arrive_rises run front link round reading Ignored read =
    (read_rises run front (link_at run.design link.0).target.0 0 reading read, tt)
arrive_rises run front link round reading Early read =
    let node = (link_at run.design link.0).target.0 in (
      read_rises run front node 0 reading read,
      (again_rises run front node reading (entry.Arrive link round reading Early) refl, tt),
    )

pub event_rises : (run : Run) (front : List JournalEntry) (s : BusState) (e : BusEvent) → IsInTime run front s e
    → LinesRise run front (entries run s e)
event_rises run front s (Start node reading) in_time =
    (start_rises run front s node reading _ (missing_link run s node.0) in_time.read refl, tt)
event_rises run front s (Step node reading) in_time = (read_rises run front node.0 _ reading in_time.read, tt)
event_rises run front s (Finish node) in_time = (none_rises run front, tt)
event_rises run front s (Send node reading) in_time = (read_rises run front node.0 _ reading in_time, tt)
event_rises run front s (Arrive link round reading) in_time =
    arrive_rises run front link round reading (arrival run s link round) in_time.read
event_rises run front s (Drop link round) in_time = absurd in_time
event_rises run front s (Repeat link round) in_time = absurd in_time

pub rises : (run : Run) (journal : List JournalEntry) (s : BusState) → History run journal s → LinesRise run [] journal
rises run journal s opens = tt
rises run journal s (goes_on {journal = before} {s = t} e history step in_time) =
    rise_append run [] before (entries run t e) (rises run before t history) (event_rises run before t e in_time)

-- ---- times
read_shows : (run : Run) (front : List JournalEntry) (node least : ℕ) (reading : Option ℕ)
    → IsRead run front node reading least → ShowsFrom reading least
read_shows run front node least reading read = (read.at, read.reading_is, read.from_then)

start_shows : (run : Run) (front : List JournalEntry) (s : BusState) (node : NodeNo) (reading m : Option ℕ)
    → IsRead run front node.0 reading (start_alarm (plan_of run.design node.0) (node_at s node.0))
    → missing_link run s node.0 ≡ m
    → ShowsTime run (start_entry run s node reading m)
start_shows run front s node reading None read misses =
    read_shows run front node.0 (start_alarm (plan_of run.design node.0) (node_at s node.0)) reading read
start_shows run front s node reading (Some link) read misses =
    let missed = missed_link run s node.0 link misses in
    let begun : 1 ≤ (node_at s node.0).count = missed.begun in
    let next : round_of (node_at s node.0) + 1 ≡ (node_at s node.0).count = omega arith in
    subst (λ k. ShowsFrom reading (alarm run.design.period k)) (sym next)
    (read_shows run front node.0 (start_alarm (plan_of run.design node.0) (node_at s node.0)) reading read)

one_shows : (run : Run) (e : JournalEntry) → ShowsTime run e → All (ShowsTime run) (e ∷ [])
one_shows run e shows = All-cons (ShowsTime run) e [] shows (All-nil (ShowsTime run))

arrive_shows : (run : Run) (front : List JournalEntry) (link : LinkNo) (round : ℕ) (reading : Option ℕ) (a : Arrived)
    → IsRead run front (link_at run.design link.0).target.0 reading 0
    → All (ShowsTime run) (entry.Arrive link round reading a ∷ stop_entry (early_stop link round reading a))
arrive_shows run front link round reading Kept read =
    one_shows run (entry.Arrive link round reading Kept)
    (read_shows run front (link_at run.design link.0).target.0 0 reading read)
arrive_shows run front link round reading Ignored read =
    one_shows run (entry.Arrive link round reading Ignored)
    (read_shows run front (link_at run.design link.0).target.0 0 reading read)
arrive_shows run front link round reading Early read =
    let shows = read_shows run front (link_at run.design link.0).target.0 0 reading read in
    All-cons (ShowsTime run) (entry.Arrive link round reading Early)
    (entry.Stopped (stop.Early link round reading) ∷ []) shows
    (one_shows run (entry.Stopped (stop.Early link round reading)) shows)

pub event_shows : (run : Run) (front : List JournalEntry) (s : BusState) (e : BusEvent) → IsInTime run front s e
    → All (ShowsTime run) (entries run s e)
event_shows run front s (Start node reading) in_time =
    one_shows run (start_entry run s node reading (missing_link run s node.0))
    (start_shows run front s node reading (missing_link run s node.0) in_time.read refl)
event_shows run front s (Step node reading) in_time =
    let same : in_time.step ≡ unwrap_or (next_step (node_at s node.0).phase) 0 =
    ap (λ o. unwrap_or o 0) (sym in_time.next) in
    let own =
    read_shows run front node.0 (step_alarm (plan_of run.design node.0) (node_at s node.0) in_time.step) reading
    in_time.read in
    one_shows run (entry.Step node (round_of (node_at s node.0))
    (unwrap_or (next_step (node_at s node.0).phase) 0) reading)
    (subst (λ k. ShowsFrom reading (step_alarm (plan_of run.design node.0) (node_at s node.0) k)) same own)
event_shows run front s (Finish node) in_time = one_shows run (entry.Finish node (round_of (node_at s node.0))) tt
event_shows run front s (Send node reading) in_time =
    one_shows run (entry.Send node (round_of (node_at s node.0)) reading)
    (read_shows run front node.0 (release_reading (plan_of run.design node.0) (node_at s node.0)) reading in_time)
event_shows run front s (Arrive link round reading) in_time =
    arrive_shows run front link round reading (arrival run s link round) in_time.read
event_shows run front s (Drop link round) in_time = absurd in_time
event_shows run front s (Repeat link round) in_time = absurd in_time

pub times : (run : Run) (journal : List JournalEntry) (s : BusState) → History run journal s
    → All (ShowsTime run) journal
times run journal s opens = All-nil (ShowsTime run)
times run journal s (goes_on {journal = before} {s = t} e history step in_time) =
    All-append (ShowsTime run) before (entries run t e) (times run before t history)
    (event_shows run before t e in_time)

pub histories_replay : HistoriesReplay
histories_replay run journal s history =
    record {
      replays = replays run journal s history;
      rises = rises run journal s history;
      times = times run journal s history;
    }
