-- Whether an entry is the line of a node's start.
use Rattle.std.proofs.Common.{◌≡◌, ◌↔◌, ℕ, ◌<◌, ◌≤◌, Bool, true, false, List, length, Option, Some, None, IsTrue, refl}
use Rattle.std.proofs.Common.{sym, ap, subst, arith}
use Rattle.std.specs.Prelude.{position, slice_index_or}
use Rattle.std.specs.Option.{option_map, unwrap_or}
use Rattle.std.proofs.lemmas.Bool.{false≢true}
use Rattle.std.proofs.lemmas.Option.{slice_get_within}
use Rattle.pals_base.specs.declared.limits.TheConstants.{ROUNDS}
use Rattle.pals_base.specs.declared.basic_types.NodeNo.{NodeNo}
use Rattle.pals_model.specs.declared.design.DesignParts.{DesignParts}
use Rattle.pals_model.specs.declared.design.Link.{Link}
use Rattle.pals_model.specs.ComponentInputs.{link_goes_to}
use Rattle.pals_model.specs.DesignRules.{IsDesign}
use Rattle.pals_model.proofs.FirstMatches.{found_at}
use Rattle.pals_model.proofs.WordBytes.{same_bytes, other_bytes}
use Rattle.pals_runs.specs.declared.journal.Stop.{Stop}
use Rattle.pals_runs.specs.declared.journal.Stop.TheVariants as stop
use Rattle.pals_runs.specs.declared.journal.JournalEntry.{JournalEntry}
use Rattle.pals_runs.specs.declared.journal.JournalEntry.TheVariants as entry
use Rattle.pals_runs.specs.JournalLines.{entry_line}
use Rattle.bus_machine.specs.Plans.{plan_of}
use Rattle.bus_machine.specs.NodeEvents.{missing}
use Rattle.bus_machine.specs.BusStates.{BusState, node_at}
use Rattle.bus_machine.specs.RunParameters.{Run}
use Rattle.bus_machine.specs.MissedMessages.{link_into, missing_link}
use Rattle.bus_machine.specs.Machine.{Start, missed_stop}
use Rattle.bus_machine.specs.Replay.{start_entry}
use Rattle.run_laws.specs.EntriesOfDesigns.{IsEntryIn, IsReading}
use Rattle.run_laws.specs.EntryEventsAndReadings.{event_of}
use Rattle.run_laws.specs.TraceRules.{is_line_of}
use Rattle.run_laws.proofs.EntryLines.{lines_differ}

-- an entry has another entry's line if and only if the entries are equal
pub line_is : (design : DesignParts) (e x : JournalEntry) (r : Bool)
    → (entry_line design e ≡ entry_line design x → e ≡ x) → (IsTrue r ↔ (x ≡ e)) → is_line_of design e (Some x) ≡ r
line_is design e x true apart both =
    subst (λ y. is_line_of design e (Some y) ≡ true) (sym (both.0 refl)) (same_bytes (entry_line design e))
line_is design e x false apart both =
    other_bytes (entry_line design e) (entry_line design x) (λ same. false≢true (both.1 (sym (apart same))))

-- ---- the link of a missed start
first_link : (test : Link → Bool) (links : List Link) (p : Option ℕ) → position test links ≡ p → 0 < length links
    → unwrap_or p 0 < length links
first_link test links None is some = some
first_link test links (Some n) is some = let found = found_at test links n is in
    slice_get_within links n found.0 found.1

mapped_link : (design : DesignParts) (node : ℕ) (port : Option ℕ) (link : ℕ)
    → option_map (link_into design node) port ≡ Some link → 0 < length design.links → link < length design.links
mapped_link design node None link is some = absurd (cc)
mapped_link design node (Some port) link is some =
    let here : link_into design node port ≡ link = cc in
    subst (λ n. n < length design.links) here
    (first_link (link_goes_to node port) design.links (position (link_goes_to node port) design.links) refl some)

-- ---- a start and a stop have two lines

start_is_no_stop : (design : DesignParts) (node : NodeNo) (round : ℕ) (reading : Option ℕ) (why : Stop)
    → entry_line design (entry.Start node round reading) ≡ entry_line design (entry.Stopped why) → ⊥
start_is_no_stop design node round reading (stop.Missed link r reading' cause) same =
    absurd (let two : 97 ≡ 111 = ap (λ line. slice_index_or line 2 0) same in omega arith)
start_is_no_stop design node round reading (stop.Early link r reading') same =
    absurd (let two : 97 ≡ 111 = ap (λ line. slice_index_or line 2 0) same in omega arith)

-- ---- the entry of a start
differs_by : (run : Run) (s : BusState) (node : NodeNo) (reading : Option ℕ) (e : JournalEntry) (m : Option ℕ)
    → IsDesign run.design → IsEntryIn run.design e → event_of run.design e ≡ Some (Start node reading)
    → node.0 < length run.design.components → (node_at s node.0).count ≤ ROUNDS
    → missing_link run s node.0 ≡ m → entry_line run.design e ≡ entry_line run.design (start_entry run s node reading m)
    → e ≡ start_entry run s node reading m
differs_by run s node reading (entry.Start n r rd) None rules fits is within few misses same =
    let event : Start n rd ≡ Start node reading = cc in
    let at : rd ≡ reading = cc in
    lines_differ run.design (entry.Start n r rd) rules fits (start_entry run s node reading None)
    (within, few, subst IsReading at fits.2) same
differs_by run s node reading (entry.Start n r rd) (Some link) rules fits is within few misses same =
    absurd (start_is_no_stop run.design n r rd (missed_stop run s node reading link) same)
differs_by run s node reading (entry.Stopped (stop.Missed l r rd cause)) None rules fits is within few misses same =
    absurd (start_is_no_stop run.design node (node_at s node.0).count reading (stop.Missed l r rd cause) (sym same))
differs_by run s node reading (entry.Stopped (stop.Missed l r rd cause)) (Some link) rules fits is within few
    misses same =
    let at : rd ≡ reading = cc in
    let there : link < length run.design.links =
    mapped_link run.design node.0 (missing (plan_of run.design node.0) (node_at s node.0)) link misses
    (let within_links = fits.0 in omega arith) in
    lines_differ run.design (entry.Stopped (stop.Missed l r rd cause)) rules fits
    (start_entry run s node reading (Some link)) (there, (omega arith), subst IsReading at fits.2) same
differs_by run s node reading (entry.Stopped (stop.Early l r rd)) m rules fits is within few misses same = absurd (cc)
differs_by run s node reading (entry.Arrive l r rd outcome) m rules fits is within few misses same = absurd (cc)
differs_by run s node reading (entry.Step n r i rd) m rules fits is within few misses same = absurd (cc)
differs_by run s node reading (entry.Finish n r) m rules fits is within few misses same = absurd (cc)
differs_by run s node reading (entry.Send n r rd) m rules fits is within few misses same = absurd (cc)
differs_by run s node reading (entry.Drop l r) m rules fits is within few misses same = absurd (cc)
differs_by run s node reading (entry.Repeat l r) m rules fits is within few misses same = absurd (cc)

pub start_tells : (run : Run) (s : BusState) (node : NodeNo) (reading : Option ℕ) (e : JournalEntry) (r : Bool)
    → IsDesign run.design → IsEntryIn run.design e → event_of run.design e ≡ Some (Start node reading)
    → node.0 < length run.design.components → (node_at s node.0).count ≤ ROUNDS
    → (IsTrue r ↔ (start_entry run s node reading (missing_link run s node.0) ≡ e))
    → is_line_of run.design e (Some (start_entry run s node reading (missing_link run s node.0))) ≡ r
start_tells run s node reading e r rules fits is within few both =
    line_is run.design e (start_entry run s node reading (missing_link run s node.0)) r
    (differs_by run s node reading e (missing_link run s node.0) rules fits is within few refl) both
