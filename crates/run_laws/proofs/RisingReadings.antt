-- No line's reading is less than the last one of its node.
use Rattle.std.proofs.Common.{◌≡◌, ℕ, ◌≤◌, nat_eq, Bool, true, false, cond, List, [], ◌∷◌, ◌++◌, Option, Some, None}
use Rattle.std.proofs.Common.{refl, sym, ap, ◌∙◌, subst, arith}
use Rattle.std.specs.Option.{unwrap_or}
use Rattle.std.proofs.lemmas.List.{append-nil, append_assoc}
use Rattle.std.proofs.lemmas.Option.{same_Some}
use Rattle.pals_base.specs.declared.basic_types.NodeNo.{NodeNo}
use Rattle.pals_base.specs.declared.basic_types.LinkNo.{LinkNo}
use Rattle.pals_model.specs.declared.design.Link.{Link}
use Rattle.pals_runs.specs.declared.journal.Arrived.{Arrived}
use Rattle.pals_runs.specs.declared.journal.Arrived.TheVariants.{Kept, Ignored, Early}
use Rattle.pals_runs.specs.declared.journal.Stop.TheVariants as stop
use Rattle.pals_runs.specs.declared.journal.JournalEntry.{JournalEntry}
use Rattle.pals_runs.specs.declared.journal.JournalEntry.TheVariants as entry
use Rattle.bus_machine.specs.Nodes.{round_of}
use Rattle.bus_machine.specs.NodeEvents.{next_step}
use Rattle.bus_machine.specs.BusStates.{BusState, node_at}
use Rattle.bus_machine.specs.Plans.{link_at}
use Rattle.bus_machine.specs.RunParameters.{Run}
use Rattle.bus_machine.specs.MissedMessages.{missing_link}
use Rattle.bus_machine.specs.Machine.{BusEvent, Start, Step, Finish, Send, Arrive, Drop, Repeat, arrival, early_stop}
use Rattle.bus_machine.specs.Replay.{entries, start_entry, stop_entry}
use Rattle.bus_machine.specs.proof.AgreementLaws.{IsRunOf}
use Rattle.bus_machine.specs.declared.node_action.NodeAction.{NodeAction}
use Rattle.run_laws.specs.EntryEventsAndReadings.{Timed, timed}
use Rattle.run_laws.specs.JournalReadings.{latest}
use Rattle.pals_clock.specs.declared.clock.Clocks.{Clocks}
use Rattle.pals_clock.specs.declared.clock.Clocks.TheVariants.{Lists}
use Rattle.run_laws.specs.Runs.{Does, KeepsTo, Runs, opens, picks_for, goes_on}
use Rattle.run_laws.specs.proof.RisingReadings.{LinesRise}
use Rattle.run_laws.proofs.MeetingStopsAndBounds.{link_is}
use Rattle.run_laws.proofs.MeetingReadings.{no_fall}
use Rattle.run_laws.proofs.MissedLinks.{missed_link}
use Rattle.run_laws.proofs.EventReadings.{does_read, latest_after}

abbrev LineRises : Run → List JournalEntry → JournalEntry → Type 0
LineRises run front e =
    (t : Timed) → timed run.design e ≡ Some t → latest run.design t.node front ≤ unwrap_or t.reading 0

line_rises : (run : Run) (front : List JournalEntry) (e : JournalEntry) (j at : ℕ) (reading : Option ℕ)
    → timed run.design e ≡ Some (record { node = j; reading = reading }) → reading ≡ Some at
    → latest run.design j front ≤ at → LineRises run front e
line_rises run front e j at reading told is most = λ t here.
    let same : record { node = j; reading = reading } ≡ t = same_Some _ _ (sym told ∙ here) in
    let shown : unwrap_or reading 0 ≡ at = ap (λ o. unwrap_or o 0) is in
    subst (λ (x : Timed). latest run.design x.node front ≤ unwrap_or x.reading 0) same (omega arith)

untimed : (run : Run) (front : List JournalEntry) (e : JournalEntry) → timed run.design e ≡ None → LineRises run front e
untimed run front e none = λ t is. absurd (let both : None ≡ Some t = sym none ∙ is in cc)

-- the reading that a node acts at is no less than its last one
acts_late : (run : Run) (clocks : Clocks) (journal : List JournalEntry) (s : BusState) (node : NodeNo)
    (reading : Option ℕ) (action : NodeAction) → IsRunOf run → Runs run clocks journal s
    → (d : Does run clocks s node reading action)
    → latest run.design node.0 journal ≤ d.at
acts_late run clocks journal s node reading action rules runs d =
    no_fall run rules clocks journal s runs node.0 d.at (does_read run clocks s node reading action d)

start_rises : (run : Run) (front : List JournalEntry) (s : BusState) (node : NodeNo) (reading m : Option ℕ) (at : ℕ)
    → reading ≡ Some at → latest run.design node.0 front ≤ at → missing_link run s node.0 ≡ m
    → LinesRise run front (start_entry run s node reading m ∷ [])
start_rises run front s node reading None at is most misses =
    (line_rises run front (start_entry run s node reading None) node.0 at reading refl is most, tt)
start_rises run front s node reading (Some link) at is most misses =
    let missed = missed_link run s node.0 link misses in
    let here : (link_at run.design link).target.0 ≡ node.0 =
    ap (λ (l : Link). l.target.0) (link_is run link missed.the_link missed.is_link) ∙ missed.to_node in (
      line_rises run front (start_entry run s node reading (Some link)) node.0 at reading
          (ap (λ j. Some (record { node = j; reading = reading })) here) is most,
      tt,
    )

either_below : (b : Bool) (x y z : ℕ) → x ≤ z → y ≤ z → cond b x y ≤ z
either_below true x y z p q = p
either_below false x y z p q = q

arrive_rises : (run : Run) (front : List JournalEntry) (link : LinkNo) (round : ℕ) (reading : Option ℕ) (a : Arrived)
    (at : ℕ) → reading ≡ Some at → latest run.design (link_at run.design link.0).target.0 front ≤ at
    → LinesRise run front (entry.Arrive link round reading a ∷ stop_entry (early_stop link round reading a))
arrive_rises run front link round reading Kept at is most = (
  line_rises run front (entry.Arrive link round reading Kept) (link_at run.design link.0).target.0 at reading refl
      is most,
  tt,
)
arrive_rises run front link round reading Ignored at is most = (
  line_rises run front (entry.Arrive link round reading Ignored) (link_at run.design link.0).target.0 at reading refl
      is most,
  tt,
)
arrive_rises run front link round reading Early at is most =
    let j = (link_at run.design link.0).target.0 in
    let e = entry.Arrive link round reading Early in
    let shown : unwrap_or reading 0 ≡ at = ap (λ o. unwrap_or o 0) is in
    let here : latest run.design j (front ++ e ∷ [])
    ≡ cond (nat_eq j j) (unwrap_or reading 0) (latest run.design j front) =
    latest_after run.design j front (e ∷ []) in
    let both : cond (nat_eq j j) (unwrap_or reading 0) (latest run.design j front) ≤ at =
    either_below (nat_eq j j) (unwrap_or reading 0) (latest run.design j front) at (omega arith) most in (
      line_rises run front e j at reading refl is most,
      (
        line_rises run (front ++ e ∷ []) (entry.Stopped (stop.Early link round reading)) j at reading refl is
            (omega arith),
        tt,
      ),
    )

event_rises : (run : Run) (clocks : Clocks) (journal : List JournalEntry) (s : BusState) (e : BusEvent) → IsRunOf run
    → Runs run clocks journal s → KeepsTo run clocks s e → LinesRise run journal (entries run s e)
event_rises run clocks journal s (Start node reading) rules runs keeps =
    start_rises run journal s node reading (missing_link run s node.0) keeps.does.at keeps.does.reading_is
    (acts_late run clocks journal s node reading _ rules runs keeps.does) refl
event_rises run clocks journal s (Step node reading) rules runs keeps = (
  line_rises run journal (entry.Step node (round_of (node_at s node.0))
      (unwrap_or (next_step (node_at s node.0).phase) 0) reading) node.0 keeps.2.at reading refl keeps.2.reading_is
      (acts_late run clocks journal s node reading _ rules runs keeps.2),
  tt,
)
event_rises run clocks journal s (Finish node) rules runs keeps =
    (untimed run journal (entry.Finish node (round_of (node_at s node.0))) refl, tt)
event_rises run clocks journal s (Send node reading) rules runs keeps = (
  line_rises run journal (entry.Send node (round_of (node_at s node.0)) reading) node.0 keeps.1.at reading refl
      keeps.1.reading_is (acts_late run clocks journal s node reading _ rules runs keeps.1),
  tt,
)
event_rises run clocks journal s (Arrive link round reading) rules runs keeps =
    arrive_rises run journal link round reading (arrival run s link round) keeps.does.at keeps.does.reading_is
    (acts_late run clocks journal s (link_at run.design link.0).target reading _ rules runs keeps.does)
event_rises run clocks journal s (Drop link round) rules runs keeps = absurd keeps
event_rises run clocks journal s (Repeat link round) rules runs keeps = absurd keeps

pub rise_append : (run : Run) (front xs ys : List JournalEntry) → LinesRise run front xs
    → LinesRise run (front ++ xs) ys → LinesRise run front (xs ++ ys)
rise_append run front [] ys first second = subst (λ f. LinesRise run f ys) (append-nil front) second
rise_append run front (x ∷ xs) ys first second = (
  first.0,
  rise_append run (front ++ x ∷ []) xs ys first.1
      (subst (λ f. LinesRise run f ys) (sym (append_assoc front (x ∷ []) xs)) second),
)

pub readings_rise : (run : Run) (clocks : Clocks) (journal : List JournalEntry) (s : BusState) → IsRunOf run
    → Runs run clocks journal s → LinesRise run [] journal
readings_rise run clocks journal s rules (opens clocks' begin) = tt
readings_rise run clocks journal s rules (picks_for {clocks = before} j runs picks') =
    readings_rise run (Lists before) journal s rules runs
readings_rise run clocks journal s rules (goes_on {journal = before} {s = t} e runs keeps step) =
    rise_append run [] before (entries run t e) (readings_rise run clocks before t rules runs)
    (event_rises run clocks before t e rules runs keeps)
