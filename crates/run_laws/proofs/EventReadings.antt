-- Which node's clock an event reads, and that no reading of a node is less than the one before it.
use Rattle.std.proofs.Common.{◌≡◌, inl, inr, ℕ, suc, ◌<◌, ◌≤◌, nat_eq, nat_lt, Bool, true, false, cond, List, [], ◌∷◌}
use Rattle.std.proofs.Common.{◌++◌, length, slice_get, All, Option, Some, None, refl, sym, ap, ◌∙◌, subst, arith}
use Rattle.std.specs.Prelude.{slice_index_or}
use Rattle.std.specs.List.{fold}
use Rattle.std.specs.List.Sorted.{IsNonDecreasing}
use Rattle.std.specs.Option.{unwrap_or}
use Rattle.std.proofs.lemmas.Bool.{cases_eq, eqb-true}
use Rattle.std.proofs.lemmas.Grind.{get_or-set_at}
use Rattle.std.proofs.lemmas.List.{get_or-set_other}
use Rattle.std.proofs.lemmas.List.Elements.{All-tail}
use Rattle.std.proofs.lemmas.List.Sums.{fold-append}
use Rattle.std.proofs.lemmas.Option.{get_or_from_slice_get}
use Rattle.pals_base.specs.declared.basic_types.NodeNo.{NodeNo}
use Rattle.pals_base.specs.declared.basic_types.LinkNo.{LinkNo}
use Rattle.pals_base.specs.ClockPicks.{remaining_from}
use Rattle.pals_clock.specs.ClockStates.{ClockState, standing_at}
use Rattle.pals_model.specs.declared.design.DesignParts.{DesignParts}
use Rattle.pals_model.proofs.FirstMatches.{at_element}
use Rattle.pals_runs.specs.declared.journal.Arrived.{Arrived}
use Rattle.pals_runs.specs.declared.journal.Arrived.TheVariants.{Kept, Ignored, Early}
use Rattle.pals_runs.specs.declared.journal.JournalEntry.{JournalEntry}
use Rattle.pals_runs.specs.declared.journal.JournalEntry.TheVariants as entry
use Rattle.bus_machine.specs.Plans.{plan_of, link_at, no_link}
use Rattle.bus_machine.specs.BusStates.{BusState, node_at}
use Rattle.bus_machine.specs.RunParameters.{Run}
use Rattle.bus_machine.specs.MissedMessages.{missing_link}
use Rattle.bus_machine.specs.Machine.{BusEvent, Start, Step, Finish, Send, Arrive, Drop, Repeat, arrival, early_stop}
use Rattle.bus_machine.specs.Replay.{entries, start_entry, stop_entry}
use Rattle.bus_machine.specs.declared.node_action.NodeAction.{NodeAction}
use Rattle.bus_machine.specs.ActionsAndTargets.{target}
use Rattle.run_laws.specs.EntryEventsAndReadings.{timed}
use Rattle.run_laws.specs.JournalReadings.{last_of, latest}
use Rattle.run_laws.specs.NodeActions.{upcoming}
use Rattle.pals_clock.specs.declared.clock.Clocks.{Clocks}
use Rattle.pals_clock.specs.declared.clock.Clocks.TheVariants.{Meet, Lists}
use Rattle.run_laws.specs.Runs.{no_clock, clock_at, Shows, Does, KeepsTo, Picks, HaveFreshClocks, Runs, opens}
use Rattle.run_laws.specs.Runs.{picks_for, goes_on}
use Rattle.run_laws.proofs.MissedLinks.{missed_link}
use Rattle.run_laws.proofs.NodePicksAndRunReplay.{many_clocks}

-- ---- a node's clock is read
pub record Reads (run : Run) (clocks : Clocks) (s : BusState) (j at : ℕ) : Type 0 where
  pub within : j < length run.design.components
  pub action : NodeAction
  pub next : upcoming (plan_of run.design j) (node_at s j) ≡ Some action
  pub shows : Shows run clocks s j (target (plan_of run.design j) action) at

pub does_read : (run : Run) (clocks : Clocks) (s : BusState) (node : NodeNo) (reading : Option ℕ) (action : NodeAction)
    → (d : Does run clocks s node reading action) → Reads run clocks s node.0 d.at
does_read run clocks s node reading action d =
    record { within = d.within; action = action; next = d.next; shows = d.shows }

-- the last readings of all nodes, after more entries
abbrev pub later : DesignParts → ℕ → ℕ → List JournalEntry → ℕ
later design k before told = fold (λ b e. last_of k b (timed design e)) before told

abbrev pub Tells : Run → BusState → BusEvent → ℕ → ℕ → Type 0
Tells run s e j at = (k before : ℕ) → later run.design k before (entries run s e) ≡ cond (nat_eq j k) at before

abbrev pub TellsNone : Run → BusState → BusEvent → Type 0
TellsNone run s e = (k before : ℕ) → later run.design k before (entries run s e) ≡ before

pub data Told (run : Run) (clocks : Clocks) (s : BusState) (e : BusEvent) : Type 0 where
  none_told : TellsNone run s e → Told run clocks s e
  is_told : (j at : ℕ) → Reads run clocks s j at → Tells run s e j at → Told run clocks s e

shown : (j k at before : ℕ) (reading : Option ℕ) → reading ≡ Some at
    → cond (nat_eq j k) (unwrap_or reading 0) before ≡ cond (nat_eq j k) at before
shown j k at before reading is = ap (λ o. cond (nat_eq j k) (unwrap_or o 0) before) is

pub start_tells : (run : Run) (s : BusState) (node : NodeNo) (reading m : Option ℕ) (at k before : ℕ)
    → reading ≡ Some at → missing_link run s node.0 ≡ m
    → later run.design k before (start_entry run s node reading m ∷ []) ≡ cond (nat_eq node.0 k) at before
start_tells run s node reading None at k before is misses = shown node.0 k at before reading is
start_tells run s node reading (Some link) at k before is misses =
    let missed = missed_link run s node.0 link misses in
    let here : (link_at run.design link).target.0 ≡ node.0 =
    ap (λ l. l.target.0) (get_or_from_slice_get run.design.links link missed.the_link no_link missed.is_link)
    ∙ missed.to_node in
    ap (λ j. cond (nat_eq j k) (unwrap_or reading 0) before) here ∙ shown node.0 k at before reading is

twice : (b : Bool) (at before : ℕ) → cond b at (cond b at before) ≡ cond b at before
twice true at before = refl
twice false at before = refl

pub arrive_tells : (run : Run) (link : LinkNo) (round : ℕ) (reading : Option ℕ) (a : Arrived) (at k before : ℕ)
    → reading ≡ Some at
    → later run.design k before (entry.Arrive link round reading a ∷ stop_entry (early_stop link round reading a))
    ≡ cond (nat_eq (link_at run.design link.0).target.0 k) at before
arrive_tells run link round reading Kept at k before is =
    shown (link_at run.design link.0).target.0 k at before reading is
arrive_tells run link round reading Ignored at k before is =
    shown (link_at run.design link.0).target.0 k at before reading is
arrive_tells run link round reading Early at k before is =
    let j = (link_at run.design link.0).target.0 in
    shown j k at (cond (nat_eq j k) (unwrap_or reading 0) before) reading is
    ∙ ap (λ x. cond (nat_eq j k) at x) (shown j k at before reading is) ∙ twice (nat_eq j k) at before

pub event_tells : (run : Run) (clocks : Clocks) (s : BusState) (e : BusEvent) → KeepsTo run clocks s e
    → Told run clocks s e
event_tells run clocks s (Start node reading) keeps =
    is_told node.0 keeps.does.at (does_read run clocks s node reading _ keeps.does)
    (λ k before. start_tells run s node reading (missing_link run s node.0) keeps.does.at k before
    keeps.does.reading_is refl)
event_tells run clocks s (Step node reading) keeps =
    is_told node.0 keeps.2.at (does_read run clocks s node reading _ keeps.2)
    (λ k before. shown node.0 k keeps.2.at before reading keeps.2.reading_is)
event_tells run clocks s (Finish node) keeps = none_told (λ k before. refl)
event_tells run clocks s (Send node reading) keeps =
    is_told node.0 keeps.1.at (does_read run clocks s node reading _ keeps.1)
    (λ k before. shown node.0 k keeps.1.at before reading keeps.1.reading_is)
event_tells run clocks s (Arrive link round reading) keeps =
    is_told (link_at run.design link.0).target.0 keeps.does.at
    (does_read run clocks s (link_at run.design link.0).target reading _ keeps.does)
    (λ k before. arrive_tells run link round reading (arrival run s link round) keeps.does.at k before
    keeps.does.reading_is)
event_tells run clocks s (Drop link round) keeps = absurd keeps
event_tells run clocks s (Repeat link round) keeps = absurd keeps

pub latest_after : (design : DesignParts) (k : ℕ) (journal told : List JournalEntry)
    → latest design k (journal ++ told) ≡ later design k (latest design k journal) told
latest_after design k journal told = fold-append (λ b e. last_of k b (timed design e)) 0 journal told

-- ---- list clocks: no remaining reading is below the last reading shown
pub record NoneFalls (clock : ClockState) (last : ℕ) : Type 0 where
  pub order : IsNonDecreasing clock.left
  pub above : All (λ reading. last ≤ reading) clock.left

tail_rises : (r : ℕ) (rs : List ℕ) → IsNonDecreasing (r ∷ rs) → IsNonDecreasing rs
tail_rises r rs order = λ i j d ordered within. order (suc i) (suc j) d (omega arith) (omega arith)

reached_by : (r : ℕ) (rs : List ℕ) (t last : ℕ) (b : Bool) → NoneFalls (record { readings = []; left = r ∷ rs }) last
    → NoneFalls (record { readings = []; left = remaining_from rs t }) last
    → NoneFalls (record { readings = []; left = cond b (remaining_from rs t) (r ∷ rs) }) last
reached_by r rs t last true all rest = rest
reached_by r rs t last false all rest = all

reached_falls : (left : List ℕ) (t last : ℕ) → IsNonDecreasing left → All (λ reading. last ≤ reading) left
    → NoneFalls (record { readings = []; left = remaining_from left t }) last
reached_falls [] t last order above = record { order = order; above = above }
reached_falls (r ∷ rs) t last order above =
    reached_by r rs t last (nat_lt r t) (record { order = order; above = above })
    (reached_falls rs t last (tail_rises r rs order) (All-tail (λ x. last ≤ x) r rs above))

head_least : (left : List ℕ) (at : ℕ) → IsNonDecreasing left → slice_get left 0 ≡ Some at
    → All (λ reading. at ≤ reading) left
head_least [] at order is = absurd (cc)
head_least (r ∷ rs) at order is = let same : r ≡ at = cc in
    λ k d within. let first : r ≤ slice_index_or (r ∷ rs) k d = order 0 k d (omega arith) within in omega arith

abbrev pub FallsIn : Run → Clocks → List JournalEntry → Type 0
FallsIn run Meet journal = Unit {0}
FallsIn run (Lists clocks) journal =
    (k : ℕ) → k < length run.design.components → NoneFalls (clock_at clocks k) (latest run.design k journal)

opens_falls : (run : Run) (clocks : Clocks) → HaveFreshClocks run clocks → FallsIn run clocks []
opens_falls run Meet begin = tt
opens_falls run (Lists clocks) begin = λ k within.
    let count = begin.count in
    record {
      order = subst IsNonDecreasing (sym (begin.each k (omega arith))) (begin.order k (omega arith));
      above = λ i d below. omega arith;
    }

picks_falls : (run : Run) (clocks after' : List ClockState) (journal : List JournalEntry) (s : BusState) (j : ℕ)
    → length clocks ≡ length run.design.components → Picks run clocks s j after' → FallsIn run (Lists clocks) journal
    → FallsIn run (Lists after') journal
picks_falls run clocks after' journal s j many picks before = λ k within.
    let j_within = picks.within in
    let t = target (plan_of run.design j) picks.action in
    let new = standing_at (clock_at clocks j) (remaining_from (clock_at clocks j).left t) in
    subst (λ cs. NoneFalls (clock_at cs k) (latest run.design k journal)) (sym picks.clocks_are) (elim (cases_eq k j) [
      | inl same ↦
          let old = before k within in
          let one = reached_falls (clock_at clocks k).left t (latest run.design k journal) old.order old.above in
          let there : (clock_at clocks k).left ≡ (clock_at clocks j).left = ap (λ i. (clock_at clocks i).left) same in
          subst (λ c. NoneFalls c (latest run.design k journal))
          (sym (get_or-set_at clocks j k new no_clock same (omega arith)))
          (record {
            order = subst (λ l. IsNonDecreasing (remaining_from l t)) there one.order;
            above = subst (λ l. All (λ x. latest run.design k journal ≤ x) (remaining_from l t)) there one.above;
          })
      | inr other ↦ subst (λ c. NoneFalls c (latest run.design k journal))
          (sym (get_or-set_other clocks j k new no_clock other)) (before k within)
    ])

told_falls : (run : Run) (clocks : List ClockState) (s : BusState) (e : BusEvent) (journal : List JournalEntry)
    → Told run (Lists clocks) s e → FallsIn run (Lists clocks) journal
    → FallsIn run (Lists clocks) (journal ++ entries run s e)
told_falls run clocks s e journal (none_told tells) before = λ k within.
    subst (NoneFalls (clock_at clocks k))
    (sym (latest_after run.design k journal (entries run s e) ∙ tells k (latest run.design k journal)))
    (before k within)
told_falls run clocks s e journal (is_told j at reads tells) before = λ k within.
    subst (NoneFalls (clock_at clocks k))
    (sym (latest_after run.design k journal (entries run s e) ∙ tells k (latest run.design k journal)))
    (by_node j k at (latest run.design k journal) (clock_at clocks k) (nat_eq j k) (before k within) (λ is.
    let same : j ≡ k = eqb-true j k is in
    subst (λ i. slice_get (clock_at clocks i).left 0 ≡ Some at) same reads.shows.0) refl)
  where
    by_node : (j k at last : ℕ) (clock : ClockState) (b : Bool) → NoneFalls clock last
        → (nat_eq j k ≡ true → slice_get clock.left 0 ≡ Some at) → nat_eq j k ≡ b → NoneFalls clock (cond b at last)
    by_node j k at last clock true old first is =
        record { order = old.order; above = head_least clock.left at old.order (first is) }
    by_node j k at last clock false old first is = old

event_falls : (run : Run) (clocks : Clocks) (s : BusState) (e : BusEvent) (journal : List JournalEntry)
    → KeepsTo run clocks s e → FallsIn run clocks journal → FallsIn run clocks (journal ++ entries run s e)
event_falls run Meet s e journal keeps before = tt
event_falls run (Lists clocks) s e journal keeps before =
    told_falls run clocks s e journal (event_tells run (Lists clocks) s e keeps) before

pub none_falls : (run : Run) (clocks : Clocks) (journal : List JournalEntry) (s : BusState) → Runs run clocks journal s
    → FallsIn run clocks journal
none_falls run clocks journal s (opens clocks' begin) = opens_falls run clocks begin
none_falls run clocks journal s (picks_for {clocks = before} {later = after'} j runs picks) =
    picks_falls run before after' journal s j (many_clocks run (Lists before) journal s runs) picks
    (none_falls run (Lists before) journal s runs)
none_falls run clocks journal s (goes_on {journal = before} {s = t} e runs keeps step) =
    event_falls run clocks t e before keeps (none_falls run clocks before t runs)

-- a reading is no less than the last one of its node
abbrev pub NoFall : Run → Clocks → List JournalEntry → BusState → Type 0
NoFall run clocks journal s = (j at : ℕ) → Reads run clocks s j at → latest run.design j journal ≤ at

pub lists_no_fall : (run : Run) (clocks : List ClockState) (journal : List JournalEntry) (s : BusState)
    → Runs run (Lists clocks) journal s → NoFall run (Lists clocks) journal s
lists_no_fall run clocks journal s runs = λ j at reads.
    let fits = none_falls run (Lists clocks) journal s runs j reads.within in
    at_element (λ x. latest run.design j journal ≤ x) (clock_at clocks j).left 0 at fits.above reads.shows.0
