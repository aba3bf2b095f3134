-- How entries of a journal extend the view of a link.
use Rattle.std.proofs.Common.{◌≡◌, ◌≢◌, ℕ, ◌+◌, ◌≤◌, nat_eq, Bool, true, false, cond, List, [], ◌∷◌, ◌++◌, Option, Some}
use Rattle.std.proofs.Common.{None, refl, sym, ap, ap₂, ◌∙◌, subst, arith}
use Rattle.std.proofs.lemmas.Bool.{eqb-true, eq-eqb, ne_eqb}
use Rattle.std.proofs.lemmas.Grind.{flat_map-append}
use Rattle.std.proofs.lemmas.List.{append-nil}
use Rattle.pals_base.specs.declared.basic_types.NodeNo.{NodeNo}
use Rattle.pals_model.specs.declared.design.Link.{Link}
use Rattle.pals_model.specs.Delays.{delay_of}
use Rattle.pals_runs.specs.declared.journal.JournalEntry.{JournalEntry}
use Rattle.bus_machine.specs.NodeEvents.{slot_at}
use Rattle.bus_machine.specs.BusStates.{BusState, node_at, flight_at}
use Rattle.bus_machine.specs.RunParameters.{Run}
use Rattle.bus_machine.specs.Machine.{BusEvent}
use Rattle.bus_machine.specs.Replay.{entries}
use Rattle.run_laws.specs.JournalReadings.{listed, if_at, start_in, send_in, starts, sends, latest}
use Rattle.pals_clock.specs.declared.clock.Clocks.{Clocks}
use Rattle.run_laws.specs.proof.LinkTiming.{LinkView, early_on, view, IsTimed}
use Rattle.run_laws.proofs.LinkTimingPreservation.{goes_later}
use Rattle.run_laws.proofs.EventReadings.{Told, none_told, is_told, latest_after, NoFall}

-- ---- equal views
pub same_view : (delay : ℕ → ℕ) (v w : LinkView) → v.sends ≡ w.sends → v.starts ≡ w.starts → v.latest ≡ w.latest
    → v.count ≡ w.count → v.slot ≡ w.slot → v.flight ≡ w.flight → v.taken ≡ w.taken → IsTimed delay w → IsTimed delay v
same_view delay v w a b c d e f g timed =
    subst (IsTimed delay) (sym
    (λ i. record {
      sends = a i;
      starts = b i;
      latest = c i;
      count = d i;
      slot = e i;
      flight = f i;
      taken = g i;
    })) timed

-- ---- the effect of entries on the view
pub send_at : (j k : ℕ) (node : NodeNo) (at : ℕ) (reading : Option ℕ) → node.0 ≡ j → j ≡ k → reading ≡ Some at
    → if_at k node reading ++ [] ≡ at ∷ []
send_at j k node at reading is same shows = ap₂ (λ b o. cond b (listed o) [] ++ []) (eq-eqb node.0 k (is ∙ same)) shows

pub none_at : (k : ℕ) (node : NodeNo) (reading : Option ℕ) → node.0 ≢ k → if_at k node reading ++ [] ≡ []
none_at k node reading other = ap (λ b. cond b (listed reading) [] ++ []) (ne_eqb node.0 k other)

pub sends_more : (k : ℕ) (journal told : List JournalEntry) (more : List ℕ) → sends k told ≡ more
    → sends k (journal ++ told) ≡ sends k journal ++ more
sends_more k journal told more is = flat_map-append (send_in k) journal told ∙ ap (λ xs. sends k journal ++ xs) is

pub starts_more : (k : ℕ) (journal told : List JournalEntry) (more : List ℕ) → starts k told ≡ more
    → starts k (journal ++ told) ≡ starts k journal ++ more
starts_more k journal told more is = flat_map-append (start_in k) journal told ∙ ap (λ xs. starts k journal ++ xs) is

-- ---- the last reading does not fall
pub grows_by : (run : Run) (clocks : Clocks) (s : BusState) (e : BusEvent) (journal : List JournalEntry) (k : ℕ)
    → NoFall run clocks journal s → Told run clocks s e
    → latest run.design k journal ≤ latest run.design k (journal ++ entries run s e)
grows_by run clocks s e journal k falls (none_told tells) =
    let new : latest run.design k (journal ++ entries run s e) ≡ latest run.design k journal =
    latest_after run.design k journal (entries run s e) ∙ tells k (latest run.design k journal) in
    omega arith
grows_by run clocks s e journal k falls (is_told j at reads tells) =
    let new : latest run.design k (journal ++ entries run s e) ≡ cond (nat_eq j k) at (latest run.design k journal) =
    latest_after run.design k journal (entries run s e) ∙ tells k (latest run.design k journal) in
    by (nat_eq j k) refl new
  where
    by : (b : Bool) → nat_eq j k ≡ b
        → latest run.design k (journal ++ entries run s e) ≡ cond b at (latest run.design k journal)
        → latest run.design k journal ≤ latest run.design k (journal ++ entries run s e)
    by true is new =
        let same : j ≡ k = eqb-true j k is in
        let most : latest run.design k journal ≤ at =
        subst (λ i. latest run.design i journal ≤ at) same (falls j at reads) in
        omega arith
    by false is new = omega arith

-- ---- a quantity of a node that an event keeps
abbrev pub TimedIn : Run → BusState → List JournalEntry → ℕ → Link → Type 0
TimedIn run s journal number link = IsTimed (delay_of run.delays number) (view run s journal number link)

-- an event with no effect on this link, except that its target's clock may advance
pub stays_timed : (run : Run) (s t : BusState) (journal told : List JournalEntry) (number : ℕ) (link : Link)
    → TimedIn run s journal number link → s.stop ≡ None
    → latest run.design link.target.0 journal ≤ latest run.design link.target.0 (journal ++ told)
    → sends link.source.0 told ≡ [] → starts link.target.0 told ≡ []
    → (node_at t link.target.0).count ≡ (node_at s link.target.0).count
    → slot_at (node_at t link.target.0) link.in_port ≡ slot_at (node_at s link.target.0) link.in_port
    → flight_at t number ≡ flight_at s number → early_on number t.stop ≡ None
    → TimedIn run t (journal ++ told) number link
stays_timed run s t journal told number link timed going most no_send no_start count slot flight taken =
    let v = view run s journal number link in
    same_view (delay_of run.delays number) (view run t (journal ++ told) number link)
    (record v { latest = latest run.design link.target.0 (journal ++ told) })
    (sends_more link.source.0 journal told [] no_send ∙ append-nil (sends link.source.0 journal))
    (starts_more link.target.0 journal told [] no_start ∙ append-nil (starts link.target.0 journal))
    refl count slot flight (taken ∙ sym (ap (early_on number) going))
    (goes_later (delay_of run.delays number) v (latest run.design link.target.0 (journal ++ told)) timed most)
