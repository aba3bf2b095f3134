-- Time that passes: no clock goes back, and nothing else changes.
use Rattle.std.proofs.Common.{◌≡◌, ℕ, ◌<◌, ◌≤◌, List, [], ◌∷◌, ◌++◌, length, map, None, sym, subst, arith}
use Rattle.std.specs.Prelude.{nat_lt, slice_index_or}
use Rattle.std.specs.List.{enumerate_from}
use Rattle.std.proofs.lemmas.Bool.{ltb-false}
use Rattle.std.proofs.lemmas.List.{append-nil}
use Rattle.std.proofs.lemmas.Option.{slice_get-get_or}
use Rattle.list_lemmas.proofs.ElementPositions.{slice_get-enumerate_from}
use Rattle.pals_base.specs.UpwardNumbers.{upwards}
use Rattle.pals_runs.specs.declared.journal.JournalEntry.{JournalEntry}
use Rattle.bus_machine.specs.BusStates.{BusState}
use Rattle.bus_machine.specs.RunParameters.{Run}
use Rattle.run_laws.specs.EventFaults.{fault_of, found_if, first_of, clock_back, clock_apart, node_past, link_past}
use Rattle.run_laws.specs.Worlds.{World, reading_at, world_after}
use Rattle.run_laws.proofs.FaultlessEventConditions.{named, none_if}
use Rattle.run_laws.proofs.Lists.{both_none, none_first}
use Rattle.run_laws.proofs.TimePassage.{passes_in_time}
use Rattle.trace_laws.specs.WorldTraces.{recorded}
use Rattle.trace_laws.specs.proof.PutOffArrivals.{IsPutOff}
use Rattle.pals_runs.specs.declared.events_and_faults.Event.TheVariants as event
use Rattle.pals_runs.specs.declared.events_and_faults.EventFault.TheVariants as fault

module _ (run : Run) (w : World) (time : ℕ) (readings : List ℕ)
    (fine : fault_of run w (event.Pass time readings) ≡ None) where
  rises_by : (node : ℕ) → node < length readings → first_of (map (clock_back w) (enumerate_from 0 readings)) ≡ None
      → reading_at w node ≤ slice_index_or readings node 0
  rises_by node within none =
      let reading = slice_index_or readings node 0 in
      let at =
      slice_get-enumerate_from 0 readings node node reading (omega arith) (slice_get-get_or readings node 0 within) in
      let one = none_first (clock_back w) (enumerate_from 0 readings) node (node, reading) none at in
      ltb-false reading (reading_at w node)
      (none_if (nat_lt reading (reading_at w node)) (fault.ClockBack (record { 0 = node }) reading) one)

  rises : (node : ℕ) → node < length run.design.components → reading_at w node ≤ slice_index_or readings node 0
  rises node within =
      let parts = named run w (event.Pass time readings) fine in
      let clocks = enumerate_from 0 readings in
      let backs = first_of (map (clock_back w) clocks) in
      let aparts = first_of (map (clock_apart run time) clocks) in
      let pasts = first_of (map (node_past run w time) (upwards 0 (length run.design.components))) in
      let carried = first_of (map (link_past run w time) (upwards 0 (length run.design.links))) in
      let one = both_none (found_if (nat_lt time w.time) (fault.TimeBack time))
      (first_of (backs ∷ aparts ∷ pasts ∷ carried ∷ [])) parts.1 in
      let two = both_none backs (first_of (aparts ∷ pasts ∷ carried ∷ [])) one.1 in
      let many = (passes_in_time run w time readings fine).many in
      rises_by node (omega (arith, many, within)) two.0

  pub pass_put_off : (journal : List JournalEntry) (t : BusState) → IsPutOff run w journal t
      → (u : BusState)
      × IsPutOff run (world_after run w (event.Pass time readings))
      (journal ++ recorded run w (event.Pass time readings)) u
  pass_put_off journal t put = (
    t,
    subst (λ told. IsPutOff run (world_after run w (event.Pass time readings)) told t) (sym (append-nil journal))
        (record {
          history = put.history;
          of_design = put.of_design;
          going = put.going;
          nodes = put.nodes;
          links = put.links;
          read = λ node within.
              let most = put.read node within in
              let more = rises node within in
              omega (arith, most, more);
        }),
  )
