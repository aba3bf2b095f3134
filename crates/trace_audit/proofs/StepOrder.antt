-- The step of a node that is next.
use Rattle.std.proofs.Common.{◌≡◌, ℕ, nat_eq, true, false, ◌&&◌, List, Option, Some, None, refl, sym, ap, ap₂, ◌∙◌}
use Rattle.std.specs.Prelude.{is_some}
use Rattle.std.specs.Option.{option_map_or, unwrap_or}
use Rattle.std.proofs.lemmas.Bool.{eqb-true, eq-eqb, and_right}
use Rattle.pals_base.specs.declared.basic_types.NodeNo.{NodeNo}
use Rattle.pals_runs.specs.declared.journal.JournalEntry.TheVariants as entry
use Rattle.pals_runs.specs.declared.phase.Phase.{Phase}
use Rattle.pals_runs.specs.declared.verdicts.TraceRule.TheVariants as rule
use Rattle.bus_machine.specs.Nodes.{round_of}
use Rattle.bus_machine.specs.NodeEvents.{next_step}
use Rattle.bus_machine.specs.BusStates.{BusState, node_at}
use Rattle.bus_machine.specs.RunParameters.{Run}
use Rattle.bus_machine.specs.Machine.{Step}
use Rattle.bus_machine.specs.Replay.{entries}
use Rattle.run_laws.specs.TraceRules.{broken, first_entry, fits}
use Rattle.trace_audit.proofs.BrokenRules.{refused, unfit}

pub next_is : (step : ℕ) (p : Phase) → option_map_or (nat_eq step) (next_step p) false ≡ true → next_step p ≡ Some step
next_is step p is = by (next_step p) is
  where
    by : (o : Option ℕ) → option_map_or (nat_eq step) o false ≡ true → o ≡ Some step
    by None is' = absurd (cc)
    by (Some i) is' = ap Some (sym (eqb-true step i is'))

pub step_fits : (run : Run) (s : BusState) (node : NodeNo) (round step : ℕ) (reading : Option ℕ)
    → round ≡ round_of (node_at s node.0) → next_step (node_at s node.0).phase ≡ Some step
    → fits run s (entry.Step node round step reading) ≡ true
step_fits run s node round step reading here next =
    ap₂ (λ a b. a && b) (eq-eqb round (round_of (node_at s node.0)) here)
    (ap (λ o. nat_eq step (unwrap_or o 0)) next ∙ eq-eqb step step refl)

pub step_first : (run : Run) (s : BusState) (node : NodeNo) (round step : ℕ) (reading : Option ℕ)
    → round ≡ round_of (node_at s node.0) → next_step (node_at s node.0).phase ≡ Some step
    → first_entry (entries run s (Step node reading)) ≡ Some (entry.Step node round step reading)
step_first run s node round step reading here next =
    ap₂ (λ r o. Some (entry.Step node r (unwrap_or o 0) reading)) (sym here) next

-- a step other than the next one, or a step when none can follow
pub step_breaks : (run : Run) (s : BusState) (readings : List ℕ) (node : NodeNo) (round step : ℕ) (reading : Option ℕ)
    → option_map_or (nat_eq step) (next_step (node_at s node.0).phase) false ≡ false
    → Some rule.Order ≡ broken run s readings (entry.Step node round step reading)
step_breaks run s readings node round step reading is = by (next_step (node_at s node.0).phase) refl is
  where
    by : (o : Option ℕ) → next_step (node_at s node.0).phase ≡ o → option_map_or (nat_eq step) o false ≡ false
        → Some rule.Order ≡ broken run s readings (entry.Step node round step reading)
    by None none is' =
        refused run s readings (entry.Step node round step reading) (Step node reading) refl (ap is_some none)
    by (Some i) next is' =
        unfit run s readings (entry.Step node round step reading)
        (and_right (nat_eq round (round_of (node_at s node.0)))
        (nat_eq step (unwrap_or (next_step (node_at s node.0).phase) 0))
        (ap (λ o. nat_eq step (unwrap_or o 0)) next ∙ is'))
