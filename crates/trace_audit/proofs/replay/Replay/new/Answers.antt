use Rattle.std.proofs.Common.{◌≡◌, ℕ, List, None, length, sym, ap₂, ◌∙◌, rules}
use Rattle.std.specs.Prelude.{replicate}
use Rattle.bus_machine.specs.BusStates.{BusState}
use Rattle.run_laws.specs.TraceVerdicts.{Audit}
use Rattle.trace_audit.proofs.AuditInvariant.{no_readings}
use Rattle.trace_audit.proofs.replay.Replay.new.Goals as goal

pub returns-clause-value : goal.returns-clause-value
returns-clause-value c =
    let run = c.args.bus.run in
    let made : c.in_ok-readings.readings.items ≡ replicate (length run.design.components) 0 = search rules in
    ap₂ (λ (s : BusState) (rs : List ℕ). let a : Audit = record { bus = s; readings = rs; owed = None } in a)
    c.requires.opening (made ∙ sym (no_readings run))
