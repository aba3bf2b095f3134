use Rattle.std.proofs.Common.{Ok, length, sym, ap, ◌∙◌, subst}
use Rattle.std.specs.Prelude.{IfSome}
use Rattle.pals_model.specs.declared.design.DesignParts.{DesignParts}
use Rattle.bus_machine.specs.RunParameters.{Run}
use Rattle.run_laws.specs.EntriesOfDesigns.{IsEntryIn}
use Rattle.run_laws.specs.TraceVerdicts.{noted}
use Rattle.run_laws.proofs.SoundTraces.{length-noted}
use Rattle.pals_bus.specs.BusValues.{BusValue}
use Rattle.trace_audit.specs.proof.OwedStops.{owed_by}
use Rattle.trace_audit.proofs.AuditInvariant.{audit_next, owed_within}
use Rattle.trace_audit.proofs.replay.Replay.take_entry.Goals as goal

pub returns-clause-next : goal.returns-clause-next
returns-clause-next c = λ done.
    let r = c.args.self.now in
    let e = c.args.entry.now in
    let redone = c.in_ok-rule.ensures.next (ap Ok c.in_default.is) in
    let run = ap (λ (b : BusValue). b.run) redone.happens.others in
    let notes = c.note.ensures ∙ ap (noted r.readings.items) c.requires.clock.value in
    record {
      kept = record {
        loose = ap (λ (b : BusValue). b.meeting) redone.happens.others ∙ c.requires.kept.loose;
        count =
            ap length notes ∙ length-noted r.readings.items _ ∙ c.requires.kept.count
            ∙ sym (ap (λ (u : Run). length u.design.components) run);
        owed = subst (λ o. IfSome o (IsEntryIn c.replay_entry.new.bus.run.design)) (sym c.owed_by-self.ensures)
            (subst (λ (d : DesignParts). IfSome (owed_by e) (IsEntryIn d)) (sym (ap (λ (u : Run). u.design) run))
            (owed_within r.bus.run.design e c.requires.entry));
      };
      run = run;
      state =
          audit_next r.bus.run r.bus.state c.replay_entry.new.bus.state r.readings.items c.as_slice.result.now
          c.note.new.readings.items r.owed c.owed_by-self.result e redone.event redone.is redone.happens.step.state
          (sym c.in_ok-rule.ensures.rule ∙ c.in_default.is) notes c.owed_by-self.ensures c.requires.owed;
    }
