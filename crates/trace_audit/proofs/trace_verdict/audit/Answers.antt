use Rattle.std.proofs.Common.{◌≡◌, ◌/◌, sym, ap, ◌∙◌, subst}
use Rattle.std.specs.Prelude.{IfOk}
use Rattle.std.specs.Arc.{arc_value}
use Rattle.pals_model.specs.declared.design.DesignParts.{DesignParts}
use Rattle.pals_runs.specs.declared.verdicts.Verdict.{Verdict}
use Rattle.bus_machine.specs.RunParameters.{Run}
use Rattle.run_laws.specs.TraceVerdicts.{opening_audit, row_size}
use Rattle.trace_audit.specs.proof.ReportEnds.{ReportEnds}
use Rattle.trace_audit.proofs.JournalVerdicts.{judged_whole}
use Rattle.trace_audit.proofs.trace_verdict.audit.Goals as goal

pub audit_behind-requires-clause-design : goal.audit_behind-requires-clause-design
audit_behind-requires-clause-design c = c.deref.ensures
    ∙ sym (ap (λ (r : Run). r.design) c.in_ok-replay-in-Whole.ensures.run)

pub returns-in-Whole : goal.returns-in-Whole
returns-in-Whole c =
    let run : Run = record {
      design = arc_value c.args.design;
      env = c.args.env;
      rounds = c.args.rounds;
      delays = c.args.delays;
    } in
    let replay = c.in_ok-replay-in-Whole.replay in
    let size = c.in-Whole.size in
    let report = subst (ReportEnds run.design run.env c.args.trace.now) c.in-Whole.is c.in_ok-size.ensures.value in
    subst (λ (v : Verdict). IfOk c.audit_behind.result (λ w. w ≡ v))
    (judged_whole run replay.bus.run c.args.trace.now size _ _ report.0 report.1
    c.in_ok-replay-in-Whole.ensures.run
    (c.in_ok-replay-in-Whole.ensures.value ∙ ap opening_audit c.in_ok-replay-in-Whole.ensures.run)
    (ap (λ (d : DesignParts). size / row_size d) c.deref.ensures))
    c.audit_behind.ensures
