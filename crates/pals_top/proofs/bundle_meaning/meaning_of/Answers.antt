use Rattle.std.proofs.Common.{◌≢◌, inl, inr, Ok, Err, subst}
use Rattle.pals_runs.specs.declared.commands.Command.{Command}
use Rattle.scenario_values.specs.declared.fault.ScenarioFault.TheVariants.{Memory}
use Rattle.scenario_json.specs.Scenarios.{Means}
use Rattle.design_codes.specs.OverlongCodes.{IsCause}
use Rattle.pals_top.specs.ExecutionAnswers.{command_of}
use Rattle.pals_top.proofs.ExecutionAnswers.{code_refused, code_said, has_events, scenario_refused}
use Rattle.pals_top.proofs.RefusalAnswers.{bundle_refused}
use Rattle.pals_top.proofs.ScenarioFaultAnswers.{says_fault}
use Rattle.pals_top.proofs.bundle_meaning.meaning_of.Goals as goal

pub returns-in-Err : goal.returns-in-Err
returns-in-Err g c =
    inl (bundle_refused c.args.root c.args.bundle.now c.in-Err.refusal c.in_ok-refused-in-Err.field-0
    c.in-Err.ensures.refused c.in_ok-refused-in-Err.ensures.answer)

pub returns-in-Err-TooLong : goal.returns-in-Err-TooLong
returns-in-Err-TooLong g c =
    let design = c.in-Ok.accepted.design in
    inr (inl (code_refused c.args.root c.args.bundle.now design c.in-Ok.accepted.scenario.now c.in-Err-TooLong.node
    c.in-Err-TooLong.length c.in_ok-answer-in-Err-TooLong.answer c.in-Ok.ensures.accepted
    (subst (IsCause design) c.in-Err-TooLong.field-0-is c.in-Err-TooLong.ensures.fault)
    (code_said design c.in_ok-answer-in-Err-TooLong.answer c.in-Err-TooLong.node-is c.in-Err-TooLong.length-is
    c.in_ok-answer-in-Err-TooLong.ensures)))

pub returns-in-Ok-read_scenario : goal.returns-in-Ok-read_scenario
returns-in-Ok-read_scenario g c =
    let what = g.C.CodedCommand.execution c.args.command.now in
    let bytes = c.in-Ok.accepted.scenario.now in
    let design = c.in-Ok.accepted.design in
    let scenario = c.in-Ok-read_scenario.scenario in
    let means =
    subst (λ (k : Command). Means bytes design k (Ok scenario)) c.command-job.ensures
    c.in-Ok-read_scenario.ensures.answer in
    record {
      means = record { bytes = bytes; accepted = c.in-Ok.ensures.accepted; means = means };
      codes = c.in-Ok-compile_all.ensures.ok;
      layout = c.in-Ok-compile_all.ensures.layout;
      short = c.in-Ok-compile_all.ensures.short;
      kept = c.in-Ok-read_scenario.ensures.kept;
      events =
          has_events what c.args.root design bytes scenario c.events_are_loose.ensures c.events_are_few.ensures
          c.traces_are_few.ensures means;
    }

pub returns-in_ok-refused_scenario-in-Err-read_scenario : goal.returns-in_ok-refused_scenario-in-Err-read_scenario
returns-in_ok-refused_scenario-in-Err-read_scenario g c =
    let what = g.C.CodedCommand.execution c.args.command.now in
    let bytes = c.in-Ok.accepted.scenario.now in
    let design = c.in-Ok.accepted.design in
    let fault = c.in-Err-read_scenario.fault in
    let means : fault ≢ Memory → Means bytes design (command_of what c.args.root) (Err fault) = λ named.
    subst (λ (k : Command). Means bytes design k (Err fault)) c.command-job.ensures
    (c.in-Err-read_scenario.ensures.answer named) in
    let said = c.in_ok-refused_scenario-in-Err-read_scenario in
    scenario_refused what c.args.root c.args.bundle.now design said.field-0 c.in-Ok-compile_all.ensures.short
    (says_fault c.args.root c.args.bundle.now design bytes (command_of what c.args.root) fault said.field-0
    c.in-Ok.ensures.accepted means said.ensures.status said.ensures.text said.ensures.named)
