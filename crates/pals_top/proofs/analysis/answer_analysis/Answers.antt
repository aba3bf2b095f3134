use Rattle.std.proofs.Common.{◌≢◌, inl, Ok, Err, subst}
use Rattle.std.proofs.lemmas.Result.{IfOk-weaker}
use Rattle.pals_runs.specs.declared.commands.Command.{Command}
use Rattle.scenario_values.specs.declared.fault.ScenarioFault.TheVariants.{Memory}
use Rattle.scenario_json.specs.Scenarios.{Means}
use Rattle.pals_top.specs.AnalysisAnswers.{command_of}
use Rattle.pals_top.proofs.AnalysisAnswers.{refused, analysed}
use Rattle.pals_top.proofs.RefusalAnswers.{bundle_refused}
use Rattle.pals_top.proofs.ScenarioFaultAnswers.{faults_said}
use Rattle.pals_top.proofs.analysis.answer_analysis.Goals as goal

pub returns-in-Err : goal.returns-in-Err
returns-in-Err g c =
    IfOk-weaker c.refused.result _ _
    (λ a says. inl (bundle_refused c.args.root c.args.bundle.now c.in-Err.refusal a c.in-Err.ensures.refused says))
    c.refused.ensures.answer

pub answer-requires-clause-pairs : goal.answer-requires-clause-pairs
answer-requires-clause-pairs g c =
    let bytes = c.in-Ok.accepted.scenario.now in
    let design = c.in-Ok.accepted.design in
    let scenario = c.in-Ok-read_scenario.scenario in
    c.pairs_can_be_fused.ensures bytes (command_of (g.C.ScenarioCommand.analysis c.args.command) c.args.root) design
    scenario
    (subst (λ (k : Command). Means bytes design k (Ok scenario)) c.command-job.ensures
    c.in-Ok-read_scenario.ensures.answer)

pub returns-in-Ok-read_scenario : goal.returns-in-Ok-read_scenario
returns-in-Ok-read_scenario g c =
    let what = g.C.ScenarioCommand.analysis c.args.command in
    let bytes = c.in-Ok.accepted.scenario.now in
    let design = c.in-Ok.accepted.design in
    let scenario = c.in-Ok-read_scenario.scenario in
    analysed what c.args.root c.args.bundle.now design bytes scenario c.answer.result c.in-Ok.ensures.accepted
    (subst (λ (k : Command). Means bytes design k (Ok scenario)) c.command-job.ensures
    c.in-Ok-read_scenario.ensures.answer) c.answer.ensures

pub returns-in-Err-read_scenario : goal.returns-in-Err-read_scenario
returns-in-Err-read_scenario g c =
    let what = g.C.ScenarioCommand.analysis c.args.command in
    let bytes = c.in-Ok.accepted.scenario.now in
    let design = c.in-Ok.accepted.design in
    let fault = c.in-Err-read_scenario.fault in
    let means : fault ≢ Memory → Means bytes design (command_of what c.args.root) (Err fault) = λ named.
    subst (λ (k : Command). Means bytes design k (Err fault)) c.command-job.ensures
    (c.in-Err-read_scenario.ensures.answer named) in
    refused what c.args.root c.args.bundle.now design c.refused_scenario.result
    (faults_said c.args.root c.args.bundle.now design bytes (command_of what c.args.root) fault
    c.refused_scenario.result c.in-Ok.ensures.accepted means
    c.refused_scenario.ensures.status c.refused_scenario.ensures.text c.refused_scenario.ensures.named)
