use Rattle.std.proofs.Common.{rules, ◌≡◌}
use Rattle.run_laws.specs.TraceVerdicts.{verdict}
use Rattle.pals_top.specs.BundleScenarios.{run_of}
use Rattle.pals_top.proofs.Audits.{audited}
use Rattle.pals_top.proofs.LooseWorlds.{rules_of}
use Rattle.pals_top.proofs.audit.answer_audit.Goals as goal

pub returns : goal.returns
returns c =
    let shown : c.deref.result.now ≡ c.args.design = search rules in
    let same : c.in_ok-verdict.verdict ≡ verdict (run_of c.args.design c.args.scenario) c.args.scenario.trace =
    search rules in
    audited c.args.design c.deref.result.now c.args.scenario c.in_ok-verdict.verdict c.judged.result
    (rules_of c.args.design c.args.scenario c.keeps_rules.ensures c.requires.kept) shown same c.judged.ensures
