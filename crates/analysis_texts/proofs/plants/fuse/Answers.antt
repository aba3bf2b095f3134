use Rattle.std.proofs.Common.{◌≡◌, [], List, IfOk, subst}
use Rattle.std.proofs.lemmas.Result.{IfOk-weaker}
use Rattle.pals_model.specs.RoundTexts.{report}
use Rattle.pals_runs.specs.declared.plant_pairs.Pair.{Pair}
use Rattle.plant_fuse.specs.FusedReport.{IsFusedReport}
use Rattle.plant_fuse.specs.proof.FuseState.{FuseState}
use Rattle.plant_fuse.proofs.ReportsWithoutPairs.{report_without_pairs}
use Rattle.analysis_texts.proofs.plants.fuse.Goals as goal

pub returns : goal.returns
returns c =
    let design = c.args.design in
    let env = c.args.env.now in
    let rounds = c.args.rounds in
    let pairs = c.args.pairs.now in
    let fused : IfOk c.fused_rows.result (λ text. IsFusedReport design pairs env rounds text.items) =
    subst (λ (s : FuseState). IfOk c.fused_rows.result (λ text. IsFusedReport s.design s.pairs env rounds text.items))
    c.in_ok-product.ensures.opening c.fused_rows.ensures in
    record {
      fused = fused;
      alone =
          IfOk-weaker c.fused_rows.result (λ text. IsFusedReport design pairs env rounds text.items)
          (λ text. pairs ≡ [] → text.items ≡ report design env rounds)
          (λ text is none.
          report_without_pairs design env rounds text.items c.in_ok-product.ensures.rules
          (subst (λ (ps : List Pair). IsFusedReport design ps env rounds text.items) none is))
          fused;
    }
