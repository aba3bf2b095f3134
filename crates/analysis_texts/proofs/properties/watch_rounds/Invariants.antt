use Rattle.std.proofs.Common.{◌≡◌, length}
use Rattle.pals_model.specs.Composition.{comp}
use Rattle.run_monitor.specs.proof.SeveralMonitors.{HasWatched}
use Rattle.run_monitor.specs.WatchText.{watched_rows}
use Rattle.run_monitor.specs.FormulaSemantics.{frame_rows}
use Rattle.analysis_texts.specs.MonitoredFormulas.{named, formulas}
use Rattle.analysis_texts.proofs.properties.watch_rounds.Given as goal

-- the product is at the round, the monitors have watched the rounds before it, the text has their rows, and there is a
-- value for each root in port
abbrev pub invariant-loop-round : goal.invariant-loop-round
invariant-loop-round l = record {
  design : l.product.design ≡ l.fn.product.design;
  stands : l.product.configuration ≡ comp l.fn.product.design l.env l.round;
  watched : HasWatched l.monitors (formulas l.properties) (frame_rows l.fn.product.design l.env l.round);
  rows : l.text.items ≡ watched_rows l.fn.product.design l.env l.round (named l.properties);
  values : length l.values.items ≡ length l.env.lists;
}
