use Rattle.std.proofs.Common.{[], take}
use Rattle.run_monitor.specs.proof.SeveralMonitors.{HasWatched}
use Rattle.analysis_texts.specs.MonitoredFormulas.{formulas}
use Rattle.analysis_texts.proofs.properties.monitors.Given as goal

-- monitors of the properties so far
abbrev pub invariant-loop-property : goal.invariant-loop-property
invariant-loop-property l = HasWatched l.monitors (formulas (take l.property-index l.properties)) []
