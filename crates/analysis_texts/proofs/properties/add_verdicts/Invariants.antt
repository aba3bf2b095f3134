use Rattle.std.proofs.Common.{◌≡◌, ◌++◌, List, map, take}
use Rattle.pals_base.specs.declared.frames.Frame.{Frame}
use Rattle.pals_model.specs.RoundTexts.{text_of}
use Rattle.analysis_fields.specs.NamedFormulas.{PropertyValue}
use Rattle.run_monitor.specs.proof.SeveralMonitors.{said_by}
use Rattle.run_monitor.specs.FormulaSemantics.{holds}
use Rattle.run_monitor.specs.WatchText.{verdict_line}
use Rattle.run_monitor.specs.FalseProperties.{formula_values}
use Rattle.analysis_texts.specs.MonitoredFormulas.{formulas}
use Rattle.analysis_texts.proofs.properties.add_verdicts.Given as goal

-- the lines so far, of any history over which the monitors have these values
abbrev pub invariant-loop-at : goal.invariant-loop-at
invariant-loop-at l =
    (h : List (List Frame)) → said_by l.monitors ≡ formula_values (formulas l.properties) h l.round
    → l.text.items ≡ l.initial.text.items
    ++ text_of (map (λ (p : PropertyValue). verdict_line p.name (holds p.form h l.round)) (take l.at l.properties))
