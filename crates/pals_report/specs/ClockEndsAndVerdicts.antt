-- The line of a run whose clock ends, and the line of the verdict on a trace, without their line ends.
use Rattle.std.specs.Prelude.{ℕ, codes, decimal, List, [], ◌∷◌, Option, Some, None}
use Rattle.pals_model.specs.declared.design.DesignParts.{DesignParts}
use Rattle.pals_runs.specs.declared.journal.Stop.{Stop}
use Rattle.pals_runs.specs.declared.verdicts.TraceRule.{TraceRule}
use Rattle.pals_runs.specs.declared.verdicts.Verdict.{Verdict}
use Rattle.pals_runs.specs.declared.verdicts.Verdict.TheVariants.{Sound, Wrong}
use Rattle.pals_runs.specs.JournalLines.{node_word, link_word, spaced}
use Rattle.pals_runs.specs.declared.journal.Stop.TheVariants as stop
use Rattle.pals_runs.specs.declared.verdicts.TraceRule.TheVariants as rule

-- the node whose clock ends, and the wake-up time without a reading
abbrev pub clock_end_line : DesignParts → ℕ → ℕ → List ℕ
clock_end_line design node target = spaced (codes "clock" ∷ codes "ended" ∷ node_word design node ∷ decimal target ∷ [])

abbrev pub rule_word : TraceRule → List ℕ
rule_word rule.Row = codes "row"
rule_word rule.Text = codes "text"
rule_word rule.Order = codes "order"
rule_word rule.Reading = codes "reading"
rule_word rule.Alarm = codes "alarm"
rule_word rule.Release = codes "release"
rule_word rule.Due = codes "due"
rule_word rule.Stop = codes "stop"
rule_word rule.Unfinished = codes "unfinished"
rule_word rule.Count = codes "count"

-- the message of a run stop: its link and its round
abbrev pub stopped_words : DesignParts → Option Stop → List (List ℕ)
stopped_words design None = codes "none" ∷ []
stopped_words design (Some (stop.Missed link round reading cause)) = link_word design link.0 ∷ decimal round ∷ []
stopped_words design (Some (stop.Early link round reading)) = link_word design link.0 ∷ decimal round ∷ []

abbrev pub verdict_line : DesignParts → Verdict → List ℕ
verdict_line design (Sound rounds stop) =
    spaced (codes "sound" ∷ codes "rounds" ∷ decimal rounds ∷ codes "stop" ∷ stopped_words design stop)
verdict_line design (Wrong index rule) = spaced (codes "wrong" ∷ decimal index ∷ rule_word rule ∷ [])
