use Rattle.run_monitor.proofs.FirstFalseProperty.{violated_is_first, others_hold}
use Rattle.run_monitor.proofs.laws.last_lines_name_the_first.Goals as goal

pub returns : goal.returns
returns c = record { violated = violated_is_first; others = others_hold }
