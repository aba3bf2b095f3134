use Rattle.run_monitor.proofs.CounterProperties.{small_is_watched, up_is_watched, quiet_is_watched, two_text, one_text}
use Rattle.run_monitor.proofs.CounterProperties.{are_violated}
use Rattle.run_monitor.proofs.laws.counters_are_watched.Goals as goal

pub returns : goal.returns
returns c = record {
  small = small_is_watched;
  up = up_is_watched;
  quiet = quiet_is_watched;
  two_text = two_text;
  one_text = one_text;
  violated = are_violated;
}
