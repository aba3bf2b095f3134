use Rattle.run_laws.proofs.SoundTraces.{sound_are_traces}
use Rattle.run_laws.proofs.HistoryVerdicts.{traces_are_sound}
use Rattle.run_laws.proofs.history_and_trace_laws.sound_is_trace.Goals as goal

pub returns : goal.returns
returns c = record {
  means = sound_are_traces;
  judged = traces_are_sound;
  both =
      λ run lines rounds stop rules.
      (sound_are_traces run lines rounds stop rules, traces_are_sound run lines rounds stop rules);
}
