use Rattle.answer_laws.proofs.RunAnswers.{done_traces_are_sound, stopped_traces_are_sound}
use Rattle.answer_laws.proofs.runs.traces_of_runs_are_sound.Goals as goal

pub returns : goal.returns
returns c =
    record {
      done = done_traces_are_sound c.one_design.ensures;
      stopped = stopped_traces_are_sound c.one_design.ensures;
    }
