use Rattle.answer_laws.proofs.RunAnswers.{RunLaws, one_answer_in_time, none_is_stopped, done_in_time, answers_as_sync}
use Rattle.answer_laws.proofs.RunAnswers.{done_within_bounds}
use Rattle.answer_laws.proofs.runs.runs_in_time_are_synchronous.Goals as goal

pub returns : goal.returns
returns c =
    let laws : RunLaws = record {
      one_design = c.one_design.ensures;
      rules = c.accepted_designs_keep_their_rules.ensures.rules;
      suit = c.scenarios_suit.ensures;
      stop = c.runs_in_time.ensures.stop;
      bounds = c.runs_in_time.ensures.bounds;
      end = c.runs_in_time.ensures.end;
      done = c.runs_in_time.ensures.done;
    } in
    record {
      one = one_answer_in_time laws;
      going = none_is_stopped laws;
      done = done_in_time laws;
      sync = answers_as_sync laws;
      bounds = done_within_bounds laws;
    }
