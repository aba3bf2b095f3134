use Rattle.answer_laws.proofs.UniqueAnswers.{answers_agree}
use Rattle.answer_laws.proofs.answer_uniqueness.answer_is_decided.Goals as goal

pub returns : goal.returns
returns c command bundle s t a b not_run x y =
    answers_agree c.one_design.ensures c.one_fault.ensures
    (record {
      rules = c.accepted_designs_keep_their_rules.ensures.rules;
      pairs = c.pairs_can_be_fused.ensures;
      one_report = c.one_report.ensures.one;
    })
    (record {
      one_end = c.one_end.ensures;
      one_text = c.text_is_one.ensures.text;
      one_verdict = c.text_is_one.ensures.verdict;
    }) command bundle s t a b not_run x y
