use Rattle.std.proofs.Common.{inl, inr, refl}
use Rattle.answer_laws.specs.proof.UniquenessPremises.{ExecutionPremises}
use Rattle.answer_laws.proofs.ExecutionStatuses.{exactly, at_scenario, never_made, one_made, alone_at_scenario}
use Rattle.answer_laws.proofs.statuses.statuses_of_executions.Goals as goal

pub returns-clause-text : goal.returns-clause-text
returns-clause-text c what root bundle s a x =
    exactly c.one_design.ensures what root bundle s 3 a (never_made c.one_design.ensures what root bundle 3 (inl refl))
    x (λ h. inl (refl, h))

pub returns-clause-design : goal.returns-clause-design
returns-clause-design c what root bundle s a x =
    exactly c.one_design.ensures what root bundle s 4 a
    (never_made c.one_design.ensures what root bundle 4 (inr (inl refl))) x (λ h. inr (inl (refl, h)))

pub returns-clause-code : goal.returns-clause-code
returns-clause-code c what root bundle s a x =
    exactly c.one_design.ensures what root bundle s 13 a
    (never_made c.one_design.ensures what root bundle 13 (inr (inr (inr (inr refl))))) x
    (λ h. inr (inr (inl (refl, h))))

pub returns-clause-scenario : goal.returns-clause-scenario
returns-clause-scenario c what root bundle s a x =
    let laws : ExecutionPremises =
    record {
      one_end = c.one_end.ensures;
      one_text = c.text_is_one.ensures.text;
      one_verdict = c.text_is_one.ensures.verdict;
    } in
    exactly c.one_design.ensures what root bundle s 5 a (alone_at_scenario c.one_design.ensures laws what root bundle) x
    (at_scenario c.one_design.ensures what root bundle)

pub returns-clause-done : goal.returns-clause-done
returns-clause-done c what root bundle s a not_run x =
    let laws : ExecutionPremises =
    record {
      one_end = c.one_end.ensures;
      one_text = c.text_is_one.ensures.text;
      one_verdict = c.text_is_one.ensures.verdict;
    } in
    exactly c.one_design.ensures what root bundle s 0 a (one_made c.one_design.ensures what root bundle laws not_run 0)
    x (λ h. inr (inr (inr (inr h))))

pub returns-clause-not_so : goal.returns-clause-not_so
returns-clause-not_so c what root bundle s a not_run x =
    let laws : ExecutionPremises =
    record {
      one_end = c.one_end.ensures;
      one_text = c.text_is_one.ensures.text;
      one_verdict = c.text_is_one.ensures.verdict;
    } in
    exactly c.one_design.ensures what root bundle s 1 a (one_made c.one_design.ensures what root bundle laws not_run 1)
    x (λ h. inr (inr (inr (inr h))))

pub returns-clause-stop : goal.returns-clause-stop
returns-clause-stop c what root bundle s a not_run x =
    let laws : ExecutionPremises =
    record {
      one_end = c.one_end.ensures;
      one_text = c.text_is_one.ensures.text;
      one_verdict = c.text_is_one.ensures.verdict;
    } in
    exactly c.one_design.ensures what root bundle s 6 a (one_made c.one_design.ensures what root bundle laws not_run 6)
    x (λ h. inr (inr (inr (inr h))))
