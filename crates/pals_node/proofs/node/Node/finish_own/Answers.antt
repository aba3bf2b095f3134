use Rattle.std.proofs.Common.{◌∙◌, sym, ap}
use Rattle.std.proofs.lemmas.Bool.{false≢true}
use Rattle.pals_node.specs.proof.NodeAndJobValues.{NodeValue, JobValue, job_at}
use Rattle.pals_node.specs.proof.NodeInvariants.{value_of}
use Rattle.pals_node.proofs.StepEnds.{runs_open, job_is, same_job}
use Rattle.pals_node.proofs.node.Node.finish_own.Goals as goal

pub take_step-requires-clause-job : goal.take_step-requires-clause-job
take_step-requires-clause-job c =
    let f = c.self.inside.fields in
    let round = runs_open f c.in-Running.step c.self.invariant c.in-Running.is in
    let same = job_is f c.in-Running.step c.deref.result.now c.index.result.now round c.deref.ensures c.index.ensures in
    same_job c.args.done (job_at (value_of f) c.in-Running.step)
    (c.requires.own ∙ sym (ap (λ (n : NodeValue). n.program.code) c.self.view_is))
    (c.is_work_of.ensures.0 c.if-is_work_of.true ∙ ap (λ (j : JobValue). j.work) same)

pub returns-then-is_work_of-clause-ok : goal.returns-then-is_work_of-clause-ok
returns-then-is_work_of-clause-ok c =
    let f = c.self.inside.fields in
    let round = runs_open f c.in-Running.step c.self.invariant c.in-Running.is in
    let same = job_is f c.in-Running.step c.deref.result.now c.index.result.now round c.deref.ensures c.index.ensures in
    rw (← c.self.view_is) (record {
      running = c.in-Running.step;
      finishes = (c.in-Running.is, c.take_step.ensures.value);
      used = same_job c.args.done (job_at (value_of f) c.in-Running.step)
          (c.requires.own ∙ sym (ap (λ (n : NodeValue). n.program.code) c.self.view_is))
          (c.is_work_of.ensures.0 c.if-is_work_of.true ∙ ap (λ (j : JobValue). j.work) same);
    })

pub returns-clause-ok : goal.returns-clause-ok
returns-clause-ok c =
    let f = c.self.inside.fields in
    let round = runs_open f c.in-Running.step c.self.invariant c.in-Running.is in
    let same = job_is f c.in-Running.step c.deref.result.now c.index.result.now round c.deref.ensures c.index.ensures in
    rw (← c.self.view_is) (record {
      running = c.in-Running.step;
      finishes = (c.in-Running.is, c.run_step.ensures.value);
      used = λ is. false≢true (sym c.if-is_work_of.false
          ∙ c.is_work_of.ensures.1 (ap (λ (j : JobValue). j.work) (is ∙ sym same)));
    })
