use Rattle.std.proofs.Common.{◌≡◌, ◌∙◌, ℕ, List, sym, ap}
use Rattle.std.specs.Prelude.{Option, None, nat_eq, position, zip, if◌then◌else◌}
use Rattle.std.specs.Arc.{arc_value}
use Rattle.pals_base.specs.declared.basic_types.PortValue.{PortValue}
use Rattle.pals_base.specs.PeriodBoundAndReleases.{alarm}
use Rattle.bus_machine.specs.declared.plan.Input.{Input}
use Rattle.bus_machine.specs.declared.plan.Plan.{Plan}
use Rattle.bus_machine.specs.NodeEvents.{lacks}
use Rattle.pals_node.specs.proof.NodeAndJobValues.{Program}
use Rattle.pals_node.specs.proof.Answers.{is_early}
use Rattle.pals_node.proofs.node.Node.start.Goals as goal

-- the first in port that lacks its message, after some rounds
abbrev first_missing : ℕ → List Input → List (Option (List PortValue)) → Option ℕ
first_missing count inputs slots = if nat_eq count 0 then None else position (λ p. lacks p.0 p.1) (zip inputs slots)

pub returns-in_ok-start-in-None-clause-ok : goal.returns-in_ok-start-in-None-clause-ok
returns-in_ok-start-in-None-clause-ok c =
    let f = c.self.inside.fields in
    let p = arc_value f.plan in
    let here : c.behind-self.inside.plan ≡ p.plan =
    ap (λ (q : Program). q.plan) (c.behind-self.view_is ∙ c.deref.ensures) in
    let there : c.behind-f.inside.plan ≡ p.plan =
    ap (λ (q : Program). q.plan) (c.behind-f.view_is ∙ c.deref-2.ensures) in
    rw (← c.self.view_is) (record {
      waits = c.in-Waiting.is;
      due =
          ap (is_early c.args.reading) (sym (c.alarm-alarm.ensures ∙ ap (λ (q : Plan). alarm q.period f.count) here))
          ∙ sym c.is_early.ensures
          ∙ c.if-is_early.false;
      full =
          sym (c.missing.ensures
          ∙ ap (first_missing f.count c.behind-f.inside.plan.inputs) c.as_slice.ensures.value
          ∙ ap (λ (q : Plan). first_missing f.count q.inputs f.slots) there)
          ∙ c.in-None.is;
      state = c.in_ok-start-in-None.ensures.ok;
      job_is = c.in_ok-start-in-None.ensures.job;
    })
