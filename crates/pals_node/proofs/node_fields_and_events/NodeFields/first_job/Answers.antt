use Rattle.std.proofs.Common.{◌≡◌, ◌∙◌, [], length, sym, ap, subst, slice_index_or, arith, List}
use Rattle.std.specs.Arc.{arc_value}
use Rattle.std.proofs.lemmas.Option.{slice_get-get_or, get_or_from_slice_get}
use Rattle.pals_base.specs.declared.basic_types.PortValue.{PortValue}
use Rattle.bus_machine.specs.declared.plan.Plan.{Plan}
use Rattle.bus_machine.specs.Nodes.{vectors_of}
use Rattle.pals_node.specs.proof.NodeAndJobValues.{Program, job_value}
use Rattle.pals_node.specs.proof.NodeInvariants.{AreTuples}
use Rattle.pals_node.proofs.RoundStarts.{vectors_are}
use Rattle.pals_node.proofs.node_fields_and_events.NodeFields.first_job.Goals as goal

pub new-requires-clause-inputs : goal.new-requires-clause-inputs
new-requires-clause-inputs c =
    let f = c.args.self.now in
    let plan = (arc_value f.plan).plan in
    let same : c.behind-plan.inside.plan ≡ plan =
    ap (λ (q : Program). q.plan) (c.behind-plan.view_is ∙ c.deref.ensures) in
    let is : c.in_ok-vectors.vectors ≡ vectors_of plan c.args.env.now f.slots = c.in_ok-vectors.ensures
    ∙ ap (λ (p : Plan). vectors_of p c.args.env.now c.as_slice.result.now) same
    ∙ ap (vectors_of plan c.args.env.now) c.as_slice.ensures.value in
    let are =
    subst (AreTuples plan.rate (length plan.behaviour.ins)) (sym is)
    (vectors_are plan c.args.env.now f.slots c.requires.program.plan c.requires.slots) in
    let count = are.count_is in
    let rate = c.requires.program.plan.rate.0 in
    ap length c.index.ensures ∙ are.places_are 0 c.index.result.now (omega arith) ∙ sym c.requires.program.means.ins

pub returns-clause-job : goal.returns-clause-job
returns-clause-job c =
    let f = c.args.self.now in
    let plan = (arc_value f.plan).plan in
    let same : c.behind-plan.inside.plan ≡ plan =
    ap (λ (q : Program). q.plan) (c.behind-plan.view_is ∙ c.deref.ensures) in
    let is : c.in_ok-vectors.vectors ≡ vectors_of plan c.args.env.now f.slots = c.in_ok-vectors.ensures
    ∙ ap (λ (p : Plan). vectors_of p c.args.env.now c.as_slice.result.now) same
    ∙ ap (vectors_of plan c.args.env.now) c.as_slice.ensures.value in
    let count : length c.in_ok-vectors.vectors ≡ plan.rate = ap length is
    ∙ (vectors_are plan c.args.env.now f.slots c.requires.program.plan c.requires.slots).count_is in
    let rate = c.requires.program.plan.rate.0 in
    let input : c.index.result.now ≡ slice_index_or c.in_ok-vectors.vectors 0 [] = c.index.ensures
    ∙ sym (get_or_from_slice_get c.in_ok-vectors.vectors 0
    (slice_index_or c.in_ok-vectors.vectors 0 c.index.result.now) []
    (slice_get-get_or c.in_ok-vectors.vectors 0 c.index.result.now (omega arith))) in
    c.in_ok-job.ensures ∙ ap
    (λ (i : List PortValue). job_value (arc_value f.plan) f.count 0 f.frame i)
    (input ∙ ap (λ (v : List (List PortValue)). slice_index_or v 0 []) is)
