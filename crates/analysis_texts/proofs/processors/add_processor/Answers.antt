use Rattle.std.proofs.Common.{◌<◌, List, length, All, sym, subst, arith}
use Rattle.std.proofs.lemmas.List.{length-map}
use Rattle.pals_base.specs.declared.basic_types.NodeNo.{NodeNo}
use Rattle.round_budget.specs.proof.BudgetLaws.{AreMembers}
use Rattle.round_budget.specs.Budgets.{numbers}
use Rattle.round_budget.proofs.ProcessorMembers.{nodes_are_members, rising_few}
use Rattle.analysis_texts.proofs.processors.add_processor.Goals as goal

pub total-sum-requires-clause-within : goal.total-sum-requires-clause-within
total-sum-requires-clause-within c =
    let are =
    nodes_are_members c.args.design.now c.args.processor.now.components c.requires.processor.within
    c.requires.processor.rising in
    subst (λ (members : List NodeNo). All (λ node. node < length c.args.codes.now) (numbers members))
    (sym c.as_slice-members.ensures.value)
    (subst (λ n. All (λ node. node < n) (numbers c.args.processor.now.components)) (sym c.requires.codes) are.within)

pub total-sum-requires-clause-count : goal.total-sum-requires-clause-count
total-sum-requires-clause-count c =
    let nodes = c.args.processor.now.components in
    let are = nodes_are_members c.args.design.now nodes c.requires.processor.within c.requires.processor.rising in
    let few = rising_few (numbers nodes) (length c.args.design.now.components) are.rising are.within in
    let same = length-map nodes (λ (m : NodeNo). m.0) in
    let most = c.gamma-longest.ensures.rules.components.count in
    omega (arith, few, same, most, c.as_slice-members.ensures.len)

pub timetable-requires-clause-members : goal.timetable-requires-clause-members
timetable-requires-clause-members c =
    subst (λ (members : List NodeNo). AreMembers c.args.design.now (numbers members))
    (sym c.as_slice-members.ensures.value)
    (nodes_are_members c.args.design.now c.args.processor.now.components c.requires.processor.within
    c.requires.processor.rising)
