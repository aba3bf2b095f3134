use Rattle.std.proofs.Common.{◌≡◌, ◌<◌, ◌+◌, length, take, drop, map, get_or, vec_len, string_bytes, ap, arith, subst}
use Rattle.std.proofs.Common.{sym, ◌∙◌}
use Rattle.std.proofs.lemmas.Grind.{common_steps}
use Rattle.scenario_values.specs.proof.NameTables.{Numbers}
use Rattle.scenario_values.proofs.NameSearch.{table_turn}
use Rattle.scenario_values.proofs.design_names.numbers.Goals as goal

pub loop-name-preserved : goal.loop-name-preserved
loop-name-preserved c =
    let all = c.args.names.items in
    let left = c.pop.new.self in
    let n = vec_len left in
    let name = c.in-Some.name in
    let one : n + 1 ≡ vec_len c.loop-name.names = c.in-Some.ensures.cases in
    let before : c.loop-name.names.items ≡ take (n + 1) all = c.loop-name.invariant.0
    ∙ ap (λ k. take k all) (sym one) in
    let is_in : n < length all = grind (arith, common_steps) in
    let is : name ≡ get_or all n name = grind (arith, common_steps, c.in-Some.ensures.value name) in
    let turned : Numbers c.insert.new.self n (map string_bytes (drop n all)) =
    table_turn c.loop-name.table c.insert.new.self all n c.len.result name c.len.ensures is_in is
    (subst (λ k. Numbers c.loop-name.table k (map string_bytes (drop k all))) (sym one) c.loop-name.invariant.1)
    c.in_ok-insert.ensures.updates in
    (grind (arith, common_steps), turned)
